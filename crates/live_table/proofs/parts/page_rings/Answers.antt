use Rattle.std.proofs.Common.{◌≡◌, ◌∙◌, ◌≤◌, ◌++◌, ◌∷◌, [], List, length, sym, ap, subst, arith, length-append}
use Rattle.std.specs.List.{All}
use Rattle.std.proofs.lemmas.List.{map-append}
use Rattle.std.proofs.lemmas.List.Elements.{All-nil, All-push}
use Rattle.side_file.specs.Ends.{PutEnd}
use Rattle.page_workers.specs.IntakeValue.{IntakeValue}
use Rattle.page_workers.specs.declared.copied.Copied.{Copied}
use Rattle.building.specs.Rings.{put_rings, take_rings, all_sent}
use Rattle.live_table.proofs.parts.page_rings.Goals as goal

abbrev None_sent : List Copied → Type 0
None_sent sent = All (λ copied. copied.build ≤ 0) sent

pub loop-preserved : goal.loop-preserved
loop-preserved c =
    let ring : PutEnd Copied → _ = λ end. end.ring in
    let takes : IntakeValue → _ = λ worker. worker.end.ring in
    let put : PutEnd Copied = c.in_ok-putter.putter in
    let new : IntakeValue = c.new.result in
    let pages = c.push_reserved.ensures.items in
    let intakes = c.push_reserved-in-loop.ensures.items in
    let same : put.ring ≡ new.end.ring =
    ap (λ (end : PutEnd Copied). end.ring) c.in_ok-putter.ensures.put ∙ sym (ap (λ (worker : IntakeValue). worker.end.ring) c.new.ensures) in
    let sent : put.sent ≡ [] = ap (λ (end : PutEnd Copied). end.sent) c.in_ok-putter.ensures.put in
    let all : all_sent c.push_reserved.new.self.items ≡ all_sent c.loop.pages.items ++ put.sent ∷ [] =
    ap all_sent pages ∙ map-append (λ (end : PutEnd Copied). end.sent) c.loop.pages.items (put ∷ []) in
    record {
      rings = ap put_rings pages ∙ map-append ring c.loop.pages.items (put ∷ [])
          ∙ ap (λ rs. rs ++ put.ring ∷ []) c.loop.invariant.rings ∙ ap (λ r. take_rings c.loop.intakes.items ++ r ∷ []) same
          ∙ sym (map-append takes c.loop.intakes.items (new ∷ [])) ∙ ap take_rings (sym intakes);
      pages = omega (arith, ap length pages, length-append c.loop.pages.items (put ∷ []), c.loop.invariant.pages);
      intakes = omega (arith, ap length intakes, length-append c.loop.intakes.items (new ∷ []), c.loop.invariant.intakes);
      unused = subst (All None_sent) (sym all) (All-push None_sent (all_sent c.loop.pages.items) put.sent c.loop.invariant.unused
          (subst None_sent (sym sent) (All-nil (λ copied. copied.build ≤ 0))));
      no_copies = subst (All (λ (end : PutEnd Copied). end.sent ≡ [])) (sym pages)
          (All-push (λ (end : PutEnd Copied). end.sent ≡ []) c.loop.pages.items put c.loop.invariant.no_copies sent);
      room = omega (arith, c.push_reserved.ensures.capacity, c.loop.invariant.room);
      more_room = omega (arith, c.push_reserved-in-loop.ensures.capacity, c.loop.invariant.more_room);
    }
