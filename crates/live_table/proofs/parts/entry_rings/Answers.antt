use Rattle.std.proofs.Common.{◌≡◌, ◌∙◌, ◌++◌, ◌∷◌, [], length, sym, ap, subst, arith, length-append}
use Rattle.std.specs.List.{All}
use Rattle.std.proofs.lemmas.List.{map-append}
use Rattle.std.proofs.lemmas.List.Elements.{All-push}
use Rattle.side_file.specs.Ends.{PutEnd}
use Rattle.side_file.specs.SideFileValue.{SideFileValue}
use Rattle.side_file.specs.declared.entry.Entry.{Entry}
use Rattle.side_file.specs.Ends.{TakeEnd}
use Rattle.table_scan.specs.SideFiles.{side_rings, taken_rings, put_ends}
use Rattle.live_table.proofs.parts.entry_rings.Goals as goal

pub loop-preserved : goal.loop-preserved
loop-preserved c =
    let side : SideFileValue = c.in_ok-side.side in
    let sides = c.push_reserved.ensures.items in
    let ends = c.push_reserved-in-loop.ensures.items in
    let puts : put_ends c.push_reserved.new.self.items ≡ put_ends c.loop.sides.items ++ side.end ∷ [] =
    ap put_ends sides ∙ map-append (λ (s : SideFileValue). s.end) c.loop.sides.items (side ∷ []) in
    record {
      rings = ap side_rings puts ∙ map-append (λ (end : PutEnd Entry). end.ring) (put_ends c.loop.sides.items) (side.end ∷ [])
          ∙ ap (λ rs. rs ++ side.end.ring ∷ []) c.loop.invariant.rings
          ∙ ap (λ r. taken_rings c.loop.ends.items ++ r ∷ []) c.in_ok-side.ensures.ring
          ∙ sym (map-append (λ (end : TakeEnd Entry). end.ring) c.loop.ends.items (c.in_ok-side.end ∷ []))
          ∙ ap taken_rings (sym ends);
      sides = omega (arith, ap length sides, length-append c.loop.sides.items (side ∷ []), c.loop.invariant.sides);
      ends = omega (arith, ap length ends, length-append c.loop.ends.items (c.in_ok-side.end ∷ []), c.loop.invariant.ends);
      no_entries = subst (All (λ (end : PutEnd Entry). end.sent ≡ [])) (sym puts)
          (All-push (λ (end : PutEnd Entry). end.sent ≡ []) (put_ends c.loop.sides.items) side.end c.loop.invariant.no_entries c.in_ok-side.ensures.sent);
      room = omega (arith, c.push_reserved.ensures.capacity, c.loop.invariant.room);
      more_room = omega (arith, c.push_reserved-in-loop.ensures.capacity, c.loop.invariant.more_room);
    }
