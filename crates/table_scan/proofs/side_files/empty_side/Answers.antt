use Rattle.std.proofs.Common.{rules, arith, ap, ◌≡◌, ◌∙◌, [], sym}
use Rattle.side_file.specs.Ends.{PutEnd, TakeEnd}
use Rattle.side_file.specs.SideFileValue.{SideFileValue}
use Rattle.page_workers.proofs.Rings.{all_taken}
use Rattle.side_file.specs.declared.entry.Entry.{Entry}
use Rattle.std.proofs.lemmas.List.{nil_from_length}
use Rattle.table_scan.proofs.side_files.empty_side.Goals as goal

pub returns-clause-drained : goal.returns-clause-drained
returns-clause-drained c =
    let ring : c.loop.end.ring ≡ c.args.end.now.ring = search rules in
    let same : c.loop.end.ring ≡ c.reset.new.self.end.ring =
    ring ∙ sym c.requires ∙ sym c.beside-end.ensures.looks.ring ∙ sym (ap (λ (s : SideFileValue). s.end.ring) c.reset.ensures.reset) in
    let all : c.loop.end.received ≡ c.reset.new.self.end.sent =
    all_taken c.loop.end.received c.loop.end.known _ c.loop.invariant.all (omega arith)
    ∙ sym (ap (λ (s : SideFileValue). s.end.sent) c.reset.ensures.reset) in
    let none : c.loop.end.known ≡ [] = nil_from_length c.loop.end.known (omega arith) in
    let Made : _ → _ → _ → TakeEnd Entry = λ r xs ys. record { ring = r; received = xs; known = ys } in
    ap (λ r. Made r c.loop.end.received c.loop.end.known) same ∙ ap (λ xs. Made c.reset.new.self.end.ring xs c.loop.end.known) all
    ∙ ap (Made c.reset.new.self.end.ring c.reset.new.self.end.sent) none

pub returns-clause-looked : goal.returns-clause-looked
returns-clause-looked c =
    let looks = c.beside-end.ensures.looks in
    let same = ap (λ (s : SideFileValue). s.end) c.reset.ensures.reset in
    let is_free = ap (λ (e : PutEnd Entry). e.free) same in
    record {
      ring = ap (λ (e : PutEnd Entry). e.ring) same ∙ looks.ring;
      capacity = ap (λ (e : PutEnd Entry). e.capacity) same ∙ looks.capacity;
      sent = ap (λ (e : PutEnd Entry). e.sent) same ∙ looks.sent;
      free = omega (arith, is_free, looks.free);
    }
