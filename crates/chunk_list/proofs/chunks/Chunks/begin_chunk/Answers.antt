use Rattle.std.proofs.Common.{◌≡◌, length, Some, deque_items, deque_len, deque_capacity, ap, ◌∙◌, arith}
use Rattle.std.proofs.lemmas.List.Elements.{All-pop}
use Rattle.chunk_list.specs.Chunks.{IsSpare}
use Rattle.chunk_list.proofs.QueueLemmas.{chunk-begun}
use Rattle.chunk_list.proofs.chunks.Chunks.begin_chunk.Goals as goal

pub returns-clause-items : goal.returns-clause-items
returns-clause-items g c =
    let spares = All-pop IsSpare c.args.self.now.spare.items c.pop.new.self.items (Some c.in-Some.empty) c.in-Some.ensures.items c.requires.kept.spare in
    chunk-begun _ _ _ _ c.replace-filled.result c.replace-filled.new.dest c.push_back_reserved.ensures.items (ap deque_items c.replace-filled.ensures.value)
    (ap deque_items c.replace-filled.ensures.after ∙ spares.1.0)

pub returns-clause-places : goal.returns-clause-places
returns-clause-places g c =
    let spares = All-pop IsSpare c.args.self.now.spare.items c.pop.new.self.items (Some c.in-Some.empty) c.in-Some.ensures.items c.requires.kept.spare in
    let none : deque_len c.in-Some.empty ≡ 0 = c.in-Some.empty.ok.0 ∙ ap length spares.1.0 in
    omega (
      arith,
      c.requires.done,
      c.in-Some.ensures.cases,
      ap deque_capacity c.replace-filled.ensures.after,
      ap deque_len c.replace-filled.ensures.after,
      spares.1.1,
      none,
    )

pub returns-clause-open : goal.returns-clause-open
returns-clause-open g c =
    let spares = All-pop IsSpare c.args.self.now.spare.items c.pop.new.self.items (Some c.in-Some.empty) c.in-Some.ensures.items c.requires.kept.spare in
    let none : deque_len c.in-Some.empty ≡ 0 = c.in-Some.empty.ok.0 ∙ ap length spares.1.0 in
    omega (arith, ap deque_capacity c.replace-filled.ensures.after, ap deque_len c.replace-filled.ensures.after, spares.1.1, none)
