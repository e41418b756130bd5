use Rattle.std.proofs.Common.{◌+◌, ◌++◌, List, map, drop, ap, ◌∙◌}
use Rattle.keybytes.specs.declared.pair.Pair.{Pair}
use Rattle.ready_indexes.specs.Following.{indexes_of}
use Rattle.ready_indexes.specs.Indexes.{ReadyValue}
use Rattle.crew.proofs.Copies.{copies_more}
use Rattle.crew.proofs.locked.builds.copies_from.Goals as goal

pub loop-number-preserved : goal.loop-number-preserved
loop-number-preserved c =
    let all : List ReadyValue = indexes_of c.args.ready.now.indexes in
    let pairs : ReadyValue → List Pair = λ it. it.pairs in
    ap (λ l. map (λ it. it.items) l ++ map pairs (drop (c.loop-number.number + 1) all)) c.in_ok-push.ensures.items
    ∙ copies_more (λ it. it.items) pairs c.loop-number.pairs.items c.in_ok-copied.field-0 all c.loop-number.number c.in-Some.index.now.index c.in-Some.ensures
    (c.in_ok-copied.ensures.pairs ∙ c.tree.ensures.pairs)
    ∙ c.loop-number.invariant
