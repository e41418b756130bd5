use Rattle.std.proofs.Common.{◌≡◌, ◌++◌, map, drop}
use Rattle.ready_indexes.specs.Following.{indexes_of}
use Rattle.crew.proofs.locked.builds.copies_from.Given as goal

abbrev pub invariant-loop-number : goal.invariant-loop-number
invariant-loop-number l =
    map (λ it. it.items) l.pairs.items ++ map (λ it. it.pairs) (drop l.number (indexes_of l.ready.indexes))
    ≡ map (λ it. it.pairs) (drop l.fn.first (indexes_of l.ready.indexes))
