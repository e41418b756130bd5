use Rattle.std.proofs.Common.{◌≡◌, map, take}
use Rattle.csv_index.proofs.table.asked.specs.Given as goal

abbrev pub invariant-loop-index : goal.invariant-loop-index
invariant-loop-index l = map (λ spec. spec.unique) l.specs.items ≡ map (λ word. word.unique) (take l.index-index l.index-items)
