use Rattle.std.proofs.Common.{rules, length}
use Rattle.std.proofs.lemmas.List.Sorted.{IsNonDecreasingBy-from_sort_by_key}
use Rattle.heap_log.specs.declared.record.LogRec.{LogRec}
use Rattle.crew.proofs.table.closing.sorted.Goals as goal

pub returns-clause-order : goal.returns-clause-order
returns-clause-order g c =
    IsNonDecreasingBy-from_sort_by_key (length {A = LogRec}) _ c.sort_unstable_by_key.ensures.sorted (λ a r f called. search rules)
