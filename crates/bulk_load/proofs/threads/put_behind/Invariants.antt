use Rattle.std.proofs.Common.{◌≡◌, ◌++◌, ◌+◌, ◌≤◌, length, vec_len, vec_capacity}
use Rattle.std.specs.Vec.Iter.{into_iter_items}
use Rattle.bulk_load.proofs.threads.put_behind.Given as goal

abbrev pub invariant-loop-spool : goal.invariant-loop-spool
invariant-loop-spool g l =
    (goal.iterator-loop-spool g).can_next l.spool-iterator ×
    (goal.iterator-loop-spool g).is_finite l.spool-iterator ×
    (l.home.items ++ into_iter_items l.spool-iterator ≡ l.fn.home.items ++ l.fn.spools.items) ×
    (vec_len l.home + length (into_iter_items l.spool-iterator) ≤ vec_capacity l.home) ×
    (vec_capacity l.home ≡ vec_capacity l.fn.home)
