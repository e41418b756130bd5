use Rattle.std.proofs.Common.{◌≡◌, ◌≤◌, vec_len, vec_capacity}
use Rattle.bulk_load.proofs.rings.all_rings.Given as goal

abbrev pub invariant-loop : goal.invariant-loop
invariant-loop g l = (vec_len l.rings ≡ l.counter) × (l.count ≤ vec_capacity l.rings)
