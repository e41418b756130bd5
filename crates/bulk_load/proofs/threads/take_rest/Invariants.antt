use Rattle.std.proofs.Common.{◌≡◌, ◌++◌, ◌+◌, ◌≤◌, map, length, vec_len, vec_capacity}
use Rattle.std.specs.List.{flat_map}
use Rattle.std.specs.Vec.Iter.{into_iter_items}
use Rattle.bulk_load.proofs.threads.take_rest.Given as goal

abbrev pub invariant-loop-seat : goal.invariant-loop-seat
invariant-loop-seat g l =
    (goal.iterator-loop-seat g).can_next l.seat-iterator ×
    (goal.iterator-loop-seat g).is_finite l.seat-iterator ×
    (map g.S.Spool.stake l.home.items ++ flat_map (λ seat. seat) (into_iter_items l.seat-iterator)
    ≡ map g.S.Spool.stake l.fn.home.items ++ map g.S.Spool.stake l.fn.spools.items ++ flat_map (λ seat. seat) l.fn.seats.items) ×
    (vec_len l.home + length (flat_map (λ seat. seat) (into_iter_items l.seat-iterator)) ≤ vec_capacity l.home)
