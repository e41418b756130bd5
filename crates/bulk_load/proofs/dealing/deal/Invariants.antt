use Rattle.std.proofs.Common.{◌≡◌, ◌++◌, ◌+◌, ◌≤◌, ◌∷◌, [], All, map, drop, vec_len, vec_capacity}
use Rattle.run_spool.specs.Spools.{AreSorted, all_pairs}
use Rattle.bulk_load.specs.Each.{AreEachOnce, in_order}
use Rattle.bulk_load.proofs.dealing.deal.Given as goal

abbrev pub invariant-loop-rings : goal.invariant-loop-rings
invariant-loop-rings g l = record {
  names : drop (vec_len l.seats) g.T.Loading.streams ≡ map in_order (map g.S.Spool.runs l.spools.items);
  streams : map (λ stream. stream.pairs) l.streams.items ++ map in_order (map g.S.Spool.runs l.spools.items) ≡ g.T.Loading.streams;
  seats : l.seats.items ++ map (λ spool. g.S.Spool.stake spool ∷ []) l.spools.items ≡ map (λ spool. g.S.Spool.stake spool ∷ []) l.fn.spools.items;
  sorted : All AreSorted (map g.S.Spool.runs l.spools.items);
  once : All (λ runs. AreEachOnce (all_pairs runs)) (map g.S.Spool.runs l.spools.items);
  all : vec_len l.seats + vec_len l.spools ≡ vec_len l.fn.spools;
  same : vec_len l.streams ≡ vec_len l.seats;
  rings : vec_len l.rings ≡ vec_len l.spools;
  room : (vec_len l.fn.spools ≤ vec_capacity l.seats) × (vec_len l.fn.spools ≤ vec_capacity l.streams);
}

abbrev pub decreases-loop-rings : goal.decreases-loop-rings
decreases-loop-rings g l = vec_len l.spools
