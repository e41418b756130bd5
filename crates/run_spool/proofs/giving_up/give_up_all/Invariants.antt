use Rattle.std.proofs.Common.{◌≡◌, ◌≤◌, ◌+◌, ◌++◌, All, map, vec_len, vec_capacity, length}
use Rattle.std.specs.Vec.Iter.{into_iter_items}
use Rattle.spool_ledger.specs.Accounts.{IsWhole, share_of}
use Rattle.run_spool.specs.Spools.{shares_in}
use Rattle.run_spool.proofs.giving_up.give_up_all.Given as goal

abbrev pub invariant-loop-spool : goal.invariant-loop-spool
invariant-loop-spool g l = record {
  next : (goal.iterator-loop-spool g).can_next l.spool-iterator;
  finite : (goal.iterator-loop-spool g).is_finite l.spool-iterator;
  whole : All IsWhole l.initial.accounts.items → All IsWhole l.accounts.items;
  shares :
      map share_of l.accounts.items ++ shares_in (map g.S.Spool.stake (into_iter_items l.spool-iterator))
      ≡ map share_of l.initial.accounts.items ++ shares_in (map g.S.Spool.stake l.fn.spools.items);
  room : vec_len l.accounts + length (into_iter_items l.spool-iterator) ≤ vec_capacity l.accounts;
}
