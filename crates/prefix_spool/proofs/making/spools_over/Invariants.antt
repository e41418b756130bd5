use Rattle.std.proofs.Common.{◌≡◌, ◌≤◌, ◌+◌, ◌++◌, All, length, map, vec_len, vec_capacity}
use Rattle.std.specs.Vec.Iter.{into_iter_items}
use Rattle.spool_ledger.specs.Accounts.{IsWhole}
use Rattle.run_spool.specs.PagedSpools.{new_spool}
use Rattle.run_spool.specs.Choices.{kinds_from}
use Rattle.prefix_spool.specs.Kinds.{inside, kind_of}
use Rattle.prefix_spool.proofs.making.spools_over.Given as goal

abbrev pub invariant-loop-account : goal.invariant-loop-account
invariant-loop-account l = record {
  next : (goal.iterator-loop-account).can_next l.account-iterator;
  finite : (goal.iterator-loop-account).is_finite l.account-iterator;
  whole : All IsWhole (into_iter_items l.account-iterator);
  made : map inside l.spools.items ++ map new_spool (into_iter_items l.account-iterator) ≡ map new_spool l.fn.accounts.items;
  kinds : map kind_of l.spools.items ++ kinds_from l.fn.choice (length l.spools.items) (length (into_iter_items l.account-iterator))
      ≡ kinds_from l.fn.choice 0 (length l.fn.accounts.items);
  room : vec_len l.spools + length (into_iter_items l.account-iterator) ≤ vec_capacity l.spools;
}
