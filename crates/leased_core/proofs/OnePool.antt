-- The accounts of one pool behind new spools, and behind spools that are given up.
use Rattle.std.proofs.Common.{◌≡◌, ℕ, zero, suc, ◌+◌, ◌-◌, ◌*◌, ◌≤◌, Bool, true, List, [], ◌∷◌, ◌++◌, drop, get_or, length, map, replicate, Option, Some, None, refl, sym, ap, subst, ◌∙◌, arith}
use Rattle.std.proofs.lemmas.List.{length-map, length-replicate}
use Rattle.std.proofs.lemmas.List.Elements.{All-nil, All-cons, All-head, All-tail}
use Rattle.std.proofs.lemmas.List.Folds.{sum_by-replicate}
use Rattle.std.proofs.lemmas.List.Sums.{sum_by-cons}
use Rattle.std.specs.Prelude.{MatchOption, sum}
use Rattle.std.specs.List.{All, sum_by}
use Rattle.spool_ledger.specs.Accounts.{AccountValue, IsWhole, Share, Stake, new_account, share_of, stake_of}
use Rattle.spool_ledger.specs.declared.kind.SpoolKind.{SpoolKind}
use Rattle.spool_ledger.specs.Pools.{PoolValue, after_reclaim, free_of, new_pool, quota_of, with_back, with_out}
use Rattle.run_spool.specs.PagedSpools.{PagedSpoolValue, new_spool, runs_of}
use Rattle.run_spool.specs.Runs.{pairs_of}
use Rattle.run_spool.specs.Choices.{kinds_from}
use Rattle.run_spool.specs.Spools.{holds_nothing, shares_in, stakes_in}
use Rattle.run_spool.specs.declared.choice.SpoolChoice.{SpoolChoice}
use Rattle.prefix_spool.specs.Kinds.{inside, kind_of}
use Rattle.prefix_spool.specs.declared.either.SpoolOfKind.{SpoolOfKind}
use Rattle.build_events.specs.CoreState.{CoreState}
use Rattle.leased_core.specs.Leasing.{AreOf, HasPagesOf, IsBackOf, IsHandedBack, LeasesFollow, LeasesValue, new_spools, new_stake, pages_in, pages_of, spools_of_kinds, stake_in}
use Rattle.leased_core.specs.declared.handed_back.HandedBack.{HandedBack}

-- that number, so many times, comes to the product
pub sum_of_equals : (count quota : ℕ) → sum (replicate count quota) ≡ count * quota
sum_of_equals count quota = sum_by-replicate (λ (n : ℕ). n) count quota

-- a new spool over a new account
abbrev fresh : ℕ → PagedSpoolValue
fresh quota = new_spool (new_account 0 quota)

-- the first of equal spools, and the others
first_fresh : (spool : SpoolOfKind) (spools : List SpoolOfKind) (count quota : ℕ) → map inside (spool ∷ spools) ≡ replicate (suc count) (fresh quota)
    → (inside spool ≡ fresh quota) × (map inside spools ≡ replicate count (fresh quota))
first_fresh spool spools count quota are = (ap (λ (xs : List PagedSpoolValue). get_or xs 0 (inside spool)) are, ap (λ (xs : List PagedSpoolValue). drop 1 xs) are)

-- behind each stands what its kind tells
stakes_of_new : (spools : List SpoolOfKind) (count quota : ℕ) → map inside spools ≡ replicate count (fresh quota)
    → map stake_in spools ≡ map (new_stake quota) (map kind_of spools)
stakes_of_new [] count quota are = refl
stakes_of_new (spool ∷ spools) zero quota are = (let none = are in cc)
stakes_of_new (spool ∷ spools) (suc count) quota are =
    let both = first_fresh spool spools count quota are in
    ap (λ (paged : PagedSpoolValue). Some (stake_of (kind_of spool) paged.account) ∷ map stake_in spools) both.0
    ∙ ap (λ rest. new_stake quota (kind_of spool) ∷ rest) (stakes_of_new spools count quota both.1)

-- and none has a pair
left_of_new : (spools : List SpoolOfKind) (count quota : ℕ) → map inside spools ≡ replicate count (fresh quota)
    → (spools_of_kinds spools).left ≡ replicate count true
left_of_new [] zero quota are = refl
left_of_new [] (suc count) quota are = (let none = are in cc)
left_of_new (spool ∷ spools) zero quota are = (let none = are in cc)
left_of_new (spool ∷ spools) (suc count) quota are =
    let both = first_fresh spool spools count quota are in
    ap (λ (paged : PagedSpoolValue). holds_nothing (runs_of paged) (pairs_of paged.open_run) ∷ (spools_of_kinds spools).left) both.0
    ∙ ap (λ rest. true ∷ rest) (left_of_new spools count quota both.1)

-- new spools over equal accounts are equal
equal_over : (count quota : ℕ) → map new_spool (map (new_account 0) (replicate count quota)) ≡ replicate count (fresh quota)
equal_over zero quota = refl
equal_over (suc count) quota = ap (λ rest. fresh quota ∷ rest) (equal_over count quota)

-- new spools over new accounts are empty, each of its kind and with its quota
pub new_are_new : (chosen : SpoolChoice) (count quota : ℕ) (quotas : List ℕ) (accounts : List AccountValue) (spools : List SpoolOfKind)
    → quotas ≡ replicate count quota → accounts ≡ map (new_account 0) quotas → map inside spools ≡ map new_spool accounts
    → map kind_of spools ≡ kinds_from chosen 0 (length accounts) → spools_of_kinds spools ≡ new_spools chosen count quota
new_are_new chosen count quota quotas accounts spools equal each made kinds =
    let are : map inside spools ≡ replicate count (fresh quota) =
    made ∙ ap (λ (xs : List AccountValue). map new_spool xs) (each ∙ ap (λ (xs : List ℕ). map (new_account 0) xs) equal) ∙ equal_over count quota in
    let many : length accounts ≡ count =
    ap length each ∙ length-map quotas (new_account 0) ∙ ap length equal ∙ length-replicate count quota in
    let stakes = stakes_of_new spools count quota are ∙ ap (map (new_stake quota)) (kinds ∙ ap (kinds_from chosen 0) many) in
    ap (λ (all : List (Option Stake)). record { stakes = all; left = (spools_of_kinds spools).left }) stakes
    ∙ ap (λ (all : List Bool). record { stakes = (new_spools chosen count quota).stakes; left = all }) (left_of_new spools count quota are)

-- The pages behind new spools.
own_of_new : (quota : ℕ) (kinds : List SpoolKind) → All (λ stake. stake.share.pool ≡ 0) (stakes_in (map (new_stake quota) kinds))
own_of_new quota [] = All-nil _
own_of_new quota (kind ∷ kinds) =
    All-cons (λ (stake : Stake). stake.share.pool ≡ 0) (record { kind = kind; share = record { pool = 0; quota = quota } })
    (stakes_in (map (new_stake quota) kinds)) refl (own_of_new quota kinds)

pages_of_new : (quota : ℕ) (kinds : List SpoolKind) → sum_by pages_of (stakes_in (map (new_stake quota) kinds)) ≡ length kinds * quota
pages_of_new quota [] = omega arith
pages_of_new quota (kind ∷ kinds) =
    let first = sum_by-cons pages_of (record { kind = kind; share = record { pool = 0; quota = quota } }) (stakes_in (map (new_stake quota) kinds)) in
    omega (arith, first, pages_of_new quota kinds)

many_kinds : (chosen : SpoolChoice) (first count : ℕ) → length (kinds_from chosen first count) ≡ count
many_kinds chosen first zero = refl
many_kinds chosen first (suc count) = ap suc (many_kinds chosen (suc first) count)

new_are_of : (chosen : SpoolChoice) (count quota : ℕ) (leases : LeasesValue) (stakes : List (Option Stake)) → leases.pool.number ≡ 0
    → count * quota ≡ leases.pool.out → count ≤ leases.room → stakes ≡ (new_spools chosen count quota).stakes → AreOf leases stakes
new_are_of chosen count quota leases stakes number out room are =
    let kinds = kinds_from chosen 0 count in
    let many : length kinds ≡ count = many_kinds chosen 0 count in
    subst (AreOf leases) (sym are) (record {
      own = subst (λ (pool : ℕ). All (λ stake. stake.share.pool ≡ pool) (stakes_in (map (new_stake quota) kinds))) (sym number) (own_of_new quota kinds);
      out = pages_of_new quota kinds ∙ ap (λ (n : ℕ). n * quota) many ∙ out;
      room = subst (λ (n : ℕ). n ≤ leases.room) (sym (length-map kinds (new_stake quota) ∙ many)) room;
    })

-- the pages of new spools are those that the pool has split off
pub split_are_of : (chosen : SpoolChoice) (count quota pages room : ℕ) (pool after view : PoolValue) (quotas : List ℕ) (stakes : List (Option Stake))
    → pool ≡ new_pool 0 pages → after ≡ with_out pool (sum quotas) → view ≡ after → quotas ≡ replicate count quota → count ≤ room
    → stakes ≡ (new_spools chosen count quota).stakes → AreOf (record { pool = view; room = room }) stakes
split_are_of chosen count quota pages room pool after view quotas stakes made split is equal fits are =
    let whole : view ≡ with_out (new_pool 0 pages) (sum quotas) = is ∙ split ∙ ap (λ (pool : PoolValue). with_out pool (sum quotas)) made in
    let out : view.out ≡ 0 + sum quotas = ap (λ (pool : PoolValue). pool.out) whole in
    let together : sum quotas ≡ count * quota = ap sum equal ∙ sum_of_equals count quota in
    new_are_of chosen count quota (record { pool = view; room = room }) stakes (ap (λ (pool : PoolValue). pool.number) whole) (omega (arith, out, together)) fits are

-- a pool all of whose pages are split off has none left
pub none_left : (count quota : ℕ) (pool after view : PoolValue) (quotas : List ℕ) → pool ≡ new_pool 0 (count * quota)
    → after ≡ with_out pool (sum quotas) → view ≡ after → quotas ≡ replicate count quota → view.free ≡ 0
none_left count quota pool after view quotas made split is equal =
    let whole : view ≡ with_out (new_pool 0 (count * quota)) (sum quotas) = is ∙ split ∙ ap (λ (pool : PoolValue). with_out pool (sum quotas)) made in
    let left : view.free ≡ count * quota - sum quotas = ap (λ (pool : PoolValue). pool.free) whole in
    let together : sum quotas ≡ count * quota = ap sum equal ∙ sum_of_equals count quota in
    omega (arith, left, together)

-- The accounts behind spools that are given up.
own_accounts : (number : ℕ) (accounts : List AccountValue) → All (λ share. share.pool ≡ number) (map share_of accounts)
    → All (λ account. account.pool ≡ number) accounts
own_accounts number [] own = All-nil (λ (account : AccountValue). account.pool ≡ number)
own_accounts number (account ∷ accounts) own =
    All-cons (λ (account : AccountValue). account.pool ≡ number) account accounts
    (All-head (λ (share : Share). share.pool ≡ number) (share_of account) (map share_of accounts) own)
    (own_accounts number accounts (All-tail (λ (share : Share). share.pool ≡ number) (share_of account) (map share_of accounts) own))

own_shares : (number : ℕ) (stakes : List (Option Stake)) → All (λ stake. stake.share.pool ≡ number) (stakes_in stakes)
    → All (λ share. share.pool ≡ number) (shares_in stakes)
own_shares number [] own = All-nil (λ (share : Share). share.pool ≡ number)
own_shares number (None ∷ stakes) own = own_shares number stakes own
own_shares number (Some stake ∷ stakes) own =
    All-cons (λ (share : Share). share.pool ≡ number) stake.share (shares_in stakes)
    (All-head (λ (stake : Stake). stake.share.pool ≡ number) stake (stakes_in stakes) own)
    (own_shares number stakes (All-tail (λ (stake : Stake). stake.share.pool ≡ number) stake (stakes_in stakes) own))

-- how many pages a share has
abbrev pages_at : Share → ℕ
pages_at share = share.quota

share_pages : (stakes : List (Option Stake)) → sum_by pages_at (shares_in stakes) ≡ pages_in stakes
share_pages [] = refl
share_pages (None ∷ stakes) = share_pages stakes
share_pages (Some stake ∷ stakes) =
    sum_by-cons pages_at stake.share (shares_in stakes) ∙ ap (λ rest. stake.share.quota + rest) (share_pages stakes)
    ∙ sym (sum_by-cons pages_of stake (stakes_in stakes))

account_pages : (accounts : List AccountValue) → sum_by pages_at (map share_of accounts) ≡ sum_by quota_of accounts
account_pages [] = refl
account_pages (account ∷ accounts) =
    sum_by-cons pages_at (share_of account) (map share_of accounts)
    ∙ ap (λ rest. account.quota + rest) (account_pages accounts)
    ∙ sym (sum_by-cons quota_of account accounts)

shares_back : (spools : List SpoolOfKind) (before after : List AccountValue) → before ≡ []
    → map share_of after ≡ map share_of before ++ shares_in (map stake_in spools) → map share_of after ≡ shares_in (map stake_in spools)
shares_back spools before after none are = are ∙ ap (λ (xs : List AccountValue). map share_of xs ++ shares_in (map stake_in spools)) none

-- the accounts behind spools that were given up are of their pool
pub back_own : (leases : LeasesValue) (spools : List SpoolOfKind) (before after : List AccountValue) → before ≡ []
    → map share_of after ≡ map share_of before ++ shares_in (map stake_in spools) → AreOf leases (map stake_in spools)
    → All (λ account. account.pool ≡ leases.pool.number) after
back_own leases spools before after none are of =
    own_accounts leases.pool.number after
    (subst (All (λ (share : Share). share.pool ≡ leases.pool.number)) (sym (shares_back spools before after none are))
    (own_shares leases.pool.number (map stake_in spools) of.own))

-- and have together the pages that it has split off
pub back_out : (leases : LeasesValue) (spools : List SpoolOfKind) (before after : List AccountValue) → before ≡ []
    → map share_of after ≡ map share_of before ++ shares_in (map stake_in spools) → AreOf leases (map stake_in spools)
    → sum_by quota_of after ≡ leases.pool.out
back_out leases spools before after none are of =
    sym (account_pages after) ∙ ap (sum_by pages_at) (shares_back spools before after none are) ∙ share_pages (map stake_in spools) ∙ of.out

-- accounts that have all their pages have as many free as their quotas come to
free_of_whole : (accounts : List AccountValue) → All IsWhole accounts → sum_by free_of accounts ≡ sum_by quota_of accounts
free_of_whole [] whole = refl
free_of_whole (account ∷ accounts) whole =
    sum_by-cons free_of account accounts
    ∙ ap (λ free. free + sum_by free_of accounts) (All-head IsWhole account accounts whole)
    ∙ ap (λ rest. account.quota + rest) (free_of_whole accounts (All-tail IsWhole account accounts whole))
    ∙ sym (sum_by-cons quota_of account accounts)

-- a pool that reclaims all that it has split off has these pages back
pub all_back : (pool new : PoolValue) (accounts : List AccountValue) → sum_by quota_of accounts ≡ pool.out → All IsWhole accounts
    → new ≡ after_reclaim pool accounts → new ≡ with_back pool pool.out
all_back pool new accounts out whole reclaimed = reclaimed ∙ ap (with_back pool) (free_of_whole accounts whole ∙ out)

-- behind a pool whose pages were all out, those are all that it has
has_pages_of : (leases : LeasesValue) (stakes : List (Option Stake)) → AreOf leases stakes → leases.pool.free ≡ 0
    → HasPagesOf stakes (with_back leases.pool leases.pool.out)
has_pages_of leases stakes of none =
    let out : pages_in stakes ≡ leases.pool.out = of.out in
    let free : leases.pool.free + leases.pool.out ≡ pages_in stakes = omega (arith, out, none) in
    let left : leases.pool.out - leases.pool.out ≡ 0 = omega arith in
    (free, left)

-- so what comes back of a build is what its spools had leased
pub handed_back : (leases : Option LeasesValue) (s : CoreState) (back : HandedBack) → LeasesFollow leases s → IsBackOf leases back → IsHandedBack s back
handed_back None s back rest is = record {
  pool = subst (λ (pool : Option PoolValue). MatchOption pool (s.live.build ≡ None) (HasPagesOf s.spools.stakes)) (sym is.pool) rest.build;
  missing = is.missing;
}
handed_back (Some leases) s back leasing is = record {
  pool = subst (λ (pool : Option PoolValue). MatchOption pool (s.live.build ≡ None) (HasPagesOf s.spools.stakes)) (sym is.pool)
      (has_pages_of leases s.spools.stakes leasing.stakes leasing.all_out);
  missing = is.missing;
}
