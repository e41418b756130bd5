-- Accounts that get their pages.
use Rattle.std.proofs.Common.{◌≡◌, ◌∙◌, ℕ, ◌+◌, ◌<◌, ◌≤◌, ◌++◌, ◌∷◌, [], List, All, map, sum, length, take, drop, get_or, refl, ap, arith}
use Rattle.std.proofs.lemmas.List.{length-map, length-take, drop_more, get_or_at}
use Rattle.std.proofs.lemmas.List.Elements.{All-head, All-tail}
use Rattle.std.proofs.lemmas.List.Sums.{sum_by-cons}
use Rattle.std.specs.List.{sum_by}
use Rattle.std.specs.Prelude.{if◌then◌else◌, Some, None}
use Rattle.std.proofs.lemmas.Bool.{le-ltb}
use Rattle.keybytes.specs.declared.fault.Fault.TheVariants.{BadCount}
use Rattle.spool_ledger.specs.Pools.{PoolValue, split_refusal}
use Rattle.spool_ledger.specs.Accounts.{AccountValue, IsWhole, leased, filled, unfilled, new_account}

-- the place that a change in place has reached holds what it held at first
pub reached :
    {X : Type 0} (f : X → X) (xs ys : List X) (i : ℕ) (x : X) → i < length xs → ys ≡ map f (take i xs) ++ drop i xs → x ≡ get_or ys i x → x ≡ get_or xs i x
reached f xs ys i x within so_far is =
    let front = map f (take i xs) in
    let long : length front ≡ i = length-map (take i xs) f ∙ omega (arith, length-take i xs) in
    let parts : ys ≡ front ++ get_or xs i x ∷ drop (i + 1) xs = so_far ∙ ap (λ l. front ++ l) (drop_more xs i x within) in
    is ∙ (ap (λ l. get_or l i x) parts ∙ get_or_at front (get_or xs i x) (drop (i + 1) xs) x i long)

-- accounts with no page yet lack their quotas
pub leased_rooms : (number : ℕ) (quotas : List ℕ) → sum_by leased (map (unfilled number) quotas) ≡ sum quotas
leased_rooms number [] = refl
leased_rooms number (quota ∷ quotas) =
    let rooms = map (unfilled number) quotas in
    let wanted : sum (quota ∷ quotas) ≡ quota + sum quotas = sum_by-cons (λ q. q) quota quotas in
    omega (arith, leased_rooms number quotas, sum_by-cons leased (unfilled number quota) rooms, wanted)

-- once filled they are as new
pub filled_rooms :
    (number : ℕ) (quotas : List ℕ)
    → map filled (map (unfilled number) quotas) ≡ map (new_account number) quotas
filled_rooms number [] = refl
filled_rooms number (quota ∷ quotas) = ap (λ rest. new_account number quota ∷ rest) (filled_rooms number quotas)

-- accounts that are all whole have no page leased
pub whole_lack_none : (accounts : List AccountValue) → All IsWhole accounts → sum_by leased accounts ≡ 0
whole_lack_none [] whole = refl
whole_lack_none (account ∷ accounts) whole =
    let first : IsWhole account = All-head IsWhole account accounts whole in
    omega (arith, sum_by-cons leased account accounts, first, whole_lack_none accounts (All-tail IsWhole account accounts whole))

-- a pool that has the pages that are wanted doesn't refuse them
pub not_refused : (pool : PoolValue) (quotas : List ℕ) → sum quotas ≤ pool.free → split_refusal pool quotas ≡ None
not_refused pool quotas within = ap (λ short. if short then Some BadCount else None) (le-ltb pool.free (sum quotas) within)

pub same_pool : (pool new : PoolValue) → new.number ≡ pool.number → new.free ≡ pool.free → new.out ≡ pool.out → new ≡ pool
same_pool pool new number free out =
    let made : ℕ → ℕ → ℕ → PoolValue = λ n f o. record { number = n; free = f; out = o } in
    ap (λ n. made n new.free new.out) number ∙ (ap (λ f. made pool.number f new.out) free ∙ ap (made pool.number pool.free) out)
