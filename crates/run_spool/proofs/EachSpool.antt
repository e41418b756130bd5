-- Calls that go from spool to spool.
use Rattle.std.proofs.Common.{ℕ, ◌+◌, ◌<◌, ◌≤◌, List, All, length, set, take, sym, subst}
use Rattle.std.proofs.lemmas.List.{take_more_set, take_all}
use Rattle.std.proofs.lemmas.List.Elements.{All-push}

-- what holds of the first ones, and of the next once it is written
pub written_more : {X : Type 0} (P : X → Type 0) (xs : List X) (i : ℕ) (x : X) → i < length xs → All P (take i xs) → P x → All P (take (i + 1) (set xs i x))
written_more P xs i x inside all here = subst (All P) (sym (take_more_set xs i x inside)) (All-push P (take i xs) x all here)

-- what holds of the first ones, where these are all
pub all_written : {X : Type 0} (P : X → Type 0) (xs : List X) (i : ℕ) → length xs ≤ i → All P (take i xs) → All P xs
all_written P xs i long all = subst (All P) (take_all i xs long) all
