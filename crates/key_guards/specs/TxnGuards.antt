-- The keys that one transaction guards.
use Rattle.std.specs.Prelude.{◌≡◌, ◌<◌, ℕ, ◌==◌, if◌then◌else◌, Bool, true, false, List, [], ◌∷◌, length, filter}
use Rattle.std.specs.List.{list_any}
use Rattle.std.specs.Str.{bytes_eq}
use Rattle.key_guards.specs.declared.taken.Taken.{Taken}
use Rattle.key_guards.specs.KeyCounts.{count_of, IsNoted}

pub record TxnValue : Type 0 where
  pub txn : ℕ
  -- in the order of the writes
  pub taken : List Taken
  -- how many more there is memory for
  pub room : ℕ
  -- how often each key was taken, those in memory
  pub counts : List (List ℕ × ℕ)

abbrev pub is_of_key : List ℕ → Taken → Bool
is_of_key key t = bytes_eq t.key key

-- whether a write here took the key
abbrev pub has_taken : List ℕ → List Taken → Bool
has_taken key taken = list_any (is_of_key key) taken

-- how many writes here took the key
abbrev pub times_taken : List ℕ → List Taken → ℕ
times_taken key taken = length (filter (is_of_key key) taken)

abbrev pub AreCounts : List Taken → List (List ℕ × ℕ) → Type 0
AreCounts taken counts = (key : List ℕ) → count_of counts key ≡ times_taken key taken

-- there is memory for that key
abbrev pub CanTake : List ℕ → TxnValue → Type 0
CanTake key t = (0 < t.room) × IsNoted t.counts key

abbrev pub is_nil : List Taken → Bool
is_nil [] = true
is_nil (t ∷ more) = false

-- all but the last one, if that is of the number; else all
abbrev pub without_top : ℕ → List Taken → List Taken
without_top n [] = []
without_top n (t ∷ []) = if t.number == n then [] else t ∷ []
without_top n (t ∷ u ∷ more) = t ∷ without_top n (u ∷ more)
