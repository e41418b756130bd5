-- A list with an element for each worker and index: it stands worker by worker, and for each worker in the order of the indexes.
use Rattle.page_workers.specs.SpoolValue.{SpoolValue, ended_spool}
use Rattle.std.specs.Prelude.{ℕ, zero, suc, ◌-◌, List, [], ◌∷◌}

-- of a list the one behind so many, and from then on each one behind so many others
abbrev pub every : {X : Type 0} → ℕ → ℕ → List X → List X
every between first [] = []
every between zero (x ∷ xs) = x ∷ every between between xs
every between (suc first) (x ∷ xs) = every between first xs

-- all but these
abbrev pub all_but : {X : Type 0} → ℕ → ℕ → List X → List X
all_but between first [] = []
all_but between zero (x ∷ xs) = all_but between between xs
all_but between (suc first) (x ∷ xs) = x ∷ all_but between first xs

-- all, where these are changed so
abbrev pub with_every : {X : Type 0} → (X → X) → ℕ → ℕ → List X → List X
with_every f between first [] = []
with_every f between zero (x ∷ xs) = f x ∷ with_every f between between xs
with_every f between (suc first) (x ∷ xs) = x ∷ with_every f between first xs

-- the spools of an index, one of each worker, and those of the others
abbrev pub column : {X : Type 0} → ℕ → ℕ → List X → List X
column index indexes spools = every (indexes - 1) index spools

abbrev pub other_columns : {X : Type 0} → ℕ → ℕ → List X → List X
other_columns index indexes spools = all_but (indexes - 1) index spools

-- all spools, where those of an index are ended
abbrev pub ended_column : ℕ → ℕ → List SpoolValue → List SpoolValue
ended_column index indexes spools = with_every ended_spool (indexes - 1) index spools
