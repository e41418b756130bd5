-- What entries do to a set of pairs.
use Rattle.std.specs.Prelude.{◌≡◌, true, false, List, [], ◌∷◌, Some}
use Rattle.std.specs.FinMap.{contains_key}
use Rattle.std.specs.FinSet.{FinSet}
use Rattle.keybytes.specs.Pairs.{pair_cmp, with_pair, without_pair}
use Rattle.keybytes.specs.declared.rid.Rid.{Rid}
use Rattle.visibility.specs.SideEntries.{SideEntry, delete, insert}

-- the RID whose pair an entry takes out or puts in
abbrev pub entry_rid : SideEntry → Rid
entry_rid (delete pair) = pair.rid
entry_rid (insert pair) = pair.rid

-- a set of pairs once an entry is applied
abbrev pub apply_entry : SideEntry → FinSet pair_cmp → FinSet pair_cmp
apply_entry (delete pair) pairs = without_pair (Some pair) pairs
apply_entry (insert pair) pairs = with_pair (Some pair) pairs

-- and once all of them are, in order
abbrev pub apply_entries : List SideEntry → FinSet pair_cmp → FinSet pair_cmp
apply_entries [] pairs = pairs
apply_entries (entry ∷ entries) pairs = apply_entries entries (apply_entry entry pairs)

-- a delete takes out a pair that is there, and an insert puts in one that isn't
abbrev pub HasEffect : SideEntry → FinSet pair_cmp → Type 0
HasEffect (delete pair) pairs = contains_key pairs pair ≡ true
HasEffect (insert pair) pairs = contains_key pairs pair ≡ false

-- so does each entry at its turn
abbrev pub HaveEffect : List SideEntry → FinSet pair_cmp → Type 0
HaveEffect [] pairs = Unit {0}
HaveEffect (entry ∷ entries) pairs = HasEffect entry pairs × HaveEffect entries (apply_entry entry pairs)
