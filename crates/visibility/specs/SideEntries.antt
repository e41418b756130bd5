-- What a change at a RID does to an index that is being built.
use Rattle.std.specs.Prelude.{nat_eq, if◌then◌else◌, ℕ, List, [], ◌∷◌, ◌++◌, Option, Some, None}
use Rattle.std.specs.Cmp.Lexicographic.{pointwise}
use Rattle.std.specs.Option.{option_map}
use Rattle.keybytes.specs.declared.pair.Pair.{Pair}
use Rattle.keybytes.specs.declared.rid.Rid.{Rid}
use Rattle.visibility.specs.declared.change.Change.{Change}

-- an entry takes a pair out of the index, or puts one in
pub data SideEntry : Type 0 where
  delete : Pair → SideEntry
  insert : Pair → SideEntry

-- what puts a RID's new pair in the place of its old one
abbrev pub changes : Option Pair → Option Pair → List SideEntry
changes None None = []
changes None (Some new) = insert new ∷ []
changes (Some old) None = delete old ∷ []
changes (Some old) (Some new) = if pointwise nat_eq old.key new.key then [] else delete old ∷ insert new ∷ []

-- the pair of a key at the RID, if there is a key
abbrev pub pair_under : Rid → Option (List ℕ) → Option Pair
pair_under rid key = option_map (λ bytes. record { key = bytes; rid = rid }) key

abbrev pub delete_at : Rid → Option (List ℕ) → List SideEntry
delete_at rid None = []
delete_at rid (Some key) = delete (record { key = key; rid = rid }) ∷ []

abbrev pub insert_at : Rid → Option (List ℕ) → List SideEntry
insert_at rid None = []
insert_at rid (Some key) = insert (record { key = key; rid = rid }) ∷ []

-- the entries of a change at the RID: its delete, then its insert
abbrev pub entries_of_change : Rid → Change → List SideEntry
entries_of_change rid change = delete_at rid change.delete ++ insert_at rid change.insert
