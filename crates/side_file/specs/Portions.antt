-- The entries that go through a ring, portion by portion.
use Rattle.std.specs.Prelude.{◌+◌, ◌^◌, ◌<◌, List, [], ◌∷◌, length}
use Rattle.std.specs.List.{flat_map}
use Rattle.side_file.specs.declared.entry.Entry.{Entry}
use Rattle.side_file.specs.declared.portion.Portion.{Portion}
use Rattle.side_file.specs.declared.portion.Portion.TheVariants.{One, Many}

abbrev pub portion_entries : Portion → List Entry
portion_entries (One entry) = entry ∷ []
portion_entries (Many entries) = entries.items

-- those of several portions, one after another
abbrev pub entries_of : List Portion → List Entry
entries_of portions = flat_map portion_entries portions

abbrev pub HasSome : Portion → Type 0
HasSome portion = 0 < length (portion_entries portion)

-- a portion that may be sent behind those: it has an entry, and all entries can be counted
pub record MaySend (before : List Portion) (portion : Portion) : Type 0 where
  pub some : HasSome portion
  pub countable : length (entries_of before) + length (portion_entries portion) < 2 ^ 60
