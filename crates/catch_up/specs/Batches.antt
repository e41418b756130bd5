-- The entries of a batch, as changes of a tree.
use Rattle.std.specs.Prelude.{ℕ, ◌==◌, nat_le, if◌then◌else◌, Bool, true, false, List, [], ◌∷◌, length, map, filter}
use Rattle.byteorder.specs.Endian.{big_number}
use Rattle.btree.specs.declared.change.Change.{Change}
use Rattle.side_file.specs.declared.entry.Entry.{Entry}
use Rattle.side_file.specs.declared.op.Op.{Op}
use Rattle.side_file.specs.declared.op.Op.TheVariants.{Delete, Insert}

abbrev pub puts_in : Op → Bool
puts_in Delete = false
puts_in Insert = true

abbrev pub change_of : Entry → Change
change_of entry = record { puts_in = puts_in entry.op; pair = record { key = entry.key; rid = entry.rid } }

-- the changes of the entries of that build
abbrev pub changes_to : ℕ → List Entry → List Change
changes_to build entries = map change_of (filter (λ entry. entry.build == build) entries)

-- the number that the eight bytes behind a key's first one make, the highest first; 0 where there are fewer
abbrev pub head_of : List ℕ → ℕ
head_of [] = 0
head_of (first ∷ rest) = if nat_le 8 (length rest) then big_number 8 rest else 0
