-- The entries of a side-file, as changes of an index.
use Rattle.std.specs.Prelude.{ℕ}
use Rattle.side_file.specs.declared.entry.Entry.{Entry}
use Rattle.side_file.specs.declared.op.Op.TheVariants.{Delete, Insert}
use Rattle.visibility.specs.SideEntries.{SideEntry, delete, insert}

-- the entry of a change, under the number of its build
abbrev pub entry_of : ℕ → SideEntry → Entry
entry_of build (delete pair) = record { build = build; op = Delete; key = pair.key; rid = pair.rid }
entry_of build (insert pair) = record { build = build; op = Insert; key = pair.key; rid = pair.rid }
