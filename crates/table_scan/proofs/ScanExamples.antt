-- The side-file computed at a small build that a reader can check by hand.
use Rattle.std.proofs.Common.{ℕ, false, List, [], ◌∷◌, ◌≡◌, pos, Some, None, refl}
use Rattle.keybytes.specs.Keys.{KeySpecValue}
use Rattle.keybytes.specs.declared.kind.Kind.TheVariants.{Int}
use Rattle.heap_table.specs.Pages.{rid_at}
use Rattle.keybytes.specs.declared.pair.Pair.{Pair}
use Rattle.keybytes.specs.declared.cell.Cell.TheVariants.{Int as Number}
use Rattle.heap_log.specs.declared.record.LogRec.{LogRec}
use Rattle.heap_log.specs.declared.record.LogRec.TheVariants.{Write, Undo, Commit}
use Rattle.build_events.specs.Scanning.{Scanning, scanned_pairs}
use Rattle.visibility.specs.SideEntries.{delete, insert}
use Rattle.build_events.specs.SideEntries.{side_entries}

-- an index on a column of numbers
abbrev pub on_number : KeySpecValue
on_number = record { kinds = Int ∷ []; columns = record { column = 0; descending = false } ∷ []; unique = false; condition = None }

abbrev pub three : List ℕ
three = 1 ∷ 0x80 ∷ 0 ∷ 0 ∷ 0 ∷ 0 ∷ 0 ∷ 0 ∷ 3 ∷ []

abbrev pub five : List ℕ
five = 1 ∷ 0x80 ∷ 0 ∷ 0 ∷ 0 ∷ 0 ∷ 0 ∷ 0 ∷ 5 ∷ []

abbrev pub pair : List ℕ → ℕ → ℕ → Pair
pair key page slot = record { key = key; rid = rid_at page slot }

abbrev put : ℕ → ℕ → ℕ → ℕ → LogRec
put txn page slot number = Write txn (rid_at page slot) (Some (Number (pos number) ∷ []))

-- two rows, on pages 0 and 1; then a build is opened, and reads page 0; page 1 it reads behind record 6
abbrev the_log : List LogRec
the_log =
    put 1 0 0 5 ∷ put 1 1 0 3 ∷ Commit 1
    ∷ put 2 0 0 3 ∷ Write 2 (rid_at 1 0) None ∷ put 2 2 0 5
    ∷ Undo 2 6 ∷ Undo 2 5 ∷ put 2 0 0 3 ∷ Commit 2 ∷ []

abbrev the_build : Scanning
the_build = record {
  spec = on_number;
  opened = 3;
  pages = 2;
  scans = record { worker = 0; page = 0; records = 3 } ∷ record { worker = 1; page = 1; records = 6 } ∷ [];
}

-- the row of page 1 was deleted when its page was read
what_was_read : scanned_pairs the_build the_log ≡ pair five 0 0 ∷ []
what_was_read = refl

-- record 4 changes a page that was read; 5 one that wasn't; 6 and 7 a page that is new; 8 brings a row back on page 1; 9
-- leaves the key as it was
what_was_noted :
    side_entries the_build the_log
    ≡ delete (pair five 0 0) ∷ insert (pair three 0 0) ∷ insert (pair five 2 0) ∷ delete (pair five 2 0) ∷ insert (pair three 1 0) ∷ []
what_was_noted = refl

-- the key of a small number
abbrev key : ℕ → List ℕ
key n = 1 ∷ 0x80 ∷ 0 ∷ 0 ∷ 0 ∷ 0 ∷ 0 ∷ 0 ∷ n ∷ []

-- a row put in ahead of the scan, copied with its page, and rolled back behind the scan: its own inverse, and nothing else
abbrev rolled_back : List LogRec
rolled_back =
    put 1 0 0 10 ∷ Commit 1 ∷ put 2 0 1 20 ∷ Commit 2 ∷ put 3 1 0 30 ∷ Commit 3
    ∷ put 4 1 1 40 ∷ Undo 4 7 ∷ []

abbrev around_a_scan : Scanning
around_a_scan = record {
  spec = on_number;
  opened = 6;
  pages = 2;
  scans = record { worker = 0; page = 0; records = 6 } ∷ record { worker = 0; page = 1; records = 7 } ∷ [];
}

its_inverse : side_entries around_a_scan rolled_back ≡ delete (pair (key 40) 1 1) ∷ []
its_inverse = refl

its_pairs : scanned_pairs around_a_scan rolled_back ≡ pair (key 10) 0 0 ∷ pair (key 20) 0 1 ∷ pair (key 30) 1 0 ∷ pair (key 40) 1 1 ∷ []
its_pairs = refl

-- two updates behind the scan, rolled back one before and one behind the scan of another page
abbrev two_updates : List LogRec
two_updates =
    put 1 0 0 1 ∷ Commit 1 ∷ put 2 1 0 8 ∷ Commit 2
    ∷ put 3 0 0 2 ∷ put 3 0 0 3 ∷ Undo 3 6 ∷ Undo 3 5 ∷ []

abbrev another_page : Scanning
another_page = record {
  spec = on_number;
  opened = 4;
  pages = 2;
  scans = record { worker = 0; page = 0; records = 4 } ∷ record { worker = 0; page = 1; records = 7 } ∷ [];
}

each_step :
    side_entries another_page two_updates
    ≡ delete (pair (key 1) 0 0) ∷ insert (pair (key 2) 0 0) ∷ delete (pair (key 2) 0 0) ∷ insert (pair (key 3) 0 0)
    ∷ delete (pair (key 3) 0 0) ∷ insert (pair (key 2) 0 0) ∷ delete (pair (key 2) 0 0) ∷ insert (pair (key 1) 0 0) ∷ []
each_step = refl
