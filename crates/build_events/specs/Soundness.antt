-- What holds of a running build between any two steps.
use Rattle.std.specs.Prelude.{◌≡◌, true, List, length}
use Rattle.std.specs.List.{All}
use Rattle.keybytes.specs.Pairs.{set_of}
use Rattle.heap_log.specs.declared.record.LogRec.{LogRec}
use Rattle.visibility.specs.Applied.{entry_rid, apply_entries, HaveEffect}
use Rattle.build_events.specs.CoreState.{BuildState, scanning_of}
use Rattle.build_events.specs.Scanning.{Scanning, is_visible, scanned_pairs}
use Rattle.build_events.specs.SideEntries.{side_entries, visible_pairs}

-- what the side-file's entries make of the scanned pairs is the set of pairs of the visible rows
abbrev pub VisiblePairsAreCaughtUp : Scanning → List LogRec → Type 0
VisiblePairsAreCaughtUp b log = apply_entries (side_entries b log) (set_of (scanned_pairs b log)) ≡ visible_pairs b log

-- each entry names a RID that is visible, and has effect at its turn
pub record EntriesHaveEffect (b : Scanning) (log : List LogRec) : Type 0 where
  pub visible : All (λ entry. is_visible b (length log) (entry_rid entry) ≡ true) (side_entries b log)
  pub effect : HaveEffect (side_entries b log) (set_of (scanned_pairs b log))

-- the build is sound, for each of its indexes
pub record BuildIsSound (b : BuildState) (log : List LogRec) : Type 0 where
  pub caught_up : All (λ spec. VisiblePairsAreCaughtUp (scanning_of b spec) log) b.specs
  pub effect : All (λ spec. EntriesHaveEffect (scanning_of b spec) log) b.specs
