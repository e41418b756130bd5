-- How a piece of a build catches up with those who write.
use Rattle.std.specs.Prelude.{◌≡◌, ℕ, ◌-◌, ◌<◌, ◌≤◌, min, List, get_or, Option, Some, None, IsSomeAnd}
use Rattle.build_events.specs.CoreState.{CoreState}
use Rattle.build_events.specs.declared.event.Event.{Event}
use Rattle.build_events.specs.declared.event.Event.TheVariants.{Begin, Insert, Update, Delete, Undo, Commit, Start, Scan, Digest, Seal, Load, Feed, Apply, Fence, Switch, Abandon}
use Rattle.live_lemmas.specs.CatchingUp.{left_at}
use Rattle.kept_table.specs.Progresses.{index_count, unfed_at}

-- the event moves entries of an index on: into its ring, or from there to its pairs
abbrev pub MovesEntries : Event → Type 0
MovesEntries Begin = ⊥
MovesEntries (Insert txn row) = ⊥
MovesEntries (Update txn rid row) = ⊥
MovesEntries (Delete txn rid) = ⊥
MovesEntries (Undo txn) = ⊥
MovesEntries (Commit txn) = ⊥
MovesEntries (Start plan) = ⊥
MovesEntries (Scan range worker) = ⊥
MovesEntries (Digest worker) = ⊥
MovesEntries (Seal worker) = ⊥
MovesEntries (Load index) = ⊥
MovesEntries (Feed index most) = Unit {0}
MovesEntries (Apply index most) = Unit {0}
MovesEntries Fence = ⊥
MovesEntries Switch = ⊥
MovesEntries Abandon = ⊥

-- how many entries of an index of the build that runs were not fed
abbrev pub unfed_of : CoreState → ℕ → ℕ
unfed_of s index = unfed_at s.live.heap.log s.live.build index

-- how many entries of an index waited behind the piece before, by what is kept of that; so many as wait now, where no piece caught up yet
abbrev pub waited_of : Option (List ℕ) → ℕ → ℕ → ℕ
waited_of None index now = now
waited_of (Some waits) index now = get_or waits index 0

-- how many of an index are left, of which so many are not fed: those that waited behind the piece before, or that are not fed, if these are fewer;
-- less so many
abbrev pub left_over : ℕ → Option (List ℕ) → ℕ → ℕ → ℕ
left_over most waited index unfed = min (waited_of waited index unfed) unfed - most

-- the same of an index of the build that runs
abbrev pub to_leave : ℕ → Option (List ℕ) → CoreState → ℕ → ℕ
to_leave most waited s index = left_over most waited index (unfed_of s index)

-- entries of each index of the build are applied until just so many are left: as many as were written since the piece before, and `most` more, unless
-- fewer wait; beside these what events of their own had fed
pub record Leaves (most : ℕ) (waited : Option (List ℕ)) (old new : CoreState) : Type 0 where
  pub each : (index : ℕ) → index < index_count old.live.build → left_at index new ≡ to_leave most waited old index
  -- so what waits falls with each piece, however much was written between
  pub fewer : (index : ℕ) → index < index_count old.live.build → left_at index new ≤ waited_of waited index (left_at index old) - most

-- no more are applied, of any index
abbrev pub LeavesNoFewer : ℕ → Option (List ℕ) → CoreState → CoreState → Type 0
LeavesNoFewer most waited old new = (index : ℕ) → index < index_count old.live.build → to_leave most waited old index ≤ left_at index new

-- that is what is kept of how many entries of each index wait
abbrev pub AreKept : CoreState → Option (List ℕ) → Type 0
AreKept s waited = IsSomeAnd waited (λ waits. (index : ℕ) → index < index_count s.live.build → get_or waits index 0 ≡ left_at index s)
