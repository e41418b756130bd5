-- How entries are fed and applied, of one index after another.
use Rattle.std.specs.Prelude.{◌≡◌, ◌≢◌, ℕ, ◌+◌, ◌-◌, ◌<◌, ◌≤◌, min, List, [], ◌∷◌, All, Option}
use Rattle.keybytes.specs.declared.fault.Fault.{Fault}
use Rattle.build_events.specs.BuildSteps.{ring_most}
use Rattle.build_events.specs.CoreState.{CoreState}
use Rattle.build_events.specs.declared.event.Event.{Event}
use Rattle.build_events.specs.declared.event.Event.TheVariants.{Feed, Apply}
use Rattle.live_lemmas.specs.Settling.{ring_at}
use Rattle.kept_table.specs.CatchingUp.{MovesEntries, to_leave, unfed_of}
use Rattle.kept_table.specs.Pieces.{StopsWork, WorksOn}
use Rattle.kept_table.specs.Progresses.{index_count}
use Rattle.kept_table.specs.Shapes.{DoesAll}

-- as many entries of an index are not fed, and as many wait in its ring
pub record KeepsEntries (index : ℕ) (old new : CoreState) : Type 0 where
  pub unfed : unfed_of new index ≡ unfed_of old index
  pub ring : ring_at index new ≡ ring_at index old

-- and so it is of all other indexes
abbrev pub KeepsOthers : ℕ → CoreState → CoreState → Type 0
KeepsOthers index old new = (other : ℕ) → (other ≡ index → ⊥) → KeepsEntries other old new

-- so many entries go into the ring at most, as many as are left and as it has room for
pub record FeedsRing (index most : ℕ) (old new : CoreState) : Type 0 where
  pub done : DoesAll (Feed index most ∷ []) old new
  pub fed : ℕ
  pub fed_is : fed ≡ min most (min (unfed_of old index) (ring_most - ring_at index old))
  pub unfed : unfed_of new index ≡ unfed_of old index - fed
  pub ring : ring_at index new ≡ ring_at index old + fed
  pub others : KeepsOthers index old new

-- what waits in the ring is applied, up to as many entries as it has room for
pub record AppliesRing (index : ℕ) (old : CoreState) (applied : ℕ) (new : CoreState) : Type 0 where
  pub done : DoesAll (Apply index ring_most ∷ []) old new
  pub applied_is : applied ≡ min ring_most (ring_at index old)
  pub unfed : unfed_of new index ≡ unfed_of old index
  pub ring : ring_at index new ≡ ring_at index old - applied
  pub others : KeepsOthers index old new

-- one after the other
pub record DoesRound (index most : ℕ) (old : CoreState) (applied : ℕ) (new : CoreState) : Type 0 where
  pub done : DoesAll (Feed index most ∷ Apply index ring_most ∷ []) old new
  pub fed : ℕ
  pub fed_is : fed ≡ min most (min (unfed_of old index) (ring_most - ring_at index old))
  pub applied_is : applied ≡ min ring_most (ring_at index old + fed)
  pub unfed : unfed_of new index ≡ unfed_of old index - fed
  pub ring : ring_at index new ≡ ring_at index old + fed - applied
  pub others : KeepsOthers index old new

-- events that move entries on are done, but for the last, which is refused; of the index no more than so many were fed, and of the others none
pub record StopsRound (index most : ℕ) (old : CoreState) (fault : Fault) (new : CoreState) : Type 0 where
  pub due : List Event
  pub entries : All MovesEntries due
  pub stops : StopsWork due old fault new
  pub unfed : unfed_of old index ≤ unfed_of new index + most
  pub others : (other : ℕ) → (other ≡ index → ⊥) → unfed_of new other ≡ unfed_of old other

-- entries of that index alone move on, and so many of it at least are left to be fed
pub record Moves (index least : ℕ) (old new : CoreState) : Type 0 where
  pub works : WorksOn old new
  pub entries : All MovesEntries works.events
  pub left : least ≤ unfed_of new index
  pub others : KeepsOthers index old new

-- until just so many are left, and nothing waits in the ring
pub record MovesTo (index least : ℕ) (old new : CoreState) : Type 0 where
  pub moves : Moves index least old new
  pub some : moves.works.events ≢ []
  pub unfed : unfed_of new index ≡ least
  pub ring : ring_at index new ≡ 0

-- or until one of these events is refused
pub record StopsMoving (index least : ℕ) (old : CoreState) (fault : Fault) (new : CoreState) : Type 0 where
  pub due : List Event
  pub entries : All MovesEntries due
  pub stops : StopsWork due old fault new
  pub left : least ≤ unfed_of new index
  pub others : (other : ℕ) → (other ≡ index → ⊥) → unfed_of new other ≡ unfed_of old other

-- so much is done of all indexes, and nothing waits in their rings
pub record MovesEach (most : ℕ) (waited : Option (List ℕ)) (old new : CoreState) : Type 0 where
  pub works : WorksOn old new
  pub entries : All MovesEntries works.events
  pub some : 0 < index_count old.live.build → works.events ≢ []
  pub unfed : (index : ℕ) → index < index_count old.live.build → unfed_of new index ≡ to_leave most waited old index
  pub ring : (index : ℕ) → index < index_count old.live.build → ring_at index new ≡ 0

-- or until an event is refused, and no more was fed of any
pub record StopsEach (most : ℕ) (waited : Option (List ℕ)) (old : CoreState) (fault : Fault) (new : CoreState) : Type 0 where
  pub some_indexes : 0 < index_count old.live.build
  pub due : List Event
  pub entries : All MovesEntries due
  pub stops : StopsWork due old fault new
  pub unfed : (index : ℕ) → index < index_count old.live.build → to_leave most waited old index ≤ unfed_of new index
