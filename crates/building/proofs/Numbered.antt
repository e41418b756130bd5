-- The workers of a build have the numbers of their places, and so the rings of these.
use Rattle.std.proofs.Common.{◌≡◌, ℕ, List, [], map, set, Some, sym, ap, ◌∙◌, inl, inr}
use Rattle.std.specs.List.{All, slice_get}
use Rattle.side_file.specs.Ends.{RingId}
use Rattle.side_file.specs.declared.entry.Entry.{Entry}
use Rattle.page_workers.proofs.Places.{all_from, at_set, mapped, same_at}
use Rattle.page_workers.specs.IntakeValue.{IntakeValue}
use Rattle.side_file.specs.Ends.{TakeEnd}
use Rattle.page_workers.specs.WorkerValue.{WorkerValue}
use Rattle.building.proofs.Looks.{ring_at}
use Rattle.building.specs.BuildingValue.{intakes}
use Rattle.building.specs.Keeping.{AreNumbered, HasItsRing}
use Rattle.building.specs.Rings.{AreTakeEnds, unseen}
use Rattle.building.specs.Working.{handed_over}

-- no worker has another number than its place
pub none_numbered : AreNumbered []
none_numbered place worker at = absurd (cc)

-- workers that have the numbers of those
numbered_same :
    (old new : List WorkerValue) → map (λ (w : WorkerValue). w.number) new ≡ map (λ (w : WorkerValue). w.number) old → AreNumbered old → AreNumbered new
numbered_same old new same numbered place worker at =
    let it = same_at (λ (w : WorkerValue). w.number) old new place worker (sym same) at in
    sym it.2 ∙ numbered place it.0 it.1

-- those whose rings were looked at have
pub numbered_looked : (old new : List WorkerValue) → map unseen new ≡ map unseen old → AreNumbered old → AreNumbered new
numbered_looked old new same =
    let number : WorkerValue → ℕ = λ w. w.number in
    numbered_same old new (sym (mapped unseen number new) ∙ ap (map number) same ∙ mapped unseen number old)

-- and those who handed their spools over
pub numbered_handed : (old new : List WorkerValue) → new ≡ map handed_over old → AreNumbered old → AreNumbered new
numbered_handed old new is =
    let number : WorkerValue → ℕ = λ w. w.number in
    numbered_same old new (ap (map number) is ∙ mapped handed_over number old)

-- a worker that has its number stands in the place of what it was
pub numbered_set :
    (workers : List WorkerValue) (k : ℕ) (it after : WorkerValue) → slice_get workers k ≡ Some it → after.number ≡ it.number → AreNumbered workers
    → AreNumbered (set workers k after)
numbered_set workers k it after at same numbered place worker there = elim (at_set workers k after place worker there) [
  | inl this ↦ ap (λ (w : WorkerValue). w.number) this.1 ∙ same ∙ numbered k it at ∙ sym this.0
  | inr other ↦ numbered place worker other.1
]

-- each has the ring of its number
pub their_rings :
    (page_rings entry_rings : List RingId) (workers : List WorkerValue) (idle : List IntakeValue) (sides : List (TakeEnd Entry))
    → AreTakeEnds page_rings entry_rings (intakes workers idle) sides → AreNumbered workers → All (HasItsRing page_rings) workers
their_rings page_rings entry_rings workers idle sides are numbered =
    all_from (HasItsRing page_rings) workers (λ k worker at.
    ap (slice_get page_rings) (numbered k worker at) ∙ ring_at page_rings entry_rings workers idle sides are k worker at)
