-- Side-files that are emptied one after another, with the other ends of their rings.
use Rattle.std.proofs.Common.{◌≡◌, ℕ, suc, ◌+◌, ◌<◌, List, [], ◌∷◌, length, map, set, Some, refl, ap₂, arith, inl, inr}
use Rattle.std.specs.List.{All, slice_get}
use Rattle.side_file.specs.SideFileValue.{SideFileValue}
use Rattle.side_file.specs.declared.entry.Entry.{Entry}
use Rattle.side_file.specs.Ends.{TakeEnd}
use Rattle.table_scan.specs.SideFiles.{drained_end, put_ends}
use Rattle.page_workers.proofs.Places.{at_set, set_there, set_elsewhere, all_from, there_is, below}

-- an empty side-file with an end that took all
pub record IsEmptied (side : SideFileValue) (end : TakeEnd Entry) : Type 0 where
  pub left : side.left ≡ []
  pub fed : side.fed ≡ []
  pub drained : end ≡ drained_end side.end

-- the first so many are
abbrev pub AreEmptied : ℕ → List SideFileValue → List (TakeEnd Entry) → Type 0
AreEmptied count sides ends =
    (k : ℕ) (side : SideFileValue) (end : TakeEnd Entry) → k < count → slice_get sides k ≡ Some side → slice_get ends k ≡ Some end → IsEmptied side end

-- of the first so many side-files nothing is left
abbrev pub AreTaken : ℕ → List SideFileValue → Type 0
AreTaken count sides = (k : ℕ) (side : SideFileValue) → k < count → slice_get sides k ≡ Some side → side.left ≡ []

pub more_taken : (count : ℕ) (sides : List SideFileValue) (side : SideFileValue) → AreTaken count sides → side.left ≡ [] → AreTaken (count + 1) (set sides count side)
more_taken count sides side are is = λ k s less at. elim (at_set sides count side k s at) [
  | inl here ↦ rw here.1 is
  | inr other ↦ are k s (omega (arith, less, other.0)) other.1
]

pub all_taken : (sides : List SideFileValue) → AreTaken (length sides) sides → All (λ side. side.left ≡ []) sides
all_taken sides are = all_from (λ (side : SideFileValue). side.left ≡ []) sides (λ k side at. are k side (below sides k side at) at)

-- of the first so many side-files nothing is left, and none was fed
abbrev pub AreForgotten : ℕ → List SideFileValue → Type 0
AreForgotten count sides = (k : ℕ) (side : SideFileValue) → k < count → slice_get sides k ≡ Some side → (side.left ≡ []) × (side.fed ≡ [])

pub more_forgotten :
    (count : ℕ) (sides : List SideFileValue) (side : SideFileValue) → AreForgotten count sides → (side.left ≡ []) × (side.fed ≡ [])
    → AreForgotten (count + 1) (set sides count side)
more_forgotten count sides side are is = λ k s less at. elim (at_set sides count side k s at) [
  | inl here ↦ rw here.1 is
  | inr other ↦ are k s (omega (arith, less, other.0)) other.1
]

pub all_forgotten : (sides : List SideFileValue) → AreForgotten (length sides) sides → All (λ side. (side.left ≡ []) × (side.fed ≡ [])) sides
all_forgotten sides are =
    all_from (λ (side : SideFileValue). (side.left ≡ []) × (side.fed ≡ [])) sides (λ k side at. are k side (below sides k side at) at)

each_drained :
    (sides : List SideFileValue) (ends : List (TakeEnd Entry)) → length sides ≡ length ends
    → ((k : ℕ) (side : SideFileValue) (end : TakeEnd Entry) → slice_get sides k ≡ Some side → slice_get ends k ≡ Some end → end ≡ drained_end side.end)
    → ends ≡ map drained_end (put_ends sides)
each_drained [] [] many each = refl
each_drained [] (e ∷ es) many each = absurd (cc)
each_drained (s ∷ ss) [] many each = absurd (cc)
each_drained (s ∷ ss) (e ∷ es) many each =
    ap₂ ◌∷◌ (each 0 s e refl refl) (each_drained ss es (omega (arith, many)) (λ k side end at there. each (suc k) side end at there))

pub more_emptied :
    (count : ℕ) (sides : List SideFileValue) (ends : List (TakeEnd Entry)) (side : SideFileValue) (end : TakeEnd Entry) → AreEmptied count sides ends
    → IsEmptied side end → AreEmptied (count + 1) (set sides count side) (set ends count end)
more_emptied count sides ends side end are is = λ k s e less at there. elim (at_set sides count side k s at) [
  | inl here ↦ rw (here.1, set_there ends count end k e there here.0) is
  | inr other ↦ are k s e (omega (arith, less, other.0)) other.1 (set_elsewhere ends count end k e there other.0)
]

module _ (sides : List SideFileValue) (ends : List (TakeEnd Entry)) (many : length sides ≡ length ends) (are : AreEmptied (length sides) sides ends) where
  pub all_emptied : All (λ side. (side.left ≡ []) × (side.fed ≡ [])) sides
  all_emptied =
      all_from (λ (side : SideFileValue). (side.left ≡ []) × (side.fed ≡ [])) sides (λ k side at.
      let less = below sides k side at in
      let end = there_is ends k (omega (arith, less, many)) in
      let is = are k side end.0 less at end.1 in
      (is.left, is.fed))

  pub all_drained : ends ≡ map drained_end (put_ends sides)
  all_drained = each_drained sides ends many (λ k side end at there. (are k side end (below sides k side at) at there).drained)
