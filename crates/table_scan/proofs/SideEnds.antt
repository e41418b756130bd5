-- The side-files of a build and the other ends of their rings, where one of them changes.
use Rattle.std.proofs.Common.{◌≡◌, ℕ, ◌<◌, Bool, true, false, length, None, refl, arith, ◌≤◌, List, map, set, get_or, Option, Some, sym, ap, ◌∙◌, inl, inr}
use Rattle.std.specs.Prelude.{nat_le, IfSome}
use Rattle.keybytes.specs.declared.fault.Fault.TheVariants.{BadCount}
use Rattle.build_events.specs.CoreState.{BuildState}
use Rattle.build_events.specs.BuildSteps.{cause_if, index_refusal}
use Rattle.std.specs.List.{slice_get}
use Rattle.side_file.specs.Ends.{PutEnd, RingId, TakeEnd}
use Rattle.side_file.specs.SideFileValue.{SideFileValue}
use Rattle.side_file.specs.declared.entry.Entry.{Entry}
use Rattle.heap_log.specs.declared.record.LogRec.{LogRec}
use Rattle.table_scan.specs.SideFiles.{side_rings, taken_rings, SidesFollow, put_ends, side_refusal}
use Rattle.page_workers.proofs.Places.{as_long, at_index, at_set, both_at, kept, mapped}
use Rattle.table_scan.proofs.SideKept.{stays_one}

-- an index that isn't refused is one of the build
pub index_below : (b : BuildState) (index : ℕ) → index_refusal b index ≡ None → index < length b.specs
index_below b index free = by_test (nat_le (length b.specs) index) refl free where
  by_test : (t : Bool) → nat_le (length b.specs) index ≡ t → cause_if t BadCount ≡ None → index < length b.specs
  by_test true is none = absurd (cc)
  by_test false is none = grind (arith, is)

-- a side-file that was looked at has what it had
pub sides_looked :
    (log : List LogRec) (build : Option BuildState) (sides : List SideFileValue) (index : ℕ) (old new : SideFileValue) → slice_get sides index ≡ Some old
    → new.fed ≡ old.fed → new.left ≡ old.left → new.end.sent ≡ old.end.sent → SidesFollow log build sides → SidesFollow log build (set sides index new)
sides_looked log None sides index old new there fed left sent has = tt
sides_looked log (Some b) sides index old new there fed left sent has = λ k spec side at put. elim (at_set sides index new k side put) [
  | inl here ↦ rw here.1 (stays_one log b k spec old new fed left sent (has k spec old at (ap (slice_get sides) here.0 ∙ there)))
  | inr other ↦ has k spec side at other.1
]

-- both ends in one place are of one ring
pub paired :
    (entry_rings : List RingId) (sides : List SideFileValue) (ends : List (TakeEnd Entry)) (index : ℕ) (side : SideFileValue) (end : TakeEnd Entry)
    → side_rings (put_ends sides) ≡ entry_rings → taken_rings ends ≡ entry_rings → index < length sides → index < length ends
    → side ≡ get_or sides index side → end ≡ get_or ends index end → side.end.ring ≡ end.ring
paired entry_rings sides ends index side end puts takes less below at there =
    let same : map (λ (s : SideFileValue). s.end.ring) sides ≡ map (λ (e : TakeEnd Entry). e.ring) ends =
    sym (mapped (λ (s : SideFileValue). s.end) (λ (e : PutEnd Entry). e.ring) sides) ∙ puts ∙ sym takes in
    ap (λ (s : SideFileValue). s.end.ring) at
    ∙ both_at (λ (s : SideFileValue). s.end.ring) (λ (e : TakeEnd Entry). e.ring) sides ends index side end same less below
    ∙ ap (λ (e : TakeEnd Entry). e.ring) (sym there)

-- a side-file that changes keeps its ring
pub rings_stay :
    (sides : List SideFileValue) (entry_rings : List RingId) (index : ℕ) (old new : SideFileValue) → side_rings (put_ends sides) ≡ entry_rings
    → old ≡ get_or sides index old → new.end.ring ≡ old.end.ring → side_rings (put_ends (set sides index new)) ≡ entry_rings
rings_stay sides entry_rings index old new are at ring =
    mapped (λ (s : SideFileValue). s.end) (λ (e : PutEnd Entry). e.ring) (set sides index new)
    ∙ kept (λ (s : SideFileValue). s.end.ring) sides entry_rings index new old
    (sym (mapped (λ (s : SideFileValue). s.end) (λ (e : PutEnd Entry). e.ring) sides) ∙ are) (ring ∙ ap (λ (s : SideFileValue). s.end.ring) at)

pub taken_stay :
    (ends : List (TakeEnd Entry)) (entry_rings : List RingId) (index : ℕ) (old new : TakeEnd Entry) → taken_rings ends ≡ entry_rings
    → old ≡ get_or ends index old → new.ring ≡ old.ring → taken_rings (set ends index new) ≡ entry_rings
taken_stay ends entry_rings index old new are at ring =
    kept (λ (e : TakeEnd Entry). e.ring) ends entry_rings index new old are (ring ∙ ap (λ (e : TakeEnd Entry). e.ring) at)

-- as many side-files as other ends of their rings
pub as_many :
    (sides : List SideFileValue) (ends : List (TakeEnd Entry)) → side_rings (put_ends sides) ≡ taken_rings ends → length sides ≡ length ends
as_many sides ends same =
    as_long (λ (s : SideFileValue). s.end.ring) (λ (e : TakeEnd Entry). e.ring) sides ends
    (sym (mapped (λ (s : SideFileValue). s.end) (λ (e : PutEnd Entry). e.ring) sides) ∙ same)

-- an index of the running build has its side-file
pub side_there :
    (build : Option BuildState) (sides : List SideFileValue) (index : ℕ) (side : SideFileValue) → IfSome build (λ b. length b.specs ≤ length sides)
    → side_refusal build index ≡ None → side ≡ get_or sides index side → slice_get sides index ≡ Some side
side_there None sides index side many free at = absurd (cc)
side_there (Some b) sides index side many free at =
    let less = index_below b index free in
    at_index sides index side at (omega (arith, less, many))
