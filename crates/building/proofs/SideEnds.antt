-- The ends of the side-files' rings that take, where one of them changes.
use Rattle.std.proofs.Common.{◌≡◌, ℕ, ◌<◌, ◌++◌, List, length, set, get_or, Option, Some, sym, ap, ◌∙◌, arith}
use Rattle.std.specs.List.{slice_get}
use Rattle.std.proofs.lemmas.List.{length-set}
use Rattle.std.proofs.lemmas.Option.{same_Some}
use Rattle.side_file.specs.Ends.{PutEnd, RingId, TakeEnd, TakeEndLooked}
use Rattle.side_file.specs.declared.entry.Entry.{Entry}
use Rattle.page_workers.specs.IntakeValue.{IntakeValue}
use Rattle.table_scan.specs.SideFiles.{HasLookedAtSide, SeesSide}
use Rattle.page_workers.specs.SpoolValue.{SpoolValue}
use Rattle.page_workers.specs.WorkerValue.{WorkerValue}
use Rattle.building.specs.BuildingValue.{BuildingValue, WorkValue}
use Rattle.building.specs.Keeping.{KeepsWork}
use Rattle.building.proofs.Kept.{side_looked_kept}
use Rattle.building.specs.Rings.{AreTakeEnds}
use Rattle.building.specs.Working.{HasSeenEntries, SideIsSeen}
use Rattle.page_workers.proofs.Places.{at_index, kept, map_at}

abbrev end_with : RingId → List Entry → List Entry → TakeEnd Entry
end_with ring taken seen = record { ring = ring; received = taken; known = seen }

-- the ends that take stay those of the table's rings
pub take_ends_stay :
    (page_rings entry_rings : List RingId) (workers : List IntakeValue) (ends : List (TakeEnd Entry)) (index : ℕ) (old new : TakeEnd Entry)
    → AreTakeEnds page_rings entry_rings workers ends → old ≡ get_or ends index old → new.ring ≡ old.ring
    → AreTakeEnds page_rings entry_rings workers (set ends index new)
take_ends_stay page_rings entry_rings workers ends index old new are at ring = record {
  intakes_are = are.intakes_are;
  sides_are = kept (λ (e : TakeEnd Entry). e.ring) ends entry_rings index new old are.sides_are (ring ∙ ap (λ (e : TakeEnd Entry). e.ring) at);
  sixteen = are.sixteen;
  eight = length-set ends index new ∙ are.eight;
}

-- there are eight
pub eight_ends :
    (page_rings entry_rings : List RingId) (workers : List IntakeValue) (ends : List (TakeEnd Entry)) → AreTakeEnds page_rings entry_rings workers ends
    → length ends ≡ 8
eight_ends page_rings entry_rings workers ends are = are.eight

-- the end at a place is of the table's ring there
pub ring_of :
    (page_rings entry_rings : List RingId) (workers : List IntakeValue) (ends : List (TakeEnd Entry)) (index : ℕ) (end : TakeEnd Entry) (ring : RingId)
    → AreTakeEnds page_rings entry_rings workers ends → index < 8 → end ≡ get_or ends index end → slice_get entry_rings index ≡ Some ring → ring ≡ end.ring
ring_of page_rings entry_rings workers ends index end ring are less at table =
    let many = eight_ends page_rings entry_rings workers ends are in
    same_Some ring end.ring
    (sym table ∙ ap (λ (rings : List RingId). slice_get rings index) (sym are.sides_are)
    ∙ map_at (λ (e : TakeEnd Entry). e.ring) ends index end (at_index ends index end at (omega (arith, less, many))))

-- both ends of the ring of that side-file were looked at
pub side_is_seen :
    (index waiting : ℕ) (old seen : BuildingValue) (ends : List (TakeEnd Entry)) (end after : TakeEnd Entry) (put new_put : PutEnd Entry) → seen ≡ old
    → seen.sides ≡ ends → end ≡ get_or ends index end → index < length ends → HasLookedAtSide put end new_put after → SeesSide waiting new_put after
    → SideIsSeen index waiting put new_put old (record seen { sides = set ends index after })
side_is_seen index waiting old seen ends end after put new_put same are at less looked sees =
    let here : old.sides ≡ ends = ap (λ (b : BuildingValue). b.sides) (sym same) ∙ are in
    record {
      end = end;
      there = ap (λ (es : List (TakeEnd Entry)). slice_get es index) here ∙ at_index ends index end at less;
      after = after;
      looked = looked;
      sees = sees;
      left = ap (λ (es : List (TakeEnd Entry)). record seen { sides = set es index after }) (sym are)
          ∙ ap (λ (b : BuildingValue). record b { sides = set b.sides index after }) same;
    }

-- an end that looked by itself
seen_more : (end after : TakeEnd Entry) → (looked : TakeEndLooked end after) → after ≡ record end { known = end.known ++ looked.known.0 }
seen_more end after looked =
    ap (λ (r : RingId). end_with r after.received after.known) looked.ring ∙ ap (λ (es : List Entry). end_with end.ring es after.known) looked.received
    ∙ ap (end_with end.ring end.received) (sym looked.known.1)

-- its side-file's ring was looked into
pub has_seen_entries :
    (index seen : ℕ) (old was : BuildingValue) (ends : List (TakeEnd Entry)) (end after : TakeEnd Entry) → was ≡ old → was.sides ≡ ends
    → end ≡ get_or ends index end → index < length ends → TakeEndLooked end after → seen ≡ length after.known
    → HasSeenEntries index old seen (record was { sides = set ends index after })
has_seen_entries index seen old was ends end after same are at less looked counted =
    let here : old.sides ≡ ends = ap (λ (b : BuildingValue). b.sides) (sym same) ∙ are in
    let more : List Entry = looked.known.0 in
    record {
      end = end;
      there = ap (λ (es : List (TakeEnd Entry)). slice_get es index) here ∙ at_index ends index end at less;
      more = more;
      counted = counted ∙ ap length (sym looked.known.1);
      left = ap (λ (e : TakeEnd Entry). record was { sides = set ends index e }) (seen_more end after looked)
          ∙ ap (λ (es : List (TakeEnd Entry)). record was { sides = set es index (record end { known = end.known ++ more }) }) (sym are)
          ∙ ap (λ (b : BuildingValue). record b { sides = set b.sides index (record end { known = end.known ++ more }) }) same;
    }

-- what the work keeps doesn't depend on what the end has seen
pub side_end_kept :
    (workers : List WorkerValue) (spools : List SpoolValue) (work : Option WorkValue) (ends : List (TakeEnd Entry)) (index : ℕ) (end after : TakeEnd Entry)
    → end ≡ get_or ends index end → index < length ends → after.received ≡ end.received → KeepsWork workers ends spools work
    → KeepsWork workers (set ends index after) spools work
side_end_kept workers spools work ends index end after at less same kept =
    side_looked_kept workers ends spools work index end after (at_index ends index end at less) same kept
