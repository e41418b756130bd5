-- What looking at both ends of the rings leaves.
use Rattle.std.proofs.Common.{◌≡◌, ℕ, ◌+◌, ◌++◌, List, [], map, length, Some, sym, ap, ◌∙◌, inl, inr, arith, subst, length-append, ◌≤◌}
use Rattle.std.specs.List.{All, AllZip, slice_get}
use Rattle.std.proofs.lemmas.Bool.{cases_lt}
use Rattle.std.proofs.lemmas.List.{length-map, map-append}
use Rattle.side_file.specs.Ends.{PutEnd, RingId}
use Rattle.side_file.specs.declared.entry.Entry.{Entry}
use Rattle.page_workers.specs.IntakeValue.{IntakeValue}
use Rattle.side_file.specs.Ends.{PutEndLooked, TakeEnd}
use Rattle.page_workers.specs.WorkerValue.{WorkerValue}
use Rattle.page_workers.specs.declared.copied.Copied.{Copied}
use Rattle.building.specs.BuildingValue.{intakes}
use Rattle.building.specs.Rings.{put_rings, take_rings, all_sent, unseen, AreLooked, AreSealed, AreTakeEnds, FirstAreSealed, IsSealed}
use Rattle.building.proofs.AtWork.{intake_at}
use Rattle.table_scan.proofs.LookedEnds.{all_looked_twice, same_looked}
use Rattle.page_workers.proofs.Places.{as_long, map_at, same_at, mapped}

pub looked_again :
    (p : List (PutEnd Copied)) (w : List WorkerValue) (p' : List (PutEnd Copied)) (w' : List WorkerValue) (p'' : List (PutEnd Copied)) (w'' : List WorkerValue)
    → AreLooked p w p' w' → AreLooked p' w' p'' w'' → AreLooked p w p'' w''
looked_again p w p' w' p'' w'' first then = record {
  puts = all_looked_twice p p' p'' first.puts then.puts;
  same = then.same ∙ first.same;
}

-- ends that were looked at are of their rings, and were sent what they were
pub same_rings : (p p' : List (PutEnd Copied)) → AllZip PutEndLooked p p' → put_rings p' ≡ put_rings p
same_rings p p' = same_looked (λ (e : PutEnd Copied). e.ring) (λ old new looked. looked.ring) p p'

pub same_sent : (p p' : List (PutEnd Copied)) → AllZip PutEndLooked p p' → all_sent p' ≡ all_sent p
same_sent p p' = same_looked (λ (e : PutEnd Copied). e.sent) (λ old new looked. looked.sent) p p'

-- the rings of the workers are those that they were
pub rings_looked : (old new : List WorkerValue) → map unseen new ≡ map unseen old → map (λ (w : WorkerValue). w.intake.end.ring) new ≡ map (λ (w : WorkerValue). w.intake.end.ring) old
rings_looked old new same =
    let ring : WorkerValue → RingId = λ w. w.intake.end.ring in
    sym (mapped unseen ring new) ∙ ap (map ring) same ∙ mapped unseen ring old

pub takes_same :
    (old new : List WorkerValue) (idle : List IntakeValue) → map (λ (w : WorkerValue). w.intake.end.ring) new ≡ map (λ (w : WorkerValue). w.intake.end.ring) old
    → take_rings (intakes new idle) ≡ take_rings (intakes old idle)
takes_same old new idle same =
    let ring : IntakeValue → RingId = λ i. i.end.ring in
    let intake : WorkerValue → IntakeValue = λ w. w.intake in
    map-append ring (map intake new) idle
    ∙ ap (λ (l : List RingId). l ++ map ring idle) (mapped intake ring new ∙ same ∙ sym (mapped intake ring old))
    ∙ sym (map-append ring (map intake old) idle)

-- workers that take from the same rings
pub ends_same :
    (page_rings entry_rings : List RingId) (workers new : List WorkerValue) (idle : List IntakeValue) (sides : List (TakeEnd Entry))
    → AreTakeEnds page_rings entry_rings (intakes workers idle) sides
    → map (λ (w : WorkerValue). w.intake.end.ring) new ≡ map (λ (w : WorkerValue). w.intake.end.ring) workers
    → AreTakeEnds page_rings entry_rings (intakes new idle) sides
ends_same page_rings entry_rings workers new idle sides are same =
    let rings = takes_same workers new idle same in
    record {
      intakes_are = rings ∙ are.intakes_are;
      sides_are = are.sides_are;
      eight = are.eight;
      sixteen = as_long (λ (i : IntakeValue). i.end.ring) (λ (i : IntakeValue). i.end.ring) (intakes new idle) (intakes workers idle) rings ∙ are.sixteen;
    }

-- the ring of a worker is the table's at its place
pub ring_at :
    (page_rings entry_rings : List RingId) (workers : List WorkerValue) (idle : List IntakeValue) (sides : List (TakeEnd Entry))
    → AreTakeEnds page_rings entry_rings (intakes workers idle) sides → (k : ℕ) (w : WorkerValue) → slice_get workers k ≡ Some w
    → slice_get page_rings k ≡ Some w.intake.end.ring
ring_at page_rings entry_rings workers idle sides are k w at =
    sym (ap (λ (rings : List RingId). slice_get rings k) are.intakes_are) ∙ map_at (λ (i : IntakeValue). i.end.ring) (intakes workers idle) k w.intake (intake_at workers idle k w at)

-- there are at most as many workers as rings
pub few_workers :
    (page_rings entry_rings : List RingId) (workers : List WorkerValue) (idle : List IntakeValue) (sides : List (TakeEnd Entry))
    → AreTakeEnds page_rings entry_rings (intakes workers idle) sides → length workers ≤ 16
few_workers page_rings entry_rings workers idle sides are =
    let all = length-append (map (λ (w : WorkerValue). w.intake) workers) idle in
    let own = length-map workers (λ (w : WorkerValue). w.intake) in
    omega (arith, are.sixteen, all, own)

-- and as ends that put into these
pub few_with_pages :
    (page_rings entry_rings : List RingId) (workers : List WorkerValue) (idle : List IntakeValue) (sides : List (TakeEnd Entry))
    → AreTakeEnds page_rings entry_rings (intakes workers idle) sides → (pages : List (PutEnd Copied)) → put_rings pages ≡ page_rings
    → length workers ≤ length pages
few_with_pages page_rings entry_rings workers idle sides are pages puts =
    let few = few_workers page_rings entry_rings workers idle sides are in
    let many = as_long (λ (end : PutEnd Copied). end.ring) (λ (i : IntakeValue). i.end.ring) pages (intakes workers idle) (puts ∙ sym are.intakes_are) in
    omega (arith, few, many, are.sixteen)

-- and there are as few once their rings were looked at
pub few_looked :
    (page_rings entry_rings : List RingId) (workers : List WorkerValue) (idle : List IntakeValue) (sides : List (TakeEnd Entry))
    → AreTakeEnds page_rings entry_rings (intakes workers idle) sides → (new : List WorkerValue) → map unseen new ≡ map unseen workers → length new ≤ 16
few_looked page_rings entry_rings workers idle sides are new same =
    let few = few_workers page_rings entry_rings workers idle sides are in
    let many = as_long unseen unseen new workers same in
    omega (arith, few, many)

-- workers whose rings were looked at take from the rings that they took from
pub at_looked :
    (rings : List RingId) (old new : List WorkerValue) → map unseen new ≡ map unseen old
    → ((k : ℕ) (w : WorkerValue) → slice_get old k ≡ Some w → slice_get rings k ≡ Some w.intake.end.ring)
    → (k : ℕ) (w : WorkerValue) → slice_get new k ≡ Some w → slice_get rings k ≡ Some w.intake.end.ring
at_looked rings old new same are k w at =
    let it = same_at unseen old new k w (sym same) at in
    are k it.0 it.1 ∙ ap (λ (v : WorkerValue). Some v.intake.end.ring) it.2

-- who was sealed is, where the rings were sent the same and the workers took the same
module _
    (all : List (List Copied)) (w : List WorkerValue) (all' : List (List Copied)) (w' : List WorkerValue) (sent_same : all' ≡ all)
    (same : map unseen w' ≡ map unseen w) where
  one_looked :
      (k : ℕ) (sent : List Copied) (worker : WorkerValue) → slice_get all' k ≡ Some sent → slice_get w' k ≡ Some worker
      → ((it : WorkerValue) → slice_get all k ≡ Some sent → slice_get w k ≡ Some it → IsSealed sent it) → IsSealed sent worker
  one_looked k sent worker there at sealed =
      let it = same_at unseen w w' k worker (sym same) at in
      let was : IsSealed sent it.0 = sealed it.0 (sym (ap (λ (l : List (List Copied)). slice_get l k) sent_same) ∙ there) it.1 in
      record {
        taken = sym (ap (λ (v : WorkerValue). v.intake.end.received) it.2) ∙ was.taken;
        closed = subst (λ (v : WorkerValue). All (λ begun. begun ≡ []) v.maker.begun) it.2 was.closed;
      }

  pub sealed_looked : AreSealed all w → AreSealed all' w'
  sealed_looked sealed k sent worker there at = one_looked k sent worker there at (λ it put here. sealed k sent it put here)

  pub first_looked : (count : ℕ) → FirstAreSealed count all w → FirstAreSealed count all' w'
  first_looked count sealed k sent worker less there at = one_looked k sent worker there at (λ it put here. sealed k sent it less put here)

-- one more is sealed
pub sealed_more :
    (count : ℕ) (all : List (List Copied)) (workers : List WorkerValue) → FirstAreSealed count all workers
    → ((sent : List Copied) (worker : WorkerValue) → slice_get all count ≡ Some sent → slice_get workers count ≡ Some worker → IsSealed sent worker)
    → FirstAreSealed (count + 1) all workers
sealed_more count all workers sealed next k sent worker less there at = elim (cases_lt k count) [
  | inl below ↦ sealed k sent worker below there at
  | inr last ↦
      let same : k ≡ count = omega (arith, less, last) in
      next sent worker (sym (ap (slice_get all) same) ∙ there) (sym (ap (slice_get workers) same) ∙ at)
]
