-- What is kept while the workers of a build are lent, and as they come back.
use Rattle.std.proofs.Common.{◌≡◌, ℕ, zero, suc, ◌+◌, ◌-◌, ◌*◌, false, List, [], ◌∷◌, ◌++◌, length, map, take, drop, Some, None, refl, sym, ap, ap₂, ◌∙◌, subst, arith, Bool}
use Rattle.std.proofs.Common.{take-append-drop, length-append, length-set, set, inl, inr}
use Rattle.std.specs.List.{All, slice_get}
use Rattle.std.proofs.Math.Seq.{drop-append_seam}
use Rattle.std.proofs.lemmas.List.{length-map, map-append}
use Rattle.std.proofs.lemmas.Option.{same_Some}
use Rattle.keybytes.proofs.FirstCause.{both_none}
use Rattle.keybytes.specs.Keys.{KeySpecValue}
use Rattle.side_file.specs.Ends.{RingId}
use Rattle.side_file.specs.declared.entry.Entry.{Entry}
use Rattle.page_workers.specs.IntakeValue.{IntakeValue}
use Rattle.page_workers.specs.SpoolValue.{SpoolValue}
use Rattle.side_file.specs.Ends.{TakeEnd}
use Rattle.page_workers.specs.WorkerValue.{SameWorker, WorkerValue}
use Rattle.index_load.proofs.SpoolPlaces.{flat_many}
use Rattle.building.specs.BuildingValue.{BuildingValue, WorkValue, intakes}
use Rattle.building.specs.Equipped.{HasOwnSpools}
use Rattle.building.specs.Holding.{all_spools, workers_spools}
use Rattle.building.specs.Keeping.{AreWorkers, IsKept, KeepsLaws, KeepsWork}
use Rattle.building.specs.Lent.{AreBack, CanLend, IsBack, StaysWithout, lowest_fault}
use Rattle.building.specs.Rings.{AreTakeEnds, take_rings}
use Rattle.building.proofs.Kept.{scanning_kept}
use Rattle.building.proofs.Looks.{ring_at}
use Rattle.building.proofs.OneWorker.{still_fine, still_scans, work_kept}
use Rattle.page_workers.proofs.Places.{all_at, as_long, at_set, mapped}

-- the rings of workers and of idle intakes
rings_of :
    (workers : List WorkerValue) (idle : List IntakeValue)
    → take_rings (intakes workers idle) ≡ map (λ (w : WorkerValue). w.intake.end.ring) workers ++ take_rings idle
rings_of workers idle =
    let ring : IntakeValue → RingId = λ i. i.end.ring in
    let intake : WorkerValue → IntakeValue = λ w. w.intake in
    map-append ring (map intake workers) idle ∙ ap (λ (l : List RingId). l ++ map ring idle) (mapped intake ring workers)

-- as many as there are rings
pub all_there :
    (page_rings entry_rings : List RingId) (workers : List WorkerValue) (idle : List IntakeValue) (sides : List (TakeEnd Entry))
    → AreTakeEnds page_rings entry_rings (intakes workers idle) sides → length workers + length idle ≡ 16
all_there page_rings entry_rings workers idle sides are =
    let intake : WorkerValue → IntakeValue = λ w. w.intake in
    omega (arith, are.sixteen, length-append (map intake workers) idle, length-map workers intake)

-- what every building keeps, and its work goes on, without its workers
pub stays_without :
    (page_rings entry_rings : List RingId) (workers : List WorkerValue) (idle : List IntakeValue) (sides : List (TakeEnd Entry)) (home : List SpoolValue)
    (work : WorkValue) → AreTakeEnds page_rings entry_rings (intakes workers idle) sides → IsKept workers sides home work → work.spoiled ≡ None → work.handed ≡ false
    → StaysWithout page_rings entry_rings idle sides work
stays_without page_rings entry_rings workers idle sides home work are kept fine scans =
    let ring : IntakeValue → RingId = λ i. i.end.ring in
    let own : WorkerValue → RingId = λ w. w.intake.end.ring in
    let all = all_there page_rings entry_rings workers idle sides are in
    let front : length (map own workers) ≡ 16 - length idle = let long = length-map workers own in omega (arith, long, all) in
    record {
      sixteen = sym (ap length are.intakes_are) ∙ length-map (intakes workers idle) ring ∙ are.sixteen;
      few = omega (arith, all);
      idle_are = sym (drop-append_seam (map own workers) (take_rings idle))
          ∙ ap (λ n. drop n (map own workers ++ take_rings idle)) front
          ∙ ap (drop (16 - length idle)) (sym (rings_of workers idle) ∙ are.intakes_are);
      sides_are = are.sides_are;
      eight = are.eight;
      fine = fine;
      scans = scans;
      kept = subst (λ (spools : List SpoolValue). IsKept [] sides spools work) (kept.lent scans)
          (scanning_kept workers [] sides home work scans (λ k worker at. absurd (cc)) kept);
    }

-- each worker has as many spools as there are indexes
pub spools_many :
    (specs : List KeySpecValue) (workers : List WorkerValue) → ((k : ℕ) (worker : WorkerValue) → slice_get workers k ≡ Some worker → HasOwnSpools specs worker)
    → length (workers_spools workers) ≡ length workers * length specs
spools_many specs workers own = flat_many (λ (w : WorkerValue). w.spools) (length specs) workers own

-- of workers that go on each could be back
pub each_back :
    (build : ℕ) (specs : List KeySpecValue) (workers : List WorkerValue) (rings : List RingId)
    → ((k : ℕ) (worker : WorkerValue) → slice_get workers k ≡ Some worker → slice_get rings k ≡ Some worker.intake.end.ring)
    → AreWorkers build specs false workers → All (KeepsLaws rings) workers
    → (k : ℕ) (worker : WorkerValue) → slice_get workers k ≡ Some worker → IsBack rings build specs k worker
each_back build specs workers rings their placed laws k worker at =
    let is = placed k worker at in
    record {
      number = is.number;
      ring = their k worker at;
      of_build = is.of_build;
      specs_are = is.specs_are;
      has_them = is.spools_are;
      own = ((all_at (KeepsLaws rings) workers k worker laws at).holding is.fine is.spools_are).many ∙ ap length is.specs_are;
    }

-- what is known where the workers of a build are lent
pub record IsLent (page_rings entry_rings : List RingId) (seen : BuildingValue) (work : WorkValue) : Type 0 where
  pub none : seen.spools ≡ []
  pub all : length seen.workers + length seen.idle ≡ 16
  pub back : (k : ℕ) (worker : WorkerValue) → slice_get seen.workers k ≡ Some worker → IsBack page_rings work.build work.specs k worker
  pub stays : StaysWithout page_rings entry_rings seen.idle seen.sides work
  -- there is room for their spools where there was room for all
  pub many : length (all_spools seen.workers seen.spools) ≡ (16 - length seen.idle) * length work.specs

pub is_lent :
    (page_rings entry_rings : List RingId) (old seen : BuildingValue) (work : WorkValue) → seen ≡ old → seen.work ≡ Some work → CanLend old
    → KeepsWork seen.workers seen.sides seen.spools seen.work → AreTakeEnds page_rings entry_rings (intakes seen.workers seen.idle) seen.sides
    → All (KeepsLaws page_rings) seen.workers → IsLent page_rings entry_rings seen work
is_lent page_rings entry_rings old seen work same runs can keeps are laws =
    let fine = still_fine old seen work can.work same runs can.runs can.fine can.scans keeps in
    let scans = still_scans old seen work can.work same runs can.runs can.fine can.scans keeps in
    let kept = work_kept old seen work can.work same runs can.runs can.fine can.scans keeps in
    let placed = subst (λ (handed : Bool). AreWorkers work.build work.specs handed seen.workers) scans kept.placed in
    let their = ring_at page_rings entry_rings seen.workers seen.idle seen.sides are in
    let each = each_back work.build work.specs seen.workers page_rings their placed laws in
    let there = all_there page_rings entry_rings seen.workers seen.idle seen.sides are in
    record {
      none = kept.lent scans;
      all = there;
      back = each;
      stays = stays_without page_rings entry_rings seen.workers seen.idle seen.sides seen.spools work are kept fine scans;
      many = ap (λ (l : List SpoolValue). length (all_spools seen.workers l)) (kept.lent scans)
          ∙ spools_many work.specs seen.workers (λ k worker at. (each k worker at).own)
          ∙ ap (λ n. n * length work.specs) (let place : length seen.workers ≡ 16 - length seen.idle = omega (arith, there) in place);
    }

-- what gives each element at its place
fronts :
    {X Y : Type 0} (f : X → Y) (xs : List X) (ys : List Y) → ((k : ℕ) (x : X) → slice_get xs k ≡ Some x → slice_get ys k ≡ Some (f x))
    → map f xs ≡ take (length xs) ys
fronts f [] ys at = refl
fronts f (x ∷ xs) [] at = absurd (let bad = at 0 x refl in cc)
fronts f (x ∷ xs) (y ∷ ys) at = ap₂ ◌∷◌ (same_Some (f x) y (sym (at 0 x refl))) (fronts f xs ys (λ k z there. at (suc k) z there))

-- the ends are all there again
pub ends_back :
    (page_rings entry_rings : List RingId) (workers : List WorkerValue) (idle : List IntakeValue) (sides : List (TakeEnd Entry)) (work : WorkValue)
    → StaysWithout page_rings entry_rings idle sides work → length workers + length idle ≡ 16
    → ((k : ℕ) (worker : WorkerValue) → slice_get workers k ≡ Some worker → slice_get page_rings k ≡ Some worker.intake.end.ring)
    → AreTakeEnds page_rings entry_rings (intakes workers idle) sides
ends_back page_rings entry_rings workers idle sides work stays all their =
    let own : WorkerValue → RingId = λ w. w.intake.end.ring in
    let intake : WorkerValue → IntakeValue = λ w. w.intake in
    let front : map own workers ≡ take (length workers) page_rings = fronts own workers page_rings their in
    let place : 16 - length idle ≡ length workers = omega (arith, all) in
    record {
      intakes_are = rings_of workers idle
          ∙ ap₂ (λ (a b : List RingId). a ++ b) front (stays.idle_are ∙ ap (λ n. drop n page_rings) place)
          ∙ take-append-drop (length workers) page_rings;
      sides_are = stays.sides_are;
      sixteen = let long = length-append (map intake workers) idle in let many = length-map workers intake in omega (arith, long, many, all);
      eight = stays.eight;
    }

-- where no fault is the lowest, none was stopped
none_stopped : (workers : List WorkerValue) → lowest_fault workers ≡ None → (k : ℕ) (worker : WorkerValue) → slice_get workers k ≡ Some worker → worker.fault ≡ None
none_stopped [] none k worker at = absurd (cc)
none_stopped (w ∷ ws) none zero worker at =
    ap (λ (v : WorkerValue). v.fault) (sym (same_Some w worker at)) ∙ (both_none w.fault (lowest_fault ws) none).0
none_stopped (w ∷ ws) none (suc k) worker at = none_stopped ws (both_none w.fault (lowest_fault ws) none).1 k worker at

-- the work goes on, unless one was stopped
pub work_back :
    (page_rings entry_rings : List RingId) (workers : List WorkerValue) (idle : List IntakeValue) (sides : List (TakeEnd Entry)) (work : WorkValue)
    → StaysWithout page_rings entry_rings idle sides work
    → ((k : ℕ) (worker : WorkerValue) → slice_get workers k ≡ Some worker → IsBack page_rings work.build work.specs k worker)
    → KeepsWork workers sides [] (Some (record work { spoiled = lowest_fault workers }))
work_back page_rings entry_rings workers idle sides work stays back = λ fine.
    let on : IsKept workers sides [] work =
    scanning_kept [] workers sides [] work stays.scans (λ k worker at.
    let is = back k worker at in
    record {
      number = is.number;
      fine = none_stopped workers fine k worker at;
      of_build = is.of_build;
      specs_are = is.specs_are;
      spools_are = is.has_them ∙ sym stays.scans;
    }) stays.kept in
    record {
      many = on.many;
      placed = on.placed;
      indexes = on.indexes;
      lent = on.lent;
      unloaded = on.unloaded;
      handed = on.handed;
      columns = on.columns;
      once = on.once;
    }

-- a thread hands back the worker that it was lent
pub same_back :
    (rings : List RingId) (build : ℕ) (specs : List KeySpecValue) (place : ℕ) (old new : WorkerValue) → SameWorker old new → IsBack rings build specs place old
    → IsBack rings build specs place new
same_back rings build specs place old new same is =
    let stake : SpoolValue → _ = λ s. s.stake in
    record {
      number = same.number ∙ is.number;
      ring = is.ring ∙ ap Some (sym same.ring);
      of_build = same.build ∙ is.of_build;
      specs_are = same.specs ∙ is.specs_are;
      has_them = same.handed ∙ is.has_them;
      own = as_long stake stake new.spools old.spools same.stakes ∙ is.own;
    }

-- so all are back, where one of them did something by itself
pub all_back :
    (rings : List RingId) (rest : BuildingValue) (workers : List WorkerValue) (k : ℕ) (it after : WorkerValue) → slice_get workers k ≡ Some it → SameWorker it after
    → AreBack rings rest workers → AreBack rings rest (set workers k after)
all_back rings rest workers k it after at same back = record {
  work = back.work;
  runs = back.runs;
  all = ap (λ n. n + length rest.idle) (length-set workers k after) ∙ back.all;
  each = λ place worker there. elim (at_set workers k after place worker there) [
    | inl this ↦ rw (this.1, this.0) (same_back rings back.work.build back.work.specs k it after same (back.each k it at))
    | inr other ↦ back.each place worker other.1
  ];
}
