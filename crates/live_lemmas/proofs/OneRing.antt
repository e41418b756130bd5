-- The ends that put, where one of them changes.
use Rattle.std.proofs.Common.{◌≡◌, ℕ, ◌<◌, ◌≤◌, ◌==◌, ◌++◌, ◌∷◌, [], true, List, length, set, get_or, length-set, Option, Some, None, refl, sym, ap, ◌∙◌}
use Rattle.std.proofs.Common.{subst, arith}
use Rattle.std.specs.List.{All, slice_get}
use Rattle.std.proofs.lemmas.Bool.{eq-eqb}
use Rattle.std.proofs.lemmas.List.{map-set, get_or-set_same}
use Rattle.std.proofs.lemmas.List.Elements.{All-set, All-push}
use Rattle.keybytes.specs.declared.fault.Fault.TheVariants.{RingFull}
use Rattle.keybytes.specs.declared.kind.Kind.{Kind}
use Rattle.heap_log.specs.declared.record.LogRec.{LogRec}
use Rattle.heap_table.specs.Images.{ImageValue, IsImage}
use Rattle.heap_table.specs.Pages.{pages_written}
use Rattle.side_file.specs.Ends.{PutEnd, RingId}
use Rattle.side_file.specs.declared.entry.Entry.{Entry}
use Rattle.std.specs.Prelude.{Bool}
use Rattle.keybytes.specs.Keys.{KeySpecValue}
use Rattle.page_workers.specs.Copies.{IsFor}
use Rattle.page_workers.specs.WorkerValue.{WorkerValue}
use Rattle.page_workers.specs.declared.copied.Copied.{Copied}
use Rattle.live_lemmas.specs.Builds.{LiveValue, page_refusal, full_refusal, put_refusal, free_places}
use Rattle.building.specs.BuildingValue.{BuildingValue, WorkValue}
use Rattle.building.specs.WorkOn.{WorkersFollow}
use Rattle.table_scan.specs.TableBuilds.{BuildFollows}
use Rattle.build_events.specs.CoreState.{BuildState, LiveState}
use Rattle.build_events.specs.Ranges.{next_page, open_range}
use Rattle.building.specs.Rings.{all_sent, AreOfBuilds, AreSealed, AreTaking, IsWorkerOf}
use Rattle.live_lemmas.specs.Rings.{ArePut, ArePutEnds, HasPut}
use Rattle.build_events.specs.BuildSteps.{OnBuild}
use Rattle.page_workers.proofs.Places.{kept, all_at}
use Rattle.page_workers.proofs.Taking.{put_taking}
use Rattle.building.proofs.AtWork.{taking_put}
use Rattle.live_lemmas.proofs.Puts.{put_scanned}
use Rattle.build_events.proofs.ScanSteps.{scan_now}
use Rattle.table_scan.proofs.TableBuilds.{next_written}

-- the ends are of the same rings
pub put_ends_set :
    (page_rings entry_rings : List RingId) (pages : List (PutEnd Copied)) (sides : List (PutEnd Entry)) (i : ℕ) (new old : PutEnd Copied)
    → ArePutEnds page_rings entry_rings pages sides → old ≡ get_or pages i old → new.ring ≡ old.ring → ArePutEnds page_rings entry_rings (set pages i new) sides
put_ends_set page_rings entry_rings pages sides i new old are at same = record {
  pages_are = kept (λ (end : PutEnd Copied). end.ring) pages page_rings i new old are.pages_are (same ∙ ap (λ (end : PutEnd Copied). end.ring) at);
  sides_are = are.sides_are;
  eight = are.eight;
  sixteen = length-set pages i new ∙ are.sixteen;
}

-- where it put nothing, all that was sent is the same
pub sent_looked :
    (pages : List (PutEnd Copied)) (i : ℕ) (new old : PutEnd Copied) → old ≡ get_or pages i old → new.sent ≡ old.sent → all_sent (set pages i new) ≡ all_sent pages
sent_looked pages i new old at same =
    kept (λ (end : PutEnd Copied). end.sent) pages (all_sent pages) i new old refl (same ∙ ap (λ (end : PutEnd Copied). end.sent) at)

pub sent_put : (pages : List (PutEnd Copied)) (i : ℕ) (new : PutEnd Copied) → all_sent (set pages i new) ≡ set (all_sent pages) i new.sent
sent_put pages i new = map-set (λ (end : PutEnd Copied). end.sent) pages i new

-- the workers go on as before
pub workers_looked :
    (kinds : List Kind) (old new : List (PutEnd Copied)) (sides : List (PutEnd Entry)) (building : BuildingValue) (build : Option BuildState) (work : Option WorkValue)
    → all_sent new ≡ all_sent old → WorkersFollow kinds old sides building build work → WorkersFollow kinds new sides building build work
workers_looked kinds old new sides building None work same follow = tt
workers_looked kinds old new sides building (Some b) None same follow = tt
workers_looked kinds old new sides building (Some b) (Some w) same follow = record {
  fed = follow.fed;
  given = follow.given;
  many = follow.many;
  taking = λ fine. subst (λ (all : List (List Copied)). AreTaking b.number kinds w.specs w.handed all building.workers) (sym same) (follow.taking fine);
  lent = follow.lent;
  drained = λ fine handed.
      let was = follow.drained fine handed in
      (was.0, subst (λ (all : List (List Copied)). AreSealed all building.workers) (sym same) was.1);
  columns = follow.columns;
}

-- an end that knows no free place takes no copy
pub full_at : (pages : List (PutEnd Copied)) (i : ℕ) (end : PutEnd Copied) → slice_get pages i ≡ Some end → end.free ≡ 0 → full_refusal pages i ≡ Some RingFull
full_at pages i end there none =
    let full : (free_places (slice_get pages i) == 0) ≡ true = eq-eqb (free_places (slice_get pages i)) 0 (ap free_places there ∙ none) in
    rw full refl

pub put_full :
    (live : LiveValue) (range worker : ℕ) → page_refusal live.state range worker ≡ None → full_refusal live.pages worker ≡ Some RingFull
    → put_refusal live range worker ≡ Some RingFull
put_full live range worker free full = rw (free, full) refl

-- the page that comes next is one of the table's
pub next_below :
    (live : LiveState) (build : Option BuildState) (range worker page : ℕ) → OnBuild build (λ b. (next_page b range ≡ Some page) × (worker < b.workers))
    → BuildFollows live.heap.schema live.heap.log build → page < pages_written live.heap.log
next_below live None range worker page on follows = absurd on
next_below live (Some b) range worker page on follows = next_written live.heap.schema live.heap.log b range page follows on.0

-- its worker has a ring
pub worker_below :
    (live : LiveState) (build : Option BuildState) (range worker page : ℕ) → OnBuild build (λ b. (next_page b range ≡ Some page) × (worker < b.workers))
    → BuildFollows live.heap.schema live.heap.log build → worker < 16
worker_below live None range worker page on follows = absurd on
worker_below live (Some b) range worker page on follows = omega (arith, on.1, follows.few_workers)

-- a place that is written twice
pub written_twice : (pages : List (PutEnd Copied)) (i : ℕ) (first at : PutEnd Copied) → i < length pages → at ≡ get_or (set pages i first) i at → at ≡ first
written_twice pages i first at less is = is ∙ get_or-set_same pages i first at less

pub builds_put :
    (builds : ℕ) (all : List (List Copied)) (i : ℕ) (sent : List Copied) (copied : Copied) → slice_get all i ≡ Some sent → copied.build ≤ builds
    → AreOfBuilds builds all → AreOfBuilds builds (set all i (sent ++ copied ∷ []))
builds_put builds all i sent copied there few before =
    let Old : List Copied → Type 0 = λ xs. All (λ c. c.build ≤ builds) xs in
    All-set Old all i (sent ++ copied ∷ []) (All-push (λ c. c.build ≤ builds) sent copied (all_at Old all i sent before there) few) before

-- the rings where a page was copied for a build and its copy put
pub put_next :
    (kinds : List Kind) (log : List LogRec) (builds : ℕ) (b : BuildState) (all : List (List Copied)) (worker page records number : ℕ) (sent : List Copied)
    (image : ImageValue) → HasPut kinds log builds b all → slice_get all worker ≡ Some sent → records ≡ length log → number ≡ b.number
    → IsImage kinds log page image
    → HasPut kinds log builds (record b { scans = b.scans ++ record { worker = worker; page = page; records = records } ∷ [] })
    (set all worker (sent ++ record { build = number; image = image } ∷ []))
put_next kinds log builds b all worker page records number sent image is there now same copy = record {
  number = is.number;
  put =
      subst (λ (r : ℕ). ArePut kinds log (record b { scans = b.scans ++ record { worker = worker; page = page; records = r } ∷ [] })
      (set all worker (sent ++ record { build = number; image = image } ∷ []))) (sym now)
      (subst (λ (n : ℕ). ArePut kinds log (record b { scans = b.scans ++ scan_now worker page log ∷ [] })
      (set all worker (sent ++ record { build = n; image = image } ∷ []))) (sym same)
      (put_scanned kinds log b all worker page sent image there is.put copy));
}

-- one copy more is put for a worker
worker_put :
    (build : ℕ) (kinds : List Kind) (specs : List KeySpecValue) (handed : Bool) (sent : List Copied) (worker : WorkerValue)
    → IsWorkerOf build kinds specs handed sent worker → (copied : Copied) → IsFor build kinds copied
    → IsWorkerOf build kinds specs handed (sent ++ copied ∷ []) worker
worker_put build kinds specs handed sent worker it copied own = record {
  fine = it.fine;
  schema = it.schema;
  specs_are = it.specs_are;
  handed = it.handed;
  own = it.own;
  none = it.none;
  opened = it.opened;
  taking = put_taking build kinds sent worker.intake it.taking copied own;
}

-- a worker goes on taking what its ring is sent
pub workers_put :
    (kinds : List Kind) (pages : List (PutEnd Copied)) (sides : List (PutEnd Entry)) (building : BuildingValue) (b new : BuildState) (work : Option WorkValue)
    (i : ℕ) (sent : List Copied) (copied : Copied) (put : List (PutEnd Copied)) → WorkersFollow kinds pages sides building (Some b) work
    → slice_get (all_sent pages) i ≡ Some sent → all_sent put ≡ set (all_sent pages) i (sent ++ copied ∷ []) → IsFor b.number kinds copied
    → new.number ≡ b.number → new.workers ≡ b.workers → new.fed ≡ b.fed → (open_range b ≡ None → ⊥) → WorkersFollow kinds put sides building (Some new) work
workers_put kinds pages sides building b new None i sent copied put follow there is own number workers fed more = tt
workers_put kinds pages sides building b new (Some w) i sent copied put follow there is own number workers fed more = record {
  fed = rw fed follow.fed;
  given = follow.given;
  many = follow.many ∙ sym workers;
  taking = λ fine.
      rw (is, number) (taking_put b.number kinds w.specs w.handed (all_sent pages) building.workers i (sent ++ copied ∷ []) (follow.taking fine)
      (λ worker at. worker_put b.number kinds w.specs w.handed sent worker (follow.taking fine i sent worker there at) copied own));
  lent = follow.lent;
  drained = λ fine handed. absurd (more (follow.drained fine handed).0);
  columns = follow.columns;
}
