-- What a call leaves beside a table, put together from what its parts left.
use Rattle.std.proofs.Common.{◌≡◌, ℕ, zero, suc, true, ◌==◌, ◌*◌, ◌<◌, length, Bool, false, ◌&&◌, List, [], ◌∷◌, ◌++◌, All, map, set, Option, Some, None}
use Rattle.std.proofs.Common.{refl, sym, ap, ◌∙◌, subst, ap₂, append-nil}
use Rattle.std.specs.Prelude.{is_some}
use Rattle.std.specs.List.{list_all, slice_get}
use Rattle.spool_ledger.specs.Accounts.{Stake}
use Rattle.keybytes.specs.declared.fault.Fault.{Fault}
use Rattle.keybytes.specs.declared.pair.Pair.{Pair}
use Rattle.run_spool.specs.Spools.{AreSorted, holds_nothing}
use Rattle.page_workers.specs.SpoolValue.{SpoolValue, pairs_in, runs_of, spool_value, stakes_of}
use Rattle.side_file.specs.Ends.{TakeEnd}
use Rattle.page_workers.specs.WorkerValue.{WorkerValue}
use Rattle.side_file.specs.declared.entry.Entry.{Entry}
use Rattle.catch_up.specs.Built.{BuiltValue}
use Rattle.index_load.specs.Columns.{column, other_columns, ended_column}
use Rattle.bulk_load.specs.Each.{AreEachOnce}
use Rattle.building.specs.BuildingValue.{BuildingValue, WorkValue, IndexValue, IsUnloaded, with_index, is_unique}
use Rattle.building.specs.Holding.{all_spools, workers_spools, spools_state, spools_in}
use Rattle.building.specs.Keeping.{IsKept, KeepsWork}
use Rattle.building.specs.Working.{CanLoad, LoadStopped}
use Rattle.building.proofs.OneWorker.{the_work}
use Rattle.std.proofs.lemmas.Bool.{and_parts, eqb-true}
use Rattle.std.proofs.lemmas.List.{map-append, nil_from_length}
use Rattle.std.proofs.lemmas.Option.{same_Some}
use Rattle.page_workers.proofs.Places.{mapped}

-- a test of each that was taken already
each_tested : {X : Type 0} (test : X → Bool) (xs : List X) → list_all test xs ≡ list_all (λ is_so. is_so) (map test xs)
each_tested test [] = refl
each_tested test (x ∷ xs) = ap (λ rest. test x && rest) (each_tested test xs)

-- spools that no build was given are left for the next one
pub left_seen :
    {S : Type 0} (runs : S → List (List Pair)) (open_run : S → List Pair) (stake : S → Option Stake) (given : Bool) (spools : List S) → given ≡ false
    → list_all (λ (s : S). holds_nothing (runs s) (open_run s)) spools
    ≡ list_all (λ is_empty. is_empty) (spools_state given (map (spool_value runs open_run stake) spools)).left
left_seen {S = S} runs open_run stake given spools none =
    let empty : SpoolValue → Bool = λ s. holds_nothing s.runs s.open_run in
    rw none (each_tested (λ (s : S). holds_nothing (runs s) (open_run s)) spools
    ∙ ap (list_all (λ is_empty. is_empty)) (sym (mapped (spool_value runs open_run stake) empty spools)))

-- where no worker is, no other spools are
pub at_home : (workers : List WorkerValue) (spools : List SpoolValue) → workers ≡ [] → all_spools workers spools ≡ spools
at_home workers spools none = ap (λ (ws : List WorkerValue). all_spools ws spools) none ∙ append-nil spools

-- spools beside those that the workers have
pub stakes_beside :
    (workers : List WorkerValue) (a b : List SpoolValue) → stakes_of a ≡ stakes_of b → stakes_of (all_spools workers a) ≡ stakes_of (all_spools workers b)
stakes_beside workers a b same =
    let stake : SpoolValue → Option Stake = λ s. s.stake in
    map-append stake a (workers_spools workers) ∙ ap (λ (l : List (Option Stake)). l ++ stakes_of (workers_spools workers)) same ∙ sym (map-append stake b (workers_spools workers))

-- what is asked of work and spools for a load of an index
pub record CanSort (index : ℕ) (work : WorkValue) (workers : List WorkerValue) (sides : List (TakeEnd Entry)) (spools : List SpoolValue) : Type 0 where
  pub there : index < length work.specs
  pub many : length work.indexes ≡ length work.specs
  pub loads : work.handed ≡ true
  pub kept : IsKept workers sides spools work
  pub lent : length spools ≡ length workers * length work.specs
  pub sorted : IsUnloaded index work → All AreSorted (runs_of (column index (length work.specs) spools))
  pub once : IsUnloaded index work → AreEachOnce (pairs_in (column index (length work.specs) spools))

-- the work of the build that runs, as it was seen
module _ (old seen : BuildingValue) (work held : WorkValue) (same : seen ≡ old) (runs : seen.work ≡ Some work) (is : held ≡ work) where
  its_work : old.work ≡ Some work
  its_work = ap (λ (b : BuildingValue). b.work) (sym same) ∙ runs

  -- a load that is refused spoils it
  pub load_stopped :
      (index : ℕ) (fault : Fault) (spools : List SpoolValue) → stakes_of spools ≡ stakes_of seen.spools
      → other_columns index (length work.specs) spools ≡ other_columns index (length work.specs) seen.spools
      → LoadStopped index old fault (record seen { spools = spools; work = Some (record held { spoiled = Some fault }) })
  load_stopped index fault spools stakes others = record {
    work = work;
    runs = its_work;
    spools = spools;
    stakes = stakes ∙ ap (λ (b : BuildingValue). stakes_of b.spools) same;
    others = others ∙ ap (λ (b : BuildingValue). other_columns index (length work.specs) b.spools) same;
    left = rw (same, is) refl;
  }

  -- the pairs of an index are put in order
  pub left_sorted :
      (index : ℕ) (spools : List SpoolValue) (built : BuiltValue) → spools ≡ ended_column index (length work.specs) seen.spools → built.build ≡ held.build → built.unique ≡ is_unique (slice_get held.specs index)
      → record seen { spools = spools; work = Some (record held { indexes = set held.indexes index (record { built = Some built; applied = 0 }) }) }
      ≡ record old { spools = ended_column index (length work.specs) old.spools; work = Some (with_index work index built.pairs 0) }
  left_sorted index spools built ended number unique =
      rw (ended, same, is) (ap₂ of_build (number ∙ ap (λ (w : WorkValue). w.build) is) (unique ∙ ap (λ (w : WorkValue). is_unique (slice_get w.specs index)) is)) where
        of_build : ℕ → Bool → BuildingValue
        of_build n tallied = record old {
          spools = ended_column index (length work.specs) old.spools;
          work = Some (record work {
            indexes = set work.indexes index (record { built = Some (record { build = n; unique = tallied; pairs = built.pairs }); applied = 0 });
          });
        }

  -- its pairs can be put in order
  pub can_load :
      (index : ℕ) → KeepsWork seen.workers seen.sides seen.spools seen.work → CanLoad index old → CanSort index work seen.workers seen.sides seen.spools
  can_load index keeps can =
      let it : can.work ≡ work = the_work old.work can.work work can.runs its_work in
      let fine : work.spoiled ≡ None = ap (λ (w : WorkValue). w.spoiled) (sym it) ∙ can.fine in
      let loads : work.handed ≡ true = ap (λ (w : WorkValue). w.handed) (sym it) ∙ can.loads in
      let there : index < length work.specs = subst (λ (w : WorkValue). index < length w.specs) it can.there in
      let kept : IsKept seen.workers seen.sides seen.spools work =
      subst (λ (o : Option WorkValue). KeepsWork seen.workers seen.sides seen.spools o) runs keeps fine in
      record {
        there = there;
        many = kept.many;
        loads = loads;
        kept = kept;
        lent = (kept.columns loads).many;
        sorted = λ none. (kept.columns loads).sorted index there none;
        once = kept.once loads index there;
      }

-- pairs that aren't in order are in no tree
no_tree : (built : Option BuiltValue) → false ≡ is_some built → built ≡ None
no_tree None none = refl
no_tree (Some built) none = absurd (cc)

pub is_unloaded :
    (work : WorkValue) (index : ℕ) → ((it : IndexValue) → slice_get work.indexes index ≡ Some it → false ≡ is_some it.built) → IsUnloaded index work
is_unloaded work index none it at = no_tree it.built (none it at)

-- spools as they are handed in, while no build has workers
pub spools_handed :
    {S : Type 0} (runs : S → List (List Pair)) (open_run : S → List Pair) (stake : S → Option Stake) (spools : List S)
    → spools_state false (all_spools [] (map (spool_value runs open_run stake) spools)) ≡ spools_in runs open_run stake spools
spools_handed runs open_run stake spools =
    ap (spools_state false) (append-nil (map (spool_value runs open_run stake) spools))
    ∙ ap₂ (λ (stakes : List (Option Stake)) (left : List Bool). record { stakes = stakes; left = left })
    (mapped (spool_value runs open_run stake) (λ (s : SpoolValue). s.stake) spools)
    (mapped (spool_value runs open_run stake) (λ (s : SpoolValue). holds_nothing s.runs s.open_run) spools)

-- spools that hold nothing
pub each_empty :
    (spools : List SpoolValue) → list_all (λ is_empty. is_empty) (map (λ (s : SpoolValue). holds_nothing s.runs s.open_run) spools) ≡ true
    → (k : ℕ) (spool : SpoolValue) → slice_get spools k ≡ Some spool → (spool.runs ≡ []) × (spool.open_run ≡ [])
each_empty [] all k spool at = absurd (cc)
each_empty (s ∷ ss) all zero spool at =
    let both = and_parts (holds_nothing s.runs s.open_run) (list_all (λ is_empty. is_empty) (map (λ (s : SpoolValue). holds_nothing s.runs s.open_run) ss)) all in
    let parts = and_parts (length s.runs == 0) (length s.open_run == 0) both.0 in
    let same : s ≡ spool = same_Some s spool at in
    subst (λ (v : SpoolValue). (v.runs ≡ []) × (v.open_run ≡ [])) same
    (nil_from_length s.runs (eqb-true (length s.runs) 0 parts.0), nil_from_length s.open_run (eqb-true (length s.open_run) 0 parts.1))
each_empty (s ∷ ss) all (suc k) spool at =
    let both = and_parts (holds_nothing s.runs s.open_run) (list_all (λ is_empty. is_empty) (map (λ (s : SpoolValue). holds_nothing s.runs s.open_run) ss)) all in
    each_empty ss both.1 k spool at
