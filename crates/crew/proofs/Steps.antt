-- What the steps of a build under the lock leave.
use Rattle.std.proofs.Common.{◌≡◌, ◌≢◌, ℕ, ◌+◌, ◌≤◌, Bool, true, false, cond, List, [], ◌∷◌, ◌++◌, length, map, Option, Some, None, refl, sym, ap, ap₂, subst, ◌∙◌, inl, inr, arith}
use Rattle.std.specs.Prelude.{IfSome, is_some, not, IsSome}
use Rattle.std.specs.List.{list_all, slice_get}
use Rattle.std.specs.Option.{option_map}
use Rattle.std.proofs.lemmas.Bool.{cases_Bool}
use Rattle.std.proofs.lemmas.Option.{same_Some}
use Rattle.keybytes.proofs.FirstCause.{both_none}
use Rattle.keybytes.specs.Keys.{KeySpecValue}
use Rattle.keybytes.specs.Schemas.{same_kinds}
use Rattle.keybytes.specs.declared.fault.Fault.{Fault}
use Rattle.keybytes.specs.declared.fault.Fault.TheVariants.{BadCount, BuildRunning, Busy, Memory, NotLoaded, NotScanned}
use Rattle.keybytes.specs.declared.kind.Kind.{Kind}
use Rattle.heap_log.specs.declared.outcome.Outcome.{Outcome}
use Rattle.heap_log.specs.declared.record.LogRec.{LogRec}
use Rattle.heap_log.specs.declared.record.LogRec.TheVariants.{Switch as Noted}
use Rattle.heap_table.specs.HeapState.{HeapState, busy_txns}
use Rattle.build_events.specs.BuildSteps.{AreKeyed, OnBuild, Starts, Switches, behind_refusal, build_cause, busy_refusal, cause_if, counts_fit, start_refusal, started, switch_refusal}
use Rattle.build_events.specs.CoreState.{BuildState, CoreState, IndexState, LiveState, WorkState}
use Rattle.build_events.specs.Ranges.{open_range}
use Rattle.build_events.specs.Verdicts.{accepted, outcomes, verdict_on}
use Rattle.build_events.specs.Workers.{all_unapplied, all_unfed, unloaded_index}
use Rattle.build_events.specs.declared.plan.Plan.{Plan}
use Rattle.page_workers.proofs.Places.{same_at}
use Rattle.live_lemmas.proofs.LeftOver.{indexes_many}
use Rattle.live_lemmas.proofs.Settling.{unapplied_few}
use Rattle.live_lemmas.proofs.Starts.{has_counts}
use Rattle.live_lemmas.specs.Builds.{LiveValue, StandsBeside, core_state}
use Rattle.live_lemmas.specs.Settling.{IsSettled, entries_waiting, waiting_in}
use Rattle.live_lemmas.specs.Switching.{HandsOver, IsOnlyLookedAt, IsPartOf, KeepsOut, RefusesSwitch}
use Rattle.page_workers.specs.SpoolValue.{SpoolValue, stakes_of}
use Rattle.building.proofs.Looked.{lent_looked}
use Rattle.building.proofs.OneWorker.{the_work}
use Rattle.building.specs.BuildingValue.{BuildingValue, IndexValue, WorkValue, index_state, state_unless, work_state}
use Rattle.building.specs.Lent.{CanLend}
use Rattle.building.specs.WorkOn.{WorkMatches, IsWorkOfBuild}
use Rattle.ready_indexes.specs.Indexes.{index_now}
use Rattle.crew.specs.Reports.{EndsFor, IsOther}
use Rattle.crew.specs.Places.{GoesOnWith, stakes_beside}
use Rattle.crew.proofs.Others.{Holds, ends_all, ends_busy, ends_near, ends_other, holds_build, holds_first, holds_map, holds_none, other_memory, other_no_build, other_not_loaded, other_not_scanned, other_not_sealed}

-- what holds of the build that runs, and which that is
pub on_build : (o : Option BuildState) (P : BuildState → Type 0) → OnBuild o P → (b : BuildState) × P b × (o ≡ Some b)
on_build None P holds = absurd holds
on_build (Some b) P holds = (b, holds, refl)

-- what callers see of work tells why it can't go on, and of its indexes
spoiled_of : (o : Option Fault) (building : BuildingValue) (w : WorkValue) → (state_unless o building.workers w).spoiled ≡ o
spoiled_of None building w = refl
spoiled_of (Some fault) building w = refl

indexes_of : (o : Option Fault) (building : BuildingValue) (w : WorkValue) → (state_unless o building.workers w).indexes ≡ map index_state w.indexes
indexes_of None building w = refl
indexes_of (Some fault) building w = refl

pub spoiled_is : (building : BuildingValue) (w : WorkValue) → building.work ≡ Some w → (work_state building.workers building.work).spoiled ≡ w.spoiled
spoiled_is building w is = ap (λ (o : Option WorkValue). (work_state building.workers o).spoiled) is ∙ spoiled_of w.spoiled building w

pub indexes_are : (building : BuildingValue) (w : WorkValue) → building.work ≡ Some w → (work_state building.workers building.work).indexes ≡ map index_state w.indexes
indexes_are building w is = ap (λ (o : Option WorkValue). (work_state building.workers o).indexes) is ∙ indexes_of w.spoiled building w

-- where callers see no difference, the stakes are the same
pub same_beside : (live new_live : LiveValue) (building new : BuildingValue) → core_state new_live new ≡ core_state live building → stakes_beside new ≡ stakes_beside building
same_beside live new_live building new same = ap (λ (s : CoreState). s.spools.stakes) same

pub same_log : (live new_live : LiveValue) (building new : BuildingValue) → core_state new_live new ≡ core_state live building → new_live.state.heap.log ≡ live.state.heap.log
same_log live new_live building new same = ap (λ (s : CoreState). s.live.heap.log) same

-- The start.

unless_none : (b : Bool) (fault : Fault) → cause_if (not b) fault ≡ None → b ≡ true
unless_none true fault none = refl
unless_none false fault none = absurd (cc)

module _ (live new_live : LiveValue) (building new : BuildingValue) (plan : Plan) (pages : ℕ) (does : Starts plan (core_state live building) pages (core_state new_live new)) where
  pub started_stakes : stakes_beside new ≡ stakes_beside building
  started_stakes = ap (λ (s : CoreState). s.spools.stakes) does.1

  pub started_log : new_live.state.heap.log ≡ live.state.heap.log
  started_log = ap (λ (s : CoreState). s.live.heap.log) does.1

  build_is : new_live.state.build ≡ Some (started live.state plan)
  build_is = ap (λ (s : CoreState). s.live.build) does.1

  few_are : start_refusal live.state (core_state live building).spools plan ≡ None → length plan.specs.items ≤ 8
  few_are none =
      let columns = list_all (λ (spec : KeySpecValue). same_kinds spec.kinds live.state.heap.schema) plan.specs.items in
      let left = length (core_state live building).spools.left in
      let behind = both_none (cause_if (is_some live.state.build) BuildRunning) _ none in
      let counted = both_none (cause_if (not (counts_fit live.state left plan)) BadCount) _ behind.1 in
      (has_counts live.state left plan (unless_none (counts_fit live.state left plan) BadCount counted.0)).few_indexes

  pub started_goes_on :
      start_refusal live.state (core_state live building).spools plan ≡ None → StandsBeside new_live new → CanLend new → GoesOnWith 0 plan.specs.items new
  started_goes_on none works can =
      let kinds : List Kind = new_live.state.heap.schema in
      let log : List LogRec = new_live.state.heap.log in
      let on : IsWorkOfBuild kinds log (started live.state plan) can.work =
      subst (λ (o : Option BuildState). WorkMatches kinds log o (Some can.work)) build_is (subst (WorkMatches kinds log new_live.state.build) can.runs works.work) in
      record {
        work = can.work;
        runs = can.runs;
        specs_are = sym on.specs;
        few = few_are none;
        many = on.many;
        fine = can.fine;
        loaded = λ k index less at. absurd (omega arith);
      }

-- Work that goes on.

-- it goes on with other work of the same indexes
pub goes_with :
    (count : ℕ) (specs : List KeySpecValue) (building new : BuildingValue) (on : GoesOnWith count specs building) (w : WorkValue) → new.work ≡ Some w
    → w.specs ≡ on.work.specs → w.indexes ≡ on.work.indexes → w.spoiled ≡ on.work.spoiled → GoesOnWith count specs new
goes_with count specs building new on w runs same_specs same_indexes same_spoiled = record {
  work = w;
  runs = runs;
  specs_are = same_specs ∙ on.specs_are;
  few = on.few;
  many = ap length same_indexes ∙ on.many;
  fine = same_spoiled ∙ on.fine;
  loaded = λ k index less at. on.loaded k index less (ap (λ (l : List IndexValue). slice_get l k) (sym same_indexes) ∙ at);
}

-- the same work
pub goes_same : (count : ℕ) (specs : List KeySpecValue) (building new : BuildingValue) → new.work ≡ building.work → GoesOnWith count specs building → GoesOnWith count specs new
goes_same count specs building new same on = goes_with count specs building new on on.work (same ∙ on.runs) refl refl refl

-- The end of the scans.

pub scan_ended :
    (live new_live : LiveValue) (building new : BuildingValue) → IfSome building.work (λ w. w.handed ≡ false → HandsOver live building new_live new)
    → IfSome building.work (λ w. w.handed ≡ true → IsOnlyLookedAt live building new_live new)
    → (count : ℕ) (specs : List KeySpecValue) → GoesOnWith count specs building → GoesOnWith count specs new
scan_ended live new_live building new first again count specs on =
    let hands = subst (λ (o : Option WorkValue). IfSome o (λ w. w.handed ≡ false → HandsOver live building new_live new)) on.runs first in
    let looks = subst (λ (o : Option WorkValue). IfSome o (λ w. w.handed ≡ true → IsOnlyLookedAt live building new_live new)) on.runs again in
    elim (cases_Bool on.work.handed) [
      | inl handed ↦ goes_same count specs building new (ap (λ (b : BuildingValue). b.work) (looks handed).rest) on
      | inr scans ↦
          let over = hands scans in
          let seen : over.seen.work ≡ building.work = ap (λ (b : BuildingValue). b.work) over.looked.rest in
          let its : over.handed.work ≡ on.work = the_work over.seen.work over.handed.work on.work over.handed.runs (seen ∙ on.runs) in
          goes_with count specs building new on (record over.handed.work { handed = true }) (ap (λ (b : BuildingValue). b.work) over.handed.left)
          (ap (λ (w : WorkValue). w.specs) its) (ap (λ (w : WorkValue). w.indexes) its) (ap (λ (w : WorkValue). w.spoiled) its)
    ]

if_loaded : (in_order : Bool) (o : Option ℕ) → Holds IsOther (cond in_order (option_map NotLoaded o) None)
if_loaded true o = holds_map IsOther NotLoaded o other_not_loaded
if_loaded false o = holds_none IsOther

-- what keeps a build out that goes on
pub kept_out :
    (in_order : Bool) (live : LiveValue) (building : BuildingValue) (fault : Fault) (w : WorkValue) → building.work ≡ Some w → w.spoiled ≡ None
    → KeepsOut in_order live building fault → IsOther fault
kept_out in_order live building fault w runs fine (inl foreign) = subst IsOther (sym foreign.no_build) other_no_build
kept_out in_order live building fault w runs fine (inr (inl early)) =
    let spoiled = (core_state live building).work.spoiled in
    let none : spoiled ≡ None = spoiled_is building w runs ∙ fine in
    holds_build IsOther live.state.build _ other_no_build (λ b.
    holds_first IsOther spoiled _ (subst (Holds IsOther) (sym none) (holds_none IsOther))
    (holds_first IsOther (option_map NotScanned (open_range b)) _ (holds_map IsOther NotScanned (open_range b) other_not_scanned)
    (if_loaded in_order (unloaded_index (core_state live building).work)))) fault early.cause
kept_out in_order live building fault w runs fine (inr (inr left)) = subst IsOther (sym left.not_sealed) (other_not_sealed left.worker)

-- The switch.

-- the indexes of these specifications were decided over the rows of the log, which ends with that now
pub record HasSwitched (specs : List KeySpecValue) (old new : LiveState) (number : ℕ) (verdicts : List Outcome) : Type 0 where
  pub numbered : number ≡ length old.heap.log + 1
  pub logged : new.heap.log ≡ old.heap.log ++ Noted verdicts ∷ []
  pub right : verdicts ≡ outcomes (length old.ready) (map (verdict_on old.heap.log) specs)
  pub keyed : AreKeyed old.heap.log specs
  pub ready : new.ready ≡ old.ready ++ map (index_now old.heap.log) (accepted old.heap.log specs)

pub has_switched :
    (live new_live : LiveValue) (building new : BuildingValue) (w : WorkValue) (told : ℕ × List Outcome) → building.work ≡ Some w → IsPartOf live building
    → Switches (core_state live building) told (core_state new_live new) → HasSwitched w.specs live.state new_live.state told.0 told.1
has_switched live new_live building new w told runs part does =
    let on = on_build live.state.build _ does in
    let b : BuildState = on.0 in
    let its : part.of.work ≡ w = the_work building.work part.of.work w part.of.there runs in
    let own : part.of.build ≡ b = same_Some part.of.build b (sym part.of.runs ∙ on.2) in
    let specs : b.specs ≡ w.specs = ap (λ (x : BuildState). x.specs) (sym own) ∙ part.of.specs ∙ ap (λ (x : WorkValue). x.specs) its in
    let log : List LogRec = live.state.heap.log in
    let left = ap (λ (s : CoreState). s.live) on.1.2 in
    record {
      numbered = on.1.0;
      logged = ap (λ (l : LiveState). l.heap.log) left ∙ ap (λ (vs : List Outcome). log ++ Noted vs ∷ []) (sym on.1.1);
      right = on.1.1 ∙ ap (λ (xs : List KeySpecValue). outcomes (length live.state.ready) (map (verdict_on log) xs)) specs;
      keyed = subst (AreKeyed log) specs on.1.3;
      ready = ap (λ (l : LiveState). l.ready) left ∙ ap (λ (xs : List KeySpecValue). live.state.ready ++ map (index_now log) (accepted log xs)) specs;
    }

pub switched_stakes :
    (live new_live : LiveValue) (building new : BuildingValue) (told : ℕ × List Outcome) → Switches (core_state live building) told (core_state new_live new)
    → stakes_beside new ≡ stakes_beside building
switched_stakes live new_live building new told does = let on = on_build live.state.build _ does in ap (λ (s : CoreState). s.spools.stakes) on.1.2

-- what a refused switch leaves of the log, of the ready indexes and of the stakes
pub record IsLeftSo (live new_live : LiveValue) (building new : BuildingValue) : Type 0 where
  pub log : new_live.state.heap.log ≡ live.state.heap.log
  pub ready : new_live.state.ready ≡ live.state.ready
  pub stakes : stakes_beside new ≡ stakes_beside building

left_looked : (live new_live : LiveValue) (building new : BuildingValue) → core_state new_live new ≡ core_state live building → IsLeftSo live new_live building new
left_looked live new_live building new same = record {
  log = same_log live new_live building new same;
  ready = ap (λ (s : CoreState). s.live.ready) same;
  stakes = same_beside live new_live building new same;
}

only_looked : (live new_live : LiveValue) (building new : BuildingValue) → IsOnlyLookedAt live building new_live new → IsLeftSo live new_live building new
only_looked live new_live building new looked = record {
  log = ap (λ (s : LiveState). s.heap.log) looked.state;
  ready = ap (λ (s : LiveState). s.ready) looked.state;
  stakes = ap₂ (λ (home lent : List SpoolValue). stakes_of (home ++ lent)) (ap (λ (b : BuildingValue). b.spools) looked.rest)
      (lent_looked building.workers new.workers looked.pages.same);
}

pub switch_left :
    (live new_live : LiveValue) (building new : BuildingValue) (fault : Fault) → RefusesSwitch live building fault new_live new → IsLeftSo live new_live building new
switch_left live new_live building new fault (inl out) = only_looked live new_live building new out.looked
switch_left live new_live building new fault (inr refused) = elim refused.refused [
  | inl cause ↦ left_looked live new_live building new cause.1
  | inr want ↦
      let on = on_build live.state.build _ want.2 in
      record {
        log = ap (λ (s : CoreState). s.live.heap.log) on.1.3;
        ready = ap (λ (s : CoreState). s.live.ready) on.1.3;
        stakes = ap (λ (s : CoreState). s.spools.stakes) on.1.3;
      }
]

-- there is work where a build runs, and it is that build's
pub work_there :
    (kinds : List Kind) (log : List LogRec) (o : Option BuildState) (b : BuildState) (m : Option WorkValue) → o ≡ Some b → WorkMatches kinds log o m
    → (w : WorkValue) × (m ≡ Some w) × IsWorkOfBuild kinds log b w
work_there kinds log o b None is work = absurd (let bad : WorkMatches kinds log (Some b) None = subst (λ (x : Option BuildState). WorkMatches kinds log x None) is work in bad)
work_there kinds log o b (Some w) is work = (w, refl, subst (λ (x : Option BuildState). WorkMatches kinds log x (Some w)) is work)

-- a switch that has to wait leaves the work as it was
waits_same :
    (live new_live : LiveValue) (building new : BuildingValue) → IsPartOf live building → StandsBeside new_live new → core_state new_live new ≡ core_state live building
    → (count : ℕ) (specs : List KeySpecValue) → GoesOnWith count specs building → GoesOnWith count specs new
waits_same live new_live building new part works same count specs on =
    let build : new_live.state.build ≡ Some part.of.build = ap (λ (s : CoreState). s.live.build) same ∙ part.of.runs in
    let left = work_there new_live.state.heap.schema new_live.state.heap.log new_live.state.build part.of.build new.work build works.work in
    let w : WorkValue = left.0 in
    let its : part.of.work ≡ on.work = the_work building.work part.of.work on.work part.of.there on.runs in
    let specs_are : w.specs ≡ specs = sym left.2.specs ∙ part.of.specs ∙ ap (λ (x : WorkValue). x.specs) its ∙ on.specs_are in
    let states : map index_state w.indexes ≡ map index_state on.work.indexes =
    sym (indexes_are new w left.1) ∙ ap (λ (s : CoreState). s.work.indexes) same ∙ indexes_are building on.work on.runs in
    record {
      work = w;
      runs = left.1;
      specs_are = specs_are;
      few = on.few;
      many = left.2.many ∙ ap length left.2.specs ∙ ap length specs_are;
      fine = sym (spoiled_is new w left.1) ∙ ap (λ (s : CoreState). s.work.spoiled) same ∙ spoiled_is building on.work on.runs ∙ on.fine;
      loaded = λ k index less at.
          let it = same_at index_state on.work.indexes w.indexes k index (sym states) at in
          sym (ap (λ (s : IndexState). s.loaded) it.2) ∙ on.loaded k it.0 less it.1;
    }

pub still_goes_on :
    (live new_live : LiveValue) (building new : BuildingValue) (fault : Fault) → RefusesSwitch live building fault new_live new → fault ≢ Memory
    → (count : ℕ) (specs : List KeySpecValue) → GoesOnWith count specs building → GoesOnWith count specs new
still_goes_on live new_live building new fault (inl out) other count specs on = goes_same count specs building new (ap (λ (b : BuildingValue). b.work) out.looked.rest) on
still_goes_on live new_live building new fault (inr refused) other count specs on = elim refused.refused [
  | inl cause ↦ waits_same live new_live building new refused.part refused.works cause.1 count specs on
  | inr want ↦ absurd (other want.1)
]

ends_of :
    (b : BuildState) (heap : HeapState) (work : WorkState) → work.spoiled ≡ None → all_unapplied b heap.log b.specs work.indexes ≤ 1024
    → Holds (EndsFor b.specs) (switch_refusal b heap work)
ends_of b heap work fine near =
    let P = EndsFor b.specs in
    let scanned = ends_all b.specs (option_map NotScanned (open_range b)) (holds_map IsOther NotScanned (open_range b) other_not_scanned) in
    let loaded = ends_all b.specs (option_map NotLoaded (unloaded_index work)) (holds_map IsOther NotLoaded (unloaded_index work) other_not_loaded) in
    holds_first P work.spoiled _ (subst (Holds P) (sym fine) (holds_none P))
    (holds_first P (option_map NotScanned (open_range b)) _ scanned
    (holds_first P (option_map NotLoaded (unloaded_index work)) _ loaded
    (holds_first P (behind_refusal (all_unapplied b heap.log b.specs work.indexes)) (busy_refusal b (length (busy_txns heap)))
    (ends_near b.specs (all_unapplied b heap.log b.specs work.indexes) near) (ends_busy b (length (busy_txns heap))))))

-- as many are left of a settled build as wait for it
near_by :
    (live : LiveValue) (building : BuildingValue) (b : BuildState) → live.state.build ≡ Some b → StandsBeside live building → IsSettled (core_state live building)
    → waiting_in live.state ≤ 1024 → all_unapplied b live.state.heap.log b.specs (core_state live building).work.indexes ≤ 1024
near_by live building b runs works settled few =
    let many = indexes_many live building b runs works in
    let left = unapplied_few (core_state live building) b runs many settled in
    let waiting : waiting_in live.state ≡ all_unfed b live.state.heap.log = ap (λ (o : Option BuildState). entries_waiting o live.state.heap.log) runs in
    omega (arith, left, waiting, few)

-- why a switch is refused whose build goes on, is settled, and has few entries left
pub switch_ends :
    (live new_live : LiveValue) (building new : BuildingValue) (fault : Fault) (w : WorkValue) → building.work ≡ Some w → w.spoiled ≡ None
    → StandsBeside live building → IsSettled (core_state live building) → waiting_in live.state ≤ 1024
    → RefusesSwitch live building fault new_live new → EndsFor w.specs fault
switch_ends live new_live building new fault w runs fine works settled few (inl out) = ends_other w.specs fault (kept_out true live building fault w runs fine out.cause)
switch_ends live new_live building new fault w runs fine works settled few (inr refused) = elim refused.refused [
  | inl cause ↦
      let b : BuildState = refused.part.of.build in
      let work = (core_state live building).work in
      let none : work.spoiled ≡ None = spoiled_is building w runs ∙ fine in
      let why : switch_refusal b live.state.heap work ≡ Some fault =
      sym (ap (λ (o : Option BuildState). build_cause o (λ x. switch_refusal x live.state.heap work)) refused.part.of.runs) ∙ cause.0 in
      let its : refused.part.of.work ≡ w = the_work building.work refused.part.of.work w refused.part.of.there runs in
      subst (λ (specs : List KeySpecValue). EndsFor specs fault) (refused.part.of.specs ∙ ap (λ (x : WorkValue). x.specs) its)
      (ends_of b live.state.heap work none (near_by live building b refused.part.of.runs works settled few) fault why)
  | inr want ↦ ends_other w.specs fault (subst IsOther (sym want.1) other_memory)
]

-- a build whose switch waits for transactions runs on
pub waits_running :
    (live new_live : LiveValue) (building new : BuildingValue) (fault : Fault) (w : WorkValue) → building.work ≡ Some w → w.spoiled ≡ None
    → RefusesSwitch live building fault new_live new → (count : ℕ) → fault ≡ Busy count → IsSome new_live.state.build
waits_running live new_live building new fault w runs fine (inl out) count busy =
    absurd ((kept_out true live building fault w runs fine out.cause).not_busy count busy)
waits_running live new_live building new fault w runs fine (inr refused) count busy = elim refused.refused [
  | inl cause ↦
      let build : new_live.state.build ≡ Some refused.part.of.build = ap (λ (s : CoreState). s.live.build) cause.1 ∙ refused.part.of.runs in
      subst IsSome (sym build) refl
  | inr want ↦ let both = sym want.1 ∙ busy in absurd (cc)
]

-- what is kept out for busy transactions is of the build that runs
part_busy :
    (in_order : Bool) (live : LiveValue) (building : BuildingValue) (fault : Fault) → KeepsOut in_order live building fault → (count : ℕ)
    → fault ≡ Busy count → IsPartOf live building
part_busy in_order live building fault (inl foreign) count busy = let both = sym foreign.no_build ∙ busy in absurd (cc)
part_busy in_order live building fault (inr (inl early)) count busy = early.part
part_busy in_order live building fault (inr (inr left)) count busy = left.part

-- busy transactions are a cause only beside a build that runs
pub busy_runs :
    (live new_live : LiveValue) (building new : BuildingValue) (fault : Fault) → RefusesSwitch live building fault new_live new → (count : ℕ)
    → fault ≡ Busy count → IsSome new_live.state.build
busy_runs live new_live building new fault (inl out) count busy =
    let part = part_busy true live building fault out.cause count busy in
    let build : new_live.state.build ≡ Some part.of.build = ap (λ (s : LiveState). s.build) out.looked.state ∙ part.of.runs in
    subst IsSome (sym build) refl
busy_runs live new_live building new fault (inr refused) count busy = elim refused.refused [
  | inl cause ↦
      let build : new_live.state.build ≡ Some refused.part.of.build = ap (λ (s : CoreState). s.live.build) cause.1 ∙ refused.part.of.runs in
      subst IsSome (sym build) refl
  | inr want ↦ let both = sym want.1 ∙ busy in absurd (cc)
]
