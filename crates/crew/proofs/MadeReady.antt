-- How many indexes a table made ready since it was opened.
use Rattle.std.proofs.Common.{◌≡◌, ℕ, zero, suc, ◌+◌, ◌<◌, ◌≤◌, Bool, cond, List, [], ◌∷◌, ◌++◌, length, map, Option, Some, None, Result, Ok, Err, length-append, append-nil, append_assoc, refl, sym, ap, ◌∙◌, inl, inr, arith}
use Rattle.std.specs.Prelude.{count_by, IfErr, OnOk}
use Rattle.std.specs.List.{slice_get}
use Rattle.std.proofs.lemmas.Bool.{le-ltb, lt-ltb}
use Rattle.std.proofs.lemmas.List.{length-map}
use Rattle.std.proofs.lemmas.List.Sums.{sum_by-cons, sum_by_push}
use Rattle.keybytes.specs.Keys.{KeySpecValue}
use Rattle.keybytes.specs.declared.fault.Fault.{Fault}
use Rattle.keybytes.specs.declared.fault.Fault.TheVariants.{BadCount, Memory}
use Rattle.heap_table.specs.HeapState.{HeapState, after_step}
use Rattle.heap_log.specs.declared.outcome.Outcome.{Outcome}
use Rattle.heap_log.specs.declared.outcome.Outcome.TheVariants.{Ready}
use Rattle.heap_log.specs.declared.record.LogRec.{LogRec}
use Rattle.heap_log.specs.declared.record.LogRec.TheVariants.{Switch, Undo}
use Rattle.unique_verdict.specs.Verdicts.{accepts}
use Rattle.unique_verdict.specs.declared.verdict.Verdict.{Verdict}
use Rattle.unique_verdict.specs.declared.verdict.Verdict.TheVariants.{Unique, Shared}
use Rattle.ready_indexes.specs.Indexes.{ReadyValue, index_now, ready_now}
use Rattle.build_events.specs.BuildSteps.{Switches}
use Rattle.build_events.specs.CoreState.{CoreState, LiveState}
use Rattle.build_events.specs.Verdicts.{accepted, next_number, outcome, outcomes, verdict_on}
use Rattle.live_lemmas.specs.Builds.{LiveValue, core_state}
use Rattle.building.specs.BuildingValue.{BuildingValue}
use Rattle.crew.specs.MadeReady.{HasIndex, HasMadeReady, LacksIndex, is_ready, ready_by}
use Rattle.crew.proofs.Steps.{on_build}

-- none, where nothing was written
pub none_made : (log : List LogRec) → HasMadeReady log log 0
none_made log = record { since = []; goes_on = sym (append-nil log); counted = refl }

-- with one record more
one_more :
    (opening log : List LogRec) (rec : LogRec) (ready : ℕ) → HasMadeReady opening log ready → HasMadeReady opening (log ++ rec ∷ []) (ready + ready_by rec)
one_more opening log rec ready had = record {
  since = had.since ++ rec ∷ [];
  goes_on = ap (λ (l : List LogRec). l ++ rec ∷ []) had.goes_on ∙ append_assoc opening had.since (rec ∷ []);
  counted = ap (λ (n : ℕ). n + ready_by rec) had.counted ∙ sym (sum_by_push ready_by had.since rec);
}

-- a record that makes none ready
pub one_written :
    (opening log new : List LogRec) (rec : LogRec) (ready now : ℕ) → ready_by rec ≡ 0 → new ≡ log ++ rec ∷ [] → now ≡ ready → HasMadeReady opening log ready
    → HasMadeReady opening new now
one_written opening log new rec ready now none is same had =
    let more = one_more opening log rec ready had in
    record {
      since = more.since;
      goes_on = is ∙ more.goes_on;
      counted = same ∙ sym (omega (arith, none)) ∙ more.counted;
    }

-- an index that is accepted is ready, and one that is refused is not
one_outcome :
    {X : Type 0} (verdict : Verdict) (x : X) (xs : List X) (number : ℕ) (others : List Outcome) → length xs ≡ count_by is_ready others
    → length (cond (accepts verdict) (x ∷ xs) xs) ≡ count_by is_ready (outcome number verdict ∷ others)
one_outcome Unique x xs number others same = let more = sum_by-cons (λ o. cond (is_ready o) 1 0) (Ready number) others in omega (arith, same, more)
one_outcome (Shared key first second) x xs number others same = same

-- as many are ready as are accepted
ready_are :
    (log : List LogRec) (number : ℕ) (specs : List KeySpecValue)
    → length (accepted log specs) ≡ count_by is_ready (outcomes number (map (verdict_on log) specs))
ready_are log number [] = refl
ready_are log number (spec ∷ specs) =
    let verdict = verdict_on log spec in
    let next = next_number number verdict in
    one_outcome verdict spec (accepted log specs) number (outcomes next (map (verdict_on log) specs)) (ready_are log next specs)

-- a switch adds those that it made ready
pub switched_more :
    (opening : List LogRec) (live new_live : LiveValue) (building new : BuildingValue) (told : ℕ × List Outcome)
    → Switches (core_state live building) told (core_state new_live new) → HasMadeReady opening live.state.heap.log (length live.state.ready)
    → HasMadeReady opening new_live.state.heap.log (length new_live.state.ready)
switched_more opening live new_live building new told does had =
    let on = on_build live.state.build _ does in
    let specs : List KeySpecValue = on.0.specs in
    let log : List LogRec = live.state.heap.log in
    let ready : ℕ = length live.state.ready in
    let verdicts = outcomes ready (map (verdict_on log) specs) in
    let added : List ReadyValue = map (index_now log) (accepted log specs) in
    let left = ap (λ (s : CoreState). s.live) on.1.2 in
    let more = one_more opening log (Switch verdicts) ready had in
    let many : length added ≡ count_by is_ready verdicts = length-map (accepted log specs) (index_now log) ∙ ready_are log ready specs in
    record {
      since = more.since;
      goes_on = ap (λ (l : LiveState). l.heap.log) left ∙ more.goes_on;
      counted = ap (λ (l : LiveState). length l.ready) left ∙ length-append live.state.ready added ∙ ap (λ (n : ℕ). ready + n) many ∙ more.counted;
    }

-- a change of a row makes none ready
pub rows_made :
    (opening : List LogRec) (old new : LiveState) (rec : LogRec) → ready_by rec ≡ 0 → new.heap.log ≡ old.heap.log ++ rec ∷ []
    → new.ready ≡ ready_now new.heap.log old.ready → HasMadeReady opening old.heap.log (length old.ready)
    → HasMadeReady opening new.heap.log (length new.ready)
rows_made opening old new rec none log ready had =
    one_written opening old.heap.log new.heap.log rec (length old.ready) (length new.ready) none log
    (ap length ready ∙ length-map old.ready (λ (index : ReadyValue). index_now new.heap.log index.spec)) had

-- nor does an undo step
pub undo_made :
    (opening : List LogRec) (old new : LiveState) (txn : ℕ) (newest : Option ℕ) → new.heap ≡ after_step old.heap txn newest
    → new.ready ≡ ready_now new.heap.log old.ready → HasMadeReady opening old.heap.log (length old.ready)
    → HasMadeReady opening new.heap.log (length new.ready)
undo_made opening old new txn (Some n) heap ready had = rows_made opening old new (Undo txn n) refl (ap (λ (h : HeapState). h.log) heap) ready had
undo_made opening old new txn None heap ready had =
    let log : new.heap.log ≡ old.heap.log = ap (λ (h : HeapState). h.log) heap in
    let many : length new.ready ≡ length old.ready =
    ap length ready ∙ length-map old.ready (λ (index : ReadyValue). index_now new.heap.log index.spec) in
    record { since = had.since; goes_on = log ∙ had.goes_on; counted = many ∙ had.counted }

-- A copy of a ready index, by its number.
module _ (opening log : List LogRec) (ready number : ℕ) (made : HasMadeReady opening log ready) where
  pub has_index : {X : Type 0} (result : Result X Fault) → number < ready → OnOk result (HasIndex opening log number)
  has_index (Ok copy) within = (ready, made, within)
  has_index (Err fault) within = tt

  -- of one that is there only memory may be wanted
  pub lacks_memory :
      {X : Type 0} (result : Result X Fault) → number < ready → IfErr result (λ fault. fault ≡ Memory) → IfErr result (LacksIndex opening log number)
  lacks_memory (Ok copy) within memory = tt
  lacks_memory (Err fault) within memory = (ready, made, inr (ap (λ (less : Bool). cond less None (Some BadCount)) (lt-ltb number ready within), memory))

  pub lacks_index : ready ≤ number → LacksIndex opening log number BadCount
  lacks_index past = (ready, made, inl (ap (λ (less : Bool). cond less None (Some BadCount)) (le-ltb number ready past)))

pub past_end : {X : Type 0} (xs : List X) (i : ℕ) → slice_get xs i ≡ None → length xs ≤ i
past_end [] i none = omega arith
past_end (x ∷ xs) zero none = absurd (cc (none))
past_end (x ∷ xs) (suc i) none = let rest = past_end xs i none in omega (arith, rest)
