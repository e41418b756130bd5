-- What a switch under the lock reports.
use Rattle.std.proofs.Common.{◌≡◌, ◌≢◌, ℕ, ◌≤◌, Bool, true, List, [], ◌∷◌, ◌++◌, length, length-append, map, drop, Option, Some, None, refl, sym, ap, subst, ◌∙◌, arith}
use Rattle.std.specs.Prelude.{IfSome, IsSome}
use Rattle.keybytes.specs.declared.fault.Fault.{Fault}
use Rattle.keybytes.specs.declared.fault.Fault.TheVariants.{Busy}
use Rattle.keybytes.specs.declared.pair.Pair.{Pair}
use Rattle.heap_log.specs.declared.outcome.Outcome.{Outcome}
use Rattle.heap_log.specs.declared.record.LogRec.{LogRec}
use Rattle.heap_log.specs.declared.record.LogRec.TheVariants.{Switch}
use Rattle.build_events.specs.BuildSteps.{Switches, fenced}
use Rattle.live_lemmas.specs.Builds.{LiveValue, StandsBeside, core_state}
use Rattle.live_lemmas.specs.Settling.{IsSettled, waiting_in}
use Rattle.live_lemmas.specs.Switching.{IsPartOf, RefusesSwitch}
use Rattle.building.specs.BuildingValue.{BuildingValue, WorkValue}
use Rattle.ready_indexes.specs.Indexes.{ReadyValue}
use Rattle.crew.specs.Fencing.{RefusesToSwitch}
use Rattle.crew.specs.MadeReady.{HasMadeReady}
use Rattle.crew.specs.Reports.{EndsFor, IsReport}
use Rattle.crew.proofs.Reported.{is_report}
use Rattle.crew.proofs.Steps.{busy_runs, has_switched, on_build, switch_ends, waits_running}

-- what is so of work that there is
pub of_work : (o : Option WorkValue) (P : WorkValue → Type 0) → ((w : WorkValue) → o ≡ Some w → P w) → IfSome o P
of_work None P each = tt
of_work (Some w) P each = each w refl

module _
    (live new_live : LiveValue) (building new : BuildingValue) (number : ℕ) (verdicts : List Outcome) (rec : LogRec) (known receipt : List LogRec)
    (part : IsPartOf live building) (does : Switches (core_state live building) (number, verdicts) (core_state new_live new)) (its : rec ≡ Switch verdicts)
    (knows : known ≡ live.state.heap.log) (told : receipt ≡ known ++ rec ∷ [])
    (opening : List LogRec) (had : HasMadeReady opening live.state.heap.log (length live.state.ready)) where
  receipt_is : receipt ≡ live.state.heap.log ++ Switch verdicts ∷ []
  receipt_is =
      told ∙ ap (λ (log : List LogRec). log ++ rec ∷ []) knows ∙ ap (λ (r : LogRec). live.state.heap.log ++ r ∷ []) its

  pub switched_report :
      (first : ℕ) (pairs : Option (List (List Pair))) → first ≡ length live.state.ready
      → IfSome pairs (λ lists. lists ≡ map (λ (it : ReadyValue). it.pairs) (drop first new_live.state.ready))
      → IfSome building.work (λ w. IsReport opening w.specs receipt verdicts pairs)
  switched_report first pairs from copies = of_work building.work (λ w. IsReport opening w.specs receipt verdicts pairs) (λ w runs.
      let switched = has_switched live new_live building new w (number, verdicts) runs part does in
      let behind = subst (λ n. IfSome pairs (λ lists. lists ≡ map (λ (it : ReadyValue). it.pairs) (drop n new_live.state.ready))) from copies in
      subst (λ (log : List LogRec). IsReport opening w.specs log verdicts pairs) (sym receipt_is)
      (is_report live.state.heap.log verdicts opening live.state.ready new_live.state.ready w.specs pairs had
      switched.right switched.keyed switched.ready behind))

  -- it is answered with the number of its record, the last one that the receipt knows
  pub switched_so : Switches (core_state live building) (length receipt, verdicts) (core_state new_live new)
  switched_so =
      let on = on_build live.state.build _ does in
      let counted : number ≡ length receipt =
      omega (arith, on.1.0, ap length receipt_is, length-append live.state.heap.log (Switch verdicts ∷ [])) in
      subst (λ n. Switches (core_state live building) (n, verdicts) (core_state new_live new)) counted does

-- why it is refused
pub switch_ends_for :
    (live new_live : LiveValue) (building new : BuildingValue) (fault : Fault) → StandsBeside live building → IsSettled (core_state live building)
    → waiting_in live.state ≤ 1024 → RefusesSwitch live building fault new_live new → IfSome building.work (λ w. w.spoiled ≡ None → EndsFor w.specs fault)
switch_ends_for live new_live building new fault works settled few refused =
    of_work building.work (λ w. w.spoiled ≡ None → EndsFor w.specs fault) (λ w runs fine.
    switch_ends live new_live building new fault w runs fine works settled few refused)

-- where it waits for transactions, the fence that is set for a build that runs is set
pub switch_fences :
    (live new_live : LiveValue) (building new : BuildingValue) (fault : Fault) (fenced : Bool) → RefusesSwitch live building fault new_live new
    → (IsSome new_live.state.build → (count : ℕ) → fault ≡ Busy count → fenced ≡ true)
    → IfSome building.work (λ w. w.spoiled ≡ None → (count : ℕ) → fault ≡ Busy count → fenced ≡ true)
switch_fences live new_live building new fault fenced refused sets =
    of_work building.work (λ w. w.spoiled ≡ None → (count : ℕ) → fault ≡ Busy count → fenced ≡ true) (λ w runs fine count busy.
    sets (waits_running live new_live building new fault w runs fine refused count busy) count busy)

-- what it leaves where the fence is set for busy transactions beside a build that runs
pub switch_left_so :
    (live left new_live : LiveValue) (building new : BuildingValue) (fault : Fault) → RefusesSwitch live building fault left new
    → (IsSome left.state.build → (count : ℕ) → fault ≡ Busy count → new_live ≡ record left { state = fenced left.state })
    → (((count : ℕ) → fault ≢ Busy count) → new_live ≡ left) → RefusesToSwitch live building fault new_live new
switch_left_so live left new_live building new fault refused busy other = record {
  left = left;
  refused = refused;
  fences = record { busy = λ count is. busy (busy_runs live left building new fault refused count is) count is; other = other };
}
