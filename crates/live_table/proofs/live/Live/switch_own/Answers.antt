use Rattle.std.proofs.Common.{◌≡◌, ◌∙◌, ◌+◌, ◌++◌, Option, Some, ℕ, List, length, map, ap, ap₂, sym, subst}
use Rattle.std.specs.Prelude.{false, true}
use Rattle.std.specs.List.{All, AllZip}
use Rattle.std.proofs.lemmas.Option.{same_Some}
use Rattle.keybytes.specs.Keys.{KeySpecValue, are_key_columns}
use Rattle.heap_log.specs.declared.outcome.Outcome.{Outcome}
use Rattle.heap_log.specs.declared.record.LogRec.TheVariants.{Switch}
use Rattle.heap_table.specs.HeapState.{HeapState, after_switch, after_fence}
use Rattle.heap_table.specs.Pages.{KeepsRows}
use Rattle.heap_table.specs.Kept.{RowsFit}
use Rattle.heap_table.specs.Sound.{HoldsFollowLog}
use Rattle.std.specs.Option.{IfSome}
use Rattle.live_lemmas.specs.Builds.{LiveValue, core_state}
use Rattle.building.specs.BuildingValue.{BuildingValue, WorkValue, IndexValue, work_state}
use Rattle.live_lemmas.specs.CatchingUp.{IsDoneIndex, ready_of}
use Rattle.building.specs.Verdicts.{its_verdict}
use Rattle.ready_indexes.specs.Following.{AllFollow, GoesOn, MayFollow, indexes_of}
use Rattle.build_events.specs.CoreState.{BuildState, CoreState}
use Rattle.ready_indexes.specs.Indexes.{ReadyValue}
use Rattle.building.specs.Holding.{all_spools, spools_state}
use Rattle.build_events.specs.BuildSteps.{Switches, verdicts_on}
use Rattle.build_events.specs.Verdicts.{outcomes}
use Rattle.building.proofs.OneWorker.{ended_stakes}
use Rattle.table_scan.proofs.LookedEnds.{all_unlooked}
use Rattle.live_lemmas.specs.Putting.{SendsAll, SendsNext}
use Rattle.live_lemmas.proofs.SentNext.{looked_next, sends_next}
use Rattle.live_lemmas.proofs.SwitchIn.{HasCaughtUp, all_done, all_keyed, all_may, all_verdicts, caught_up, switches, switched_from}
use Rattle.live_lemmas.proofs.Unloaded.{may_catch_up, no_busy_cause}
use Rattle.live_table.proofs.live.Live.switch_own.Given as given
use Rattle.live_table.proofs.live.Live.switch_own.Goals as goal
use Rattle.live_table.proofs.live.Live.switch_own.Goals.{After-into_specs-specs}

-- the indexes of the work that was ended
ended_indexes :
    (work : Option WorkValue) (w : WorkValue) (items : List IndexValue) → work ≡ Some w → IfSome work (λ work. work.indexes ≡ items) → w.indexes ≡ items
ended_indexes work w items is same = subst (λ (o : Option WorkValue). IfSome o (λ work. work.indexes ≡ items)) is same

-- the indexes of the build caught up
its_indexes :
    (g : given.Over) (c : After-into_specs-specs g)
    → HasCaughtUp c.catch_up.new.self c.catch_up.new.building c.in-Some-Some.build c.in-Some.work.now
its_indexes g c =
    caught_up _ c.args.self.now c.catch_up.new.self c.args.building.now c.catch_up.new.building c.in-Some-Some.build c.in-Some.work.now c.self.view_is
    (sym c.take.ensures.value ∙ c.in-Some-Some.is-0) c.in-Some.ensures c.self.invariant.1 c.requires c.catch_up.ensures.works c.in_ok-check_switch.ensures
    c.catch_up.ensures.further c.in_ok-catch_up.ensures.all

pub catch_up-requires-clause-runs : goal.catch_up-requires-clause-runs
catch_up-requires-clause-runs g c = may_catch_up c.args.self.now c.args.building.now c.requires c.in_ok-check_switch.ensures

pub make_ready-requires-clause-indexes : goal.make_ready-requires-clause-indexes
make_ready-requires-clause-indexes g c =
    let live : LiveValue = c.catch_up.new.self in
    let building : BuildingValue = c.catch_up.new.building in
    let b : BuildState = c.in-Some-Some.build in
    let w : WorkValue = c.in-Some.work.now in
    let caught = its_indexes g (goal.at.make_ready-requires-clause-indexes g c).After-into_specs-specs in
    let rows : RowsFit live.state.heap.schema live.state.heap.log =
    subst (λ (l : LiveValue). RowsFit l.state.heap.schema l.state.heap.log) c.self.view_is c.laws.ensures.rows in
    let done = all_done live building b w caught rows in
    subst (λ (specs : List KeySpecValue). AllZip IsDoneIndex specs c.in-Some-Some.indexes.items) c.into_specs-specs.ensures
    (subst (λ (is : List IndexValue). AllZip IsDoneIndex b.specs is) (ended_indexes building.work w c.in-Some-Some.indexes.items caught.run.work_is c.in-Some-Some.ensures'.indexes) done)

pub invariant_of-self-2 : goal.invariant_of-self-2
invariant_of-self-2 g c =
    let heap : HeapState = c.self.inside.heap.state in
    let live : LiveValue = c.catch_up.new.self in
    let building : BuildingValue = c.catch_up.new.building in
    let b : BuildState = c.in-Some-Some.build in
    let w : WorkValue = c.in-Some.work.now in
    let caught = its_indexes g (goal.at.invariant_of-self-2 g c).After-into_specs-specs in
    let free = no_busy_cause (core_state c.args.self.now c.args.building.now) (core_state live building) c.in_ok-check_switch.ensures c.catch_up.ensures.further in
    let log = heap.log in
    let left : HeapState = c.set_fence.new.self.state in
    let left_is = c.set_fence.ensures.state ∙ ap (after_fence false) c.in_ok-noted.ensures.noted in
    let rows : KeepsRows log left.log = subst (λ (h : HeapState). KeepsRows log h.log) (sym c.set_fence.ensures.state) c.in_ok-noted.ensures.rows in
    let may_follow : All (λ it. MayFollow heap it.spec it.pairs) (ready_of c.into_specs-specs.result.items c.in-Some-Some.indexes.items) =
    subst (λ (ready : List ReadyValue). All (λ it. MayFollow heap it.spec it.pairs) ready) (ap₂ ready_of c.into_specs-specs.ensures (ended_indexes building.work w c.in-Some-Some.indexes.items caught.run.work_is c.in-Some-Some.ensures'.indexes))
    (subst (λ (l : LiveValue). All (λ it. MayFollow l.state.heap it.spec it.pairs) (ready_of b.specs w.indexes)) (sym c.self.view_is)
    (all_may live building b w caught (subst (λ (l : LiveValue). HoldsFollowLog l.state.heap) c.self.view_is c.laws.ensures.holds) free)) in
    let before = subst (λ indexes. AllFollow heap.schema log indexes) (sym c.in_ok-noted.ensures.ready) c.self.invariant.0 in
    let after = c.make_ready.ensures.follow heap may_follow before in
    let verdicts : List Outcome = outcomes (length (indexes_of c.self.inside.ready.indexes)) (map its_verdict c.indexes.result.now) in
    let goes : GoesOn log (Switch verdicts) left.log = record { log = ap (λ (h : HeapState). h.log) left_is; rows = rows; undos = c.laws.ensures.undos } in (
      subst (λ kinds. AllFollow kinds left.log c.make_ready.new.ready.indexes) (sym (ap (λ (h : HeapState). h.schema) left_is))
          (c.laws-2.ensures.switched heap.schema log left.log verdicts goes after),
      rw c.take.ensures.after tt,
      rw c.take.ensures.after tt,
      rw c.take.ensures.after tt,
      c.self.invariant.4,
      c.self.invariant.5,
      c.self.invariant.6,
    )

pub returns-clause-switched : goal.returns-clause-switched
returns-clause-switched g c =
    let live : LiveValue = c.catch_up.new.self in
    let building : BuildingValue = c.catch_up.new.building in
    let b : BuildState = c.in-Some-Some.build in
    let w : WorkValue = c.in-Some.work.now in
    let caught = its_indexes g (goal.at.returns-clause-switched g c).After-into_specs-specs in
    let worked : c.in-Some.work.now ≡ w =
    same_Some c.in-Some.work.now w (sym c.in-Some.ensures ∙ caught.run.work_is) in
    let indexes : c.indexes.result.now ≡ w.indexes = c.indexes.ensures ∙ ap (λ (x : WorkValue). x.indexes) worked in
    let verdicts_are : outcomes (length (indexes_of c.self.inside.ready.indexes)) (map its_verdict c.indexes.result.now) ≡ verdicts_on live.state b =
    ap₂ (λ (n : ℕ) (is : List IndexValue). outcomes n (map its_verdict is)) (ap (λ (l : LiveValue). length l.state.ready) c.self.view_is) indexes
    ∙ all_verdicts live building b w caught in
    let number = c.in_ok-noted.ensures.number ∙ ap (λ (l : LiveValue). length l.state.heap.log + 1) c.self.view_is in
    let verdicts = c.in_ok-noted.ensures.verdicts ∙ verdicts_are in
    let noted = c.set_fence.ensures.state
    ∙ ap (after_fence false) (c.in_ok-noted.ensures.noted ∙ ap (λ (os : List Outcome). after_switch c.self.inside.heap.state os) verdicts_are
    ∙ ap (λ (l : LiveValue). after_switch l.state.heap (verdicts_on live.state b)) c.self.view_is) in
    let grown = c.make_ready.ensures.ready
    ∙ ap₂ (λ (xs ys : List ReadyValue). xs ++ ys) (ap indexes_of c.in_ok-noted.ensures.ready ∙ ap (λ (l : LiveValue). l.state.ready) c.self.view_is)
    (sym (ap₂ ready_of c.into_specs-specs.ensures (ended_indexes building.work w c.in-Some-Some.indexes.items caught.run.work_is c.in-Some-Some.ensures'.indexes))) in
    let left : BuildingValue = c.end.new.self in
    let stakes = ap (λ (x : BuildingValue). spools_state x.given (all_spools x.workers x.spools)) c.end.ensures.left ∙ ended_stakes building caught.run.at_work.given in
    let rows : RowsFit live.state.heap.schema live.state.heap.log =
    subst (λ (l : LiveValue). RowsFit l.state.heap.schema l.state.heap.log) c.self.view_is c.laws.ensures.rows in
    let keyed = all_keyed live building b w caught rows
    (subst (λ (specs : List KeySpecValue). All (λ spec. are_key_columns spec.kinds spec.columns ≡ true) specs) (sym c.into_specs-specs.ensures) c.make_ready.ensures.keys) in
    let told : ℕ × List Outcome = (c.in_ok-noted.noted.number, c.in_ok-noted.noted.verdicts) in
    let done = switches live building b w caught told
    c.set_fence.new.self.state (indexes_of c.make_ready.new.ready.indexes) c.take.new.self left number verdicts noted grown c.take.ensures.after (ap (λ (x : BuildingValue). x.work) c.end.ensures.left) stakes keyed in
    let Left : ℕ → CoreState = λ n. record {
      live = record { heap = c.set_fence.new.self.state; ready = indexes_of c.make_ready.new.ready.indexes; builds = n; build = c.take.new.self };
      work = work_state left.workers left.work;
      spools = spools_state left.given (all_spools left.workers left.spools);
    } in
    switched_from (core_state c.args.self.now c.args.building.now) (core_state live building) (Left c.self.inside.builds) told c.catch_up.ensures.further
    (subst (λ (n : ℕ). Switches (core_state live building) told (Left n))
    (sym (ap (λ (l : LiveValue). l.state.builds) c.self.view_is)) done)

pub returns-in_err-check_switch-clause-sides : goal.returns-in_err-check_switch-clause-sides
returns-in_err-check_switch-clause-sides g c = looked_next c.args.self.now c.args.self.now.sides (all_unlooked c.args.self.now.sides)

pub returns-in_err-catch_up-clause-sides : goal.returns-in_err-catch_up-clause-sides
returns-in_err-catch_up-clause-sides g c = sends_next c.args.self.now c.catch_up.new.self c.catch_up.ensures.sends

pub returns-in_err-noted-clause-sides : goal.returns-in_err-noted-clause-sides
returns-in_err-noted-clause-sides g c =
    subst (λ (l : LiveValue). SendsNext c.args.self.now l.sides) (sym c.self.view_is) (sends_next c.args.self.now c.catch_up.new.self c.catch_up.ensures.sends)

pub returns-clause-sides : goal.returns-clause-sides
returns-clause-sides g c =
    subst (λ (l : LiveValue). SendsNext c.args.self.now l.sides) (sym c.self.view_is) (sends_next c.args.self.now c.catch_up.new.self c.catch_up.ensures.sends)

pub returns-clause-fed : goal.returns-clause-fed
returns-clause-fed g c = subst (λ (l : LiveValue). SendsAll c.args.self.now l.sides) (sym c.self.view_is) c.in_ok-catch_up.ensures.fed
