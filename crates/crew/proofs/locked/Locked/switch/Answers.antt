use Rattle.std.proofs.Common.{◌≤◌, List, length, subst, sym, ap, ◌∙◌, rules}
use Rattle.std.specs.List.{AllZip}
use mathlib.Core.List.{IsPrefix}
use Rattle.side_file.specs.Ends.{PutEnd, PutEndLooked}
use Rattle.side_file.specs.declared.entry.Entry.{Entry}
use Rattle.page_workers.specs.declared.copied.Copied.{Copied}
use Rattle.heap_log.specs.declared.record.LogRec.{LogRec}
use Rattle.ready_indexes.specs.Indexes.{ReadyValue}
use Rattle.crew.specs.MadeReady.{HasMadeReady}
use Rattle.live_lemmas.specs.Builds.{StandsBeside, core_state}
use Rattle.live_lemmas.specs.Putting.{SendsAll, SendsNext}
use Rattle.live_lemmas.specs.Settling.{IsSettled, waiting_in}
use Rattle.build_events.specs.BuildSteps.{Switches}
use Rattle.crew.specs.Credits.{LockedValue, live_in}
use Rattle.crew.specs.Fencing.{RefusesToSwitch}
use Rattle.crew.proofs.MadeReady.{switched_more}
use Rattle.crew.proofs.Steps.{still_goes_on, switch_left}
use Rattle.crew.specs.Reports.{lists_in}
use Rattle.crew.proofs.Switching.{switch_ends_for, switch_fences, switch_left_so, switched_report, switched_so}
use Rattle.crew.proofs.locked.Locked.switch.Goals as goal

pub returns-in-Ok-clause-report : goal.returns-in-Ok-clause-report
returns-in-Ok-clause-report g c =
    switched_report c.self.inside.live c.switch_in.new.self c.args.building.now c.switch_in.new.building c.in-Ok.switched.number c.in-Ok.switched.verdicts c.in-Ok.switched.record
    c.self.inside.keeper c.new-receipt.result c.in-Ok.ensures.all.0 c.in-Ok.ensures.switched c.in-Ok.ensures.record c.self.invariant.0
    (c.new-receipt.ensures ∙ c.tell.ensures.told ∙ c.append.ensures) g.T.Opened.opening c.self.invariant.2
    c.len-first.result (lists_in c.pairs_from-pairs.result) (c.len-first.ensures ∙ ap length c.ready.ensures.ready) c.pairs_from-pairs.ensures.kept

pub returns-in-Ok-clause-switched : goal.returns-in-Ok-clause-switched
returns-in-Ok-clause-switched g c =
    let new = core_state c.switch_in.new.self c.switch_in.new.building in
    let receipt : List LogRec = c.new-receipt.result in
    subst (λ (l : LockedValue). Switches (core_state (live_in l) c.args.building.now) (length receipt, c.in-Ok.switched.verdicts) new) c.self.view_is
    (switched_so c.self.inside.live c.switch_in.new.self c.args.building.now c.switch_in.new.building c.in-Ok.switched.number c.in-Ok.switched.verdicts
    c.in-Ok.switched.record c.self.inside.keeper receipt c.in-Ok.ensures.all.0 c.in-Ok.ensures.switched c.in-Ok.ensures.record c.self.invariant.0
    (c.new-receipt.ensures ∙ c.tell.ensures.told ∙ c.append.ensures) g.T.Opened.opening c.self.invariant.2)

pub returns-in-Ok-clause-sides : goal.returns-in-Ok-clause-sides
returns-in-Ok-clause-sides g c = subst (λ (l : LockedValue). SendsNext (live_in l) c.switch_in.new.self.sides) c.self.view_is c.in-Ok.ensures.sides

pub returns-in-Ok-clause-fed : goal.returns-in-Ok-clause-fed
returns-in-Ok-clause-fed g c = subst (λ (l : LockedValue). SendsAll (live_in l) c.switch_in.new.self.sides) c.self.view_is c.in-Ok.ensures.fed

pub returns-in-Err-clause-pages : goal.returns-in-Err-clause-pages
returns-in-Err-clause-pages g c =
    let ends : List (PutEnd Copied) = c.fence_if_busy.new.self.pages in
    subst (λ (l : LockedValue). AllZip (PutEndLooked {T = Copied}) l.pages ends) c.self.view_is
    (subst (λ (es : List (PutEnd Copied)). AllZip (PutEndLooked {T = Copied}) c.self.inside.live.pages es) (sym c.fence_if_busy.ensures.pages)
    c.in-Err.ensures.pages)

pub returns-in-Err-clause-sides : goal.returns-in-Err-clause-sides
returns-in-Err-clause-sides g c =
    let ends : List (PutEnd Entry) = c.fence_if_busy.new.self.sides in
    subst (λ (l : LockedValue). SendsNext (live_in l) ends) c.self.view_is
    (subst (λ (es : List (PutEnd Entry)). SendsNext c.self.inside.live es) (sym c.fence_if_busy.ensures.sides) c.in-Err.ensures.sides)

pub returns-in-Err-clause-refused : goal.returns-in-Err-clause-refused
returns-in-Err-clause-refused g c =
    let new = live_in c.fence_if_busy.new.self in
    subst (λ (l : LockedValue). RefusesToSwitch (live_in l) c.args.building.now c.in-Err.fault new c.switch_in.new.building) c.self.view_is
    (switch_left_so c.self.inside.live c.switch_in.new.self new c.args.building.now c.switch_in.new.building c.in-Err.fault c.in-Err.ensures.refused
    c.fence_if_busy.ensures.busy (λ other. ap live_in (c.fence_if_busy.ensures.others other)))

pub returns-in-Err-clause-stakes : goal.returns-in-Err-clause-stakes
returns-in-Err-clause-stakes g c =
    (switch_left c.self.inside.live c.switch_in.new.self c.args.building.now c.switch_in.new.building c.in-Err.fault c.in-Err.ensures.refused).stakes

pub returns-in-Err-clause-goes_on : goal.returns-in-Err-clause-goes_on
returns-in-Err-clause-goes_on g c =
    still_goes_on c.self.inside.live c.switch_in.new.self c.args.building.now c.switch_in.new.building c.in-Err.fault c.in-Err.ensures.refused

pub returns-in-Err-clause-ends : goal.returns-in-Err-clause-ends
returns-in-Err-clause-ends g c =
    let works = subst (λ (l : LockedValue). StandsBeside (live_in l) c.args.building.now) (sym c.self.view_is) c.requires.settled.works in
    let settled = subst (λ (l : LockedValue). IsSettled (core_state (live_in l) c.args.building.now)) (sym c.self.view_is) c.requires.settled.settled in
    let few = subst (λ (l : LockedValue). waiting_in l.state ≤ 1024) (sym c.self.view_is) c.requires.few in
    switch_ends_for c.self.inside.live c.switch_in.new.self c.args.building.now c.switch_in.new.building c.in-Err.fault works settled few c.in-Err.ensures.refused

pub returns-in-Err-clause-fenced : goal.returns-in-Err-clause-fenced
returns-in-Err-clause-fenced g c =
    switch_fences c.self.inside.live c.switch_in.new.self c.args.building.now c.switch_in.new.building c.in-Err.fault _ c.in-Err.ensures.refused
    c.fence_if_busy.ensures.fenced

pub invariant_of-self-in-Err : goal.invariant_of-self-in-Err
invariant_of-self-in-Err g c =
    let live = c.self.inside.live in
    let new = c.switch_in.new.self in
    let left = switch_left live new c.args.building.now c.switch_in.new.building c.in-Err.fault c.in-Err.ensures.refused in (
      c.self.invariant.0 ∙ sym left.log,
      subst (λ (l : List LogRec). IsPrefix g.T.Opened.opening l) (sym left.log) c.self.invariant.1,
      subst (λ (l : List LogRec). HasMadeReady g.T.Opened.opening l (length new.state.ready)) (sym left.log)
          (subst (λ (rs : List ReadyValue). HasMadeReady g.T.Opened.opening live.state.heap.log (length rs)) (sym left.ready) c.self.invariant.2),
      tt,
    )

pub invariant_of-self : goal.invariant_of-self
invariant_of-self g c =
    let made =
    switched_more g.T.Opened.opening c.self.inside.live c.switch_in.new.self c.args.building.now c.switch_in.new.building
    (c.in-Ok.switched.number, c.in-Ok.switched.verdicts) c.in-Ok.ensures.switched c.self.invariant.2 in
    (search rules, (made.since, sym made.goes_on), made, tt)
