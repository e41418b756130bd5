use Rattle.std.proofs.Common.{◌≡◌, ◌∙◌, List, Some, length, ap, subst, sym}
use mathlib.Core.List.{IsPrefix}
use Rattle.build_events.specs.CoreState.{CoreState, LiveState}
use Rattle.heap_log.specs.declared.record.LogRec.{LogRec}
use Rattle.crew.specs.Credits.{CreditIsKept, LockedValue}
use Rattle.crew.specs.MadeReady.{HasMadeReady}
use Rattle.crew.proofs.Credits.{settled_keeps}
use Rattle.crew.proofs.Following.{looked_goes_on}
use Rattle.crew.proofs.locked.Locked.begin_turn.Goals as goal

pub returns-clause-goes_on : goal.returns-clause-goes_on
returns-clause-goes_on g c =
    looked_goes_on c.self.inside.live c.check_settled.new.self c.args.building.now c.check_settled.new.building c.in_ok-check_settled.ensures.part
    c.in_ok-check_settled.ensures.works c.check_settled.ensures.same

pub invariant_of-self-2 : goal.invariant_of-self-2
invariant_of-self-2 g c =
    let live = c.self.inside.live in
    let state : c.check_settled.new.self.state ≡ live.state = ap (λ (s : CoreState). s.live) c.check_settled.ensures.same in
    let log : c.check_settled.new.self.state.heap.log ≡ live.state.heap.log = ap (λ (s : LiveState). s.heap.log) state in
    let held : c.self.inside.credit ≡ Some c.in_ok-credit.credit = ap (λ (l : LockedValue). l.credit) c.self.view_is ∙ c.in_ok-credit.ensures.same in (
      c.self.invariant.0 ∙ sym log,
      subst (λ (l : List LogRec). IsPrefix g.T.Opened.opening l) (sym log) c.self.invariant.1,
      subst (λ (s : LiveState). HasMadeReady g.T.Opened.opening s.heap.log (length s.ready)) (sym state) c.self.invariant.2,
      subst (λ (s : LiveState). CreditIsKept s (Some c.after_all.result)) (sym state)
          (settled_keeps live.state c.self.inside.credit c.in_ok-credit.credit c.after_all.result held c.after_all.ensures c.self.invariant.3),
    )
