use mir.Syntax.{named}
use denote.Param.{param}
use denote.Param.Send.{param_sync}
use Rattle.std.proofs.Common.{rules, ◌≡◌, ◌∙◌, List, length, Option, vec_len, sym, ap, subst}
use Rattle.std.proofs.lemmas.Result.{err_from_is_err_and}
use Rattle.std.specs.Prelude.{IfSome}
use Rattle.keybytes.specs.Keys.{KeySpecValue}
use Rattle.crew.specs.Credits.{IsBounded, LockedValue, TakesMore, caught_up_by, indexes_of_build, live_in}
use Rattle.crew.specs.declared.locked.credit.Credit.{Credit}
use Rattle.crew.specs.Reports.{EndsFor, IsReport, lists_in}
use Rattle.crew.proofs.Crosses.{applying_sync}
use Rattle.crew.proofs.Following.{indexes_beside, of_going, report_of_going}
use Rattle.crew.proofs.Loads.{batches_go_on, can_apply_all}
use Rattle.crew.proofs.online_build.turns.take_turn.Lts as lts
use Rattle.crew.proofs.online_build.turns.take_turn.Goals as goal

pub returns-in_err-told-clause-ends : goal.returns-in_err-told-clause-ends
returns-in_err-told-clause-ends g c =
    let specs : List KeySpecValue = c.args.plan.now.specs.items in
    let on = c.in_ok-begin_turn.ensures.goes_on (length specs) specs c.requires in
    let told = err_from_is_err_and c.from_residual-in_err-told.result c.from_residual-in_err-told.ensures.1 in
    rw (told.1, told.2) (of_going (λ (s : List KeySpecValue). EndsFor s _) (length specs) specs c.begin_turn.new.building on c.in_err-told.ensures.ends)

pub returns-in_err-told-clause-goes_on : goal.returns-in_err-told-clause-goes_on
returns-in_err-told-clause-goes_on g c =
    let specs : List KeySpecValue = c.args.plan.now.specs.items in
    let on = c.in_ok-begin_turn.ensures.goes_on (length specs) specs c.requires in
    let told = err_from_is_err_and c.from_residual-in_err-told.result c.from_residual-in_err-told.ensures.1 in
    rw (told.1, told.2)
    (λ count busy. c.in_err-told.ensures.goes_on (λ memory. let both = sym busy ∙ memory in absurd (cc)) (length specs) specs on)

pub returns-then-branch-le-SWITCH_MOST-clause-report : goal.returns-then-branch-le-SWITCH_MOST-clause-report
returns-then-branch-le-SWITCH_MOST-clause-report g c =
    let specs : List KeySpecValue = c.args.plan.now.specs.items in
    let on = c.in_ok-begin_turn.ensures.goes_on (length specs) specs c.requires in
    let told = c.in_ok-told.field-0 in
    report_of_going (λ (s : List KeySpecValue). IsReport g.T.Opened.opening s told.receipt told.verdicts (lists_in told.pairs)) (length specs) specs
    c.begin_turn.new.building on c.in_ok-told.ensures.report

pub returns-then-branch-le-SWITCH_MOST-clause-bounded : goal.returns-then-branch-le-SWITCH_MOST-clause-bounded
returns-then-branch-le-SWITCH_MOST-clause-bounded g c =
    let specs : List KeySpecValue = c.args.plan.now.specs.items in
    let on = c.in_ok-begin_turn.ensures.goes_on (length specs) specs c.requires in
    let settled = c.in_ok-begin_turn.ensures.settled in
    let same = indexes_beside (live_in c.begin_turn.new.self) c.begin_turn.new.building settled.works settled.settled (length specs) specs on in
    let held : c.deref_mut-then-branch-le-SWITCH_MOST.result.now ≡ c.begin_turn.new.self = search rules in
    let told = c.in_ok-told.field-0 in
    subst (λ n. IsBounded n (length told.receipt) told.caught_up) (ap (λ (l : LockedValue). indexes_of_build l.state.build) held ∙ same)
    c.in_ok-told.ensures.bounded

pub returns-then-branch-le-SWITCH_MOST-clause-told : goal.returns-then-branch-le-SWITCH_MOST-clause-told
returns-then-branch-le-SWITCH_MOST-clause-told g c =
    let held : c.deref_mut-then-branch-le-SWITCH_MOST.result.now ≡ c.begin_turn.new.self = search rules in
    let known = ap (λ (l : LockedValue). l.credit) held ∙ c.in_ok-begin_turn.ensures.credit in
    subst (λ (o : Option Credit). IfSome o (λ credit. c.in_ok-told.field-0.caught_up ≡ caught_up_by credit)) known c.in_ok-told.ensures.told

pub feed_all-requires-clause-batches : goal.feed_all-requires-clause-batches
feed_all-requires-clause-batches g c =
    let specs : List KeySpecValue = c.args.plan.now.specs.items in
    let on = c.in_ok-begin_turn.ensures.goes_on (length specs) specs c.requires in
    let settled = c.in_ok-begin_turn.ensures.settled in
    let same = indexes_beside (live_in c.begin_turn.new.self) c.begin_turn.new.building settled.works settled.settled (length specs) specs on in
    let counted : vec_len c.args.plan.now.specs ≡ length specs = search rules in
    let held : c.deref_mut-2.result.now ≡ c.begin_turn.new.self = search rules in
    c.in_ok-batches.ensures.many ∙ c.len.ensures ∙ counted ∙ sym same ∙ sym (ap (λ (l : LockedValue). indexes_of_build l.state.build) held)

pub apply_batches-requires : goal.apply_batches-requires
apply_batches-requires g c = λ κs.
    let specs : List KeySpecValue = c.args.plan.now.specs.items in
    let on = c.in_ok-begin_turn.ensures.goes_on (length specs) specs c.requires in
    let shared = applying_sync (param 1 g.row.T) g.T.Opened g.T.Named g.T.TableRings (record { mir = named 0; lft = _ }) in (
      param_sync 2
          (lts.arg-15-2 g.row.S g.row.T g.row.R g.S.laws g.T.laws g.R.laws g.S.Spool g.S.Spool-dict g.T.Opened g.T.Opened-dict g.T.Named g.T.Named-dict
          g.T.TableRings g.T.TableRings-dict g.R.Threads g.R.Threads-dict g.R.Wait g.R.Wait-dict g.S.Destruct-dict κs)
          (record { shared = c.type_bounds.sync-R.shared }),
      (
        param_sync 3
            (lts.arg-15-3 g.row.S g.row.T g.row.R g.S.laws g.T.laws g.R.laws g.S.Spool g.S.Spool-dict g.T.Opened g.T.Opened-dict g.T.Named g.T.Named-dict
            g.T.TableRings g.T.TableRings-dict g.R.Threads g.R.Threads-dict g.R.Wait g.R.Wait-dict g.S.Destruct-dict κs)
            (record { shared = shared.shared }),
        can_apply_all specs c.feed_all.new.building (c.feed_all.ensures.goes_on (length specs) specs on),
      ),
    )

pub returns-clause-further : goal.returns-clause-further
returns-clause-further g c = λ none.
    let specs : List KeySpecValue = c.args.plan.now.specs.items in
    let on = c.in_ok-begin_turn.ensures.goes_on (length specs) specs c.requires in
    let fed = c.feed_all.ensures.goes_on (length specs) specs on in
    let after = c.feed_all.result in
    let held : c.deref_mut-2.result.now ≡ c.begin_turn.new.self = search rules in
    let known = ap (λ (l : LockedValue). l.credit) held ∙ c.in_ok-begin_turn.ensures.credit in
    let takes = subst (λ (o : Option Credit). IfSome o (λ credit. TakesMore credit after)) known c.feed_all.ensures.taken in (
      batches_go_on c.feed_all.new.building c.in_ok-apply_batches.field-0 c.apply_batches.new.self c.in_ok-apply_batches.ensures.applied (length specs) specs fed,
      record { first = takes.first; more = takes.more; bounded = takes.bounded; turns = takes.turns },
    )
