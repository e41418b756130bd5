use Rattle.std.proofs.Common.{rules, ◌≡◌, Option, None, Some, sym, subst, arith}
use Rattle.std.specs.Prelude.{MatchResult}
use Rattle.keybytes.specs.declared.fault.Fault.{Fault}
use Rattle.build_events.specs.CoreState.{BuildState}
use Rattle.build_events.specs.Ranges.{open_range}
use Rattle.live_lemmas.proofs.Refusals.{running}
use Rattle.live_lemmas.proofs.Unloaded.{one_unloaded, too_far_behind, waits_for_writers}
use Rattle.live_table.proofs.live.Live.check_switch.Goals as goal

pub returns-in-Some-first_unloaded : goal.returns-in-Some-first_unloaded
returns-in-Some-first_unloaded g c =
    let b : BuildState = c.in-Some-Some.build.now in
    let run = running c.args.self.now c.args.building.now b c.in-Some-Some.work.now c.in-Some-Some.ensures.build c.in-Some-Some.ensures' c.build.ensures.follows c.requires in
    let all : open_range b ≡ None = search rules in
    one_unloaded c.args.self.now c.args.building.now b c.in-Some-Some.work.now run c.in_ok-check.ensures all c.in-Some-first_unloaded.index
    c.in-Some-first_unloaded.ensures

pub returns-then-left-gt-SWITCH_MAX : goal.returns-then-left-gt-SWITCH_MAX
returns-then-left-gt-SWITCH_MAX g c =
    let b : BuildState = c.in-Some-Some.build.now in
    let run = running c.args.self.now c.args.building.now b c.in-Some-Some.work.now c.in-Some-Some.ensures.build c.in-Some-Some.ensures' c.build.ensures.follows c.requires in
    let all : open_range b ≡ None = search rules in
    too_far_behind c.args.self.now c.args.building.now b c.in-Some-Some.work.now run c.in_ok-check.ensures all c.in_default-first_unloaded.ensures
    c.unapplied-left.result c.unapplied-left.ensures (omega (arith, c.if-left-gt-SWITCH_MAX.true))

pub returns : goal.returns
returns g c =
    let b : BuildState = c.in-Some-Some.build.now in
    let run = running c.args.self.now c.args.building.now b c.in-Some-Some.work.now c.in-Some-Some.ensures.build c.in-Some-Some.ensures' c.build.ensures.follows c.requires in
    let all : open_range b ≡ None = search rules in
    let cause = waits_for_writers c.args.self.now c.args.building.now b c.in-Some-Some.work.now run c.in_ok-check.ensures all c.in_default-first_unloaded.ensures
    c.unapplied-left.result c.unapplied-left.ensures (omega (arith, c.if-left-gt-SWITCH_MAX.false)) in
    subst (λ (o : Option Fault). MatchResult c.check_busy.result (λ _. o ≡ None) (λ fault. o ≡ Some fault)) (sym cause) c.check_busy.ensures
