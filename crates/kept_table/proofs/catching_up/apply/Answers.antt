use Rattle.std.proofs.Common.{subst}
use Rattle.std.proofs.lemmas.Result.{err_from_is_err_and}
use Rattle.build_events.specs.BuildSteps.{ring_most}
use Rattle.build_events.specs.Steps.{Does}
use Rattle.build_events.specs.declared.event.Event.TheVariants.{Apply}
use Rattle.build_events.specs.declared.reply.Reply.{Reply}
use Rattle.kept_table.proofs.Entries.{applies_ring}
use Rattle.kept_table.proofs.Rounds.{stops_at_apply}
use Rattle.kept_table.proofs.catching_up.apply.Goals as goal

pub returns-in_err-entries-clause-refused : goal.returns-in_err-entries-clause-refused
returns-in_err-entries-clause-refused g c =
    let told = err_from_is_err_and c.from_residual.result c.from_residual.ensures.1 in
    rw (told.1, told.2) (stops_at_apply c.args.index c.args.counted.now c.work.new.counted _ c.in_err-entries.ensures.refused c.in_err-entries.ensures.step)

pub returns-clause-done : goal.returns-clause-done
returns-clause-done g c =
    let told = subst (λ (reply : Reply). Does c.args.counted.now (Apply c.args.index ring_most) reply c.work.new.counted) c.in-Applied.is
    c.in_ok-entries.ensures.told in
    applies_ring c.args.index c.in-Applied.entries c.args.counted.now c.work.new.counted c.laws.ensures c.requires.0 c.in_ok-entries.ensures.done told

pub unreachable-requires : goal.unreachable-requires
unreachable-requires g c =
    let does = c.in_ok-entries.ensures.told in
    c.in_default.not-Applied does.0 does.1
