use Rattle.build_events.specs.declared.event.Event.TheVariants.{Load}
use Rattle.kept_table.proofs.Shapes.{load_off, stops_unless_off}
use Rattle.kept_table.proofs.advancing.load.Goals as goal

pub returns-in-NotSealed-clause-unsealed : goal.returns-in-NotSealed-clause-unsealed
returns-in-NotSealed-clause-unsealed g c =
    load_off c.args.counted.now c.attempt.new.counted c.args.index c.in-NotSealed.worker c.in-Err.fault c.laws.ensures c.requires.index
    c.requires.scanned c.in-NotSealed.is c.in-Err.ensures.held

pub returns-in_default : goal.returns-in_default
returns-in_default g c = record {
  done = tt;
  unsealed = tt;
  refused = stops_unless_off c.args.counted.now c.attempt.new.counted (Load c.args.index) c.in-Err.fault
      (λ off. c.in_default.not-NotSealed off.0 off.1) c.in-Err.ensures.held;
}
