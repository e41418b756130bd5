use Rattle.std.proofs.Common.{inl}
use Rattle.build_events.specs.declared.event.Event.TheVariants.{Scan}
use Rattle.kept_table.proofs.Shapes.{scan_off, stops_unless_off}
use Rattle.kept_table.proofs.advancing.scan.Goals as goal

pub returns-in-Ok-clause-done : goal.returns-in-Ok-clause-done
returns-in-Ok-clause-done g c = inl c.in-Ok.ensures.done

pub returns-in-RingFull-clause-done : goal.returns-in-RingFull-clause-done
returns-in-RingFull-clause-done g c =
    scan_off c.args.counted.now c.attempt.new.counted c.args.range c.args.worker c.in-Err.fault c.in-RingFull.is c.in-Err.ensures.held

pub returns-in_default : goal.returns-in_default
returns-in_default g c = record {
  done = tt;
  refused = stops_unless_off c.args.counted.now c.attempt.new.counted (Scan c.args.range c.args.worker) c.in-Err.fault
      (λ off. c.in_default.not-RingFull off) c.in-Err.ensures.held;
}
