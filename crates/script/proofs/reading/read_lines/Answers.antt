use Rattle.script.proofs.LinesRead.{more_read, none_read}
use Rattle.script.proofs.Stopped.{stops_there}
use Rattle.script.proofs.reading.read_lines.Goals as goal

pub loop-number-init : goal.loop-number-init
loop-number-init g c = rw c.new-records.ensures (none_read g.D.Draft.grammar (g.D.Draft.has c.args.draft.now) c.args.text.now c.requires)

pub returns-in-Err-add-clause-stopped : goal.returns-in-Err-add-clause-stopped
returns-in-Err-add-clause-stopped g c =
    let takes = rw c.in-Ok-Some.field-0-is at c.in-Ok-Some.ensures.found in
    stops_there g.D.Draft.grammar (g.D.Draft.has c.loop-number.draft) c.args.text.now c.loop-number.records c.next_line.new.records c.loop-number.number
    c.in-Ok-Some.line _ c.in-Err-add.cause c.loop-number.invariant takes c.in-Err-add.ensures.refused

pub loop-number-preserved : goal.loop-number-preserved
loop-number-preserved g c =
    let takes = rw c.in-Ok-Some.field-0-is at c.in-Ok-Some.ensures.found in
    more_read g.D.Draft.grammar (g.D.Draft.has c.loop-number.draft) _ c.args.text.now c.loop-number.records c.next_line.new.records c.loop-number.number
    c.in-Ok-Some.line c.loop-number.invariant takes c.in_default.ensures.ok
