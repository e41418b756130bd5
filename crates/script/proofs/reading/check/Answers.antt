use Rattle.script.proofs.LinesRead.{all_good, missing_record}
use Rattle.script.proofs.Stopped.{explains}
use Rattle.script.proofs.reading.check.Goals as goal

pub returns-in-None-clause-good : goal.returns-in-None-clause-good
returns-in-None-clause-good g c =
    all_good g.D.Draft.grammar (g.D.Draft.has c.read_lines.new.draft) c.args.text.now c.in-Ok.number c.in-Ok.ensures.ended c.in-None.ensures.none

pub returns-in-Ok-clause-bad : goal.returns-in-Ok-clause-bad
returns-in-Ok-clause-bad g c =
    missing_record g.D.Draft.grammar (g.D.Draft.has c.read_lines.new.draft) c.args.text.now c.in-Ok.number c.in-Ok.ensures.ended
    c.in-Some.explanation c.in-Some.ensures.some

pub returns-clause-bad : goal.returns-clause-bad
returns-clause-bad g c =
    explains g.D.Draft.grammar c.new-draft.ensures.clear c.args.text.now _ c.in-Err.stop c.explain.result c.in-Err.ensures.stopped c.explain.ensures
