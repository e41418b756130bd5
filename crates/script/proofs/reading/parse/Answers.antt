use Rattle.std.proofs.Common.{◌≡◌}
use Rattle.script.proofs.Agreed.{one_first, script_or_bad}
use Rattle.script.proofs.LinesRead.{bad_end, good_end}
use Rattle.script.proofs.Stopped.{first_bad}
use Rattle.script.proofs.reading.parse.Goals as goal

pub returns-in-None-clause-good : goal.returns-in-None-clause-good
returns-in-None-clause-good g c =
    good_end g.D.Draft.grammar (g.D.Draft.has c.read_lines.new.draft) c.args.text.now c.in-Ok.number c.in-Ok.ensures.ended g.D.Draft.gives c.finish.result
    c.in-None.ensures.none c.finish.ensures

pub returns-in-None-clause-none_bad : goal.returns-in-None-clause-none_bad
returns-in-None-clause-none_bad g c = λ number bad.
    script_or_bad g.D.Draft.grammar c.new-draft.ensures.clear g.D.Draft.gives c.args.text.now c.finish.result number (returns-in-None-clause-good g c) bad

pub returns-in-Some-clause-bad : goal.returns-in-Some-clause-bad
returns-in-Some-clause-bad g c = λ number bad.
    let here : number ≡ c.in-Ok.number = (let same = bad in cc) in
    rw here
    (bad_end g.D.Draft.grammar (g.D.Draft.has c.read_lines.new.draft) c.args.text.now c.in-Ok.number c.in-Ok.ensures.ended _ c.in-Some.ensures.some)

pub returns-in-Some-clause-no_other : goal.returns-in-Some-clause-no_other
returns-in-Some-clause-no_other g c = λ number other bad also.
    one_first g.D.Draft.grammar c.new-draft.ensures.clear c.args.text.now number other (returns-in-Some-clause-bad g c number bad) also

pub returns-in-Err-clause-bad : goal.returns-in-Err-clause-bad
returns-in-Err-clause-bad g c = λ number bad.
    let at_stop = c.at.ensures in
    first_bad g.D.Draft.grammar c.new-draft.ensures.clear c.args.text.now _ c.in-Err.stop number c.in-Err.ensures.stopped cc

pub returns-in-Err-clause-no_other : goal.returns-in-Err-clause-no_other
returns-in-Err-clause-no_other g c = λ number other bad also.
    one_first g.D.Draft.grammar c.new-draft.ensures.clear c.args.text.now number other (returns-in-Err-clause-bad g c number bad) also
