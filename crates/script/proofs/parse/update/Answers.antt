use Rattle.script.proofs.parse.update.Goals as goal

pub returns-in_err-rid-clause-refused : goal.returns-in_err-rid-clause-refused
returns-in_err-rid-clause-refused c = λ _ fits.
    let here = rw c.in_ok-label.ensures.ok at fits in
    let there = rw c.in_ok-place.ensures.ok at here.1 in
    c.in_err-rid.ensures.refused.1 there.0.0 there.0.1
