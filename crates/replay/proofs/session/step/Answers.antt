use Rattle.replay.proofs.session.step.Goals as goal

pub returns : goal.returns
returns g c = (c.step-reply.result, c.step-reply.ensures.step, c.step-reply.ensures.full, c.told.ensures)
