use Rattle.std.proofs.Common.{rules}
use Rattle.std.proofs.lemmas.Fn.{filter_same}
use Rattle.race.proofs.session.running.Running.end.Goals as goal

pub returns-clause-active : goal.returns-clause-active
returns-clause-active g c = filter_same _ _ _ (λ x b f' k. search rules) _ _ c.retain.ensures.filtered
