use Rattle.live_lemmas.proofs.PartOf.{none_looked}
use Rattle.live_table.proofs.live.Live.is_part.Goals as goal

pub returns-then-not-is_of_build-clause-looked : goal.returns-then-not-is_of_build-clause-looked
returns-then-not-is_of_build-clause-looked g c = none_looked c.args.self.now c.args.building.now
