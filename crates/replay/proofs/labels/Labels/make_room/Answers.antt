use Rattle.std.proofs.Common.{arith}
use Rattle.std.proofs.lemmas.Map.Text.{text_keys}
use Rattle.replay.proofs.labels.Labels.make_room.Goals as goal

pub returns-clause-same : goal.returns-clause-same
returns-clause-same c = λ text. grind (arith, text_keys)
