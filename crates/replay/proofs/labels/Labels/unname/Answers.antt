use Rattle.std.proofs.Common.{arith}
use Rattle.std.proofs.lemmas.Map.Text.{text_keys}
use Rattle.replay.proofs.labels.Labels.unname.Goals as goal

pub returns-in-Some : goal.returns-in-Some
returns-in-Some c = λ text. grind (arith, text_keys)
