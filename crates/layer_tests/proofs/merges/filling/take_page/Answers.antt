use Rattle.std.proofs.Common.{◌∙◌, sym}
use Rattle.layer_tests.proofs.merges.filling.take_page.Goals as goal

pub take-requires-clause-schema : goal.take-requires-clause-schema
take-requires-clause-schema g c = c.copy_page.ensures.copy.schema ∙ sym c.requires.columns

pub returns-clause-sorted : goal.returns-clause-sorted
returns-clause-sorted g c = λ all. c.seal.ensures.sorted (c.take.ensures.sorted all)
