use Rattle.std.proofs.Common.{arith}
use Rattle.log_prefixes.proofs.Moves.{begins}
use Rattle.log_prefixes.proofs.unnamed.Unnamed.new.Goals as goal

pub of_words-requires : goal.of_words-requires
of_words-requires c = begins _ _ c.records-len.ensures (omega arith)
