use Rattle.btree.proofs.LevelsFilled.{filled_under}
use Rattle.btree.proofs.rooting.append_under.Goals as goal

pub returns-clause-levels : goal.returns-clause-levels
returns-clause-levels c = λ behind. rw c.raise.ensures.levels
    (filled_under _ _ c.append-split.new.self c.append-split.result c.in-Some.is behind c.append-split.ensures.levels)
