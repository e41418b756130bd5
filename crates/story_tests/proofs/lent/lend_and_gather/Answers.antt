use Rattle.story_tests.proofs.lent.lend_and_gather.Goals as goal

pub gather-requires : goal.gather-requires
gather-requires g c = c.other_while_lent-other.ensures _ _ c.lend-workers.ensures.back
