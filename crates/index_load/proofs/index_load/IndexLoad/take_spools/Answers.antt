use Rattle.index_load.proofs.LoadRan.{none_loadable}
use Rattle.index_load.proofs.index_load.IndexLoad.take_spools.Goals as goal

pub invariant_of-self : goal.invariant_of-self
invariant_of-self g c = λ _ _. rw (c.replace.ensures.after, c.new.ensures.items) none_loadable
