use Rattle.std.proofs.Common.{length}
use Rattle.replay.proofs.listing.+add_shared.Given as goal

abbrev pub decreases-add_shared : goal.decreases-add_shared
decreases-add_shared l = length l.specs.now
