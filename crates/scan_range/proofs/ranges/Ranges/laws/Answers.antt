use Rattle.scan_range.proofs.Covered.{cuts_cover}
use Rattle.scan_range.proofs.ranges.Ranges.laws.Goals as goal

pub returns-clause-covered : goal.returns-clause-covered
returns-clause-covered c = rw (← c.self.view_is) (cuts_cover _ _ c.self.invariant.cuts)
