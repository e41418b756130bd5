use Rattle.scan_range.proofs.Covered.{cuts_cover}
use Rattle.scan_range.proofs.cuts.Cuts.laws.Goals as goal

pub returns : goal.returns
returns c = rw (← c.self.view_is) (cuts_cover _ _ c.self.invariant)
