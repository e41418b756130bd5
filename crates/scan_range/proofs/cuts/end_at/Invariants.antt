use Rattle.std.proofs.Common.{◌≡◌, drop}
use Rattle.scan_range.specs.Cuts.{end_at}
use Rattle.scan_range.proofs.cuts.end_at.Given as goal

abbrev pub invariant-loop-end : goal.invariant-loop-end
invariant-loop-end l = end_at 0 l.pages l.ends ≡ end_at l.low l.pages (drop l.end-index l.ends)
