use Rattle.std.proofs.Common.{◌≡◌, ◌++◌, length}
use Rattle.bulk_load.proofs.filling.load.Given as goal

abbrev pub invariant-loop-loader : goal.invariant-loop-loader
invariant-loop-loader g l = record {
  all : l.loader ++ g.S.Source.left l.source ≡ g.S.Source.left l.fn.source;
  kept : g.S.Source.kept l.source ≡ g.S.Source.kept l.fn.source;
}

abbrev pub decreases-loop-loader : goal.decreases-loop-loader
decreases-loop-loader g l = length (g.S.Source.left l.source)
