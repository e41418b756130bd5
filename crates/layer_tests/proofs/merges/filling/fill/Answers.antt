use Rattle.std.proofs.Common.{map}
use Rattle.layer_tests.proofs.Flat.{each_sorted}
use Rattle.layer_tests.proofs.merges.filling.fill.Goals as goal

pub returns : goal.returns
returns g c =
    each_sorted (map g.S.Spool.runs c.seal.new.spools) (c.seal.ensures.sorted (c.take_pages.ensures.sorted c.requires.sorted))
