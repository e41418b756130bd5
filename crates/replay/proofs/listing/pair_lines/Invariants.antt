use Rattle.std.proofs.Common.{take}
use Rattle.std.specs.List.{AllZip}
use Rattle.replay.specs.Listings.{ListsPair}
use Rattle.replay.proofs.listing.pair_lines.Given as goal

abbrev pub invariant-loop-pair : goal.invariant-loop-pair
invariant-loop-pair l = AllZip (ListsPair l.spec) (take l.pair-index l.pairs) l.lines.items
