use Rattle.std.proofs.Common.{◌≡◌, vec_len}
use Rattle.picture.proofs.timeline_svg.layout.lane_widths.Given as goal

abbrev pub invariant-loop-columns : goal.invariant-loop-columns
invariant-loop-columns l = vec_len l.widths ≡ l.columns-index
