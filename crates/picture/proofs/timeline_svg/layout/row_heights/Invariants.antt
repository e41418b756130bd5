use Rattle.std.proofs.Common.{◌≡◌, vec_len}
use Rattle.picture.proofs.timeline_svg.layout.row_heights.Given as goal

abbrev pub invariant-loop-row : goal.invariant-loop-row
invariant-loop-row l = vec_len l.heights ≡ l.row-index
