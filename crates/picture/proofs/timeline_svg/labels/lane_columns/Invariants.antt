use Rattle.std.proofs.Common.{◌≡◌, vec_len}
use Rattle.picture.proofs.timeline_svg.labels.lane_columns.Given as goal

abbrev pub invariant-loop-lane : goal.invariant-loop-lane
invariant-loop-lane l = vec_len l.columns ≡ l.lane-index

abbrev pub invariant-loop-row : goal.invariant-loop-row
invariant-loop-row l = vec_len l.columns ≡ vec_len l.initial.columns
