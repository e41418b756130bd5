use Rattle.std.proofs.Common.{◌≡◌, drop}
use Rattle.keybytes.specs.Keys.{are_distinct, are_there}
use Rattle.sfbuild_c.proofs.index_bytes.are_key_columns.Given as goal

abbrev pub invariant-loop-place : goal.invariant-loop-place
invariant-loop-place l = record {
  once : are_distinct l.columns ≡ are_distinct (drop l.place l.columns);
  there : are_there l.kinds l.columns ≡ are_there l.kinds (drop l.place l.columns);
}
