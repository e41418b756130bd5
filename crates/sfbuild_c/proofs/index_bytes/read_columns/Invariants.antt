use Rattle.std.proofs.Common.{◌≡◌, ◌++◌, length, take}
use Rattle.std.specs.List.{flat_map}
use Rattle.sfbuild_c.specs.IndexBytes.{column_bytes}
use Rattle.sfbuild_c.proofs.index_bytes.read_columns.Given as goal

abbrev pub invariant-loop-place : goal.invariant-loop-place
invariant-loop-place l = record {
  places : length l.columns ≡ 4;
  read : l.bytes ≡ flat_map column_bytes (take l.place l.columns) ++ l.rest;
}
