use Rattle.std.proofs.Common.{◌≡◌, nat_eq, drop}
use Rattle.std.specs.List.{list_any}
use Rattle.sfbuild_c.proofs.index_bytes.is_named.Given as goal

abbrev pub invariant-loop-other : goal.invariant-loop-other
invariant-loop-other l =
    list_any (λ other. nat_eq other.column l.column) l.columns ≡ list_any (λ other. nat_eq other.column l.column) (drop l.other-index l.columns)
