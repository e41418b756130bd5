-- Entries that were not fed, one side-file after another.
use Rattle.std.proofs.Common.{◌≡◌, ℕ, suc, ◌+◌, List, Option, refl, subst, arith}
use Rattle.heap_log.specs.declared.record.LogRec.{LogRec}
use Rattle.build_events.specs.CoreState.{BuildState}
use Rattle.kept_table.specs.Progresses.{unfed_at, unfed_below}

pub unfed_more :
    (log : List LogRec) (build : Option BuildState) (count : ℕ)
    → unfed_below log build (count + 1) ≡ unfed_below log build count + unfed_at log build count
unfed_more log build count =
    let next : suc count ≡ count + 1 = omega arith in
    subst (λ (n : ℕ). unfed_below log build n ≡ unfed_below log build count + unfed_at log build count) next refl
