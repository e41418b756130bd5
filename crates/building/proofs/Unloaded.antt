-- The indexes of a build whose pairs are not in order, and their spools.
use Rattle.std.proofs.Common.{◌≡◌, ℕ, ◌<◌, ◌==◌, List, length, set, Some, None, ap, ◌∙◌, inl, inr}
use Rattle.std.specs.List.{slice_get}
use Rattle.std.proofs.lemmas.Bool.{cases_Bool, eqb-true, eqb-false}
use Rattle.keybytes.specs.Keys.{KeySpecValue}
use Rattle.catch_up.specs.Built.{BuiltValue}
use Rattle.page_workers.specs.SpoolValue.{SpoolValue}
use Rattle.page_workers.specs.WorkerValue.{WorkerValue}
use Rattle.building.specs.BuildingValue.{IndexValue, IsUnloaded, WorkValue}
use Rattle.building.specs.Holding.{HaveColumns}
use Rattle.page_workers.proofs.Places.{here_set, stays_there}

-- of fewer indexes the spools hold what they held
pub open_fewer :
    (P Q : ℕ → Type 0) (specs : List KeySpecValue) (workers : List WorkerValue) (spools : List SpoolValue) → ((i : ℕ) → Q i → P i)
    → HaveColumns P specs workers spools → HaveColumns Q specs workers spools
open_fewer P Q specs workers spools fewer columns = record {
  many = columns.many;
  sorted = λ i less opened. columns.sorted i less (fewer i opened);
  pairs = λ i k worker spool less opened at lent. columns.pairs i k worker spool less (fewer i opened) at lent;
}

-- one index has pairs in order
module _ (work : WorkValue) (index : ℕ) (built : BuiltValue) (applied : ℕ) (less : index < length work.indexes) where
  abbrev with_built : IndexValue
  with_built = record { built = Some built; applied = applied }

  abbrev pub with_tree : WorkValue
  with_tree = record work { indexes = set work.indexes index with_built }

  -- it isn't one of those that aren't
  pub not_this : (k : ℕ) → IsUnloaded k with_tree → k ≡ index → ⊥
  not_this k none same =
      let bad : Some built ≡ None = none with_built (ap (slice_get (set work.indexes index with_built)) same ∙ here_set work.indexes index with_built less) in
      cc

  -- and these were so before
  pub unloaded_before : (k : ℕ) → IsUnloaded k with_tree → IsUnloaded k work
  unloaded_before k none it at = elim (cases_Bool (k == index)) [
    | inl same ↦ absurd (not_this k none (eqb-true k index same))
    | inr other ↦ none it (stays_there work.indexes index with_built k it (eqb-false k index other) at)
  ]
