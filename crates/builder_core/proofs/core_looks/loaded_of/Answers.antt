use Rattle.std.proofs.Common.{◌≡◌, ℕ, ◌+◌, ◌<◌, ◌∙◌, List, length, ap, sym, arith}
use Rattle.std.specs.Prelude.{is_some}
use Rattle.std.proofs.lemmas.List.Sums.{count_by_more_no, count_by_more_yes}
use Rattle.std.proofs.lemmas.Option.{get_or_from_slice_get}
use Rattle.building.specs.BuildingValue.{IndexValue}
use Rattle.page_workers.proofs.Places.{there_is}
use Rattle.builder_core.proofs.core_looks.loaded_of.Goals.{then-is_loaded, else-is_loaded}
use Rattle.builder_core.proofs.core_looks.loaded_of.Goals as goal

pub loop-index-preserved : goal.loop-index-preserved
loop-index-preserved c =
    let indexes : List IndexValue = c.args.work.now.indexes in
    let index = c.loop-index.index in
    let many : c.indexes-index-end.result.now ≡ indexes = c.indexes-index-end.ensures in
    let long = ap (λ (xs : List IndexValue). length xs) many in
    let there : index < length indexes = omega (arith, long, c.loop-index-test.true) in
    let it = there_is indexes index there in
    let is = c.is_loaded.ensures it.0 it.1 in
    elim c.if-is_loaded.branch [
      | then-is_loaded w ↦
          w.loaded-is ∙ ap (λ (n : ℕ). n + 1) c.loop-index.invariant
          ∙ sym (count_by_more_yes (λ (index : IndexValue). is_some index.built) indexes index it.0 there
          (ap (λ (index : IndexValue). is_some index.built) (get_or_from_slice_get indexes index it.0 it.0 it.1) ∙ sym is ∙ w.if-is_loaded.true))
      | else-is_loaded w ↦
          w.loaded-is ∙ c.loop-index.invariant
          ∙ sym (count_by_more_no (λ (index : IndexValue). is_some index.built) indexes index it.0 there
          (ap (λ (index : IndexValue). is_some index.built) (get_or_from_slice_get indexes index it.0 it.0 it.1) ∙ sym is ∙ w.if-is_loaded.false))
    ]
