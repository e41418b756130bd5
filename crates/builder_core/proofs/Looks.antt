-- The indexes of a build as callers see them.
use Rattle.std.proofs.Common.{◌≡◌, ℕ, Option, None, Some, sym, ap, ◌∙◌}
use Rattle.std.specs.Prelude.{is_some, not, count_by}
use Rattle.std.specs.List.{position}
use Rattle.std.proofs.lemmas.List.Folds.{fold-map}
use Rattle.build_events.specs.CoreState.{CoreState, IndexState}
use Rattle.build_events.specs.Workers.{unloaded_index}
use Rattle.building.specs.BuildingValue.{BuildingValue, IndexValue, WorkValue, index_state, work_state}
use Rattle.live_lemmas.specs.Builds.{LiveValue, core_state}
use Rattle.live_lemmas.proofs.FedBeside.{indexes_seen}
use Rattle.live_lemmas.proofs.Unloaded.{unloaded_seen}

module _ (s : CoreState) (live : LiveValue) (building : BuildingValue) (is : core_state live building ≡ s) where
  pub none_unloaded : building.work ≡ None → None ≡ unloaded_index s.work
  none_unloaded none = sym (ap (λ (o : Option WorkValue). unloaded_index (work_state building.workers o)) none) ∙ ap (λ (s : CoreState). unloaded_index s.work) is

  pub unloaded_is :
      (w : WorkValue) (lowest : Option ℕ) → building.work ≡ Some w → lowest ≡ position (λ (index : IndexValue). not (is_some index.built)) w.indexes
      → lowest ≡ unloaded_index s.work
  unloaded_is w lowest there found =
      found ∙ sym (unloaded_seen w.indexes)
      ∙ sym (ap (position (λ (index : IndexState). not index.loaded)) (indexes_seen w.spoiled building.workers w))
      ∙ sym (ap (λ (o : Option WorkValue). unloaded_index (work_state building.workers o)) there)
      ∙ ap (λ (s : CoreState). unloaded_index s.work) is

  pub none_loaded : building.work ≡ None → 0 ≡ count_by (λ (index : IndexState). index.loaded) s.work.indexes
  none_loaded none =
      sym (ap (λ (o : Option WorkValue). count_by (λ (index : IndexState). index.loaded) (work_state building.workers o).indexes) none)
      ∙ ap (λ (s : CoreState). count_by (λ (index : IndexState). index.loaded) s.work.indexes) is

  pub loaded_is :
      (w : WorkValue) (loaded : ℕ) → building.work ≡ Some w → loaded ≡ count_by (λ (index : IndexValue). is_some index.built) w.indexes
      → loaded ≡ count_by (λ (index : IndexState). index.loaded) s.work.indexes
  loaded_is w loaded there counted =
      counted ∙ sym (fold-map _ index_state 0 w.indexes)
      ∙ sym (ap (count_by (λ (index : IndexState). index.loaded)) (indexes_seen w.spoiled building.workers w))
      ∙ sym (ap (λ (o : Option WorkValue). count_by (λ (index : IndexState). index.loaded) (work_state building.workers o).indexes) there)
      ∙ ap (λ (s : CoreState). count_by (λ (index : IndexState). index.loaded) s.work.indexes) is
