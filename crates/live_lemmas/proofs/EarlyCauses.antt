-- Why a switch waits before its workers are asked.
use Rattle.std.proofs.Common.{◌≡◌, ℕ, Bool, true, false, if◌then◌else◌, List, Option, Some, None, refl, sym, ap, ◌∙◌}
use Rattle.std.specs.Prelude.{is_some, not}
use Rattle.std.specs.Option.{option_map}
use Rattle.std.specs.List.{position}
use Rattle.keybytes.specs.Faults.{first_cause}
use Rattle.keybytes.specs.declared.fault.Fault.{Fault}
use Rattle.keybytes.specs.declared.fault.Fault.TheVariants.{NotLoaded, NotScanned}
use Rattle.build_events.specs.BuildSteps.{build_cause, switch_refusal}
use Rattle.build_events.specs.CoreState.{BuildState, CoreState, IndexState}
use Rattle.build_events.specs.Ranges.{open_range}
use Rattle.build_events.specs.Steps.{refusal}
use Rattle.build_events.specs.Workers.{unloaded_index}
use Rattle.build_events.specs.declared.event.Event.TheVariants.{Switch}
use Rattle.page_workers.specs.WorkerValue.{WorkerValue}
use Rattle.building.specs.BuildingValue.{BuildingValue, IndexValue, WorkValue, state_unless, work_state}
use Rattle.live_lemmas.specs.Builds.{LiveValue, core_state}
use Rattle.live_lemmas.specs.Switching.{early_cause}
use Rattle.live_lemmas.proofs.FedBeside.{indexes_seen}
use Rattle.live_lemmas.proofs.Unloaded.{unloaded_seen}

-- whether it is spoiled, as callers see it
spoiled_seen : (o : Option Fault) (workers : List WorkerValue) (w : WorkValue) → (state_unless o workers w).spoiled ≡ o
spoiled_seen None workers w = refl
spoiled_seen (Some fault) workers w = refl

-- the lowest index that isn't in order
abbrev pub first_unloaded : WorkValue → Option ℕ
first_unloaded w = position (λ (index : IndexValue). not (is_some index.built)) w.indexes

module _
    (in_order : Bool) (live : LiveValue) (building : BuildingValue) (b : BuildState) (w : WorkValue) (runs : live.state.build ≡ Some b)
    (there : building.work ≡ Some w) where
  abbrev unloaded : Option ℕ → Option Fault
  unloaded index = if in_order then option_map NotLoaded index else None

  abbrev early : CoreState → BuildState → Option Fault
  early s x = first_cause s.work.spoiled (first_cause (option_map NotScanned (open_range x)) (unloaded (unloaded_index s.work)))

  -- the causes, one after another
  pub early_is :
      early_cause in_order (core_state live building)
      ≡ first_cause w.spoiled (first_cause (option_map NotScanned (open_range b)) (unloaded (first_unloaded w)))
  early_is =
      ap (λ (o : Option BuildState). build_cause o (early (core_state live building))) runs
      ∙ ap (λ (o : Option WorkValue). first_cause (work_state building.workers o).spoiled (first_cause (option_map NotScanned (open_range b))
      (unloaded (unloaded_index (work_state building.workers o))))) there
      ∙ ap (λ (o : Option Fault). first_cause o (first_cause (option_map NotScanned (open_range b))
      (unloaded (unloaded_index (state_unless w.spoiled building.workers w))))) (spoiled_seen w.spoiled building.workers w)
      ∙ ap (λ (o : Option ℕ). first_cause w.spoiled (first_cause (option_map NotScanned (open_range b)) (unloaded o)))
      (ap (position (λ (index : IndexState). not index.loaded)) (indexes_seen w.spoiled building.workers w) ∙ unloaded_seen w.indexes)

  -- of a build that isn't spoiled, and whose pages are all copied
  module _ (fine : w.spoiled ≡ None) (all : open_range b ≡ None) where
    pub not_loaded : (index : ℕ) → in_order ≡ true → Some index ≡ first_unloaded w → early_cause in_order (core_state live building) ≡ Some (NotLoaded index)
    not_loaded index asked is =
        early_is ∙ rw (fine, all, sym is) (ap (λ (t : Bool). if t then Some (NotLoaded index) else None) asked)

    pub no_cause : (in_order ≡ true → None ≡ first_unloaded w) → early_cause in_order (core_state live building) ≡ None
    no_cause none = early_is ∙ rw (fine, all) (by_asked in_order none) where
      by_asked : (t : Bool) → (t ≡ true → None ≡ first_unloaded w) → (if t then option_map NotLoaded (first_unloaded w) else None) ≡ None
      by_asked false found = refl
      by_asked true found = ap (option_map NotLoaded) (sym (found refl))

-- the first cause that a switch has before its workers are asked is the first that it has
first_of_more :
    (a b c d : Option Fault) (fault : Fault) → first_cause a (first_cause b c) ≡ Some fault → first_cause a (first_cause b (first_cause c d)) ≡ Some fault
first_of_more (Some x) b c d fault is = is
first_of_more None (Some x) c d fault is = is
first_of_more None None (Some x) d fault is = is
first_of_more None None None d fault is = absurd (cc)

pub switch_refused : (s : CoreState) (fault : Fault) → early_cause true s ≡ Some fault → refusal s Switch ≡ Some fault
switch_refused s fault is = by_build s.live.build refl where
  by_build : (o : Option BuildState) → s.live.build ≡ o → refusal s Switch ≡ Some fault
  by_build None none =
      ap (λ (o : Option BuildState). build_cause o (λ b. switch_refusal b s.live.heap s.work)) none
      ∙ ap (λ (o : Option BuildState). build_cause o (λ b. first_cause s.work.spoiled (first_cause (option_map NotScanned (open_range b))
      (option_map NotLoaded (unloaded_index s.work))))) (sym none) ∙ is
  by_build (Some b) runs =
      ap (λ (o : Option BuildState). build_cause o (λ x. switch_refusal x s.live.heap s.work)) runs
      ∙ first_of_more s.work.spoiled (option_map NotScanned (open_range b)) (option_map NotLoaded (unloaded_index s.work)) _ fault
      (ap (λ (o : Option BuildState). build_cause o (λ x. first_cause s.work.spoiled (first_cause (option_map NotScanned (open_range x))
      (option_map NotLoaded (unloaded_index s.work))))) (sym runs) ∙ is)
