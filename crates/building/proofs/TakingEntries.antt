-- What a build that goes on keeps of an index whose pairs are in order.
use Rattle.std.proofs.Common.{◌≡◌, ℕ, Bool, None, Some, Option, sym, ap, ap₂, ◌∙◌, subst, arith}
use Rattle.std.specs.List.{slice_get}
use Rattle.keybytes.specs.Keys.{KeySpecValue}
use Rattle.keybytes.specs.Pairs.{AreOrdered, set_of}
use Rattle.visibility.specs.Applied.{apply_entries}
use Rattle.catch_up.specs.Built.{told_to}
use Rattle.build_events.proofs.Verdicts.{set_ordered}
use Rattle.building.specs.BuildingValue.{BuildingValue, WorkValue, is_unique, with_pairs}
use Rattle.building.specs.Keeping.{IsIndexOf, IsKept, KeepsWork}
use Rattle.building.specs.Working.{IsTakingEntries}
use Rattle.page_workers.proofs.Places.{below, there_is}

module _
    (index : ℕ) (building seen : BuildingValue) (same : seen ≡ building) (keeps : KeepsWork seen.workers seen.sides seen.spools seen.work)
    (taking : IsTakingEntries index building) (fine : taking.work.spoiled ≡ None) where
  kept : IsKept building.workers building.sides building.spools taking.work
  kept =
      subst (λ (o : Option WorkValue). KeepsWork building.workers building.sides building.spools o) taking.runs
      (subst (λ (b : BuildingValue). KeepsWork b.workers b.sides b.spools b.work) same keeps) fine

  its_spec : (spec : KeySpecValue) × (slice_get taking.work.specs index ≡ Some spec)
  its_spec =
      let less = below taking.work.indexes index taking.it taking.there in
      there_is taking.work.specs index (omega (arith, less, kept.many))

  its_index : IsIndexOf taking.work.build its_spec.0 building.workers taking.end taking.it
  its_index = kept.indexes index its_spec.0 taking.end taking.it its_spec.1 taking.at taking.there

  -- it is the build's, and keeps a tally where it is unique
  pub its_own : taking.built ≡ with_pairs taking.work index taking.built.pairs
  its_own =
      ap₂ (λ (n : ℕ) (tallied : Bool). record { build = n; unique = tallied; pairs = taking.built.pairs }) (its_index.of_build taking.built taking.loaded)
      (its_index.of_spec taking.built taking.loaded ∙ ap is_unique (sym its_spec.1))

  -- and its pairs are in order
  pub its_order : AreOrdered taking.built.pairs
  its_order =
      let pairs = its_index.loaded taking.built taking.loaded in
      set_ordered (apply_entries (told_to taking.work.build taking.end.received) (set_of pairs.made)) taking.built.pairs pairs.applied
