-- Entries that an index's ring gave are applied to its pairs.
use Rattle.std.proofs.Common.{◌≡◌, ℕ, ◌<◌, false, List, ◌++◌, length, set, Some, None, sym, ap, ◌∙◌, subst, inl, inr}
use Rattle.std.specs.FinMap.{keys}
use Rattle.std.specs.List.{slice_get}
use Rattle.std.proofs.lemmas.List.{length-set}
use Rattle.std.proofs.lemmas.Option.{same_Some}
use Rattle.keybytes.specs.Keys.{KeySpecValue}
use Rattle.keybytes.specs.Pairs.{AreOrdered, set_of}
use Rattle.keybytes.proofs.PairSets.{set_of-keys}
use Rattle.side_file.specs.declared.entry.Entry.{Entry}
use Rattle.visibility.specs.Applied.{apply_entries}
use Rattle.visibility.specs.SideEntries.{SideEntry}
use Rattle.visibility.proofs.Changes.{apply-append}
use Rattle.catch_up.specs.Applying.{Applied}
use Rattle.catch_up.specs.Built.{BuiltValue, told_to}
use Rattle.catch_up.proofs.Telling.{told_to-append}
use Rattle.page_workers.specs.SpoolValue.{SpoolValue}
use Rattle.side_file.specs.Ends.{TakeEnd}
use Rattle.page_workers.specs.WorkerValue.{WorkerValue}
use Rattle.building.specs.BuildingValue.{IndexValue, IsUnloaded, WorkValue}
use Rattle.building.specs.Keeping.{ArePairsOf, IsIndexOf, KeepsWork}
use Rattle.building.proofs.Unloaded.{open_fewer, unloaded_before, with_tree}
use Rattle.page_workers.proofs.Places.{all_at, at_set, below, set_elsewhere, set_there}

-- to pairs with entries applied more are applied
applied_pairs :
    (build : ℕ) (spec : KeySpecValue) (workers : List WorkerValue) (before entries all : List Entry) (old new : BuiltValue) → old.build ≡ build → all ≡ before ++ entries
    → Applied entries old new → AreOrdered new.pairs → ArePairsOf spec workers (told_to build before) old.pairs → ArePairsOf spec workers (told_to build all) new.pairs
applied_pairs build spec workers before entries all old new number together applied ordered was = record {
  made = was.made;
  received = was.received;
  applied =
      let had : set_of old.pairs ≡ apply_entries (told_to build before) (set_of was.made) =
      ap set_of was.applied ∙ set_of-keys (apply_entries (told_to build before) (set_of was.made)) in
      let told : told_to build all ≡ told_to build before ++ told_to build entries = ap (told_to build) together ∙ told_to-append build before entries in
      ordered
      ∙ ap keys (applied.pairs
      ∙ ap (λ (n : ℕ). apply_entries (told_to n entries) (set_of old.pairs)) number
      ∙ ap (apply_entries (told_to build entries)) had
      ∙ sym (apply-append (told_to build before) (told_to build entries) (set_of was.made))
      ∙ ap (λ (es : List SideEntry). apply_entries es (set_of was.made)) (sym told));
}

module _
    (workers : List WorkerValue) (sides : List (TakeEnd Entry)) (spools : List SpoolValue) (work : WorkValue) (index : ℕ) (it : IndexValue)
    (at : slice_get work.indexes index ≡ Some it) (built after : BuiltValue) (loaded : it.built ≡ Some built) (end new_end : TakeEnd Entry)
    (taking : slice_get sides index ≡ Some end) (entries : List Entry) (received : new_end.received ≡ end.received ++ entries)
    (applied : Applied entries built after) (ordered : AreOrdered after.pairs) (count : ℕ) where
  pub here : index < length work.indexes
  here = below work.indexes index it at

  abbrev new_it : IndexValue
  new_it = record { built = Some after; applied = count }

  pub applied_index : (spec : KeySpecValue) → IsIndexOf work.build spec workers end it → IsIndexOf work.build spec workers new_end new_it
  applied_index spec is = record {
    none_before = λ e. absurd (cc);
    of_build = λ b e. ap (λ (x : BuiltValue). x.build) (sym (same_Some after b e)) ∙ applied.build ∙ is.of_build built loaded;
    of_spec = λ b e. ap (λ (x : BuiltValue). x.unique) (sym (same_Some after b e)) ∙ applied.unique ∙ is.of_spec built loaded;
    loaded = λ b e.
        subst (λ (x : BuiltValue). ArePairsOf spec workers (told_to work.build new_end.received) x.pairs) (same_Some after b e)
        (applied_pairs work.build spec workers end.received entries new_end.received built after (is.of_build built loaded) received applied ordered
        (is.loaded built loaded));
  }

  pub applied_kept : KeepsWork workers sides spools (Some work) → KeepsWork workers (set sides index new_end) spools (Some (with_tree work index after count here))
  applied_kept is = λ fine.
      let kept = is fine in
      let not_scanning : work.handed ≡ false → ⊥ = λ scans.
      let bad : Some built ≡ None = sym loaded ∙ all_at (λ (i : IndexValue). i.built ≡ None) work.indexes index it (kept.unloaded scans) at in
      cc in
      record {
        many = length-set work.indexes index new_it ∙ kept.many;
        placed = kept.placed;
        indexes = λ k spec e x there at_end x_at. elim (at_set work.indexes index new_it k x x_at) [
          | inl this ↦
              let its = kept.indexes index spec end it (ap (slice_get work.specs) (sym this.0) ∙ there) taking at in
              let ends : e ≡ new_end = set_there sides index new_end k e at_end this.0 in
              subst (λ (y : IndexValue). IsIndexOf work.build spec workers e y) (sym this.1)
              (subst (λ (y : TakeEnd Entry). IsIndexOf work.build spec workers y new_it) (sym ends) (applied_index spec its))
          | inr other ↦ kept.indexes k spec e x there (set_elsewhere sides index new_end k e at_end other.0) other.1
        ];
        lent = λ scans. absurd (not_scanning scans);
        unloaded = λ scans. absurd (not_scanning scans);
        handed = kept.handed;
        columns = λ loads. open_fewer (λ i. IsUnloaded i work) (λ i. IsUnloaded i (with_tree work index after count here)) work.specs workers spools
            (unloaded_before work index after count here) (kept.columns loads);
        once = λ loads i less empty. kept.once loads i less (unloaded_before work index after count here i empty);
      }
