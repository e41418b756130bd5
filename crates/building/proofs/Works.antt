-- The work of a build, as pages are copied and as its pairs are put in order.
use Rattle.std.proofs.Common.{◌≡◌, ℕ, true, List, [], ◌∷◌, ◌++◌, length, set, Option, Some, None, refl, sym, ap, ◌∙◌, subst, arith, inl, inr}
use Rattle.std.specs.List.{slice_get}
use Rattle.std.proofs.lemmas.List.{length-set, length-replicate}
use Rattle.std.proofs.lemmas.Option.{same_Some}
use Rattle.std.specs.Prelude.{is_some, All, IsPermutation}
use Rattle.std.proofs.lemmas.Bool.{false≢true}
use Rattle.keybytes.specs.Keys.{KeySpecValue}
use Rattle.keybytes.specs.declared.fault.Fault.{Fault}
use Rattle.keybytes.specs.declared.kind.Kind.{Kind}
use Rattle.keybytes.specs.declared.pair.Pair.{Pair}
use Rattle.heap_log.specs.declared.record.LogRec.{LogRec}
use Rattle.std.specs.FinMap.{keys}
use Rattle.std.specs.Ordering.{eq_by_cmp}
use Rattle.std.proofs.lemmas.List.Sorted.{list_any-IsPermutation}
use Rattle.keybytes.specs.Pairs.{AreOrdered, pair_cmp, set_of}
use Rattle.keybytes.proofs.PairSets.{contains-set_of, same_members}
use Rattle.building.specs.BuildingValue.{WorkValue, IndexValue, with_index, fresh, fresh_index, with_pairs, is_unique}
use Rattle.building.specs.WorkOn.{IsIndexOn, IsWorkOfBuild, IsCaughtUpTo}
use Rattle.page_workers.proofs.Places.{at_set, replicate_at}
use Rattle.build_events.specs.CoreState.{BuildState, scanning_of}
use Rattle.build_events.specs.Ranges.{open_range}
use Rattle.build_events.specs.Scanning.{Scanning, scanned_pairs}
use Rattle.build_events.proofs.ScanSteps.{scan_now}

-- nothing was done on an index
fresh_on : (log : List LogRec) (b : BuildState) (s : KeySpecValue) → IsIndexOn log b s fresh_index
fresh_on log b s = record {
  all = λ e. absurd (false≢true e);
  none_before = λ e. refl;
  there = omega arith;
  loaded = λ built e. absurd (cc);
  of_build = λ built e. absurd (cc);
  of_spec = λ built e. absurd (cc);
}

pub fresh_work_on :
    (kinds : List Kind) (log : List LogRec) (b : BuildState) (specs : List KeySpecValue) → b.specs ≡ specs
    → All (λ spec. spec.kinds ≡ kinds) specs → IsWorkOfBuild kinds log b (fresh b.number specs)
fresh_work_on kinds log b specs are same = record {
  number = refl;
  specs = are;
  columns = same;
  many = length-replicate (length specs) fresh_index ∙ sym (ap length are);
  indexes = λ k s index at there. subst (IsIndexOn log b s) (sym (replicate_at (length specs) fresh_index k index there)) (fresh_on log b s);
}

-- its indexes are being loaded
pub loading_work_on :
    (kinds : List Kind) (log : List LogRec) (b : BuildState) (work : WorkValue) → IsWorkOfBuild kinds log b work → IsWorkOfBuild kinds log b (record work { handed = true })
loading_work_on kinds log b work is = record {
  number = is.number;
  specs = is.specs;
  columns = is.columns;
  many = is.many;
  indexes = is.indexes;
}

-- what isn't there
pub none_of : {X : Type 0} → (o : Option X) → (is_some o ≡ true → ⊥) → o ≡ None
none_of None not = refl
none_of (Some x) not = absurd (not refl)

scanned_index_on :
    (log : List LogRec) (b : BuildState) (spec : KeySpecValue) (index : IndexValue) (worker page : ℕ) → IsIndexOn log b spec index → (open_range b ≡ None → ⊥)
    → IsIndexOn log (record b { scans = b.scans ++ scan_now worker page log ∷ [] }) spec index
scanned_index_on log b spec index worker page is more = record {
  all = λ e. absurd (more (is.all e));
  none_before = is.none_before;
  there =
      let none : index.applied ≡ 0 = is.none_before (none_of index.built (λ some. more (is.all some))) in
      omega (arith, none);
  loaded = λ built t. absurd (let some : is_some index.built ≡ true = ap is_some t in more (is.all some));
  of_build = is.of_build;
  of_spec = is.of_spec;
}

-- one page more was copied
pub scanned_work_on :
    (kinds : List Kind) (log : List LogRec) (b : BuildState) (work : WorkValue) (worker page : ℕ) → IsWorkOfBuild kinds log b work → (open_range b ≡ None → ⊥)
    → IsWorkOfBuild kinds log (record b { scans = b.scans ++ scan_now worker page log ∷ [] }) work
scanned_work_on kinds log b work worker page is more = record {
  number = is.number;
  specs = is.specs;
  columns = is.columns;
  many = is.many;
  indexes = λ k spec index at there. scanned_index_on log b spec index worker page (is.indexes k spec index at there) more;
}

-- it is spoiled
pub spoiled_work_on :
    (kinds : List Kind) (log : List LogRec) (b : BuildState) (work : WorkValue) (fault : Fault) → IsWorkOfBuild kinds log b work
    → IsWorkOfBuild kinds log b (record work { spoiled = Some fault })
spoiled_work_on kinds log b work fault is = record {
  number = is.number;
  specs = is.specs;
  columns = is.columns;
  many = is.many;
  indexes = is.indexes;
}

-- pairs that are each once have the set of those that they were, in another order
pub same_set : (made pairs : List Pair) → IsPermutation made pairs → set_of pairs ≡ set_of made
same_set made pairs moved =
    same_members (set_of pairs) (set_of made) (λ q.
    contains-set_of pairs q ∙ sym (list_any-IsPermutation (eq_by_cmp pair_cmp q) made pairs moved) ∙ sym (contains-set_of made q))

-- the work on one of its indexes is other work on it
pub set_work_on :
    (kinds : List Kind) (log : List LogRec) (b : BuildState) (work : WorkValue) (index : ℕ) (spec : KeySpecValue) (new : IndexValue) → IsWorkOfBuild kinds log b work
    → slice_get b.specs index ≡ Some spec → IsIndexOn log b spec new → IsWorkOfBuild kinds log b (record work { indexes = set work.indexes index new })
set_work_on kinds log b work index spec new is here on = record {
  number = is.number;
  specs = is.specs;
  columns = is.columns;
  many = length-set work.indexes index new ∙ is.many;
  indexes = λ k s it at there. elim (at_set work.indexes index new k it there) [
    | inl same ↦
        let spec_is : spec ≡ s = same_Some spec s (sym here ∙ ap (slice_get b.specs) (sym same.0) ∙ at) in
        subst (IsIndexOn log b s) (sym same.1) (subst (λ x. IsIndexOn log b x new) spec_is on)
    | inr other ↦ is.indexes k s it at other.1
  ];
}

-- the pairs of an index are in order
pub sorted_work_on :
    (kinds : List Kind) (log : List LogRec) (b : BuildState) (work : WorkValue) (index : ℕ) (spec : KeySpecValue) (made pairs : List Pair) → IsWorkOfBuild kinds log b work
    → slice_get b.specs index ≡ Some spec → open_range b ≡ None → IsPermutation made (scanned_pairs (scanning_of b spec) log) → IsPermutation made pairs
    → AreOrdered pairs → IsWorkOfBuild kinds log b (with_index work index pairs 0)
sorted_work_on kinds log b work index spec made pairs is here all whole moved ordered =
    set_work_on kinds log b work index spec (record { built = Some (with_pairs work index pairs); applied = 0 }) is here (record {
      all = λ e. all;
      none_before = λ e. absurd (cc);
      there = omega arith;
      loaded = λ built t.
          let same : pairs ≡ built.pairs = cc in
          let seen : Scanning = scanning_of b spec in
          subst (IsCaughtUpTo 0 seen log) same (ordered ∙ ap keys (same_set made pairs moved ∙ sym (same_set made (scanned_pairs seen log) whole)));
      of_build = λ built t.
          let same : work.build ≡ built.build = cc in
          sym same ∙ is.number;
      of_spec = λ built t.
          let same : is_unique (slice_get work.specs index) ≡ built.unique = cc in
          sym same ∙ ap is_unique (ap (λ specs. slice_get specs index) (sym is.specs) ∙ here);
    })
