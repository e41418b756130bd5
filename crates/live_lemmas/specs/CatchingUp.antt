-- How the indexes of a build catch up at its switch, and what is then ready.
use Rattle.std.specs.Prelude.{◌≡◌, ℕ, ◌<◌, if◌then◌else◌, List, [], ◌∷◌, set, length, true, Option, Some, None}
use Rattle.std.specs.List.{slice_get}
use Rattle.keybytes.specs.Keys.{KeySpecValue, are_key_columns}
use Rattle.keybytes.specs.declared.pair.Pair.{Pair}
use Rattle.unique_verdict.specs.Verdicts.{accepts}
use Rattle.catch_up.specs.Built.{BuiltValue}
use Rattle.building.specs.BuildingValue.{IndexValue}
use Rattle.build_events.specs.CoreState.{BuildState, IndexState, CoreState}
use Rattle.ready_indexes.specs.Indexes.{ReadyValue, IsIndex}
use Rattle.build_events.specs.BuildSteps.{OnBuild, IsFurther, apply_refusal}
use Rattle.build_events.specs.Workers.{all_entries, unapplied, fed_to, index_at}
use Rattle.building.specs.Verdicts.{its_verdict}

-- how many entries of an index were not applied yet
abbrev pub unapplied_at : BuildState → CoreState → ℕ → Option KeySpecValue → ℕ
unapplied_at b s index None = 0
unapplied_at b s index (Some spec) = unapplied b s.live.heap.log spec (index_at s.work.indexes index)

-- the same of the build that runs
abbrev pub left_of : Option BuildState → CoreState → ℕ → ℕ
left_of None s index = 0
left_of (Some b) s index = unapplied_at b s index (slice_get b.specs index)

abbrev pub left_at : ℕ → CoreState → ℕ
left_at index s = left_of s.live.build s index

-- nothing keeps entries from being applied to each index
abbrev pub MayCatchUp : CoreState → Type 0
MayCatchUp s = OnBuild s.live.build (λ b. (index : ℕ) → index < length b.specs → apply_refusal b s.work index ≡ None)

-- so many entries of an index were fed and applied by now, and nothing else changed
abbrev pub further_by : CoreState → BuildState → ℕ → IndexState → ℕ → ℕ → CoreState
further_by s b index old fed applied = record s {
  live = record s.live { build = Some (record b { fed = set b.fed index fed }) };
  work = record s.work { indexes = set s.work.indexes index (record old { applied = applied }) };
}

-- one index of the build is further, and no other
pub record IndexIsFurther (index : ℕ) (s new : CoreState) : Type 0 where
  pub build : BuildState
  pub runs : s.live.build ≡ Some build
  pub spec : KeySpecValue
  pub at : slice_get build.specs index ≡ Some spec
  pub counted : index < length build.fed
  pub old : IndexState
  pub there : slice_get s.work.indexes index ≡ Some old
  pub fed : ℕ
  pub applied : ℕ
  pub further : IsFurther (all_entries build s.live.heap.log spec) (fed_to build index) old fed (record old { applied = applied })
  pub new_is : new ≡ further_by s build index old fed applied

-- an index of a build has its pairs, which can be those of a ready index if the columns of its specification make a key
pub record IsDoneIndex (spec : KeySpecValue) (index : IndexValue) : Type 0 where
  pub built : BuiltValue
  pub there : index.built ≡ Some built
  pub index_is : are_key_columns spec.kinds spec.columns ≡ true → IsIndex spec built.pairs

-- the pairs of an index of a build
abbrev pub built_pairs : Option BuiltValue → List Pair
built_pairs None = []
built_pairs (Some built) = built.pairs

-- the accepted ones are ready, each with its specification
abbrev pub ready_of : List KeySpecValue → List IndexValue → List ReadyValue
ready_of [] indexes = []
ready_of (spec ∷ specs) [] = []
ready_of (spec ∷ specs) (index ∷ indexes) =
    if accepts (its_verdict index) then record { spec = spec; pairs = built_pairs index.built } ∷ ready_of specs indexes else ready_of specs indexes
