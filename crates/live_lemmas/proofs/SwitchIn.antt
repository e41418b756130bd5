-- What a switch makes ready.
use Rattle.std.proofs.Common.{◌≡◌, ℕ, zero, suc, ◌+◌, ◌<◌, Bool, true, false, List, [], ◌∷◌, ◌++◌, length, Option, Some, None, refl, sym, ap, ap₂, ◌∙◌, subst, arith}
use Rattle.std.specs.Prelude.{map, if◌then◌else◌}
use Rattle.keybytes.specs.Keys.{KeySpecValue, are_key_columns}
use Rattle.keybytes.specs.declared.kind.Kind.{Kind}
use Rattle.keybytes.specs.declared.pair.Pair.{Pair}
use Rattle.heap_log.specs.declared.outcome.Outcome.{Outcome}
use Rattle.heap_table.specs.HeapState.{HeapState, after_switch, after_fence, busy_txns}
use Rattle.heap_table.proofs.KeysAtRest.{keys_at_rest}
use Rattle.heap_table.specs.Sound.{HoldsFollowLog}
use Rattle.heap_table.specs.Kept.{RowsFit}
use Rattle.heap_table.specs.TablePairs.{index_pairs, pairs_at_rest}
use Rattle.keybytes.proofs.ColumnOrder.{column_order}
use Rattle.keybytes.specs.Pairs.{HaveKeysOf, AreInColumnOrder}
use Rattle.catch_up.specs.Built.{BuiltValue}
use Rattle.live_lemmas.specs.Builds.{LiveValue, IsRunning, StandsBeside, cause_of, core_state}
use Rattle.building.specs.BuildingValue.{BuildingValue, WorkValue, IndexValue, state_unless, work_state, index_state}
use Rattle.live_lemmas.specs.CatchingUp.{IsDoneIndex, MayCatchUp, built_pairs, ready_of}
use Rattle.building.specs.Verdicts.{built_verdict, its_verdict}
use Rattle.ready_indexes.specs.Following.{MayFollow}
use Rattle.heap_log.specs.declared.record.LogRec.{LogRec}
use Rattle.std.specs.List.{All, AllZip, slice_get}
use Rattle.std.proofs.lemmas.List.Elements.{All-cons, All-head, All-nil, All-tail}
use Rattle.std.proofs.lemmas.Option.{same_Some}
use Rattle.live_lemmas.proofs.ApplyCauses.{fine_by}
use Rattle.building.proofs.Applying.{stays_built}
use Rattle.page_workers.proofs.Places.{below, map_at}
use Rattle.build_events.specs.CoreState.{BuildState, IndexState, LiveState, CoreState, SpoolsState, idle}
use Rattle.ready_indexes.specs.Indexes.{IsIndex, ReadyValue, index_now}
use Rattle.building.specs.Holding.{all_spools, spools_state}
use Rattle.build_events.specs.BuildSteps.{AreKeyed, OnBuild, Switches, CatchesUp, AreFurther, apply_refusal, busy_refusal, after_switch_in, verdicts_on}
use Rattle.build_events.specs.Verdicts.{accepted, outcomes, verdict_on}
use Rattle.build_events.specs.Workers.{all_unapplied, unapplied}
use Rattle.unique_verdict.specs.Shared.{shared_pairs}
use Rattle.unique_verdict.specs.Verdicts.{accepts, first_shared}
use Rattle.unique_verdict.specs.declared.verdict.Verdict.{Verdict}
use Rattle.unique_verdict.specs.declared.verdict.Verdict.TheVariants.{Unique}
use Rattle.build_events.specs.declared.event.Event.TheVariants.{Switch}
use Rattle.table_scan.specs.TableBuilds.{BuildFollows}
use Rattle.live_lemmas.proofs.Refusals.{running_inside}
use Rattle.live_lemmas.proofs.Unloaded.{may_after, may_catch_up}
use Rattle.live_lemmas.proofs.MadeReady.{may_follow, no_writers, ready_more, ready_same}
use Rattle.build_events.proofs.Verdicts.{accepted_more, accepted_same}
use Rattle.live_lemmas.proofs.FedBeside.{indexes_seen}
use Rattle.table_scan.proofs.TableBuilds.{columns_at}
use Rattle.live_lemmas.proofs.TableBuilds.{switched_pairs}

-- of those that can be ready the first can, and the others
module _
    (specs rest : List KeySpecValue) (indexes others : List IndexValue) (spec : KeySpecValue) (is : specs ≡ spec ∷ rest) (all : AllZip IsDoneIndex specs indexes) where
  pub first_done : (index : IndexValue) → indexes ≡ index ∷ others → IsDoneIndex spec index × AllZip IsDoneIndex rest others
  first_done index there =
      subst (λ (is : List IndexValue). AllZip IsDoneIndex (spec ∷ rest) is) there (subst (λ (ss : List KeySpecValue). AllZip IsDoneIndex ss indexes) is all)

  pub none_done : indexes ≡ [] → ⊥
  none_done gone =
      subst (λ (is : List IndexValue). AllZip IsDoneIndex (spec ∷ rest) is) gone (subst (λ (ss : List KeySpecValue). AllZip IsDoneIndex ss indexes) is all)

-- the pairs at rest of indexes whose columns make a key
keyed_each :
    (kinds : List Kind) (log : List LogRec) → RowsFit kinds log → (specs : List KeySpecValue) → All (λ spec. spec.kinds ≡ kinds) specs
    → All (λ spec. are_key_columns spec.kinds spec.columns ≡ true) specs → AreKeyed log specs
keyed_each kinds log rows [] columns keys = All-nil (λ spec. IsIndex spec (pairs_at_rest spec log))
keyed_each kinds log rows (spec ∷ specs) columns keys =
    let HasColumns : KeySpecValue → Type 0 = λ s. s.kinds ≡ kinds in
    let HasKey : KeySpecValue → Type 0 = λ s. are_key_columns s.kinds s.columns ≡ true in
    All-cons (λ spec. IsIndex spec (pairs_at_rest spec log)) spec specs
    (record {
      keys = keys_at_rest spec kinds log (All-head HasColumns spec specs columns) rows;
      order = column_order spec (index_pairs spec log) (All-head HasKey spec specs keys);
    })
    (keyed_each kinds log rows specs (All-tail HasColumns spec specs columns) (All-tail HasKey spec specs keys))

-- none of an index is left where none is of all
none_of_each :
    (b : BuildState) (log : List LogRec) (specs : List KeySpecValue) (indexes : List IndexState) (k : ℕ) (spec : KeySpecValue) (index : IndexState)
    → all_unapplied b log specs indexes ≡ 0 → slice_get specs k ≡ Some spec → slice_get indexes k ≡ Some index → unapplied b log spec index ≡ 0
none_of_each b log [] indexes k spec index none at there = absurd (cc)
none_of_each b log (s ∷ specs) [] k spec index none at there = absurd (cc)
none_of_each b log (s ∷ specs) (i ∷ indexes) zero spec index none at there =
    let spec_is = same_Some s spec at in
    let index_is = same_Some i index there in
    rw (sym spec_is, sym index_is) (omega (arith, none))
none_of_each b log (s ∷ specs) (i ∷ indexes) (suc k) spec index none at there =
    none_of_each b log specs indexes k spec index (let rest : all_unapplied b log specs indexes ≡ 0 = omega (arith, none) in rest) at there

-- the index has the pairs of the rows that stand, with a tally if it is unique
pub record IsAtRest (log : List LogRec) (spec : KeySpecValue) (index : IndexValue) : Type 0 where
  pub built : BuiltValue
  pub there : index.built ≡ Some built
  pub pairs : built.pairs ≡ pairs_at_rest spec log
  pub tallied : built.unique ≡ spec.unique

-- so its verdict is the one on these rows
verdict_is : (log : List LogRec) (spec : KeySpecValue) (index : IndexValue) → IsAtRest log spec index → its_verdict index ≡ verdict_on log spec
verdict_is log spec index at =
    ap built_verdict at.there
    ∙ ap₂ (λ (tallied : Bool) (ps : List Pair). if tallied then first_shared (shared_pairs ps) else Unique) at.tallied at.pairs

verdicts_are :
    (log : List LogRec) (specs : List KeySpecValue) (indexes : List IndexValue) → length indexes ≡ length specs
    → ((k : ℕ) (spec : KeySpecValue) (index : IndexValue) → slice_get specs k ≡ Some spec → slice_get indexes k ≡ Some index → IsAtRest log spec index)
    → map its_verdict indexes ≡ map (verdict_on log) specs
verdicts_are log [] [] many each = refl
verdicts_are log [] (index ∷ indexes) many each = absurd (cc)
verdicts_are log (spec ∷ specs) [] many each = absurd (cc)
verdicts_are log (spec ∷ specs) (index ∷ indexes) many each =
    ap₂ (λ (v : Verdict) (rest : List Verdict). v ∷ rest) (verdict_is log spec index (each 0 spec index refl refl))
    (verdicts_are log specs indexes (omega (arith, many)) (λ k s i at there. each (suc k) s i at there))

ready_are :
    (log : List LogRec) (specs : List KeySpecValue) (indexes : List IndexValue) → length indexes ≡ length specs
    → ((k : ℕ) (spec : KeySpecValue) (index : IndexValue) → slice_get specs k ≡ Some spec → slice_get indexes k ≡ Some index → IsAtRest log spec index)
    → ready_of specs indexes ≡ map (index_now log) (accepted log specs)
ready_are log [] indexes many each = refl
ready_are log (spec ∷ specs) [] many each = absurd (cc)
ready_are log (spec ∷ specs) (index ∷ indexes) many each =
    by_verdict (accepts (verdict_on log spec)) refl (ready_are log specs indexes (omega (arith, many)) (λ k s i at there. each (suc k) s i at there)) where
      here : IsAtRest log spec index
      here = each 0 spec index refl refl

      told : accepts (its_verdict index) ≡ accepts (verdict_on log spec)
      told = ap accepts (verdict_is log spec index here)

      by_verdict :
          (b : Bool) → accepts (verdict_on log spec) ≡ b → ready_of specs indexes ≡ map (index_now log) (accepted log specs)
          → ready_of (spec ∷ specs) (index ∷ indexes) ≡ map (index_now log) (accepted log (spec ∷ specs))
      by_verdict true takes rest =
          let pairs : built_pairs index.built ≡ pairs_at_rest spec log = ap built_pairs here.there ∙ here.pairs in
          ready_more (spec ∷ specs) specs (index ∷ indexes) indexes spec index refl refl (told ∙ takes)
          ∙ ap₂ (λ (ps : List Pair) (more : List ReadyValue). record { spec = spec; pairs = ps } ∷ more) pairs rest
          ∙ sym (ap (map (index_now log)) (accepted_more log spec specs takes))
      by_verdict false drops rest =
          ready_same (spec ∷ specs) specs (index ∷ indexes) indexes spec index refl refl (told ∙ drops) ∙ rest
          ∙ sym (ap (map (index_now log)) (accepted_same log spec specs drops))

-- a build runs whose indexes caught up for its switch
pub record HasCaughtUp (live : LiveValue) (building : BuildingValue) (b : BuildState) (w : WorkValue) : Type 0 where
  pub run : IsRunning live building b w
  pub may : MayCatchUp (core_state live building)
  pub all : OnBuild live.state.build (λ b. all_unapplied b live.state.heap.log b.specs (work_state building.workers building.work).indexes ≡ 0)

-- told of a table from within
pub caught_up :
    (inside old live : LiveValue) (before building : BuildingValue) (b : BuildState) (w : WorkValue) → inside ≡ live → inside.state.build ≡ Some b
    → building.work ≡ Some w → BuildFollows inside.state.heap.schema inside.state.heap.log inside.state.build → StandsBeside old before → StandsBeside live building
    → cause_of old before Switch ≡ None → CatchesUp (core_state old before) (core_state live building)
    → OnBuild live.state.build (λ b. all_unapplied b live.state.heap.log b.specs (work_state building.workers building.work).indexes ≡ 0)
    → HasCaughtUp live building b w
caught_up inside old live before building b w view_is build_is work_is follows worked works free further all = record {
  run = running_inside inside live building b w view_is build_is work_is follows works;
  may = may_after (core_state old before) (core_state live building) further (may_catch_up old before worked free);
  all = all;
}

module _
    (live : LiveValue) (building : BuildingValue) (b : BuildState) (w : WorkValue) (caught : HasCaughtUp live building b w) where
  abbrev run : IsRunning live building b w
  run = caught.run

  indexes_are : (work_state building.workers building.work).indexes ≡ map index_state w.indexes
  indexes_are = ap (λ (o : Option WorkValue). (work_state building.workers o).indexes) run.work_is ∙ indexes_seen w.spoiled building.workers w

  -- each index has the pairs of the rows that stand
  pub index_done :
      (k : ℕ) (spec : KeySpecValue) (index : IndexValue) → slice_get b.specs k ≡ Some spec → slice_get w.indexes k ≡ Some index
      → IsAtRest live.state.heap.log spec index
  index_done k spec index at there =
      let on = run.on.indexes k spec index at there in
      let seen = map_at index_state w.indexes k index there in
      let free : apply_refusal b (work_state building.workers building.work) k ≡ None =
      subst (λ (o : Option BuildState). OnBuild o (λ x. (i : ℕ) → i < length x.specs → apply_refusal x (work_state building.workers building.work) i ≡ None)) run.build_is caught.may k
      (below b.specs k spec at) in
      let free_now : apply_refusal b (state_unless w.spoiled building.workers w) k ≡ None =
      ap (λ (o : Option WorkValue). apply_refusal b (work_state building.workers o) k) (sym run.work_is) ∙ free in
      let loaded = (fine_by b w building.workers k index there w.spoiled free_now).1 in
      let none : all_unapplied b live.state.heap.log b.specs (map index_state w.indexes) ≡ 0 =
      ap (all_unapplied b live.state.heap.log b.specs) (sym indexes_are)
      ∙ subst (λ (o : Option BuildState). OnBuild o (λ x. all_unapplied x live.state.heap.log x.specs (work_state building.workers building.work).indexes ≡ 0)) run.build_is caught.all in
      let left = none_of_each b live.state.heap.log b.specs (map index_state w.indexes) k spec (index_state index) none at seen in
      let built = stays_built index loaded in
      record {
        built = built.0;
        there = built.1;
        pairs = switched_pairs live.state.heap.schema live.state.heap.log b spec index built.0 run.follows on built.1 (omega (arith, left));
        tallied = on.of_spec built.0 built.1;
      }

  -- so the accepted are ready as a build at rest gives them
  pub all_ready : ready_of b.specs w.indexes ≡ map (index_now live.state.heap.log) (accepted live.state.heap.log b.specs)
  all_ready = ready_are live.state.heap.log b.specs w.indexes run.on.many index_done

  -- each with the verdict that the rows ask for
  pub all_verdicts : outcomes (length live.state.ready) (map its_verdict w.indexes) ≡ verdicts_on live.state b
  all_verdicts = ap (outcomes (length live.state.ready)) (verdicts_are live.state.heap.log b.specs w.indexes run.on.many index_done)

  -- and they may follow the table, where the switch waited for no writer
  pub all_may :
      HoldsFollowLog live.state.heap → OnBuild live.state.build (λ b. busy_refusal b (length (busy_txns live.state.heap)) ≡ None)
      → All (λ (it : ReadyValue). MayFollow live.state.heap it.spec it.pairs) (ready_of b.specs w.indexes)
  all_may holds free =
      let none = subst (λ (o : Option BuildState). OnBuild o (λ x. busy_refusal x (length (busy_txns live.state.heap)) ≡ None)) run.build_is free in
      subst (λ (ready : List ReadyValue). All (λ (it : ReadyValue). MayFollow live.state.heap it.spec it.pairs) ready) (sym all_ready)
      (may_follow live.state.heap b.specs holds (λ k spec at. columns_at live.state.heap.schema live.state.heap.log b k spec run.follows at)
      (λ k spec at unique. no_writers b (busy_txns live.state.heap) k spec none at unique))

  -- and each can be ready
  done_each :
      RowsFit live.state.heap.schema live.state.heap.log → (specs : List KeySpecValue) (indexes : List IndexValue) → length indexes ≡ length specs
      → ((k : ℕ) (spec : KeySpecValue) → slice_get specs k ≡ Some spec → spec.kinds ≡ live.state.heap.schema)
      → ((k : ℕ) (spec : KeySpecValue) (index : IndexValue) → slice_get specs k ≡ Some spec → slice_get indexes k ≡ Some index
      → IsAtRest live.state.heap.log spec index)
      → AllZip IsDoneIndex specs indexes
  done_each rows [] [] many columns each = tt
  done_each rows [] (index ∷ indexes) many columns each = absurd (cc)
  done_each rows (spec ∷ specs) [] many columns each = absurd (cc)
  done_each rows (spec ∷ specs) (index ∷ indexes) many columns each =
      let here = each 0 spec index refl refl in
      let rest = done_each rows specs indexes (omega (arith, many)) (λ k s at. columns (suc k) s at) (λ k s i at there. each (suc k) s i at there) in
      let first : IsDoneIndex spec index =
      record {
        built = here.built;
        there = here.there;
        index_is = λ key. record {
          keys = subst (HaveKeysOf spec) (sym here.pairs) (keys_at_rest spec live.state.heap.schema live.state.heap.log (columns 0 spec refl) rows);
          order = subst (AreInColumnOrder spec) (sym here.pairs) (column_order spec (index_pairs spec live.state.heap.log) key);
        };
      } in
      (first, rest)

  pub all_done : RowsFit live.state.heap.schema live.state.heap.log → AllZip IsDoneIndex b.specs w.indexes
  all_done rows =
      done_each rows b.specs w.indexes run.on.many
      (λ k spec at. columns_at live.state.heap.schema live.state.heap.log b k spec run.follows at) index_done

  -- and all of the build are, whether accepted or not
  pub all_keyed :
      RowsFit live.state.heap.schema live.state.heap.log → All (λ spec. are_key_columns spec.kinds spec.columns ≡ true) b.specs → AreKeyed live.state.heap.log b.specs
  all_keyed rows keys = keyed_each live.state.heap.schema live.state.heap.log rows b.specs run.follows.columns keys

  -- what the switch leaves
  pub switches :
      (told : ℕ × List Outcome) (heap : HeapState) (ready : List ReadyValue) (build : Option BuildState) (new : BuildingValue)
      → told.0 ≡ length live.state.heap.log + 1 → told.1 ≡ verdicts_on live.state b → heap ≡ after_fence false (after_switch live.state.heap (verdicts_on live.state b))
      → ready ≡ live.state.ready ++ ready_of b.specs w.indexes → build ≡ None → new.work ≡ None
      → spools_state new.given (all_spools new.workers new.spools) ≡ spools_state building.given (all_spools building.workers building.spools) → AreKeyed live.state.heap.log b.specs
      → Switches (core_state live building) told (record {
        live = record { heap = heap; ready = ready; builds = live.state.builds; build = build };
        work = work_state new.workers new.work;
        spools = spools_state new.given (all_spools new.workers new.spools);
      })
  switches told heap ready build new number verdicts noted grown none gone ended keyed =
      let spools : SpoolsState = spools_state building.given (all_spools building.workers building.spools) in
      let Whole : HeapState → List ReadyValue → CoreState =
      λ h r. record { live = record { heap = h; ready = r; builds = live.state.builds; build = None }; work = idle; spools = spools } in
      let table : LiveState = record { heap = heap; ready = ready; builds = live.state.builds; build = build } in
      let left : CoreState = record { live = table; work = work_state new.workers new.work; spools = spools_state new.given (all_spools new.workers new.spools) } in
      let state : left ≡ record { live = after_switch_in live.state b; work = idle; spools = spools } =
      rw (none, gone, ended) (ap (λ h. Whole h ready) noted
      ∙ ap (Whole (after_fence false (after_switch live.state.heap (verdicts_on live.state b)))) (grown ∙ ap (λ is. live.state.ready ++ is) all_ready)) in
      subst (λ (o : Option BuildState). OnBuild o (λ b. (told.0 ≡ length live.state.heap.log + 1) × (told.1 ≡ verdicts_on live.state b)
      × (left ≡ record { live = after_switch_in live.state b; work = idle; spools = spools }) × AreKeyed live.state.heap.log b.specs))
      (sym run.build_is) (number, verdicts, state, keyed)

-- what it leaves of a build that caught up first is what it leaves of that build
pub switched_from : (s mid new : CoreState) (told : ℕ × List Outcome) → CatchesUp s mid → Switches mid told new → Switches s told new
switched_from s mid new told caught switched = by_build s.live.build refl caught where
  Caught : BuildState → Type 0
  Caught b = (fed : List ℕ) × (indexes : List IndexState) × AreFurther b s.live.heap.log s.work.indexes fed indexes
      × (mid ≡ record s { live = record s.live { build = Some (record b { fed = fed }) }; work = record s.work { indexes = indexes } })

  by_build : (o : Option BuildState) → s.live.build ≡ o → OnBuild o Caught → Switches s told new
  by_build None is it = absurd it
  by_build (Some b) is it =
      let from : CoreState = record s { live = record s.live { build = Some (record b { fed = it.0 }) }; work = record s.work { indexes = it.1 } } in
      let done = subst (λ (m : CoreState). Switches m told new) it.3 switched in
      subst (λ (o : Option BuildState). OnBuild o (λ b. (told.0 ≡ length s.live.heap.log + 1) × (told.1 ≡ verdicts_on s.live b)
      × (new ≡ record s { live = after_switch_in s.live b; work = idle }) × AreKeyed s.live.heap.log b.specs)) (sym is) (done.0, done.1, done.2, done.3)
