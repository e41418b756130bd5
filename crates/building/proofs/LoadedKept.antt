-- The pairs of an index are put in order: they are those of what all workers received.
use Rattle.std.proofs.Common.{◌≡◌, ℕ, suc, ◌-◌, ◌<◌, true, List, [], ◌∷◌, ◌++◌, All, length, map, Some, None, refl, sym, ap, ◌∙◌, subst, inl, inr, arith}
use Rattle.std.proofs.Common.{false}
use Rattle.std.specs.Prelude.{flat_map, IsPermutation}
use Rattle.std.specs.FinMap.{keys}
use Rattle.std.specs.List.{slice_get}
use Rattle.std.proofs.lemmas.Bool.{false≢true}
use Rattle.std.proofs.lemmas.List.{append-nil, length-set}
use Rattle.std.proofs.lemmas.List.Concat.{flat_map-append}
use Rattle.std.proofs.lemmas.List.Sorted.{IsPermutation-append, IsPermutation-refl, IsPermutation-trans}
use Rattle.std.proofs.lemmas.Option.{get_or_from_slice_get, same_Some}
use Rattle.keybytes.specs.Keys.{KeySpecValue}
use Rattle.keybytes.specs.Pairs.{AreOrdered}
use Rattle.keybytes.specs.declared.pair.Pair.{Pair}
use Rattle.side_file.specs.declared.entry.Entry.{Entry}
use Rattle.run_spool.specs.Spools.{AreSorted, all_pairs}
use Rattle.run_merge.specs.Merging.{all_runs}
use Rattle.visibility.specs.SideEntries.{SideEntry}
use Rattle.catch_up.specs.Built.{BuiltValue, told_to}
use Rattle.page_workers.specs.Holding.{HoldsPairs}
use Rattle.page_workers.specs.ImagePairs.{HavePairs}
use Rattle.page_workers.specs.SpoolValue.{SpoolValue, ended_spool, pairs_in, runs_of}
use Rattle.side_file.specs.Ends.{TakeEnd}
use Rattle.page_workers.specs.WorkerValue.{WorkerValue}
use Rattle.page_workers.proofs.ManyPairs.{have_append}
use Rattle.index_load.specs.Columns.{column, ended_column}
use Rattle.bulk_load.specs.Each.{AreEachOnce}
use Rattle.index_load.proofs.Columns.{every_elsewhere, length-changed}
use Rattle.index_load.proofs.SpoolPlaces.{column_many}
use Rattle.building.specs.BuildingValue.{IndexValue, IsUnloaded, WorkValue, is_unique}
use Rattle.building.specs.Holding.{HaveColumns}
use Rattle.building.specs.Keeping.{ArePairsOf, IsIndexOf, IsKept, KeepsWork, all_received}
use Rattle.building.proofs.Kept.{own_images}
use Rattle.building.proofs.Unloaded.{not_this, unloaded_before, with_tree}
use Rattle.building.proofs.Works.{same_set}
use Rattle.page_workers.proofs.Places.{at_set, below}

-- the pairs of all runs of spools, spool by spool
pub pairs_by_spool : (spools : List SpoolValue) → pairs_in spools ≡ flat_map (λ (s : SpoolValue). all_pairs s.runs) spools
pairs_by_spool [] = refl
pairs_by_spool (s ∷ ss) =
    flat_map-append (λ (run : List Pair). run) s.runs (all_runs (map (λ (s : SpoolValue). s.runs) ss)) ∙ ap (λ ps. all_pairs s.runs ++ ps) (pairs_by_spool ss)

-- spools that hold what a worker received each hold together what all received
gathered :
    (spec : KeySpecValue) (workers : List WorkerValue) (own : List SpoolValue) → length own ≡ length workers
    → ((k : ℕ) (worker : WorkerValue) (spool : SpoolValue) → slice_get workers k ≡ Some worker → slice_get own k ≡ Some spool
    → HoldsPairs spec (own_images worker) spool.runs [])
    → (made : List Pair) × HavePairs spec (flat_map own_images workers) made × IsPermutation made (flat_map (λ (s : SpoolValue). all_pairs s.runs) own)
gathered spec [] [] many holds = ([], refl, IsPermutation-refl [])
gathered spec [] (s ∷ ss) many holds = absurd (cc)
gathered spec (w ∷ ws) [] many holds = absurd (cc)
gathered spec (w ∷ ws) (s ∷ ss) many holds =
    let first = holds 0 w s refl refl in
    let rest = gathered spec ws ss (omega (arith, many)) (λ k worker spool at here. holds (suc k) worker spool at here) in
    let own : IsPermutation first.made (all_pairs s.runs) = subst (IsPermutation first.made) (append-nil (all_pairs s.runs)) first.all in (
      first.made ++ rest.0,
      have_append spec (own_images w) (flat_map own_images ws) first.made rest.0 first.have rest.1,
      IsPermutation-append first.made (all_pairs s.runs) rest.0 (flat_map (λ (s : SpoolValue). all_pairs s.runs) ss) own rest.2,
    )

module _
    (workers : List WorkerValue) (sides : List (TakeEnd Entry)) (spools : List SpoolValue) (work : WorkValue) (kept : IsKept workers sides spools work)
    (loads : work.handed ≡ true) (index : ℕ) (spec : KeySpecValue) (is : slice_get work.specs index ≡ Some spec) (it : IndexValue)
    (at : slice_get work.indexes index ≡ Some it) (none : it.built ≡ None) where
  abbrev n : ℕ
  n = length work.specs

  less : index < n
  less = below work.specs index spec is

  pub here : index < length work.indexes
  here = below work.indexes index it at

  abbrev own : List SpoolValue
  own = column index n spools

  columns : HaveColumns (λ index. IsUnloaded index work) work.specs workers spools
  columns = kept.columns loads

  unloaded : IsUnloaded index work
  unloaded i there = ap (λ (x : IndexValue). x.built) (same_Some i it (sym there ∙ at)) ∙ none

  -- its spools hold them
  together : (made : List Pair) × HavePairs spec (all_received workers) made × IsPermutation made (pairs_in own)
  together =
      let all = gathered spec workers own (column_many n (length workers) index spools less columns.many) (λ k worker spool there lent.
      subst (λ (s : KeySpecValue). HoldsPairs s (own_images worker) spool.runs [])
      (get_or_from_slice_get work.specs index spec (record { kinds = []; columns = []; unique = false; condition = None }) is) (columns.pairs index k worker spool less unloaded there lent)) in
      (all.0, all.1, subst (IsPermutation all.0) (sym (pairs_by_spool own)) all.2)

  module _
      (left : List SpoolValue) (built : BuiltValue) (moved : IsPermutation (pairs_in own) built.pairs) (ordered : AreOrdered built.pairs)
      (number : built.build ≡ work.build) (unique : built.unique ≡ is_unique (slice_get work.specs index)) (ended : left ≡ ended_column index n spools) where
    abbrev after : WorkValue
    after = with_tree work index built 0 here

    -- in order they are the index's, to which no entry was applied
    loaded_pairs : ArePairsOf spec workers [] built.pairs
    loaded_pairs =
        let made = together in
        record {
          made = made.0;
          received = made.1;
          applied = ordered ∙ ap keys (same_set made.0 built.pairs (IsPermutation-trans made.0 (pairs_in own) built.pairs made.2 moved));
        }

    pub loaded_index : (s : KeySpecValue) (end : TakeEnd Entry) → slice_get work.specs index ≡ Some s → slice_get sides index ≡ Some end
        → IsIndexOf work.build s workers end (record { built = Some built; applied = 0 })
    loaded_index s end there taking =
        let same : spec ≡ s = same_Some spec s (sym is ∙ there) in
        let untold : told_to work.build end.received ≡ [] = (kept.indexes index spec end it is taking at).none_before none in
        subst (λ (x : KeySpecValue). IsIndexOf work.build x workers end (record { built = Some built; applied = 0 })) same (record {
          none_before = λ e. absurd (cc);
          of_build = λ b e. ap (λ (x : BuiltValue). x.build) (sym (same_Some built b e)) ∙ number;
          of_spec = λ b e. ap (λ (x : BuiltValue). x.unique) (sym (same_Some built b e)) ∙ unique ∙ ap is_unique is;
          loaded = λ b e.
              subst (λ (x : BuiltValue). ArePairsOf spec workers (told_to work.build end.received) x.pairs) (same_Some built b e)
              (subst (λ (es : List SideEntry). ArePairsOf spec workers es built.pairs) (sym untold) loaded_pairs);
        })

    elsewhere : (i : ℕ) → i < n → IsUnloaded i after → column i n left ≡ column i n spools
    elsewhere i few empty =
        ap (column i n) ended
        ∙ every_elsewhere ended_spool (n - 1) i index spools (omega (arith, few)) (omega (arith, less)) (not_this work index built 0 here i empty)

    columns_left : HaveColumns (λ i. IsUnloaded i after) work.specs workers left
    columns_left = record {
      many = ap length ended ∙ length-changed ended_spool (n - 1) index spools ∙ columns.many;
      sorted = λ i few empty.
          subst (λ (l : List SpoolValue). All AreSorted (runs_of l)) (sym (elsewhere i few empty))
          (columns.sorted i few (unloaded_before work index built 0 here i empty));
      pairs = λ i k worker spool few empty there lent.
          columns.pairs i k worker spool few (unloaded_before work index built 0 here i empty) there
          (ap (λ (l : List SpoolValue). slice_get l k) (sym (elsewhere i few empty)) ∙ lent);
    }

    pub loaded_kept : KeepsWork workers sides left (Some after)
    loaded_kept = λ fine. record {
      many = length-set work.indexes index (record { built = Some built; applied = 0 }) ∙ kept.many;
      placed = kept.placed;
      indexes = λ k s end x there taking x_at. elim (at_set work.indexes index (record { built = Some built; applied = 0 }) k x x_at) [
        | inl this ↦
            subst (IsIndexOf work.build s workers end) (sym this.1)
            (loaded_index s end (ap (slice_get work.specs) (sym this.0) ∙ there) (ap (slice_get sides) (sym this.0) ∙ taking))
        | inr other ↦ kept.indexes k s end x there taking other.1
      ];
      lent = λ e. absurd (false≢true (sym e ∙ loads));
      unloaded = λ e. absurd (false≢true (sym e ∙ loads));
      handed = λ e. kept.handed loads;
      columns = λ e. columns_left;
      once = λ e i few empty.
          subst (λ (l : List SpoolValue). AreEachOnce (pairs_in l)) (sym (elsewhere i few empty))
          (kept.once loads i few (unloaded_before work index built 0 here i empty));
    }
