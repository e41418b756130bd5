-- The pairs of all indexes are put in order, each by a load of its own.
use Rattle.std.proofs.Common.{◌≡◌, ℕ, suc, ◌+◌, ◌*◌, ◌<◌, true, List, [], ◌∷◌, All, length, map, Option, Some, None, refl, sym, ap, ap₂, ◌∙◌, subst, arith}
use Rattle.std.specs.Prelude.{IsPermutation}
use Rattle.std.specs.List.{slice_get}
use Rattle.std.proofs.lemmas.Bool.{false≢true}
use Rattle.std.proofs.lemmas.List.{length-map}
use Rattle.keybytes.specs.Pairs.{AreOrdered}
use Rattle.keybytes.specs.declared.fault.Fault.{Fault}
use Rattle.keybytes.specs.declared.pair.Pair.{Pair}
use Rattle.side_file.specs.declared.entry.Entry.{Entry}
use Rattle.page_workers.specs.SpoolValue.{SpoolValue, ended_spool, pairs_in, stakes_of}
use Rattle.side_file.specs.Ends.{TakeEnd}
use Rattle.page_workers.specs.WorkerValue.{WorkerValue}
use Rattle.catch_up.specs.Built.{BuiltValue}
use Rattle.index_load.specs.Columns.{column, ended_column}
use Rattle.index_load.specs.IndexLoad.{IndexLoadValue, IsLoadable}
use Rattle.building.specs.BuildingValue.{BuildingValue, IndexValue, IsUnloaded, WorkValue, with_pairs}
use Rattle.building.specs.IndexLoads.{AreDone, CanLoadAll, HasLoadedAll, IsDoneAt, LoadsStopped, index_from, loaded_from}
use Rattle.building.specs.Keeping.{IsIndexOf, IsKept, KeepsWork}
use Rattle.page_workers.proofs.Places.{all_at, all_from, at_map, below, map_at, there_is}
use Rattle.building.proofs.LoadedKept.{loaded_index}
use Rattle.building.proofs.OneWorker.{the_work}

-- the pairs of an index, once they are in order
abbrev pub its_pairs : Option BuiltValue → List Pair
its_pairs None = []
its_pairs (Some built) = built.pairs

abbrev pub pairs_of : List IndexLoadValue → List (List Pair)
pairs_of loads = map (λ load. its_pairs load.built) loads

-- an index of the work is told by its pairs
by_pairs : (work : WorkValue) (spools : List SpoolValue) (k : ℕ) (load : IndexLoadValue) → IsDoneAt work spools k load
    → index_from load ≡ record { built = Some (with_pairs work k (its_pairs load.built)); applied = 0 }
by_pairs work spools k load done =
    let own : its_pairs load.built ≡ done.built.pairs = ap its_pairs done.there in
    ap (λ (b : Option BuiltValue). record { built = b; applied = 0 }) (
    done.there
    ∙ ap₂ (λ n u. Some (record { build = n; unique = u; pairs = done.built.pairs })) done.its.build done.its.unique
    ∙ ap (λ (ps : List Pair). Some (with_pairs work k ps)) (sym own)
    )

pub indexes_by_pairs :
    (work : WorkValue) (spools : List SpoolValue) (k : ℕ) (loads : List IndexLoadValue)
    → ((i : ℕ) (load : IndexLoadValue) → slice_get loads i ≡ Some load → IsDoneAt work spools (k + i) load) → map index_from loads ≡ loaded_from work k (pairs_of loads)
indexes_by_pairs work spools k [] done = refl
indexes_by_pairs work spools k (l ∷ ls) done =
    ap₂ ◌∷◌ (by_pairs work spools k l (subst (λ n. IsDoneAt work spools n l) (let e : k + 0 ≡ k = omega arith in e) (done 0 l refl)))
    (indexes_by_pairs work spools (suc k) ls (λ i load at.
    subst (λ n. IsDoneAt work spools n load) (let e : k + suc i ≡ suc k + i = omega arith in e) (done (suc i) load at)))

module _
    (workers : List WorkerValue) (sides : List (TakeEnd Entry)) (spools : List SpoolValue) (work : WorkValue) (kept : IsKept workers sides spools work)
    (going : work.handed ≡ true) (none : All (λ index. index.built ≡ None) work.indexes) where
  pub unloaded_each : (k : ℕ) → IsUnloaded k work
  unloaded_each k index at = all_at (λ (i : IndexValue). i.built ≡ None) work.indexes k index none at

  pub loadable_each : (k : ℕ) → k < length work.specs → IsLoadable (column k (length work.specs) spools)
  loadable_each k less = record { sorted = (kept.columns going).sorted k less (unloaded_each k); once = kept.once going k less (unloaded_each k) }

  module _ (loads : List IndexLoadValue) (done : AreDone work spools loads) (left : List SpoolValue) (many : length left ≡ length spools) where
    abbrev after : WorkValue
    after = record work { indexes = map index_from loads }

    -- none of them is left without its pairs in order
    not_left : (k : ℕ) → k < length work.specs → IsUnloaded k after → ⊥
    not_left k less empty =
        let load = there_is loads k (omega (arith, less, done.many)) in
        let one = done.each k load.0 load.1 in
        let is : load.0.built ≡ None = empty (index_from load.0) (map_at index_from loads k load.0 load.1) in
        let some = one.there in
        absurd (cc)

    pub all_kept : KeepsWork workers sides left (Some after)
    all_kept = λ fine. record {
      many = length-map loads index_from ∙ done.many;
      placed = kept.placed;
      indexes = λ k s end x there taking x_at.
          let load = at_map index_from loads k x x_at in
          let one = done.each k load.0 load.1 in
          let it = there_is work.indexes k (let few = below work.specs k s there in omega (arith, few, kept.many)) in
          let is : record { built = Some one.built; applied = 0 } ≡ x =
          ap (λ (b : Option BuiltValue). record { built = b; applied = 0 }) (sym one.there) ∙ load.2 in
          subst (IsIndexOf work.build s workers end) is
          (loaded_index workers sides spools work kept going k s there it.0 it.1 (unloaded_each k it.0 it.1) (ended_column k (length work.specs) spools) one.built
          one.its.moved one.its.ordered one.its.build one.its.unique refl s end there taking);
      lent = λ e. absurd (false≢true (sym e ∙ going));
      unloaded = λ e. absurd (false≢true (sym e ∙ going));
      handed = λ e. kept.handed going;
      columns = λ e. record {
        many = many ∙ (kept.columns going).many;
        sorted = λ k less empty. absurd (not_left k less empty);
        pairs = λ k i worker spool less empty there lent. absurd (not_left k less empty);
      };
      once = λ e k less empty. absurd (not_left k less empty);
    }

-- the work of the build that runs, as it was seen
module _ (old seen : BuildingValue) (work held : WorkValue) (same : seen ≡ old) (runs : seen.work ≡ Some work) (is : held ≡ work) where
  its_work : old.work ≡ Some work
  its_work = ap (λ (b : BuildingValue). b.work) (sym same) ∙ runs

  pub record CanSortAll : Type 0 where
    pub kept : IsKept seen.workers seen.sides seen.spools work
    pub loads : work.handed ≡ true
    pub none : All (λ index. index.built ≡ None) work.indexes
    pub lent : length seen.spools ≡ length seen.workers * length work.specs

  pub can_load_all : KeepsWork seen.workers seen.sides seen.spools seen.work → CanLoadAll old → CanSortAll
  can_load_all keeps can =
      let it : can.work ≡ work = the_work old.work can.work work can.runs its_work in
      let fine : work.spoiled ≡ None = ap (λ (w : WorkValue). w.spoiled) (sym it) ∙ can.fine in
      let loads : work.handed ≡ true = ap (λ (w : WorkValue). w.handed) (sym it) ∙ can.loads in
      let kept : IsKept seen.workers seen.sides seen.spools work =
      subst (λ (o : Option WorkValue). KeepsWork seen.workers seen.sides seen.spools o) runs keeps fine in
      record {
        kept = kept;
        loads = loads;
        none = subst (λ (w : WorkValue). All (λ index. index.built ≡ None) w.indexes) it can.none;
        lent = (kept.columns loads).many;
      }

  -- a load that is refused spoils it
  pub loads_stopped :
      (fault : Fault) (spools : List SpoolValue) → stakes_of spools ≡ stakes_of seen.spools
      → LoadsStopped old fault (record seen { spools = spools; work = Some (record held { spoiled = Some fault }) })
  loads_stopped fault spools stakes = record {
    work = work;
    runs = its_work;
    spools = spools;
    stakes = stakes ∙ ap (λ (b : BuildingValue). stakes_of b.spools) same;
    left = rw (same, is) refl;
  }

  -- the pairs of all indexes are put in order
  module _ (loads : List IndexLoadValue) (done : AreDone work seen.spools loads) where
    its_pairs_moved : (index : ℕ) (own : List Pair) → slice_get (pairs_of loads) index ≡ Some own
        → IsPermutation (pairs_in (column index (length work.specs) seen.spools)) own
    its_pairs_moved index own at =
        let load = at_map (λ (l : IndexLoadValue). its_pairs l.built) loads index own at in
        let one = done.each index load.0 load.1 in
        subst (IsPermutation (pairs_in (column index (length work.specs) seen.spools))) (ap its_pairs (sym one.there) ∙ load.2) one.its.moved

    all_ordered : All AreOrdered (pairs_of loads)
    all_ordered = all_from AreOrdered (pairs_of loads) (λ index own at.
        let load = at_map (λ (l : IndexLoadValue). its_pairs l.built) loads index own at in
        let one = done.each index load.0 load.1 in
        subst AreOrdered (ap its_pairs (sym one.there) ∙ load.2) one.its.ordered)

    pub all_loaded :
        (spools : List SpoolValue) (indexes : List IndexValue) → spools ≡ map ended_spool seen.spools → indexes ≡ map index_from loads
        → HasLoadedAll old (record seen { spools = spools; work = Some (record held { indexes = indexes }) })
    all_loaded spools indexes ended installed = record {
      work = work;
      runs = its_work;
      pairs = pairs_of loads;
      many = length-map loads (λ (l : IndexLoadValue). its_pairs l.built) ∙ done.many;
      moved = λ index own at.
          subst (λ (b : BuildingValue). IsPermutation (pairs_in (column index (length work.specs) b.spools)) own) same (its_pairs_moved index own at);
      ordered = all_ordered;
      left = rw (
        ended,
        installed ∙ indexes_by_pairs work seen.spools 0 loads (λ i load at.
            subst (λ n. IsDoneAt work seen.spools n load) (let e : i ≡ 0 + i = omega arith in e) (done.each i load at)),
        same,
        is,
      ) refl;
    }
