-- The loads of a build's indexes are lent, and come back.
use Rattle.std.proofs.Common.{◌≡◌, ℕ, ◌*◌, List, [], ◌∷◌, ◌++◌, All, length, append-nil, map, Option, Some, None, refl, sym, ap, ◌∙◌, subst}
use Rattle.std.specs.List.{AllZip}
use Rattle.std.specs.Option.{option_map}
use Rattle.std.proofs.lemmas.List.Elements.{All-head, All-tail}
use Rattle.keybytes.specs.Keys.{KeySpecValue}
use Rattle.keybytes.specs.declared.fault.Fault.{Fault}
use Rattle.keybytes.specs.declared.fault.Fault.TheVariants.{Memory}
use Rattle.page_workers.specs.SpoolValue.{SpoolValue}
use Rattle.page_workers.specs.WorkerValue.{WorkerValue}
use Rattle.index_load.specs.IndexLoad.{HasRun, IndexLoadValue}
use Rattle.building.specs.BuildingValue.{BuildingValue, IndexValue, WorkValue}
use Rattle.building.specs.Holding.{all_spools, workers_spools}
use Rattle.building.specs.IndexLoads.{AreDone, AreHome, AreLent, HasLoadedAll, LoadsStopped, index_from, without_loads}
use Rattle.building.specs.Keeping.{HasHanded, KeepsWork}
use Rattle.building.proofs.LoadedAll.{all_kept, all_loaded, loads_stopped}
use Rattle.building.proofs.LoadsDone.{loads_done, loads_many, memory_alone, own_lent, own_ran, same_stakes, spools_ended, zip_long}
use Rattle.building.proofs.OneWorker.{the_work}

-- workers that handed their spools over have none
pub none_with : (specs : List KeySpecValue) (workers : List WorkerValue) → All (HasHanded specs) workers → workers_spools workers ≡ []
none_with specs [] all = refl
none_with specs (worker ∷ workers) all =
    rw ((All-head (HasHanded specs) worker workers all).none) (none_with specs workers (All-tail (HasHanded specs) worker workers all))

-- what is left of a build whose loads are lent, by its work
pub left_there : (was : BuildingValue) (work : WorkValue) → was.work ≡ Some work
    → without_loads was ≡ record was { spools = []; work = Some (record work { spoiled = Some Memory }) }
left_there was work runs =
    ap (λ (o : Option WorkValue). record was { spools = []; work = option_map (λ (w : WorkValue). record w { spoiled = Some Memory }) o }) runs

-- so it is where the spools are gone and the work is spoiled
pub left_seen :
    (old seen : BuildingValue) (work held : WorkValue) → seen ≡ old → seen.work ≡ Some work → held ≡ work → (spools : List SpoolValue) → spools ≡ []
    → record seen { spools = spools; work = Some (record held { spoiled = Some Memory }) } ≡ without_loads old
left_seen old seen work held same runs is spools none =
    rw (none, is) (sym (left_there seen work runs)) ∙ ap without_loads same

-- what stands beside the table while the loads are lent, once other spools are there and the work is other
pub others_there :
    (was seen : BuildingValue) (w work held : WorkValue) → seen ≡ record was { spools = []; work = Some (record w { spoiled = Some Memory }) } → seen.work ≡ Some work
    → held ≡ work → (spools : List SpoolValue) (indexes : List IndexValue) (spoiled : Option Fault)
    → record seen { spools = spools; work = Some (record held { indexes = indexes; spoiled = spoiled }) }
    ≡ record was { spools = spools; work = Some (record w { indexes = indexes; spoiled = spoiled }) }
others_there was seen w work held lent runs is spools indexes spoiled =
    let its : work ≡ record w { spoiled = Some Memory } = the_work seen.work work (record w { spoiled = Some Memory }) runs (ap (λ (b : BuildingValue). b.work) lent) in
    rw (is, its, lent) refl

-- the indexes are those that there were
pub same_indexes : (was seen : BuildingValue) (w work held : WorkValue) → seen ≡ record was { spools = []; work = Some (record w { spoiled = Some Memory }) }
    → seen.work ≡ Some work → held ≡ work → held.indexes ≡ w.indexes
same_indexes was seen w work held lent runs is =
    let its : work ≡ record w { spoiled = Some Memory } = the_work seen.work work (record w { spoiled = Some Memory }) runs (ap (λ (b : BuildingValue). b.work) lent) in
    ap (λ (x : WorkValue). x.indexes) (is ∙ its)

module _ (was : BuildingValue) (lent loads : List IndexLoadValue) (were : AreLent was lent) (ran : AllZip HasRun lent loads) where
  abbrev pub w : WorkValue
  w = were.work

  abbrev many : ℕ
  many = length was.workers

  spools_many : length was.spools ≡ many * length w.specs
  spools_many = (were.kept.columns were.going).many

  pub own_back : All (λ load. length load.spools ≡ many) loads
  own_back = own_ran many lent loads ran (own_lent w many was.spools spools_many lent were.each were.many)

  loads_as_many : length loads ≡ length w.specs
  loads_as_many = sym (zip_long HasRun lent loads ran) ∙ were.many

  -- there are as many spools as before
  pub same_room : many * length loads ≡ length was.spools
  same_room = ap (λ n. many * n) loads_as_many ∙ sym spools_many

  module _ (after : List IndexLoadValue) (fault : Option Fault) (spools : List SpoolValue) (home : AreHome many loads after fault spools) where
    done : fault ≡ None → AreDone w was.spools after
    done none = loads_done w many was.spools spools_many lent loads were.each were.many ran after fault spools home none

    pub after_many : length after ≡ length w.indexes
    after_many =
        loads_many w many was.spools spools_many lent loads were.each were.many ran after fault spools home ∙ sym were.kept.many

    pub spools_fit : length (all_spools was.workers spools) ≡ length was.spools
    spools_fit =
        ap (λ (lent : List SpoolValue). length (spools ++ lent)) (none_with w.specs was.workers (were.kept.handed were.going))
        ∙ ap length (append-nil spools) ∙ home.many ∙ same_room

    pub wants : (f : Fault) → fault ≡ Some f → f ≡ Memory
    wants = memory_alone w many was.spools spools_many lent loads were.each were.many ran after fault spools home

    pub stopped : (f : Fault) → fault ≡ Some f → LoadsStopped was f (record was { spools = spools; work = Some (record w { spoiled = fault }) })
    stopped f is =
        rw is (loads_stopped was was w w refl were.runs refl f spools
        (same_stakes w many was.spools spools_many lent loads were.each were.many ran after fault spools home))

    module _ (none : fault ≡ None) (indexes : List IndexValue) (installed : indexes ≡ map index_from after) where
      -- the work goes on again
      same_work : record w { indexes = indexes; spoiled = fault } ≡ record w { indexes = indexes }
      same_work = ap (λ (o : Option Fault). record w { indexes = indexes; spoiled = o }) (none ∙ sym were.fine)

      pub loaded : HasLoadedAll was (record was { spools = spools; work = Some (record w { indexes = indexes; spoiled = fault }) })
      loaded =
          subst (λ (x : WorkValue). HasLoadedAll was (record was { spools = spools; work = Some x })) (sym same_work)
          (all_loaded was was w w refl were.runs refl after (done none) spools indexes
          (spools_ended w many was.spools spools_many lent loads were.each were.many ran after fault spools home none) installed)

      pub work_kept : KeepsWork was.workers was.sides spools (Some (record w { indexes = indexes; spoiled = fault }))
      work_kept =
          subst (λ (x : WorkValue). KeepsWork was.workers was.sides spools (Some x)) (sym same_work)
          (subst (λ (l : List IndexValue). KeepsWork was.workers was.sides spools (Some (record w { indexes = l }))) (sym installed)
          (all_kept was.workers was.sides was.spools w were.kept were.going were.none after (done none) spools (home.many ∙ same_room)))
