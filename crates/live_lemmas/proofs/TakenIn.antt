-- What was kept apart from a table is taken in for a switch, or isn't.
use Rattle.std.proofs.Common.{arith, Bool, ◌≡◌, ℕ, ◌<◌, true, false, List, [], length, map, Option, Some, None, refl, sym, ap, ◌∙◌, subst, inl, inr}
use Rattle.std.specs.Prelude.{IfSome}
use Rattle.std.specs.List.{All, AllZip, slice_get}
use Rattle.std.proofs.lemmas.Bool.{cases_Bool}
use Rattle.std.proofs.lemmas.Option.{IfSome_then}
use Rattle.keybytes.specs.declared.fault.Fault.{Fault}
use Rattle.keybytes.specs.declared.fault.Fault.TheVariants.{NoBuild, NotSealed}
use Rattle.side_file.specs.Ends.{PutEnd, RingId}
use Rattle.side_file.specs.declared.entry.Entry.{Entry}
use Rattle.side_file.specs.Ends.{PutEndLooked}
use Rattle.page_workers.specs.WorkerValue.{IsHolding, WorkerValue}
use Rattle.page_workers.specs.declared.copied.Copied.{Copied}
use Rattle.build_events.specs.BuildSteps.{OnBuild}
use Rattle.build_events.specs.CoreState.{BuildState, LiveState}
use Rattle.build_events.specs.Ranges.{open_range}
use Rattle.table_scan.specs.SideFiles.{EachEntryOnce}
use Rattle.table_scan.specs.TableBuilds.{BuildFollows, IsBuildOf}
use Rattle.page_workers.proofs.Places.{all_at, all_from, as_long, same_at}
use Rattle.building.specs.BuildingValue.{BuildingValue, WorkValue}
use Rattle.building.specs.Keeping.{IsKept, KeepsLaws, KeepsWork}
use Rattle.building.specs.Working.{HasHandedOver}
use Rattle.building.specs.Rings.{AreLooked, FirstAreSealed, IsUnsealed, all_sent, unseen}
use Rattle.building.proofs.Looks.{first_looked, same_sent, sealed_looked}
use Rattle.table_scan.proofs.LookedEnds.{all_unlooked}
use Rattle.live_lemmas.specs.Builds.{HasLookedAtRings, IsRunning, LiveValue, MayLoad, StandsBeside, core_state}
use Rattle.live_lemmas.specs.Invariant.{EachPageOnce}
use Rattle.live_lemmas.specs.Switching.{IsUnspoiled, HandsOver, HaveAll, IsKeptOut, IsOnlyLookedAt, IsPartOf, IsScannedWhole, IsTakenIn, SidesAreLooked, early_cause, unseen_take}
use Rattle.live_lemmas.proofs.Looked.{state_looked, works_looked}
use Rattle.live_lemmas.proofs.PartOf.{SidesAreSame, looked_back, part_looked, sides_same, state_sides_looked, works_sides_looked}
use Rattle.live_lemmas.proofs.Refusals.{running}
use Rattle.live_lemmas.proofs.Reunited.{reunited, same_columns}

-- what is taken in works on the build
pub works_again :
    (live : LiveValue) (building : BuildingValue) → IsTakenIn live building
    → BuildFollows live.state.heap.schema live.state.heap.log live.state.build
    → IfSome live.state.build (λ b. EachPageOnce live.state.heap.schema live.state.heap.log b (all_sent live.pages))
    → IfSome live.state.build (λ b. EachEntryOnce live.state.heap.log b live.sides) → length live.pages ≡ 16 → length live.sides ≡ 8 → length building.sides ≡ 8
    → (building.given ≡ false → building.work ≡ None) → (rings : List RingId) → All (KeepsLaws rings) building.workers
    → KeepsWork building.workers building.sides building.spools building.work → StandsBeside live building
works_again live building taken follows pages entries page_rings entry_rings taken_rings given rings laws keeps =
    let part : IsPartOf live building = taken.part in
    let b : BuildState = part.of.build in
    let w : WorkValue = part.of.work in
    let build_of : IsBuildOf live.state.heap.schema live.state.heap.log b =
    subst (BuildFollows live.state.heap.schema live.state.heap.log) part.of.runs follows in
    let all : open_range b ≡ None = subst (λ (o : Option BuildState). OnBuild o (λ x. open_range x ≡ None)) part.of.runs taken.scanned in
    let fine : w.spoiled ≡ None = subst (λ (o : Option WorkValue). IfSome o (λ x. x.spoiled ≡ None)) part.of.there taken.fine in
    let kept : IsKept building.workers building.sides building.spools w =
    (subst (KeepsWork building.workers building.sides building.spools) part.of.there keeps) fine in
    let was_given : building.given ≡ true = elim (cases_Bool building.given) [
      | inl is ↦ is
      | inr isnt ↦ absurd (let bad : None ≡ Some w = sym (given isnt) ∙ part.of.there in cc)
    ] in
    let own : All (λ (worker : WorkerValue). All (λ spec. spec.kinds ≡ worker.maker.schema) worker.maker.specs) building.workers =
    all_from (λ (worker : WorkerValue). All (λ spec. spec.kinds ≡ worker.maker.schema) worker.maker.specs) building.workers
    (λ k worker at. (all_at (KeepsLaws rings) building.workers k worker laws at).columns) in
    reunited live building part kept build_of was_given
    (subst (λ (o : Option BuildState). IfSome o (λ x. EachPageOnce live.state.heap.schema live.state.heap.log x (all_sent live.pages))) part.of.runs pages)
    (subst (λ (o : Option BuildState). IfSome o (λ x. EachEntryOnce live.state.heap.log x live.sides)) part.of.runs entries)
    page_rings entry_rings taken_rings all taken.all rings laws (same_columns live building part kept build_of own)

-- two looks leave the rest of what stands beside the table
rest_same :
    (new old mid : BuildingValue) → new.idle ≡ mid.idle → new.sides ≡ mid.sides → new.spools ≡ mid.spools → new.given ≡ mid.given → new.work ≡ mid.work
    → mid ≡ record old { sides = mid.sides } → new ≡ record old { workers = new.workers; sides = new.sides }
rest_same new old mid idle sides spools given work of_mid =
    let idle_is : new.idle ≡ old.idle = idle ∙ ap (λ (b : BuildingValue). b.idle) of_mid in
    let spools_are : new.spools ≡ old.spools = spools ∙ ap (λ (b : BuildingValue). b.spools) of_mid in
    let given_is : new.given ≡ old.given = given ∙ ap (λ (b : BuildingValue). b.given) of_mid in
    let work_is : new.work ≡ old.work = work ∙ ap (λ (b : BuildingValue). b.work) of_mid in
    rw (sym idle_is, sym spools_are, sym given_is, sym work_is) refl

-- it leaves what is part of the build so
pub part_rings_looked :
    (live new_live : LiveValue) (building new : BuildingValue) → HasLookedAtRings live building new_live new → IsPartOf live building → IsPartOf new_live new
part_rings_looked live new_live building new looked part = record {
  of = record {
    build = part.of.build;
    runs = ap (λ (s : LiveState). s.build) looked.state ∙ part.of.runs;
    work = part.of.work;
    there = looked.work ∙ part.of.there;
    number = part.of.number;
    specs = part.of.specs;
    many = part.of.many;
    workers = as_long unseen unseen new.workers building.workers looked.rings.same ∙ part.of.workers;
  };
  fed = rw (looked.sides, looked.other_sides) part.fed;
}

-- where nothing is left over then, it is taken in
pub now_taken :
    (live new_live : LiveValue) (building new : BuildingValue) → HasLookedAtRings live building new_live new → IsPartOf live building → IsUnspoiled building
    → IsScannedWhole live → HaveAll new_live new → IsTakenIn new_live new
now_taken live new_live building new looked part fine scanned all = record {
  part = part_rings_looked live new_live building new looked part;
  fine = subst (λ (o : Option WorkValue). IfSome o (λ w. w.spoiled ≡ None)) (sym looked.work) fine;
  scanned = subst (λ (s : LiveState). OnBuild s.build (λ b. open_range b ≡ None)) (sym looked.state) scanned;
  all = all;
}

-- the side-files' rings were looked at
module _ (in_order : Bool) (live mid_live : LiveValue) (building mid : BuildingValue) (sides : SidesAreLooked live building mid_live mid) where
  abbrev same : SidesAreSame live building mid_live mid
  same = sides_same live mid_live building mid sides

  was_part : IsPartOf mid_live mid → IsPartOf live building
  was_part part = part_looked mid_live live mid building (looked_back live mid_live building mid same) part

  pub same_state : core_state mid_live mid ≡ core_state live building
  same_state = state_sides_looked live mid_live building mid same

  pub works_same : StandsBeside live building → StandsBeside mid_live mid
  works_same = works_sides_looked live mid_live building mid same

  pub sides_only : IsOnlyLookedAt live building mid_live mid
  sides_only = record {
    state = ap (λ (l : LiveValue). l.state) sides.of_live;
    pages = record {
      puts = subst (λ (ps : List (PutEnd Copied)). AllZip PutEndLooked live.pages ps) (sym (ap (λ (l : LiveValue). l.pages) sides.of_live)) (all_unlooked live.pages);
      same = ap (λ (b : BuildingValue). map unseen b.workers) sides.of_building;
    };
    puts = sides.puts;
    takes = sides.takes;
    rest = sides.of_building ∙ ap (λ (ws : List WorkerValue). record building { workers = ws; sides = mid.sides }) (sym (ap (λ (b : BuildingValue). b.workers) sides.of_building));
  }

  pub kept_early : (fault : Fault) → IsPartOf mid_live mid → early_cause in_order (core_state mid_live mid) ≡ Some fault → IsKeptOut in_order live building fault mid_live mid
  kept_early fault part cause = record {
    cause = inr (inl (record { part = was_part part; cause = ap (early_cause in_order) (sym same_state) ∙ cause }));
    looked = sides_only;
  }

  pub kept_foreign : (IsPartOf live building → ⊥) → IsKeptOut in_order live building NoBuild mid_live mid
  kept_foreign foreign = record { cause = inl (record { foreign = foreign; no_build = refl }); looked = sides_only }

  -- and then those of the workers
  module _ (new_live : LiveValue) (new : BuildingValue) (rings : HasLookedAtRings mid_live mid new_live new) where
    pub state_taken : core_state new_live new ≡ core_state live building
    state_taken = state_looked mid_live new_live mid new rings ∙ same_state

    pub works_taken : StandsBeside live building → StandsBeside new_live new
    works_taken works = works_looked mid_live new_live mid new rings (works_same works)

    pages_are : mid_live.pages ≡ live.pages
    pages_are = ap (λ (l : LiveValue). l.pages) sides.of_live

    workers_are : mid.workers ≡ building.workers
    workers_are = ap (λ (b : BuildingValue). b.workers) sides.of_building

    both : AreLooked live.pages building.workers new_live.pages new.workers
    both =
        subst (λ (ps : List (PutEnd Copied)). AreLooked ps building.workers new_live.pages new.workers) pages_are
        (subst (λ (ws : List WorkerValue). AreLooked mid_live.pages ws new_live.pages new.workers) workers_are rings.rings)

    sent_back : all_sent live.pages ≡ all_sent new_live.pages
    sent_back = sym (same_sent live.pages new_live.pages both.puts)

    pub all_only : IsOnlyLookedAt live building new_live new
    all_only = record {
      state = rings.state ∙ ap (λ (l : LiveValue). l.state) sides.of_live;
      pages = both;
      puts = subst (λ (ps : List (PutEnd Entry)). AllZip PutEndLooked live.sides ps) (sym rings.sides) sides.puts;
      takes = ap (map unseen_take) rings.other_sides ∙ sides.takes;
      rest = rest_same new building mid rings.idle rings.other_sides rings.spools rings.given rings.work sides.of_building;
    }

    pub had_all : HaveAll new_live new → HaveAll live building
    had_all = sealed_looked (all_sent new_live.pages) new.workers (all_sent live.pages) building.workers sent_back (sym both.same)

    pub was_taken : IsPartOf mid_live mid → HaveAll new_live new → IsPartOf live building × HaveAll live building
    was_taken part sealed = (was_part part, had_all sealed)

    still_unsealed :
        (worker : ℕ) → IsUnsealed worker (all_sent new_live.pages) new.workers → IsUnsealed worker (all_sent live.pages) building.workers
    still_unsealed worker unsealed sent it there at sealed =
        let now = same_at unseen new.workers building.workers worker it both.same at in
        unsealed sent now.0 (sym (ap (λ (l : List (List Copied)). slice_get l worker) sent_back) ∙ there) now.1 (record {
          taken = ap (λ (v : WorkerValue). v.intake.end.received) now.2 ∙ sealed.taken;
          closed = subst (λ (v : WorkerValue). All (λ begun. begun ≡ []) v.maker.begun) (sym now.2) sealed.closed;
        })

    pub kept_left :
        (worker : ℕ) → IsPartOf mid_live mid → early_cause in_order (core_state mid_live mid) ≡ None → worker < length new.workers
        → FirstAreSealed worker (all_sent new_live.pages) new.workers → IsUnsealed worker (all_sent new_live.pages) new.workers
        → IsKeptOut in_order live building (NotSealed worker) new_live new
    kept_left worker part none less lower unsealed =
        let many = as_long unseen unseen new.workers building.workers both.same in
        record {
          cause = inr (inr (record {
            part = was_part part;
            first = ap (early_cause in_order) (sym same_state) ∙ none;
            worker = worker;
            lowest = record {
              there = subst (λ (n : ℕ). worker < n) many less;
              lower = first_looked (all_sent new_live.pages) new.workers (all_sent live.pages) building.workers sent_back (sym both.same) worker lower;
              unsealed = still_unsealed worker unsealed;
            };
            not_sealed = refl;
          }));
          looked = all_only;
        }

    -- what was taken in was part of the build, which nothing held back
    pub first_none : early_cause in_order (core_state mid_live mid) ≡ None → early_cause in_order (core_state live building) ≡ None
    first_none none = ap (early_cause in_order) (sym same_state) ∙ none

-- and its workers may hand their spools over
pub may_hand_over :
    (live : LiveValue) (building : BuildingValue) → IsTakenIn live building
    → BuildFollows live.state.heap.schema live.state.heap.log live.state.build → StandsBeside live building → (rings : List RingId)
    → All (KeepsLaws rings) building.workers → KeepsWork building.workers building.sides building.spools building.work → MayLoad live building 0
may_hand_over live building taken follows works rings laws keeps =
    let of = taken.part.of in
    let b : BuildState = of.build in
    let w : WorkValue = of.work in
    let run : IsRunning live building b w = running live building b w of.runs of.there follows works in
    let fine : w.spoiled ≡ None = subst (λ (o : Option WorkValue). IfSome o (λ x. x.spoiled ≡ None)) of.there taken.fine in
    let kept : IsKept building.workers building.sides building.spools w =
    (subst (KeepsWork building.workers building.sides building.spools) of.there keeps) fine in
    record {
      build = b;
      work = w;
      runs = run;
      fine = fine;
      there = let some = run.follows.some_index in omega (arith, some, ap length of.specs);
      all = subst (λ (o : Option BuildState). OnBuild o (λ x. open_range x ≡ None)) of.runs taken.scanned;
      sealed = taken.all;
      holding = λ scans. all_from (λ (worker : WorkerValue). IsHolding worker.intake worker.maker worker.spools) building.workers (λ k worker at.
          let is = kept.placed k worker at in
          (all_at (KeepsLaws rings) building.workers k worker laws at).holding is.fine (is.spools_are ∙ scans));
    }

-- a look leaves the work, and with it whether they did so before
module _
    (live new_live : LiveValue) (building seen new : BuildingValue) (looked : IsOnlyLookedAt live building new_live seen) where
  work_seen : seen.work ≡ building.work
  work_seen = ap (λ (b : BuildingValue). b.work) looked.rest

  -- they do it now
  pub hands_over :
      IfSome seen.work (λ w. w.handed ≡ false → HasHandedOver seen new) → IfSome building.work (λ w. w.handed ≡ false → HandsOver live building new_live new)
  hands_over handed =
      IfSome_then building.work (subst (λ (o : Option WorkValue). IfSome o (λ w. w.handed ≡ false → HasHandedOver seen new)) work_seen handed)
      (λ w now scans. record { seen = seen; looked = looked; handed = now scans })

  -- or nothing is left to do
  pub looks_again :
      IfSome seen.work (λ w. w.handed ≡ true → new ≡ seen) → IfSome building.work (λ w. w.handed ≡ true → IsOnlyLookedAt live building new_live new)
  looks_again same =
      IfSome_then building.work (subst (λ (o : Option WorkValue). IfSome o (λ w. w.handed ≡ true → new ≡ seen)) work_seen same)
      (λ w now loads. subst (IsOnlyLookedAt live building new_live) (sym (now loads)) looked)
