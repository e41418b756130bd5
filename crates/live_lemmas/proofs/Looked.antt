-- A table and what stands beside it, where their rings were looked at.
use Rattle.std.proofs.Common.{◌≡◌, ℕ, List, ◌++◌, Option, Some, None, refl, sym, ap, ◌∙◌, subst}
use Rattle.page_workers.specs.SpoolValue.{SpoolValue}
use Rattle.live_lemmas.specs.Builds.{LiveValue, HasLookedAtRings, IsRunning, StandsBeside, core_state}
use Rattle.building.specs.BuildingValue.{BuildingValue, WorkValue, work_state}
use Rattle.building.specs.WorkOn.{WorkersFollow, AreAtWork}
use Rattle.build_events.specs.CoreState.{BuildState, LiveState, WorkState, SpoolsState}
use Rattle.building.specs.Holding.{all_spools, spools_state}
use Rattle.building.specs.Rings.{all_sent, AreOfBuilds, unseen}
use Rattle.building.proofs.AtWork.{taking_same}
use Rattle.building.proofs.Looks.{same_rings, same_sent, sealed_looked}
use Rattle.live_lemmas.specs.Putting.{PagesAreLooked}
use Rattle.live_lemmas.specs.Rings.{ArePutEnds, PagesFollow}
use Rattle.heap_log.specs.declared.record.LogRec.{LogRec}
use Rattle.side_file.specs.Ends.{PutEndLooked}
use Rattle.page_workers.specs.declared.copied.Copied.{Copied}
use Rattle.side_file.specs.Ends.{PutEnd, RingId}
use Rattle.side_file.specs.declared.entry.Entry.{Entry}
use Rattle.std.specs.List.{AllZip}
use Rattle.table_scan.proofs.LookedEnds.{all_unlooked}
use Rattle.page_workers.proofs.Places.{as_long}
use Rattle.keybytes.specs.declared.kind.Kind.{Kind}
use Rattle.building.proofs.Looked.{columns_looked, lent_looked, states_looked}

-- nothing was looked at
pub not_looked : (live : LiveValue) (building : BuildingValue) → HasLookedAtRings live building live building
not_looked live building = record {
  state = refl;
  sides = refl;
  rings = record { puts = all_unlooked live.pages; same = refl };
  idle = refl;
  other_sides = refl;
  spools = refl;
  given = refl;
  work = refl;
}

-- of a table's ends a look at the page rings reaches those that put copies
pub ends_looked : (live new_live : LiveValue) (building new : BuildingValue) → HasLookedAtRings live building new_live new → PagesAreLooked live new_live
ends_looked live new_live building new looked = record { pages = looked.rings.puts; sides = looked.sides }

-- callers see no difference
pub state_looked : (live new_live : LiveValue) (building new : BuildingValue) → HasLookedAtRings live building new_live new → core_state new_live new ≡ core_state live building
state_looked live new_live building new looked =
    let all : all_spools new.workers new.spools ≡ all_spools building.workers building.spools =
    ap (all_spools new.workers) looked.spools ∙ ap (λ (l : List SpoolValue). building.spools ++ l) (lent_looked building.workers new.workers looked.rings.same) in
    let spools : spools_state new.given (all_spools new.workers new.spools) ≡ spools_state building.given (all_spools building.workers building.spools) =
    ap (λ g. spools_state g (all_spools new.workers new.spools)) looked.given ∙ ap (spools_state building.given) all in
    let work : work_state new.workers new.work ≡ work_state building.workers building.work =
    ap (work_state new.workers) looked.work ∙ states_looked building.workers new.workers building.work looked.rings.same in
    ap (λ s. record { live = s; work = work_state new.workers new.work; spools = spools_state new.given (all_spools new.workers new.spools) }) looked.state
    ∙ ap (λ (w : WorkState). record { live = live.state; work = w; spools = spools_state new.given (all_spools new.workers new.spools) }) work
    ∙ ap (λ (s : SpoolsState). record { live = live.state; work = work_state building.workers building.work; spools = s }) spools

-- and all goes on
workers_after :
    (kinds : List Kind) (live new_live : LiveValue) (building new : BuildingValue) (build : Option BuildState) (work : Option WorkValue)
    → HasLookedAtRings live building new_live new
    → WorkersFollow kinds live.pages live.sides building build work → WorkersFollow kinds new_live.pages new_live.sides new build work
workers_after kinds live new_live building new None work looked follow = tt
workers_after kinds live new_live building new (Some b) None looked follow = tt
workers_after kinds live new_live building new (Some b) (Some w) looked follow = record {
  fed = rw (looked.sides, looked.other_sides) follow.fed;
  given = looked.given ∙ follow.given;
  many = as_long unseen unseen new.workers building.workers looked.rings.same ∙ follow.many;
  taking = λ fine. rw (same_sent live.pages new_live.pages looked.rings.puts) (taking_same b.number kinds w.specs w.handed _ building.workers new.workers looked.rings.same (follow.taking fine));
  lent = λ fine scans. looked.spools ∙ follow.lent fine scans;
  drained = λ fine handed. (
    (follow.drained fine handed).0,
    sealed_looked (all_sent live.pages) building.workers (all_sent new_live.pages) new.workers
        (same_sent live.pages new_live.pages looked.rings.puts) looked.rings.same (follow.drained fine handed).1,
  );
  columns = λ fine handed. rw looked.spools (columns_looked building.workers new.workers building.spools w looked.rings.same (follow.columns fine handed));
}

pub works_looked : (live new_live : LiveValue) (building new : BuildingValue) → HasLookedAtRings live building new_live new → StandsBeside live building → StandsBeside new_live new
works_looked live new_live building new looked works = record {
  work = rw (looked.state, looked.work) works.work;
  workers =
      subst (WorkersFollow new_live.state.heap.schema new_live.pages new_live.sides new new_live.state.build) (sym looked.work)
      (subst (λ (s : LiveState). WorkersFollow s.heap.schema new_live.pages new_live.sides new s.build building.work) (sym looked.state)
      (workers_after live.state.heap.schema live new_live building new live.state.build building.work looked works.workers));
}

pub runs_looked :
    (live new_live : LiveValue) (building new : BuildingValue) (b : BuildState) (w : WorkValue) → HasLookedAtRings live building new_live new
    → IsRunning live building b w → IsRunning new_live new b w
runs_looked live new_live building new b w looked run = record {
  build_is = rw looked.state run.build_is;
  work_is = looked.work ∙ run.work_is;
  follows = rw looked.state run.follows;
  on = rw looked.state run.on;
  at_work = subst (λ (s : LiveState). AreAtWork s.heap.schema b new_live.pages new_live.sides new w) (sym looked.state)
      (workers_after live.state.heap.schema live new_live building new (Some b) (Some w) looked run.at_work);
}

-- what a table keeps of the ends that put copies is kept where they were looked at
module _ (pages new : List (PutEnd Copied)) (looked : AllZip PutEndLooked pages new) where
  pub follow_looked :
      (kinds : List Kind) (log : List LogRec) (builds : ℕ) (build : Option BuildState) → PagesFollow kinds log builds build (all_sent pages)
      → PagesFollow kinds log builds build (all_sent new)
  follow_looked kinds log builds build = subst (PagesFollow kinds log builds build) (sym (same_sent pages new looked))

  pub of_builds_looked : (builds : ℕ) → AreOfBuilds builds (all_sent pages) → AreOfBuilds builds (all_sent new)
  of_builds_looked builds = subst (AreOfBuilds builds) (sym (same_sent pages new looked))

  pub put_ends_looked :
      (page_rings entry_rings : List RingId) (sides : List (PutEnd Entry)) → ArePutEnds page_rings entry_rings pages sides
      → ArePutEnds page_rings entry_rings new sides
  put_ends_looked page_rings entry_rings sides are =
      let rings = same_rings pages new looked in
      record {
        pages_are = rings ∙ are.pages_are;
        sides_are = are.sides_are;
        sixteen = as_long (λ (e : PutEnd Copied). e.ring) (λ (e : PutEnd Copied). e.ring) new pages rings ∙ are.sixteen;
        eight = are.eight;
      }
