use Rattle.std.proofs.Common.{◌≡◌, ◌<◌, ◌∙◌, length, true, ap, sym, arith}
use Rattle.std.specs.Prelude.{is_some}
use Rattle.live_lemmas.specs.Builds.{IsRunning}
use Rattle.build_events.specs.Ranges.{next_page}
use Rattle.live_lemmas.proofs.Refusals.{running}
use Rattle.live_lemmas.proofs.ScanCauses.{ring_full, has_place}
use Rattle.live_lemmas.proofs.Looked.{not_looked, works_looked, state_looked}
use Rattle.live_table.proofs.live.Live.check_scan.Given as given
use Rattle.live_table.proofs.live.Live.check_scan.Goals as goal
use Rattle.live_table.proofs.live.Live.check_scan.Goals.{After-look}

-- before the look a build ran that has such a range and worker, and the range had a page left
record Runs (g : given.Over) (c : After-look g) : Type 0 where
  run : IsRunning c.args.self.now c.args.building.now c.in-Some-Some.build.now c.in-Some-Some.work.now
  ranges : c.args.range < length c.in-Some-Some.build.now.ends
  workers : c.args.worker < c.in-Some-Some.build.now.workers
  more : is_some (next_page c.in-Some-Some.build.now c.args.range) ≡ true

runs : (g : given.Over) (c : After-look g) → Runs g c
runs g c = record {
  run = running c.args.self.now c.args.building.now c.in-Some-Some.build.now c.in-Some-Some.work.now c.in-Some-Some.ensures.build c.in-Some-Some.ensures'
      c.build.ensures.follows c.requires;
  ranges = omega (arith, c.if-range-ranges.false, c.ranges-2.ensures);
  workers = omega (arith, c.if-worker-workers.false, c.workers.ensures);
  more = ap is_some (sym c.next_page.ensures) ∙ c.if-is_none.ensures;
}

pub returns-then-look-ge-RING_IMAGES-clause-refused : goal.returns-then-look-ge-RING_IMAGES-clause-refused
returns-then-look-ge-RING_IMAGES-clause-refused g c =
    let it = runs g (goal.at.returns-then-look-ge-RING_IMAGES-clause-refused g c).After-look in
    ring_full _ _ _ _ _ _ c.args.range c.args.worker c.look.result it.run c.in_ok-check.ensures it.ranges it.workers it.more c.look.ensures.looked
    c.look.ensures.sees c.look.ensures.put (omega (arith, c.if-look-ge-RING_IMAGES.true))

pub returns-then-look-ge-RING_IMAGES-clause-state : goal.returns-then-look-ge-RING_IMAGES-clause-state
returns-then-look-ge-RING_IMAGES-clause-state g c = state_looked _ _ _ _ c.look.ensures.looked

pub returns-then-look-ge-RING_IMAGES-clause-works : goal.returns-then-look-ge-RING_IMAGES-clause-works
returns-then-look-ge-RING_IMAGES-clause-works g c = works_looked _ _ _ _ c.look.ensures.looked c.requires

pub returns-clause-accepted : goal.returns-clause-accepted
returns-clause-accepted g c =
    let it = runs g (goal.at.returns-clause-accepted g c).After-look in
    has_place _ _ _ _ _ _ c.args.range c.args.worker c.look.result it.run c.in_ok-check.ensures it.ranges it.workers it.more c.look.ensures.looked
    c.look.ensures.sees c.look.ensures.put (omega (arith, c.if-look-ge-RING_IMAGES.false))

pub returns-clause-state : goal.returns-clause-state
returns-clause-state g c = state_looked _ _ _ _ c.look.ensures.looked

pub returns-clause-works : goal.returns-clause-works
returns-clause-works g c = works_looked _ _ _ _ c.look.ensures.looked c.requires

pub returns-in_default-2-clause-looked : goal.returns-in_default-2-clause-looked
returns-in_default-2-clause-looked g c = not_looked c.args.self.now c.args.building.now

pub returns-then-range-ranges-clause-looked : goal.returns-then-range-ranges-clause-looked
returns-then-range-ranges-clause-looked g c = not_looked c.args.self.now c.args.building.now

pub returns-in_err-check-clause-looked : goal.returns-in_err-check-clause-looked
returns-in_err-check-clause-looked g c = not_looked c.args.self.now c.args.building.now

pub returns-then-is_none-clause-looked : goal.returns-then-is_none-clause-looked
returns-then-is_none-clause-looked g c = not_looked c.args.self.now c.args.building.now
