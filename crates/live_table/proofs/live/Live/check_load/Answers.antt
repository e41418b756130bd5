use Rattle.std.proofs.Common.{rules, ◌≡◌, ◌<◌, None, length, arith}
use Rattle.build_events.specs.Ranges.{open_range}
use Rattle.live_lemmas.specs.Builds.{IsRunning}
use Rattle.live_lemmas.proofs.LoadLooked.{may_load, none_left, one_left}
use Rattle.live_lemmas.proofs.Looked.{not_looked, works_looked, state_looked}
use Rattle.live_lemmas.proofs.Refusals.{running}
use Rattle.live_table.proofs.live.Live.check_load.Given as given
use Rattle.live_table.proofs.live.Live.check_load.Goals as goal
use Rattle.live_table.proofs.live.Live.check_load.Goals.{After-unsealed}

-- before the look a build ran that goes on and has such an index, and all its pages were copied
record Runs (g : given.Over) (c : After-unsealed g) : Type 0 where
  was : IsRunning c.args.self.now c.args.building.now c.in-Some-Some.build.now c.in-Some-Some.work.now
  there : c.args.index < length c.in-Some-Some.build.now.specs
  all : open_range c.in-Some-Some.build.now ≡ None

runs : (g : given.Over) (c : After-unsealed g) → Runs g c
runs g c = record {
  was = running c.args.self.now c.args.building.now c.in-Some-Some.build.now c.in-Some-Some.work.now c.in-Some-Some.ensures.build c.in-Some-Some.ensures'
      c.build.ensures.follows c.requires;
  there = omega (arith, c.if-index-indexes.false, c.indexes.ensures);
  all = search rules;
}

pub returns-in-Some-unsealed-clause-refused : goal.returns-in-Some-unsealed-clause-refused
returns-in-Some-unsealed-clause-refused g c =
    let it = runs g (goal.at.returns-in-Some-unsealed-clause-refused g c).After-unsealed in
    let look = c.unsealed.ensures in
    one_left _ _ _ _ _ _ c.args.index it.was c.in_ok-check.ensures it.there it.all look.looked look.put look.pages g.T.TableRings.pages look.laws
    c.in-Some-unsealed.worker c.in-Some-unsealed.ensures.unsealed

pub returns-in-Some-unsealed-clause-state : goal.returns-in-Some-unsealed-clause-state
returns-in-Some-unsealed-clause-state g c = state_looked _ _ _ _ c.unsealed.ensures.looked

pub returns-in-Some-unsealed-clause-works : goal.returns-in-Some-unsealed-clause-works
returns-in-Some-unsealed-clause-works g c = works_looked _ _ _ _ c.unsealed.ensures.looked c.requires

pub returns-in-None-clause-accepted : goal.returns-in-None-clause-accepted
returns-in-None-clause-accepted g c =
    let it = runs g (goal.at.returns-in-None-clause-accepted g c).After-unsealed in
    let look = c.unsealed.ensures in
    none_left _ _ _ _ _ _ c.args.index it.was c.in_ok-check.ensures it.there it.all look.looked look.put look.pages g.T.TableRings.pages look.laws
    c.in-None.ensures.unsealed

pub returns-in-None-clause-state : goal.returns-in-None-clause-state
returns-in-None-clause-state g c = state_looked _ _ _ _ c.unsealed.ensures.looked

pub returns-in-None-clause-works : goal.returns-in-None-clause-works
returns-in-None-clause-works g c = works_looked _ _ _ _ c.unsealed.ensures.looked c.requires

pub returns-in-None-clause-runs : goal.returns-in-None-clause-runs
returns-in-None-clause-runs g c =
    let it = runs g (goal.at.returns-in-None-clause-runs g c).After-unsealed in
    let look = c.unsealed.ensures in
    may_load _ _ _ _ _ _ c.args.index it.was c.in_ok-check.ensures it.there it.all look.looked look.put look.pages g.T.TableRings.pages look.laws
    c.in-None.ensures.unsealed

pub returns-in_default-2-clause-looked : goal.returns-in_default-2-clause-looked
returns-in_default-2-clause-looked g c = not_looked c.args.self.now c.args.building.now

pub returns-then-index-indexes-clause-looked : goal.returns-then-index-indexes-clause-looked
returns-then-index-indexes-clause-looked g c = not_looked c.args.self.now c.args.building.now

pub returns-in_err-check-clause-looked : goal.returns-in_err-check-clause-looked
returns-in_err-check-clause-looked g c = not_looked c.args.self.now c.args.building.now

pub returns-in-Some-clause-looked : goal.returns-in-Some-clause-looked
returns-in-Some-clause-looked g c = not_looked c.args.self.now c.args.building.now
