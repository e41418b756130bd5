use Rattle.std.proofs.Common.{◌∙◌, refl, sym, subst}
use Rattle.run_spool.specs.Spools.{IsFullIntact}
use Rattle.std.specs.Prelude.{IfOk, IfErr, IsSome}
use Rattle.build_events.specs.CoreState.{CoreState}
use Rattle.live_lemmas.specs.Builds.{LiveValue, core_state}
use Rattle.live_lemmas.specs.Turns.{HasTurn, IsTurnRefused}
use Rattle.building.specs.BuildingValue.{BuildingValue}
use Rattle.live_lemmas.proofs.Looked.{ends_looked, state_looked, runs_looked}
use Rattle.live_lemmas.proofs.Takes.{put_of}
use Rattle.live_lemmas.proofs.Turns.{refused_after, turn_after, works_after_turn}
use Rattle.page_workers.proofs.Places.{below}
use Rattle.live_table.proofs.live.Live.take.Goals as goal

pub take-requires-clause-there : goal.take-requires-clause-there
take-requires-clause-there g c = below c.look.new.building.workers c.args.worker c.look.ensures.sees.it c.look.ensures.sees.there

pub take-requires-clause-runs : goal.take-requires-clause-runs
take-requires-clause-runs g c = subst (λ o. IsSome o) (sym (c.look.ensures.looked.work ∙ c.requires.runs.runs.work_is)) refl

pub returns-clause-done : goal.returns-clause-done
returns-clause-done g c =
    let may = c.requires.runs in
    let live : LiveValue = c.look.new.self in
    let building : BuildingValue = c.look.new.building in
    let run = runs_looked c.args.self.now live c.args.building.now building may.build may.work c.look.ensures.looked may.runs in
    subst (λ (s : CoreState). IfOk c.take.result (λ images. HasTurn c.args.turn c.args.worker s images (core_state live c.take.new.self)))
    (state_looked c.args.self.now live c.args.building.now building c.look.ensures.looked)
    (turn_after live building c.take.new.self may.build may.work run may.fine (put_of live may.build run.build_is c.look.ensures.put) c.args.worker c.look.result
    c.look.ensures.sees c.args.turn c.take.result c.take.ensures.did)

pub returns-clause-refused : goal.returns-clause-refused
returns-clause-refused g c =
    let may = c.requires.runs in
    let spool = g.S.Spool in
    let live : LiveValue = c.look.new.self in
    let building : BuildingValue = c.look.new.building in
    let run = runs_looked c.args.self.now live c.args.building.now building may.build may.work c.look.ensures.looked may.runs in
    subst (λ (s : CoreState). IfErr c.take.result (λ fault. IsTurnRefused (IsFullIntact spool.is_full spool.is_intact spool.runs) spool.runs spool.open_run spool.stake c.args.turn c.args.worker s fault (core_state live c.take.new.self)))
    (state_looked c.args.self.now live c.args.building.now building c.look.ensures.looked)
    (refused_after live building c.take.new.self may.build may.work run may.fine (put_of live may.build run.build_is c.look.ensures.put) c.args.worker c.look.result
    c.look.ensures.sees c.args.turn (IsFullIntact spool.is_full spool.is_intact spool.runs) spool.runs spool.open_run spool.stake c.look.ensures.pages g.T.TableRings.pages c.laws.ensures.each c.take.result c.take.ensures.stopped)

pub returns-clause-works : goal.returns-clause-works
returns-clause-works g c =
    let may = c.requires.runs in
    let spool = g.S.Spool in
    let live : LiveValue = c.look.new.self in
    let building : BuildingValue = c.look.new.building in
    let run = runs_looked c.args.self.now live c.args.building.now building may.build may.work c.look.ensures.looked may.runs in
    works_after_turn live building c.take.new.self may.build may.work run may.fine (put_of live may.build run.build_is c.look.ensures.put) c.args.worker c.look.result
    c.look.ensures.sees c.args.turn (IsFullIntact spool.is_full spool.is_intact spool.runs) spool.runs spool.open_run spool.stake c.look.ensures.pages g.T.TableRings.pages c.laws.ensures.each c.take.result c.take.ensures.did c.take.ensures.stopped

pub returns-clause-ends : goal.returns-clause-ends
returns-clause-ends g c = ends_looked _ _ _ _ c.look.ensures.looked
