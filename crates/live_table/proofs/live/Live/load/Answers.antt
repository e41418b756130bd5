use Rattle.std.proofs.Common.{◌≡◌, ◌∙◌, false, length, ap, sym, subst}
use Rattle.std.specs.Prelude.{IfOk, IfErr, OnErr}
use Rattle.build_events.specs.BuildSteps.{Loads}
use Rattle.build_events.specs.CoreState.{CoreState}
use Rattle.build_events.specs.Steps.{spoiled_by}
use Rattle.build_events.specs.Workers.{index_at}
use Rattle.live_lemmas.specs.Builds.{LiveValue, core_state}
use Rattle.live_lemmas.specs.Rings.{ArePut}
use Rattle.building.specs.Rings.{all_sent}
use Rattle.live_lemmas.proofs.Loaded.{put_inside, can_load, works_after_load, loads_after, wanted_first}
use Rattle.live_lemmas.proofs.Takes.{spoiled_after}
use Rattle.building.proofs.Spoiled.{load_spoils}
use Rattle.live_table.proofs.live.Live.load.Given as given
use Rattle.live_table.proofs.live.Live.load.Goals as goal
use Rattle.live_table.proofs.live.Live.load.Goals.{After-load-arg-2-1}

-- what its page rings were sent
its_pages :
    (g : given.Over) (c : After-load-arg-2-1 g)
    → ArePut c.args.self.now.state.heap.schema c.args.self.now.state.heap.log c.hand_over.ensures.loads.build (all_sent c.args.self.now.pages)
    × (length c.args.self.now.pages ≡ 16)
its_pages g c =
    let is = c.hand_over.ensures.loads in (
      put_inside _ c.args.self.now is.build c.self.view_is is.runs.build_is c.self.invariant.3,
      sym (ap (λ (l : LiveValue). length l.pages) c.self.view_is) ∙ c.self.invariant.5.sixteen,
    )

pub load-requires : goal.load-requires
load-requires g c =
    let is = c.hand_over.ensures.loads in
    let live : LiveValue = c.args.self.now in
    let pages = its_pages g (goal.at.load-requires g c).After-load-arg-2-1 in
    can_load live c.hand_over.new.building is.build is.work is.runs is.fine pages.0 pages.1 is.loads c.args.index is.there

pub returns-clause-loaded : goal.returns-clause-loaded
returns-clause-loaded g c =
    let is = c.hand_over.ensures.loads in
    let live : LiveValue = c.args.self.now in
    let pages = its_pages g (goal.at.returns-clause-loaded g c).After-load-arg-2-1 in
    subst (λ (s : CoreState). IfOk c.load.result (λ count. Loads c.args.index s count (core_state live c.load.new.self))) c.hand_over.ensures.state
    (loads_after live c.hand_over.new.building is.build is.work is.runs is.fine pages.0 pages.1 is.loads c.args.index is.there c.load.new.self c.load.result
    c.load.ensures.loaded)

pub returns-clause-works : goal.returns-clause-works
returns-clause-works g c =
    let is = c.hand_over.ensures.loads in
    let live : LiveValue = c.args.self.now in
    let pages = its_pages g (goal.at.returns-clause-works g c).After-load-arg-2-1 in
    works_after_load live c.hand_over.new.building is.build is.work is.runs is.fine pages.0 pages.1 is.loads c.args.index is.there c.load.new.self c.load.result
    c.load.ensures.loaded (load_spoils c.args.index c.hand_over.new.building c.load.new.self c.load.result c.load.ensures.spoiled)

pub returns-clause-first : goal.returns-clause-first
returns-clause-first g c =
    let is = c.hand_over.ensures.loads in
    let live : LiveValue = c.args.self.now in
    let pages = its_pages g (goal.at.returns-clause-first g c).After-load-arg-2-1 in
    subst (λ (s : CoreState). OnErr c.load.result ((index_at s.work.indexes c.args.index).loaded ≡ false)) c.hand_over.ensures.state
    (wanted_first live c.hand_over.new.building is.build is.work is.runs is.fine pages.0 pages.1 is.loads c.args.index is.there c.load.result
    c.load.ensures.first)

pub returns-clause-spoiled : goal.returns-clause-spoiled
returns-clause-spoiled g c =
    let is = c.hand_over.ensures.loads in
    let live : LiveValue = c.args.self.now in
    subst (λ (s : CoreState). IfErr c.load.result (λ fault. core_state live c.load.new.self ≡ spoiled_by fault s)) c.hand_over.ensures.state
    (spoiled_after live c.hand_over.new.building c.load.new.self is.build is.work is.runs c.load.result
    (load_spoils c.args.index c.hand_over.new.building c.load.new.self c.load.result c.load.ensures.spoiled))
