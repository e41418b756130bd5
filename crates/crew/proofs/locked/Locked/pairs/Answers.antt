use Rattle.std.proofs.Common.{◌<◌, ◌≤◌, length, ap, subst, ◌∙◌}
use Rattle.page_workers.proofs.Places.{below}
use Rattle.crew.specs.Credits.{LockedValue}
use Rattle.crew.specs.MadeReady.{HasMadeReady}
use Rattle.crew.proofs.MadeReady.{has_index, lacks_index, lacks_memory, past_end}
use Rattle.crew.proofs.locked.Locked.pairs.Goals as goal

pub returns-in-Some-clause-there : goal.returns-in-Some-clause-there
returns-in-Some-clause-there g c =
    let made : HasMadeReady g.T.Opened.opening c.args.self.now.state.heap.log (length c.args.self.now.state.ready) =
    subst (λ (l : LockedValue). HasMadeReady g.T.Opened.opening l.state.heap.log (length l.state.ready)) c.self.view_is c.self.invariant.2 in
    let all = c.ready.ensures.ready ∙ ap (λ (l : LockedValue). l.state.ready) c.self.view_is in
    let within : c.args.number < length c.args.self.now.state.ready = subst (λ l. c.args.number < length l) all (below _ c.args.number _ c.in-Some.ensures) in
    has_index _ _ _ _ made c.copied_index.result within

pub returns-in-Some-clause-refused : goal.returns-in-Some-clause-refused
returns-in-Some-clause-refused g c =
    let made : HasMadeReady g.T.Opened.opening c.args.self.now.state.heap.log (length c.args.self.now.state.ready) =
    subst (λ (l : LockedValue). HasMadeReady g.T.Opened.opening l.state.heap.log (length l.state.ready)) c.self.view_is c.self.invariant.2 in
    let all = c.ready.ensures.ready ∙ ap (λ (l : LockedValue). l.state.ready) c.self.view_is in
    let within : c.args.number < length c.args.self.now.state.ready = subst (λ l. c.args.number < length l) all (below _ c.args.number _ c.in-Some.ensures) in
    lacks_memory _ _ _ _ made c.copied_index.result within c.copied_index.ensures.memory

pub returns-in-None-clause-refused : goal.returns-in-None-clause-refused
returns-in-None-clause-refused g c =
    let made : HasMadeReady g.T.Opened.opening c.args.self.now.state.heap.log (length c.args.self.now.state.ready) =
    subst (λ (l : LockedValue). HasMadeReady g.T.Opened.opening l.state.heap.log (length l.state.ready)) c.self.view_is c.self.invariant.2 in
    let all = c.ready.ensures.ready ∙ ap (λ (l : LockedValue). l.state.ready) c.self.view_is in
    let past : length c.args.self.now.state.ready ≤ c.args.number = subst (λ l. length l ≤ c.args.number) all (past_end _ c.args.number c.in-None.ensures) in
    lacks_index _ _ _ _ made past
