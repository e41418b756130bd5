use Rattle.std.proofs.Common.{◌≡◌, ◌+◌, ◌++◌, ◌∷◌, [], List, take, ap, sym, subst, ◌∙◌, arith}
use Rattle.run_spool.specs.Spools.{IsFullIntact}
use Rattle.std.proofs.lemmas.List.{take_all, take_more}
use Rattle.build_events.specs.declared.event.Event.{Event}
use Rattle.build_events.specs.CoreState.{CoreState, opening}
use Rattle.building.specs.Holding.{spools_in}
use Rattle.build_events.specs.Steps.{Run}
use Rattle.build_events.proofs.Runs.{run_more}
use Rattle.build_events.proofs.Switching.{each_switch, run_stakes}
use Rattle.live_lemmas.specs.FullSpools.{WantedPage}
use Rattle.builder_core.proofs.run.run_events.Goals as goal

pub loop-event-preserved : goal.loop-event-preserved
loop-event-preserved g c =
    let events : List Event = c.args.events.now in
    let i = c.loop-event.event-index in
    let more : take (i + 1) events ≡ take i events ++ c.event-item.result ∷ [] =
    take_more events i c.event-item.result c.loop-event-test.true ∙ ap (λ x. take i events ++ x ∷ []) (sym c.event-item.is) in
    record {
      run = rw (more, c.push_reserved.ensures.items)
          (run_more (WantedPage (IsFullIntact g.S.Spool.is_full g.S.Spool.is_intact g.S.Spool.runs) g.S.Spool.runs g.S.Spool.open_run g.S.Spool.stake) (opening c.args.live.state (spools_in g.S.Spool.runs g.S.Spool.open_run g.S.Spool.stake c.args.spools.items)) c.loop-event.core c.answer.new.self (take i events) c.event-item.result c.loop-event.replies.items c.answer.result c.loop-event.invariant.run c.answer.ensures.step c.answer.ensures.full);
      room = omega (arith, c.loop-event.invariant.room, c.push_reserved.ensures.capacity);
      count = omega (arith, c.push_reserved.ensures.len, c.push_reserved.new.self.ok, c.loop-event.replies.ok, c.loop-event.invariant.count);
    }

pub returns-clause-headline : goal.returns-clause-headline
returns-clause-headline g c =
    let events : List Event = c.args.events.now in
    let start = opening c.args.live.state (spools_in g.S.Spool.runs g.S.Spool.open_run g.S.Spool.stake c.args.spools.items) in
    let all : take c.loop-event.event-index events ≡ events = take_all c.loop-event.event-index events c.loop-event-test.false in
    let missed : CoreState → Event → Type 0 = WantedPage (IsFullIntact g.S.Spool.is_full g.S.Spool.is_intact g.S.Spool.runs) g.S.Spool.runs g.S.Spool.open_run g.S.Spool.stake in
    let run : Run missed start events c.loop-event.replies.items c.loop-event.core =
    subst (λ (es : List Event). Run missed start es c.loop-event.replies.items c.loop-event.core) all c.loop-event.invariant.run in
    record {
      end = c.loop-event.core;
      run = run;
      left_is = c.into_live-live.ensures.live;
      switches = each_switch missed start c.loop-event.core events c.loop-event.replies.items run;
    }

pub returns-clause-stakes : goal.returns-clause-stakes
returns-clause-stakes g c =
    let start = opening c.args.live.state (spools_in g.S.Spool.runs g.S.Spool.open_run g.S.Spool.stake c.args.spools.items) in
    c.into_live-live.ensures.stakes
    ∙ run_stakes (WantedPage (IsFullIntact g.S.Spool.is_full g.S.Spool.is_intact g.S.Spool.runs) g.S.Spool.runs g.S.Spool.open_run g.S.Spool.stake) start (take c.loop-event.event-index c.args.events.now) c.loop-event.replies.items c.loop-event.core c.loop-event.invariant.run
