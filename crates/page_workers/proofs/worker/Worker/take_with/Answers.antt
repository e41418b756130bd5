use Rattle.std.proofs.Common.{◌≡◌, ◌∙◌, ◌++◌, List, All, drop, length, map, take, Some, refl, subst, sym, ap}
use Rattle.std.proofs.lemmas.Bool.{false≢true}
use Rattle.run_spool.specs.Spools.{AreSorted, IsFullIntact, NoneFreed}
use Rattle.run_maker.specs.Making.{AreReady}
use Rattle.run_maker.proofs.FullSpools.{full_intact}
use Rattle.page_workers.specs.Turns.{HasDone, IsStopped, TurnHolds, least_pairs, turn_images}
use Rattle.page_workers.specs.WorkerValue.{WorkerValue}
use Rattle.page_workers.proofs.SpoolViews.{lent_back, part_held, received_full, same_after, spools_ready, spools_sorted, turn_held, turn_seen, values_ready, worker_with}
use Rattle.page_workers.proofs.Turns.{turn_counts}
use Rattle.page_workers.proofs.worker.Worker.take_with.Goals as goal

pub take-requires-clause-ready : goal.take-requires-clause-ready
take-requires-clause-ready g c =
    let holds = c.self.invariant.2 c.in_default.is c.if-self.false in
    subst (λ (spools : List _). AreReady (map g.S.Spool.runs spools) (map g.S.Spool.open_run spools)) (sym c.deref_mut.ensures.value)
    (spools_ready g.S.Spool.runs g.S.Spool.open_run g.S.Spool.stake c.self.inside.spools.items holds.ready)

pub invariant_of-self-in-Ok : goal.invariant_of-self-in-Ok
invariant_of-self-in-Ok g c =
    let at = c.self.inside in
    let it = c.in-Ok.ensures in
    let after = c.take.new.self in
    let maker = c.take.new.maker in
    let spools = c.take.new.spools in
    let lent = c.deref_mut.ensures.value in
    let long : length spools ≡ at.spools.len = c.take.auto.spools ∙ c.deref_mut.ensures.len in
    let back = lent_back at.spools.len at.spools.items spools long in
    let many : length spools ≡ length at.spools.items = c.take.auto.spools ∙ ap length lent in
    let sorted : All AreSorted (map g.S.Spool.runs at.spools.items) → All AreSorted (map g.S.Spool.runs spools) = λ all.
    c.take.ensures.sorted (subst (λ (old : List _). All AreSorted (map g.S.Spool.runs old)) (sym lent) all) in
    let holds : TurnHolds c.args.turn at.maker.specs (turn_images c.args.turn at.maker.schema at.intake) (record { runs = map g.S.Spool.runs at.spools.items; begun = at.maker.begun })
    (record { runs = map g.S.Spool.runs spools; begun = maker.begun }) =
    subst (λ (old : List _). TurnHolds c.args.turn at.maker.specs (turn_images c.args.turn at.maker.schema at.intake) (record { runs = map g.S.Spool.runs old; begun = at.maker.begun })
    (record { runs = map g.S.Spool.runs spools; begun = maker.begun })) lent it.holds in
    let intact = c.take.ensures.intact (subst (All (NoneFreed g.S.Spool.is_intact g.S.Spool.runs)) (sym lent) c.self.invariant.4) in
    rw back (
      c.self.invariant.0,
      (λ sound. turn_counts c.args.turn at.maker maker at.intake after c.take.ensures.schema it.taken (c.self.invariant.1 sound)),
      (λ sound kept.
          turn_held g.S.Spool.runs g.S.Spool.open_run g.S.Spool.stake c.args.turn at.intake after at.maker maker at.spools.items spools (c.self.invariant.1 sound)
          (c.self.invariant.2 sound kept) it.readable c.take.ensures.specs c.take.ensures.schema c.laws.ensures.specs many it.ready sorted it.taken holds
          c.laws.ensures.short it.closed),
      (λ handed. absurd (false≢true (sym c.if-self.false ∙ handed))),
      intact,
    )

pub returns-in-Ok-clause-done : goal.returns-in-Ok-clause-done
returns-in-Ok-clause-done g c =
    let spool = g.S.Spool in
    let at = c.self.inside in
    let spools = c.take.new.spools in
    let long : length spools ≡ at.spools.len = c.take.auto.spools ∙ c.deref_mut.ensures.len in
    let stakes : map spool.stake spools ≡ map spool.stake at.spools.items = c.take.ensures.stakes ∙ ap (map spool.stake) c.deref_mut.ensures.value in
    let new = worker_with spool.runs spool.open_run spool.stake at.number c.take.new.self c.take.new.maker
    (take at.spools.len (spools ++ drop (length spools) at.spools.items)) at.handed at.fault in
    subst (λ (w : WorkerValue). HasDone c.args.turn w c.in-Ok.images new) c.self.view_is (record {
      same = same_after spool.runs spool.open_run spool.stake at.number at.spools.len at.intake c.take.new.self at.maker c.take.new.maker at.spools.items spools
          at.handed at.fault at.fault c.take.ensures.build c.take.ensures.ring c.take.ensures.schema c.take.ensures.specs long stakes;
      sound = (c.in_default.is, c.in_default.is);
      took = λ kept. record {
        counted = c.in-Ok.ensures.count;
        intake = c.in-Ok.ensures.taken;
        holds = rw (lent_back at.spools.len at.spools.items spools long)
            (turn_seen spool.runs spool.open_run spool.stake c.args.turn at.intake at.maker c.take.new.maker at.spools.items c.deref_mut.result.now spools
            c.deref_mut.ensures.value c.in-Ok.ensures.holds);
        closed = c.in-Ok.ensures.closed;
      };
      nothing = λ handed. absurd (false≢true (sym c.if-self.false ∙ handed));
    })

pub returns-in-Err-clause-stopped : goal.returns-in-Err-clause-stopped
returns-in-Err-clause-stopped g c =
    let spool = g.S.Spool in
    let at = c.self.inside in
    let spools = c.take.new.spools in
    let after = c.take.new.self in
    let maker = c.take.new.maker in
    let it = c.in-Err.ensures in
    let long : length spools ≡ at.spools.len = c.take.auto.spools ∙ c.deref_mut.ensures.len in
    let back = lent_back at.spools.len at.spools.items spools long in
    let stakes : map spool.stake spools ≡ map spool.stake at.spools.items = c.take.ensures.stakes ∙ ap (map spool.stake) c.deref_mut.ensures.value in
    let holds = c.self.invariant.2 c.in_default.is c.if-self.false in
    let many : length spools ≡ length at.spools.items = c.take.auto.spools ∙ ap length c.deref_mut.ensures.value in
    let is_full = IsFullIntact spool.is_full spool.is_intact spool.runs in
    let intact = c.take.ensures.intact (subst (All (NoneFreed spool.is_intact spool.runs)) (sym c.deref_mut.ensures.value) c.self.invariant.4) in
    let new = worker_with spool.runs spool.open_run spool.stake at.number after maker (take at.spools.len (spools ++ drop (length spools) at.spools.items)) at.handed
    (Some c.in-Err.fault) in
    subst (λ (w : WorkerValue). IsStopped is_full spool.runs spool.open_run spool.stake c.args.turn w c.in-Err.fault new) c.self.view_is (record {
      same = same_after spool.runs spool.open_run spool.stake at.number at.spools.len at.intake after at.maker maker at.spools.items spools at.handed at.fault
          (Some c.in-Err.fault) c.take.ensures.build c.take.ensures.ring c.take.ensures.schema c.take.ensures.specs long stakes;
      stopped = refl;
      short = it.fault;
      again = λ first was. absurd (let none = c.in_default.is in cc);
      has_spools = λ sound. c.if-self.false;
      took = λ sound. it.took;
      full = λ sound no_page.
          rw back (received_full spool.runs spool.open_run spool.stake is_full (least_pairs c.args.turn) at.intake after at.maker maker at.spools.items c.deref_mut.result.now spools holds
          c.deref_mut.ensures.value c.take.ensures.specs c.take.ensures.schema c.take.ensures.build many
          (full_intact spool.is_full spool.runs spool.open_run spool.is_intact (least_pairs c.args.turn) _ _ spools intact
          (c.take.ensures.sorted (subst (λ (old : List _). All AreSorted (map spool.runs old)) (sym c.deref_mut.ensures.value)
          (spools_sorted spool.runs spool.open_run spool.stake at.spools.items holds.sorted))) (it.full no_page)));
      want = λ sound memory. rw back (values_ready spool.runs spool.open_run spool.stake spools (it.want memory));
      part = λ sound memory. rw back
          (part_held spool.runs spool.open_run spool.stake at.intake after at.maker maker at.spools.items c.deref_mut.result.now spools c.deref_mut.ensures.value
          (it.part memory));
    })
