use Rattle.std.proofs.Common.{◌≡◌, ◌<◌, ◌∙◌, length, Option, ap, subst, sym, arith}
use Rattle.std.proofs.lemmas.List.Elements.{All-pop}
use Rattle.std.proofs.lemmas.Option.{same_Some}
use Rattle.build_events.specs.BuildSteps.{OnBuild}
use Rattle.build_events.specs.CoreState.{BuildState}
use Rattle.live_lemmas.specs.Builds.{core_state}
use Rattle.live_lemmas.specs.Settling.{HasRoomForBatch}
use Rattle.table_scan.specs.TableBuilds.{BuildFollows}
use Rattle.live_lemmas.proofs.Settling.{fed_one_more, not_fed_yet}
use Rattle.live_table.proofs.live.Live.feed_all.Goals as goal

pub loop-index-init : goal.loop-index-init
loop-index-init g c =
    let follows = subst (BuildFollows c.args.self.now.state.heap.schema c.args.self.now.state.heap.log) c.in-Some.ensures.build c.in-Some.ensures.follows in
    let many = subst (λ (o : Option BuildState). OnBuild o (λ b. length c.args.batches.items ≡ length b.specs)) c.in-Some.ensures.build c.requires.batches in
    record {
      being = not_fed_yet c.args.most (core_state c.args.self.now c.args.building.now) c.in-Some.build.now c.in-Some.ensures.build follows.fed_many;
      works = c.requires.works;
      many = omega (arith, many, c.indexes-indexes.ensures);
      room = c.requires.room;
    }

pub loop-index-preserved : goal.loop-index-preserved
loop-index-preserved g c =
    let start = core_state c.args.self.now c.args.building.now in
    let being = c.loop-index.invariant.being in
    let same : being.build ≡ c.in-Some.build.now = same_Some being.build c.in-Some.build.now (sym being.runs ∙ c.in-Some.ensures.build) in
    let specs = ap (λ (b : BuildState). length b.specs) same in
    let less : c.loop-index.index < length being.build.specs = omega (arith, c.loop-index-test.true, c.indexes-indexes.ensures, specs) in
    let fewer = c.in-Some-pop.ensures.cases in
    record {
      being = fed_one_more c.args.most c.loop-index.index start (core_state c.loop-index.self c.loop-index.building) being less c.feed_one.result
          (core_state c.feed_one.new.self c.feed_one.new.building) c.feed_one.ensures.fed;
      works = c.feed_one.ensures.works;
      many = omega (arith, fewer, c.loop-index.invariant.many);
      room = (All-pop (HasRoomForBatch c.args.most) c.loop-index.batches.items c.pop.new.self.items c.pop.result c.pop.ensures.items c.loop-index.invariant.room).0;
    }
