use Rattle.std.proofs.Common.{◌∙◌, ap}
use Rattle.std.specs.Prelude.{min}
use Rattle.live_lemmas.proofs.FedBeside.{fed_refused, fed_accepted, fed_unchanged, feeds_beside}
use Rattle.live_lemmas.proofs.Feeding.{works_side_looked}
use Rattle.live_lemmas.proofs.SentNext.{sent_beside}
use Rattle.live_table.proofs.live.Live.feed_beside.Goals as goal

pub returns-clause-fed : goal.returns-clause-fed
returns-clause-fed g c =
    let looked = c.look_at_side-waiting in
    feeds_beside c.args.index c.args.self.now looked.new.self c.args.building.now looked.new.building looked.ensures.looked c.requires looked.ensures.follows looked.result
    looked.ensures.sees c.args.most c.min.result c.feed.new.self c.feed.result (c.min.ensures ∙ ap (min c.args.most) c.saturating_sub.ensures)
    c.feed.ensures.accepted c.feed.ensures.fed

pub returns-clause-unchanged : goal.returns-clause-unchanged
returns-clause-unchanged g c =
    let looked = c.look_at_side-waiting in
    fed_unchanged c.args.index c.args.self.now looked.new.self c.args.building.now looked.new.building looked.ensures.looked c.feed.new.self looked.new.building c.feed.result
    c.in_ok-_build.ensures.accepted c.feed.ensures.refused

pub returns-clause-refused : goal.returns-clause-refused
returns-clause-refused g c =
    let looked = c.look_at_side-waiting in
    fed_refused c.args.index c.args.self.now looked.new.self c.args.building.now looked.new.building looked.ensures.looked c.feed.result c.feed.ensures.refused

pub returns-clause-accepted : goal.returns-clause-accepted
returns-clause-accepted g c =
    let looked = c.look_at_side-waiting in
    fed_accepted c.args.index c.args.self.now looked.new.self c.args.building.now looked.new.building looked.ensures.looked c.feed.result c.feed.ensures.accepted

pub returns-clause-works : goal.returns-clause-works
returns-clause-works g c =
    let looked = c.look_at_side-waiting in
    c.feed.ensures.works looked.new.building
    (works_side_looked c.args.index c.args.self.now looked.new.self c.args.building.now looked.new.building looked.ensures.looked c.requires)

pub returns-clause-sends : goal.returns-clause-sends
returns-clause-sends g c =
    let looked = c.look_at_side-waiting in
    sent_beside c.args.index c.min.result c.args.self.now looked.new.self c.args.building.now looked.new.building looked.ensures.looked looked.ensures.follows
    c.feed.new.self c.feed.result c.feed.ensures.accepted c.feed.ensures.fed
