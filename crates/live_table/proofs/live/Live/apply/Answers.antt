use Rattle.live_lemmas.specs.Builds.{core_state}
use Rattle.live_lemmas.proofs.ApplyCauses.{applies_next, can_apply_next, applies_all, applies_some, works_after_apply}
use Rattle.live_lemmas.proofs.Feeding.{state_side_looked}
use Rattle.live_lemmas.proofs.IndexApplied.{AppliesNext}
use Rattle.live_lemmas.proofs.SentNext.{looked_on_side}
use Rattle.live_table.proofs.live.Live.apply.Given as given
use Rattle.live_table.proofs.live.Live.apply.Goals as goal
use Rattle.live_table.proofs.live.Live.apply.Goals.{After-min}

-- what the look leaves to apply
next :
    (g : given.Over) (c : After-min g)
    → AppliesNext c.args.index c.look_at_side-waiting.result c.look_at_side-waiting.new.self c.look_at_side-waiting.new.building
next g c =
    let looked = c.look_at_side-waiting in
    applies_next c.args.index c.args.self.now looked.new.self c.args.building.now looked.new.building looked.result c.args.most looked.ensures.follows
    c.requires.works c.requires.runs looked.ensures.looked looked.ensures.sees looked.ensures.fed

pub apply-requires : goal.apply-requires
apply-requires g c =
    can_apply_next _ _ _ _ c.args.most c.min.result (next g (goal.at.apply-requires g c).After-min) c.min.ensures

pub returns-clause-applied : goal.returns-clause-applied
returns-clause-applied g c =
    let looked = c.look_at_side-waiting in
    let same = state_side_looked c.args.index c.args.self.now looked.new.self c.args.building.now looked.new.building looked.ensures.looked in
    applies_all _ _ _ _ c.args.most c.min.result (next g (goal.at.returns-clause-applied g c).After-min) c.min.ensures
    (core_state c.args.self.now c.args.building.now) same c.apply.new.self c.apply.result c.apply.ensures.applied

pub returns-clause-some : goal.returns-clause-some
returns-clause-some g c =
    let looked = c.look_at_side-waiting in
    let same = state_side_looked c.args.index c.args.self.now looked.new.self c.args.building.now looked.new.building looked.ensures.looked in
    applies_some _ _ _ _ c.args.most c.min.result (next g (goal.at.returns-clause-some g c).After-min) c.min.ensures
    (core_state c.args.self.now c.args.building.now) same c.apply.new.self c.apply.result c.apply.ensures.some

pub returns-clause-works : goal.returns-clause-works
returns-clause-works g c =
    works_after_apply _ _ _ _ c.args.most c.min.result (next g (goal.at.returns-clause-works g c).After-min) c.min.ensures
    c.apply.new.self c.apply.result c.apply.ensures.applied c.apply.ensures.some

pub returns-clause-sends : goal.returns-clause-sends
returns-clause-sends g c =
    let looked = c.look_at_side-waiting in
    let it = next g (goal.at.returns-clause-sends g c).After-min in
    looked_on_side c.args.index c.args.self.now looked.new.self c.args.building.now looked.new.building it.build looked.ensures.looked it.run.build_is
