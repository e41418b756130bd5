use Rattle.std.proofs.Common.{◌∙◌, sym, ap}
use Rattle.live_lemmas.specs.Builds.{core_state}
use Rattle.live_lemmas.specs.Settling.{ring_at, ring_of}
use Rattle.live_lemmas.proofs.ApplyCauses.{applies_next}
use Rattle.live_lemmas.proofs.Feeding.{state_side_looked, works_side_looked}
use Rattle.live_lemmas.proofs.IndexApplied.{ring_is}
use Rattle.live_table.proofs.live.Live.waiting_at.Goals as goal

pub returns-clause-works : goal.returns-clause-works
returns-clause-works g c =
    let looked = c.look_at_side in
    works_side_looked c.args.index c.args.self.now looked.new.self c.args.building.now looked.new.building looked.ensures.looked c.requires.works

pub returns-clause-same : goal.returns-clause-same
returns-clause-same g c =
    let looked = c.look_at_side in
    state_side_looked c.args.index c.args.self.now looked.new.self c.args.building.now looked.new.building looked.ensures.looked

pub returns-clause-waiting : goal.returns-clause-waiting
returns-clause-waiting g c =
    let looked = c.look_at_side in
    let mid = core_state looked.new.self looked.new.building in
    let it = applies_next c.args.index c.args.self.now looked.new.self c.args.building.now looked.new.building looked.result 256 looked.ensures.follows c.requires.works
    c.requires.runs looked.ensures.looked looked.ensures.sees looked.ensures.fed in
    ring_is c.args.index looked.result looked.new.self looked.new.building it ∙ sym (ap (λ o. ring_of o mid c.args.index) it.run.build_is)
    ∙ ap (ring_at c.args.index) (state_side_looked c.args.index c.args.self.now looked.new.self c.args.building.now looked.new.building looked.ensures.looked)
