use Rattle.live_lemmas.proofs.ApplyCauses.{not_loaded, applicable}
use Rattle.live_lemmas.proofs.Refusals.{running}
use Rattle.live_table.proofs.live.Live.check_apply.Goals as goal

pub returns-then-not-is_loaded-clause-refused : goal.returns-then-not-is_loaded-clause-refused
returns-then-not-is_loaded-clause-refused g c =
    let built = c.in_ok-build_with in
    let run = running c.args.self.now c.args.building.now built.field-0.now c.in-Some.work.now built.ensures.ok c.in-Some.ensures built.ensures.follows c.requires in
    not_loaded c.args.self.now c.args.building.now built.field-0.now c.in-Some.work.now run c.in_ok-check.ensures c.args.index built.ensures.there c.if-not-is_loaded.ensures

pub returns-clause-accepted : goal.returns-clause-accepted
returns-clause-accepted g c =
    let built = c.in_ok-build_with in
    let run = running c.args.self.now c.args.building.now built.field-0.now c.in-Some.work.now built.ensures.ok c.in-Some.ensures built.ensures.follows c.requires in
    applicable c.args.self.now c.args.building.now built.field-0.now c.in-Some.work.now run c.in_ok-check.ensures c.args.index built.ensures.there c.if-not-is_loaded.ensures
