use Rattle.std.proofs.Common.{◌≡◌, ◌∙◌, length, ap, sym, subst, inl}
use Rattle.std.proofs.lemmas.Result.{err_from_is_err_and, on_ok_weaker}
use Rattle.table_scan.specs.TableBuilds.{BuildFollows}
use Rattle.live_lemmas.specs.Builds.{LiveValue}
use Rattle.live_lemmas.proofs.OwnSwitch.{own_refused, refused_after}
use Rattle.live_lemmas.proofs.SentAll.{all_after_look}
use Rattle.live_lemmas.proofs.SentNext.{looked_next, next_after_look}
use Rattle.live_table.proofs.live.Live.switch_in.Goals as goal

pub returns-in_err-take_in-clause-refused : goal.returns-in_err-take_in-clause-refused
returns-in_err-take_in-clause-refused g c =
    let told = err_from_is_err_and c.from_residual.result c.from_residual.ensures.1 in
    rw (told.1, told.2) (inl (record { cause = c.in_err-take_in.ensures.out; looked = c.take_in.ensures.looked }))

pub returns-in_err-take_in-clause-own : goal.returns-in_err-take_in-clause-own
returns-in_err-take_in-clause-own g c = λ works.
    let follows = subst (λ (l : LiveValue). BuildFollows l.state.heap.schema l.state.heap.log l.state.build) c.self.view_is c.self.invariant.1 in
    let rings : length c.args.self.now.pages ≡ 16 = sym (ap (λ (l : LiveValue). length l.pages) c.self.view_is) ∙ c.self.invariant.5.sixteen in
    let told = err_from_is_err_and c.from_residual.result c.from_residual.ensures.1 in
    let it = own_refused c.args.self.now c.args.building.now follows works rings c.laws.ensures.kept _ c.take_in.new.self c.take_in.new.building c.take_in.ensures.state c.in_err-take_in.ensures.out in
    rw (told.1, told.2) it

pub returns-in_err-take_in-clause-sides : goal.returns-in_err-take_in-clause-sides
returns-in_err-take_in-clause-sides g c = looked_next c.args.self.now c.take_in.new.self.sides c.take_in.ensures.looked.puts

pub returns-clause-refused : goal.returns-clause-refused
returns-clause-refused g c =
    refused_after c.args.self.now c.take_in.new.self c.switch_own.new.self c.args.building.now c.take_in.new.building c.switch_own.new.building c.switch_own.result
    c.take_in.ensures.state c.in_ok-take_in.ensures.all c.in_ok-take_in.ensures.first c.switch_own.ensures.refused c.switch_own.ensures.works

pub returns-clause-sides : goal.returns-clause-sides
returns-clause-sides g c =
    next_after_look c.args.self.now c.take_in.new.self c.switch_own.new.self.sides c.take_in.ensures.looked.state c.take_in.ensures.looked.puts c.switch_own.ensures.sides

pub returns-clause-fed : goal.returns-clause-fed
returns-clause-fed g c =
    on_ok_weaker c.switch_own.result
    (all_after_look c.args.self.now c.take_in.new.self c.switch_own.new.self.sides c.take_in.ensures.looked.state c.take_in.ensures.looked.puts)
    c.switch_own.ensures.fed
