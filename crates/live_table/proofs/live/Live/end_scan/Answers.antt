use Rattle.std.proofs.Common.{subst}
use Rattle.table_scan.specs.TableBuilds.{BuildFollows}
use Rattle.live_lemmas.specs.Builds.{LiveValue}
use Rattle.live_lemmas.proofs.TakenIn.{hands_over, looks_again, may_hand_over}
use Rattle.live_table.proofs.live.Live.end_scan.Goals as goal

pub hand_over-requires : goal.hand_over-requires
hand_over-requires g c =
    let follows = subst (λ (l : LiveValue). BuildFollows l.state.heap.schema l.state.heap.log l.state.build) c.self.view_is c.self.invariant.1 in
    may_hand_over c.take_in.new.self c.take_in.new.building c.in_ok-take_in.ensures.taken follows c.in_ok-take_in.ensures.works g.T.TableRings.pages
    c.laws.ensures.each c.laws.ensures.kept

pub returns-clause-hands_over : goal.returns-clause-hands_over
returns-clause-hands_over g c = hands_over _ _ _ _ _ c.take_in.ensures.looked c.hand_over.ensures.first

pub returns-clause-again : goal.returns-clause-again
returns-clause-again g c = looks_again _ _ _ _ _ c.take_in.ensures.looked c.hand_over.ensures.again
