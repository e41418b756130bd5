use Rattle.std.proofs.Common.{◌≡◌, ◌<◌, length, ap, subst, arith}
use Rattle.tree_nodes.specs.Heads.{AreHeads}
use Rattle.tree_nodes.proofs.Headed.{headed_end}
use Rattle.tree_nodes.proofs.Heads.{all_behind}
use Rattle.tree_nodes.proofs.separators.Separators.count_to_greater.Goals as goal

pub returns-then-next-lt-NOTHING-clause-behind : goal.returns-then-next-lt-NOTHING-clause-behind
returns-then-next-lt-NOTHING-clause-behind c =
    let heads : AreHeads c.self.inside.heads.items c.args.self.now = subst (AreHeads c.self.inside.heads.items) c.self.view_is c.self.invariant.heads in
    let long : length c.self.inside.pairs.items ≡ length c.args.self.now = ap length c.self.view_is in
    let within : c.loop-place.place < length c.args.self.now = omega arith in
    headed_end _ _ _ _ _ _ heads within c.index-next.ensures c.head-number.ensures (omega arith) (omega arith)

pub returns-else-number-next-clause-behind : goal.returns-else-number-next-clause-behind
returns-else-number-next-clause-behind c =
    let long : length c.self.inside.pairs.items ≡ length c.args.self.now = ap length c.self.view_is in
    all_behind _ _ c.len-len.result (omega arith)

pub returns-else-place-len-clause-behind : goal.returns-else-place-len-clause-behind
returns-else-place-len-clause-behind c =
    let long : length c.self.inside.pairs.items ≡ length c.args.self.now = ap length c.self.view_is in
    all_behind _ _ c.len-len.result (omega arith)

pub returns-then-self-clause-behind : goal.returns-then-self-clause-behind
returns-then-self-clause-behind c =
    let long : length c.self.inside.pairs.items ≡ length c.args.self.now = ap length c.self.view_is in
    all_behind _ _ c.len-len.result (omega arith)
