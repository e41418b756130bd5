use Rattle.std.proofs.Common.{◌≡◌, ◌<◌, length, ap, subst, arith}
use Rattle.tree_nodes.specs.Heads.{AreHeads}
use Rattle.tree_nodes.proofs.Headed.{headed_more}
use Rattle.tree_nodes.proofs.separators.Separators.count_lesser.Goals as goal
use Rattle.tree_nodes.proofs.separators.Separators.count_lesser.Goals.{then-index-number-2, else-index-number-2}

pub loop-place-preserved : goal.loop-place-preserved
loop-place-preserved c = elim c.if-index-number-2.branch [
  | then-index-number-2 w ↦
      let heads : AreHeads c.self.inside.heads.items c.args.self.now = subst (AreHeads c.self.inside.heads.items) c.self.view_is c.self.invariant.heads in
      let long : length c.self.inside.pairs.items ≡ length c.args.self.now = ap length c.self.view_is in
      let within : c.loop-place.place < length c.args.self.now = omega arith in
      rw w.count-is (record {
        within = omega arith;
        before = headed_more _ _ _ _ _ _ c.requires heads within c.index-in-loop-place.ensures c.head-number.ensures (omega arith) (omega arith);
      })
  | else-index-number-2 w ↦ rw w.count-is c.loop-place.invariant
]

pub returns-then-index-number-clause-before : goal.returns-then-index-number-clause-before
returns-then-index-number-clause-before c =
    let heads : AreHeads c.self.inside.heads.items c.args.self.now = subst (AreHeads c.self.inside.heads.items) c.self.view_is c.self.invariant.heads in
    let long : length c.self.inside.pairs.items ≡ length c.args.self.now = ap length c.self.view_is in
    let within : c.in-Some.last < length c.args.self.now = omega arith in
    headed_more _ _ _ _ _ _ c.requires heads within c.index.ensures c.head-number.ensures (omega arith) (omega arith)
