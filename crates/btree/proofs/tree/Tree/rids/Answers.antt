use Rattle.std.proofs.Common.{◌≡◌, ◌++◌, List, ap, ◌∙◌}
use Rattle.keybytes.specs.declared.rid.Rid.{Rid}
use Rattle.btree.specs.Left.{pairs_left}
use Rattle.btree.proofs.Keys.{leading, leading_is}
use Rattle.btree.proofs.tree.Tree.rids.Goals as goal

pub loop-pair-init : goal.loop-pair-init
loop-pair-init c =
    let left : leading c.args.key.now (pairs_left c.from-pairs.result) ≡ _ =
    ap (leading c.args.key.now) c.from-pairs.ensures.pairs ∙ leading_is c.args.key.now c.args.self.now.pairs c.from-pairs.ensures.rise.rising in
    ap (λ (rids : List Rid). rids ++ leading c.args.key.now (pairs_left c.from-pairs.result)) c.new-rids.ensures.items ∙ left
