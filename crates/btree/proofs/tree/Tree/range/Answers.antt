use Rattle.std.proofs.Common.{ℕ, List, ap, ◌∙◌}
use Rattle.std.specs.List.{take_while}
use Rattle.keybytes.specs.declared.pair.Pair.{Pair}
use Rattle.btree.specs.Left.{pairs_left}
use Rattle.btree.specs.TreeValue.{is_less}
use Rattle.btree.proofs.Keys.{between_is}
use Rattle.btree.proofs.tree.Tree.range.Goals as goal

pub returns-clause-pairs : goal.returns-clause-pairs
returns-clause-pairs c =
    ap (λ (hi : List ℕ). take_while (λ pair. is_less pair.key hi) (pairs_left c.from.result)) c.in_ok-end.ensures.same
    ∙ ap (λ (ps : List Pair). take_while (λ pair. is_less pair.key c.args.hi.now) ps) c.from.ensures.pairs
    ∙ between_is c.args.lo.now c.args.hi.now c.args.self.now.pairs c.from.ensures.rise.rising
