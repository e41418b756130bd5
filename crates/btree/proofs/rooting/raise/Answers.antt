use Rattle.std.proofs.Common.{List, sym, ap, ◌∙◌, arith}
use Rattle.std.specs.List.{insert}
use Rattle.btree.specs.Growing.{levels_raised}
use Rattle.btree.specs.Levels.{levels_over}
use Rattle.btree.specs.Seen.{Seen}
use Rattle.btree.proofs.FanGrown.{blank_last}
use Rattle.btree.proofs.rooting.raise.Goals as goal

pub start-requires : goal.start-requires
start-requires c = (blank_last _ _ _ c.requires.blank c.in-Some-pop.ensures.items).0

pub returns-clause-used : goal.returns-clause-used
returns-clause-used c = record {
  leaf = c.requires.leaf;
  blank = (blank_last _ _ _ c.requires.blank c.in-Some-pop.ensures.items).1;
  used = omega (arith, c.in-Some-pop.ensures.len);
}

pub returns-clause-levels : goal.returns-clause-levels
returns-clause-levels c =
    c.fan.ensures.levels
    ∙ ap levels_over (c.insert.ensures.children ∙ ap (λ (cs : List Seen). insert cs 1 c.in-Some.field-0.node) c.start.ensures.children)
    ∙ ap (levels_raised c.args.root) (sym c.in-Some.is)
