use Rattle.std.proofs.Common.{◌<◌, Option, sym, subst, Bor}
use Rattle.keybytes.specs.declared.pair.Pair.{Pair}
use Rattle.btree.specs.From.{above_next}
use Rattle.btree.specs.Left.{marks_of}
use Rattle.btree.specs.Seen.{Seen}
use Rattle.btree.proofs.Leaving.{above_next-lt}
use Rattle.btree.proofs.pairs.PairsIterator.next.Goals as goal

pub loop-first-smaller : goal.loop-first-smaller
loop-first-smaller c =
    let next = c.pairs_from.result.1 in
    let root = c.in-Some-root.root.now in
    let R : Option (Bor Seen) → Type 0 = λ r. above_next next (marks_of r) < above_next c.loop-first.self.next (marks_of r) in
    let N : Option (Bor Pair) → Type 0 = λ o. above_next next root.marks < above_next o root.marks in
    subst R (sym c.in-Some-root.is) (subst N (sym c.in-Some-next.is) (above_next-lt _ next _ c.pairs_from.ensures.behind))
