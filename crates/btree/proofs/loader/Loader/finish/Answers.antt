use Rattle.std.proofs.Common.{length, ap, sym, ◌∙◌}
use Rattle.btree.specs.Loading.{marks_behind}
use Rattle.btree.specs.Marks.{pairs_in}
use Rattle.btree.proofs.LeavesIn.{filled_after, above_leaves}
use Rattle.btree.proofs.Loads.{pairs_to}
use Rattle.btree.proofs.loader.Loader.finish.Goals as goal

pub of-requires-clause-count : goal.of-requires-clause-count
of-requires-clause-count c = c.self.invariant.count_is ∙ sym (ap length
    (ap pairs_in c.append_under-root.ensures.marks ∙ pairs_to (marks_behind c.self.inside.full) c.self.inside.leaf))

pub returns-clause-pairs : goal.returns-clause-pairs
returns-clause-pairs c =
    c.of.ensures.pairs ∙ ap pairs_in c.append_under-root.ensures.marks ∙ pairs_to (marks_behind c.self.inside.full) c.self.inside.leaf ∙ c.self.view_is

pub returns-clause-filled : goal.returns-clause-filled
returns-clause-filled c =
    filled_after c.self.inside.full c.self.inside.leaf _ _ c.self.invariant.full c.pairs-few.ensures.few c.self.invariant.begun c.append_under-root.ensures.marks c.of.ensures.leaves

pub returns-clause-levels : goal.returns-clause-levels
returns-clause-levels c =
    let under = c.append_under-root.ensures in
    rw (c.of.ensures.leaves, c.of.ensures.levels)
    (above_leaves c.self.inside.full c.self.inside.leaf _ _ under.marks (under.levels c.self.invariant.levels))
