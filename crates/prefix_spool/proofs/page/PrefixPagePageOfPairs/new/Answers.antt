use Rattle.std.proofs.Common.{◌∷◌, [], ◌-◌, ℕ, List, sym, subst, ap, ◌∙◌}
use Rattle.keybytes.specs.declared.pair.Pair.{Pair}
use Rattle.keybytes.specs.Writes.{overwritten}
use Rattle.run_spool.specs.Pages.{PageValue}
use Rattle.prefix_spool.specs.PrefixBytes.{bytes_sharing}
use Rattle.prefix_spool.specs.PrefixPages.{IsPage}
use Rattle.prefix_spool.proofs.Marked.{Made, made, first_marks}
use Rattle.prefix_spool.proofs.page.PrefixPagePageOfPairs.new.Goals as goal
use Rattle.prefix_spool.proofs.page.PrefixPagePageOfPairs.new.Goals.{After-write_pair}

written : (c : After-write_pair) → Made c.write_pair.new.bytes c.size_of_pair-size.result c.args.pair.now
written c =
    made c.args.page.bytes.value c.write_pair.new.bytes c.size_of_pair-size.result c.args.pair.now c.args.page.long c.write_pair.ensures.good
    (c.write_pair.ensures.bytes ∙ ap (overwritten 0 (bytes_sharing 0 c.args.pair.now)) c.deref_mut.ensures.value) c.size_of_pair-size.ensures.size

pub invariant_of-result : goal.invariant_of-result
invariant_of-result c =
    subst (λ (k : List ℕ). IsPage c.write_pair.new.bytes (first_marks c.size_of_pair-size.result) k) (sym c.new.ensures)
    (written (goal.at.invariant_of-result c).After-write_pair).page

pub returns-clause-made : goal.returns-clause-made
returns-clause-made c =
    let make : List Pair → ℕ → PageValue = λ ps n. record { pairs = ps; room = n } in
    ap (λ (ps : List Pair). make ps (4096 - c.size_of_pair-size.result)) (written (goal.at.returns-clause-made c).After-write_pair).pairs
    ∙ ap (λ (n : ℕ). make (c.args.pair.now ∷ []) (4096 - n)) c.size_of_pair-size.ensures.size
