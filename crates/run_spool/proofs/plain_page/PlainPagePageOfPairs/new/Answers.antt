use Rattle.std.proofs.Common.{◌+◌, ◌-◌, ◌∷◌, [], ℕ, List, length, ap, ◌∙◌}
use Rattle.keybytes.specs.declared.pair.Pair.{Pair}
use Rattle.keybytes.specs.Writes.{overwritten}
use Rattle.run_spool.specs.Bytes.{pair_bytes}
use Rattle.run_spool.specs.Pages.{PageValue}
use Rattle.run_spool.proofs.Marked.{Made, made}
use Rattle.run_spool.proofs.plain_page.PlainPagePageOfPairs.new.Goals as goal
use Rattle.run_spool.proofs.plain_page.PlainPagePageOfPairs.new.Goals.{After-write_pair}

written : (c : After-write_pair) → Made c.write_pair.new.bytes (8 + length c.bytes.result.now) c.args.pair.now
written c =
    made c.args.page.bytes.value c.write_pair.new.bytes (8 + length c.bytes.result.now) c.args.pair.now c.args.page.long c.write_pair.ensures.good
    (c.write_pair.ensures.bytes ∙ ap (overwritten 0 (pair_bytes c.args.pair.now)) c.deref_mut.ensures.value)
    (ap (λ (k : List ℕ). 8 + length k) c.bytes.ensures.bytes)

pub invariant_of-result : goal.invariant_of-result
invariant_of-result c = (written (goal.at.invariant_of-result c).After-write_pair).page

pub returns-clause-made : goal.returns-clause-made
returns-clause-made c =
    let make : List Pair → ℕ → PageValue = λ ps n. record { pairs = ps; room = n } in
    ap (λ (ps : List Pair). make ps (4096 - (8 + length c.bytes.result.now))) (written (goal.at.returns-clause-made c).After-write_pair).pairs
    ∙ ap (λ (k : List ℕ). make (c.args.pair.now ∷ []) (4096 - (8 + length k))) c.bytes.ensures.bytes
