use Rattle.std.proofs.Common.{ap, ◌∙◌, ℕ, ◌≡◌, ◌+◌, ◌-◌, ◌≤◌, ◌∷◌, ◌++◌, [], List, length, arith}
use Rattle.keybytes.specs.declared.pair.Pair.{Pair}
use Rattle.keybytes.specs.Writes.{overwritten}
use Rattle.run_spool.specs.Bytes.{pair_bytes, pair_size}
use Rattle.run_spool.specs.Pages.{PageValue, with_pair}
use Rattle.run_spool.specs.PlainPages.{plain_size, pairs_at}
use Rattle.run_spool.proofs.Marked.{Pushed, pushed, count_small}
use Rattle.run_spool.proofs.plain_page.PlainPagePageOfPairs.push.Goals as goal
use Rattle.run_spool.proofs.plain_page.PlainPagePageOfPairs.push.Goals.{After-write_pair}

pub overflow_add-self-2 : goal.overflow_add-self-2
overflow_add-self-2 c = let small = count_small c.self.invariant in omega arith

key_is : (c : After-write_pair) → 8 + length c.bytes.result.now ≡ pair_size c.args.pair.now
key_is c = ap (λ (k : List ℕ). 8 + length k) c.bytes.ensures.bytes

written :
    (c : After-write_pair)
    → Pushed c.self.inside.page.bytes.value c.write_pair.new.bytes c.self.inside.marks (8 + length c.bytes.result.now) c.args.pair.now
written c =
    let m = c.self.inside.marks in
    let within = c.self.invariant.stored.within in
    let room = c.if-self-size.false in
    let fits : m.end + pair_size c.args.pair.now ≤ 4096 = omega (arith, key_is c) in
    pushed c.args.pair.now c.write_pair.new.bytes (8 + length c.bytes.result.now) c.write_pair.ensures.good fits
    (c.write_pair.ensures.bytes ∙ ap (overwritten m.end (pair_bytes c.args.pair.now)) c.deref_mut.ensures.value) (key_is c) c.self.invariant

pub invariant_of-self : goal.invariant_of-self
invariant_of-self c = (written (goal.at.invariant_of-self c).After-write_pair).page

pub returns-clause-page : goal.returns-clause-page
returns-clause-page c =
    let m = c.self.inside.marks in
    let p = written (goal.at.returns-clause-page c).After-write_pair in
    let key = key_is (goal.at.returns-clause-page c).After-write_pair in
    let left : 4096 - (m.end + (8 + length c.bytes.result.now)) ≡ (4096 - m.end) - pair_size c.args.pair.now = omega (arith, key) in
    let make : List Pair → ℕ → PageValue = λ ps n. record { pairs = ps; room = n } in
    ap (λ (ps : List Pair). make ps (4096 - (m.end + (8 + length c.bytes.result.now)))) p.pairs
    ∙ ap (make (pairs_at c.self.inside.page.bytes.value m ++ c.args.pair.now ∷ [])) left
    ∙ ap (λ (v : PageValue). with_pair plain_size v c.args.pair.now) c.self.view_is
