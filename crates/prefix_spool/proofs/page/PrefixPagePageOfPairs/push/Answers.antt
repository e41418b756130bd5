use Rattle.std.proofs.Common.{◌≡◌, ◌+◌, ◌-◌, ◌∷◌, ◌++◌, [], ℕ, List, sym, subst, ap, ◌∙◌, arith}
use Rattle.keybytes.specs.declared.pair.Pair.{Pair}
use Rattle.keybytes.specs.Writes.{overwritten}
use Rattle.run_spool.specs.Pages.{PageValue, last_key, with_pair}
use Rattle.prefix_spool.specs.PrefixBytes.{shared, bytes_sharing, size_sharing, prefix_size}
use Rattle.prefix_spool.specs.PrefixPages.{IsPage, left_at}
use Rattle.prefix_spool.proofs.Marked.{Pushed, pushed, count_small, after_push}
use Rattle.prefix_spool.proofs.page.PrefixPagePageOfPairs.push.Goals as goal
use Rattle.prefix_spool.proofs.page.PrefixPagePageOfPairs.push.Goals.{After-write_pair}

pub overflow_add-self-2 : goal.overflow_add-self-2
overflow_add-self-2 c = let small = count_small c.self.invariant in omega arith

written : (c : After-write_pair) → Pushed c.self.inside.page.bytes.value c.write_pair.new.bytes c.self.inside.marks c.size_of_pair-size.result c.args.pair.now
written c =
    let m = c.self.inside.marks in
    let within = c.self.invariant.stored.within in
    let room = c.if-self-size.false in
    let n = c.shared_with-shared.result in
    let last : c.args.last.now ≡ last_key (left_at c.self.inside.page.bytes.value m) =
    c.requires ∙ ap (λ (p : PageValue). last_key p.pairs) (sym c.self.view_is) in
    pushed c.args.last.now n c.args.pair.now c.write_pair.new.bytes c.size_of_pair-size.result last c.shared_with-shared.ensures.shared
    c.write_pair.ensures.good c.size_of_pair-size.ensures.size (omega arith)
    (c.write_pair.ensures.bytes ∙ ap (overwritten m.end (bytes_sharing n c.args.pair.now)) c.deref_mut.ensures.value) c.self.invariant

pub invariant_of-self : goal.invariant_of-self
invariant_of-self c =
    subst (λ (k : List ℕ). IsPage c.write_pair.new.bytes (after_push c.self.inside.marks c.size_of_pair-size.result) k) (sym c.cut.ensures)
    (written (goal.at.invariant_of-self c).After-write_pair).page

pub returns-clause-page : goal.returns-clause-page
returns-clause-page c =
    let m = c.self.inside.marks in
    let pair : Pair = c.args.pair.now in
    let p = written (goal.at.returns-clause-page c).After-write_pair in
    let last : c.args.last.now ≡ last_key (left_at c.self.inside.page.bytes.value m) =
    c.requires ∙ ap (λ (p : PageValue). last_key p.pairs) (sym c.self.view_is) in
    let size : c.size_of_pair-size.result ≡ size_sharing (shared c.args.last.now pair.key) pair =
    c.size_of_pair-size.ensures.size ∙ ap (λ (n : ℕ). size_sharing n pair) c.shared_with-shared.ensures.shared in
    let left : 4096 - (m.end + c.size_of_pair-size.result) ≡ (4096 - m.end) - prefix_size c.args.last.now pair = omega (arith, size) in
    let make : List Pair → ℕ → PageValue = λ ps n. record { pairs = ps; room = n } in
    ap (λ (ps : List Pair). make ps (4096 - (m.end + c.size_of_pair-size.result))) p.pairs
    ∙ ap (make (left_at c.self.inside.page.bytes.value m ++ pair ∷ [])) (left ∙ ap (λ (k : List ℕ). (4096 - m.end) - prefix_size k pair) last)
    ∙ ap (λ (v : PageValue). with_pair prefix_size v pair) c.self.view_is
