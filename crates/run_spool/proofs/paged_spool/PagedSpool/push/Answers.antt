use Rattle.std.proofs.Common.{◌≡◌, ◌<◌, ◌∙◌, ◌++◌, ◌∷◌, [], List, length, ap, sym, subst, rules, arith, inl, inr, false, true}
use Rattle.std.proofs.lemmas.List.{length-drop}
use Rattle.std.proofs.lemmas.Bool.{cases_lt}
use Rattle.keybytes.specs.declared.pair.Pair.{Pair}
use Rattle.run_spool.specs.Pages.{PageValue, last_key, page_with, size_on}
use Rattle.run_spool.specs.Runs.{last_of}
use Rattle.run_spool.specs.PagedSpools.{PagedSpoolValue}
use Rattle.run_spool.specs.Spools.{NoneEmpty}
use Rattle.run_spool.proofs.SpoolSteps.{pairs_small, pushed_last, pushed_new}
use Rattle.run_spool.proofs.paged_spool.PagedSpool.push.Goals.{then-not-push+in-Ok, else-not-push}
use Rattle.run_spool.proofs.paged_spool.PagedSpool.push.Goals as goal

pub overflow_add-self : goal.overflow_add-self
overflow_add-self g c =
    let i = c.self.invariant in
    let len = i.open_len_is in
    let law = i.law in
    let quota = i.small in
    let same : c.if-not-push.self-inside.open_len ≡ c.self.inside.open_len = elim c.if-not-push.branch [
      | then-not-push+in-Ok w ↦ ap (λ s. s.open_len) w.self-inside-is
      | else-not-push w ↦ ap (λ s. s.open_len) w.self-inside-is
    ] in
    omega (arith, same, pairs_small g.P.PageOfPairs.pair_size g.met.P.PageOfPairs.takes_bytes c.self.inside.open_run i.packed)

pub invariant_of-self-2 : goal.invariant_of-self-2
invariant_of-self-2 g c =
    let i = c.self.invariant in
    let size = g.P.PageOfPairs.pair_size in
    let pair : Pair = c.args.pair in
    elim c.if-not-push.branch [
      | then-not-push+in-Ok w ↦
          let spare_is = i.spare_is in
          let none : (last_of c.self.inside.open_run).room < size_on size (last_of c.self.inside.open_run) pair =
          elim (cases_lt (last_of c.self.inside.open_run).room (size_on size (last_of c.self.inside.open_run) pair)) [
            | inl less ↦ less
            | inr fits ↦ (let wrong : false ≡ true = w.if-not-push.ensures.fits.1 fits in cc)
          ] in
          let there = w.in-Ok.ensures.exact.0 (search rules) in
          let some = subst NoneEmpty (sym (ap (λ (s : PagedSpoolValue). s.runs) c.self.view_is)) c.requires in
          let left = ap (λ (xs : List PageValue). length xs) w.add_page.ensures.spare in
          rw w.self-inside-is
          (pushed_new pair w.lease.new.self (length w.add_page.new.spare) w.add_page.new.self i w.add_page.ensures.fits none some
          there w.in-Ok.ensures.ok (omega (arith, length-drop 1 c.self.inside.spare))
          (w.add_page.ensures.chain ∙ ap (λ (run : List PageValue). run ++ page_with size pair ∷ []) w.if-not-push.ensures.chain))
      | else-not-push w ↦
          rw w.self-inside-is (pushed_last pair c.push.new.self i
          (g.met.P.PageOfPairs.takes_bytes (last_key (last_of c.self.inside.open_run).pairs) pair)
          (w.if-not-push.ensures.fits.0 (search rules)) w.if-not-push.ensures.chain)
    ]
