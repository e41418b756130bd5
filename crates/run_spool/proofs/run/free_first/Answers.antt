use Rattle.std.proofs.Common.{◌≡◌, ◌+◌, ℕ, List, length, take, drop, ap, sym, ◌∙◌, arith}
use Rattle.std.proofs.lemmas.List.{length-append}
use Rattle.spool_ledger.specs.Accounts.{AccountValue}
use Rattle.run_spool.specs.Pages.{PageValue}
use Rattle.run_spool.specs.Runs.{without_pairs}
use Rattle.run_spool.proofs.RunSteps.{free_whole, without_none, given_more}
use Rattle.run_spool.proofs.run.free_first.Goals as goal

pub loop-left-preserved : goal.loop-left-preserved
loop-left-preserved g c =
    let chain = c.loop-left.chain in
    let i = c.loop-left.invariant in
    let first = c.first_len-first.ensures in
    let test = c.if-left-first.false in
    let f = free_whole chain c.loop-left.left c.loop-left-test.true (omega arith) i.within i.each in
    let e : c.move_first.new.self ≡ drop 1 chain = c.move_first.ensures.from ∙ ap (λ (xs : List PageValue). drop 1 xs) c.take_page.ensures.chain in
    let given = i.given in
    let frames = i.frames in
    let shorter = f.shorter in
    let free = ap (λ (a : AccountValue). a.free) c.give_back.ensures in
    let from : length c.move_first.new.self ≡ length (drop 1 chain) = ap (λ (xs : List PageValue). length xs) e in
    let one : length (take 1 c.take_page.new.self) ≡ 1 = ap (λ (xs : List PageValue). length (take 1 xs)) c.take_page.ensures.chain in
    let to : length c.move_first.new.to ≡ length c.loop-left.spare + length (take 1 c.take_page.new.self) =
    ap (λ (xs : List PageValue). length xs) c.move_first.ensures.to ∙ length-append c.loop-left.spare (take 1 c.take_page.new.self) in
    record {
      within = rw (e, first) f.within;
      each = rw e f.each;
      pages = rw (e, first) (f.pages ∙ i.pages);
      given = omega arith;
      account = given_more c.args.account.now c.loop-left.account c.give_back.new.self (c.loop-left.account.free + 1) c.give_back.ensures i.account;
      frames = omega arith;
    }

pub returns-clause-chain : goal.returns-clause-chain
returns-clause-chain g c =
    let pages = c.loop-left.chain in
    let i = c.loop-left.invariant in
    let test = c.loop-left-test.false in
    let z : 0 ≡ c.loop-left.left = omega arith in
    sym (without_none pages i.each) ∙ ap (λ (k : ℕ). without_pairs k pages) z ∙ i.pages
