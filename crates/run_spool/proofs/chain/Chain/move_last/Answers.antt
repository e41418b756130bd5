use Rattle.std.proofs.Common.{◌≡◌, ◌-◌, ◌++◌, ℕ, List, length, take, drop, ap, ◌∙◌, arith}
use Rattle.run_spool.specs.Pages.{PageValue}
use Rattle.run_spool.specs.Frames.{pages_in}
use Rattle.run_spool.proofs.Frames.{count_in, taken_in, dropped_in, joined_in}
use Rattle.run_spool.proofs.chain.Chain.move_last.Goals as goal

pub returns-clause-from : goal.returns-clause-from
returns-clause-from g c =
    let value = g.P.PageOfPairs.value in
    let frames = c.self.inside.frames in
    let pages : List PageValue = c.args.self.now in
    let n : c.len-last.result - 1 ≡ length pages - 1 = omega (arith, c.len-last.ensures.value, count_in value frames pages c.self.view_is) in
    ap (pages_in value) c.in-Ok.ensures.items ∙ taken_in value frames pages c.self.view_is (c.len-last.result - 1) ∙ ap (λ (k : ℕ). take k pages) n

pub returns-clause-to : goal.returns-clause-to
returns-clause-to g c =
    let value = g.P.PageOfPairs.value in
    let frames = c.self.inside.frames in
    let pages : List PageValue = c.args.self.now in
    let n : c.len-last.result - 1 ≡ length pages - 1 = omega (arith, c.len-last.ensures.value, count_in value frames pages c.self.view_is) in
    let last : pages_in value c.in-Ok.chain ≡ drop (length pages - 1) pages =
    ap (pages_in value) c.in-Ok.ensures.tail ∙ dropped_in value frames pages c.self.view_is (c.len-last.result - 1) ∙ ap (λ (k : ℕ). drop k pages) n in
    let all : c.swap.new.x ≡ c.in-Ok.chain ++ c.to.inside.frames = c.swap.ensures.x_after ∙ c.in-Ok-append.ensures.items in
    joined_in value c.in-Ok.chain c.to.inside.frames c.swap.new.x (drop (length pages - 1) pages) c.args.to.now last c.to.view_is all
