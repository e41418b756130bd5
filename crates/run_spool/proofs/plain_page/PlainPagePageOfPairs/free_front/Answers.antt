use Rattle.std.proofs.Common.{ap, ◌∙◌, List, ◌-◌, arith}
use Rattle.keybytes.specs.declared.pair.Pair.{Pair}
use Rattle.run_spool.specs.Pages.{PageValue, without_first}
use Rattle.run_spool.proofs.Marked.{Freed, counted, freed}
use Rattle.run_spool.proofs.plain_page.PlainPagePageOfPairs.free_front.Goals as goal
use Rattle.run_spool.proofs.plain_page.PlainPagePageOfPairs.free_front.Goals.{After-seek-offset}

pub seek-offset-requires-clause-there : goal.seek-offset-requires-clause-there
seek-offset-requires-clause-there c =
    let count = counted c.self.inside.page.bytes.value c.self.inside.marks c.self.view_is in
    omega (arith, c.requires, count)

pub overflow_sub-self : goal.overflow_sub-self
overflow_sub-self c =
    let count = counted c.self.inside.page.bytes.value c.self.inside.marks c.self.view_is in
    omega (arith, c.requires, count)

left :
    (c : After-seek-offset) → Freed c.self.inside.page.bytes.value c.self.inside.marks c.args.n c.seek-offset.result
left c =
    let count = counted c.self.inside.page.bytes.value c.self.inside.marks c.self.view_is in
    freed c.self.invariant (omega (arith, c.requires, count)) c.deref.ensures c.seek-offset.ensures

pub invariant_of-self : goal.invariant_of-self
invariant_of-self c = (left (goal.at.invariant_of-self c).After-seek-offset).page

pub returns : goal.returns
returns c =
    let make : List Pair → PageValue = λ ps. record { pairs = ps; room = 4096 - c.self.inside.marks.end } in
    ap make (left (goal.at.returns c).After-seek-offset).pairs ∙ ap (λ (v : PageValue). without_first v c.args.n) c.self.view_is
