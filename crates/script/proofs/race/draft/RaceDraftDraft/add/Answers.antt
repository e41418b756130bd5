use Rattle.std.proofs.Common.{Some, Result, Ok, Err, OnOk, rules, arith, sym, ◌∙◌}
use Rattle.std.proofs.lemmas.Grind.{common_steps}
use Rattle.script.specs.RaceDrafts.{MayComeNext}
use Rattle.script.specs.RaceOrder.{name_of_line}
use Rattle.script.proofs.RaceDrafted.{added, not_added}
use Rattle.script.proofs.race.draft.RaceDraftDraft.add.Goals as goal

-- what follows where a call succeeds
on_ok : {T E : Type 0} {P Q : Type 0} (r : Result T E) → (P → Q) → OnOk r P → OnOk r Q
on_ok (Ok value) follows holds = follows holds
on_ok (Err error) follows holds = tt

pub returns-clause-refused : goal.returns-clause-refused
returns-clause-refused c = λ lines drafted.
    let bad : MayComeNext c.args.self.now (Some c.in-Some.name) → ⊥ = first_of (search rules, grind (arith, common_steps)) in
    not_added c.args.self.now lines c.args.line c.in-Some.name (sym c.name.ensures ∙ c.in-Some.is) bad drafted

pub returns-2-clause-ok : goal.returns-2-clause-ok
returns-2-clause-ok c =
    let may : MayComeNext c.args.self.now (name_of_line c.args.line) = first_of (search rules, grind (arith, common_steps)) in
    on_ok c.put.result (λ same lines drafted is. rw same (added c.args.self.now lines c.args.number c.args.line may drafted is)) c.put.ensures.ok
