use Rattle.std.proofs.Common.{Result, Ok, Err, IfOk, IsOk}
use Rattle.script.proofs.part.Part.accepts.Goals as goal

-- what is known of a value that was read
at_ok : {T E : Type 0} (P : T → Type 0) (r : Result T E) → IsOk r → IfOk r P → (value : T) × P value
at_ok P (Ok value) is holds = (value, holds)
at_ok P (Err error) is holds = cc

pub returns-in-Rid-clause-spelled : goal.returns-in-Rid-clause-spelled
returns-in-Rid-clause-spelled c = λ good. rw c.in-Rid.is (at_ok _ c.rid.result (c.is_good.ensures.good good) c.rid.ensures.ok)

pub returns-in-Rid-clause-misspelled : goal.returns-in-Rid-clause-misspelled
returns-in-Rid-clause-misspelled c = rw c.in-Rid.is (λ bad spelled.
    let none = rw (c.is_good.ensures.bad bad) at c.rid.ensures.refused in none.1 spelled.0 spelled.1)

pub returns-in-Spec-clause-spelled : goal.returns-in-Spec-clause-spelled
returns-in-Spec-clause-spelled c = λ good. rw c.in-Spec.is (at_ok _ c.spelled-in-Spec.result (c.is_good-in-Spec.ensures.good good) c.spelled-in-Spec.ensures.ok)

pub returns-in-Spec-clause-misspelled : goal.returns-in-Spec-clause-misspelled
returns-in-Spec-clause-misspelled c = rw c.in-Spec.is (λ bad spelled. c.spelled-in-Spec.ensures.refused (c.is_good-in-Spec.ensures.bad bad) spelled.0 spelled.1)
