use Rattle.std.proofs.Common.{◌+◌, ◌*◌, ◌≤◌, inr, arith}
use Rattle.std.proofs.lemmas.Bool.{ltb-false}
use Rattle.crew.proofs.locked.credit.Credit.is_spent.Goals as goal

pub returns-then-waiting-ge-FLOOR-clause-may : goal.returns-then-waiting-ge-FLOOR-clause-may
returns-then-waiting-ge-FLOOR-clause-may c = λ no records kept.
    let credit = c.args.self.now in
    let least : 2 * c.args.waiting + 2 * credit.taken + 4 * c.args.indexes ≤ 1024 + credit.applied + 2 * credit.first = ltb-false _ _ no in
    record { kept = kept; may = inr (omega (arith, kept.counted, least)) }
