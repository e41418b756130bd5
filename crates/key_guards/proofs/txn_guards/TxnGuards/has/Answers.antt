-- A key is there where it counts.
use Rattle.std.proofs.Common.{ap, ◌∙◌}
use Rattle.std.specs.Prelude.{nat_lt}
use Rattle.key_guards.specs.TxnGuards.{TxnValue, has_taken}
use Rattle.key_guards.proofs.TakenLists.{has_by_times}
use Rattle.key_guards.proofs.txn_guards.TxnGuards.has.Goals as goal

pub returns : goal.returns
returns c =
    ap (nat_lt 0) (c.count.ensures ∙ c.self.invariant c.args.key.now) ∙ has_by_times c.args.key.now c.self.inside.taken.items
    ∙ ap (λ (v : TxnValue). has_taken c.args.key.now v.taken) c.self.view_is
