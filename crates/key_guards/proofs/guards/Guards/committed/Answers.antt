-- A commit ends what its transaction guards.
use Rattle.std.proofs.Common.{ap, ◌∙◌}
use Rattle.std.specs.Prelude.{filter, not, ◌==◌}
use Rattle.key_guards.specs.Guarded.{GuardsValue}
use Rattle.key_guards.proofs.Following.{guarded_commit}
use Rattle.key_guards.proofs.guards.Guards.committed.Goals as goal

pub returns : goal.returns
returns c = λ spec log undos h.
    guarded_commit spec log c.args.txn c.args.self.now _ undos
    (c.forget_txn.ensures ∙ ap (λ (v : GuardsValue). filter (λ t. not (t.txn == c.args.txn)) v.txns) c.self.view_is) h
