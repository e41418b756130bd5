-- An undo ends what its write guards.
use Rattle.std.proofs.Common.{subst}
use Rattle.key_guards.specs.Guarded.{GuardsValue}
use Rattle.key_guards.specs.GuardLists.{AreUndone}
use Rattle.key_guards.proofs.Following.{guarded_undo}
use Rattle.key_guards.proofs.guards.Guards.undone.Goals as goal

pub returns : goal.returns
returns c = λ spec s holds undos opened newest h.
    guarded_undo spec s c.args.txn c.args.number c.args.self.now (record { txns = c.undo_each.new.txns.items }) holds undos opened newest
    (subst (λ (v : GuardsValue). AreUndone c.args.number v.txns c.undo_each.new.txns.items) c.self.view_is c.undo_each.ensures) h
