-- What is found in the list is the other guard.
use Rattle.std.proofs.Common.{ap, ◌∙◌}
use Rattle.key_guards.specs.Guarded.{GuardsValue}
use Rattle.key_guards.specs.GuardLists.{other_in}
use Rattle.key_guards.proofs.GuardLists.{list_other}
use Rattle.key_guards.proofs.Tables.{writes_are_held}
use Rattle.key_guards.proofs.guards.Guards.other_of_bytes.Goals as goal

pub returns : goal.returns
returns c = λ spec s holds h.
    c.other_txn_of_bytes.ensures ∙ ap (λ (v : GuardsValue). other_in v.txns c.args.txn c.args.bytes.now) c.self.view_is
    ∙ list_other spec s.log c.args.self.now.txns c.args.txn c.args.bytes.now h.unique (writes_are_held s holds) h.listed
