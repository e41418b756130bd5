-- One more is counted.
use Rattle.std.proofs.Common.{ap, sym, subst, ◌≤◌, length, List, arith}
use Rattle.key_guards.specs.declared.taken.Taken.{Taken}
use Rattle.key_guards.specs.TxnGuards.{AreCounts, TxnValue, times_taken}
use Rattle.key_guards.proofs.TakenLists.{counts_pushed, times_within}
use Rattle.key_guards.proofs.txn_guards.TxnGuards.push.Goals as goal

pub raise-requires-clause-small : goal.raise-requires-clause-small
raise-requires-clause-small c =
    let within : times_taken c.args.key c.self.inside.taken.items ≤ length c.self.inside.taken.items = times_within c.args.key c.self.inside.taken.items in
    omega (arith, within, c.self.invariant c.args.key, c.capacity-capacity.ensures, c.capacity-capacity.type_inv, ap (λ (v : TxnValue). v.room) c.self.view_is, c.requires.0)

pub invariant_of-self : goal.invariant_of-self
invariant_of-self c =
    subst (λ (ts : List Taken). AreCounts ts c.raise.new.self.counts.entries) (sym c.push_reserved.ensures.items)
    (counts_pushed c.self.inside.taken.items _ c.self.inside.counts.counts.entries c.raise.new.self.counts.entries c.self.invariant c.raise.ensures)
