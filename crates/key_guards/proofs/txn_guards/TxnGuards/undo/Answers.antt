-- What is taken off is the top, and counts once less.
use Rattle.std.proofs.Common.{◌≡◌, ◌-◌, subst, List, length, Some}
use Rattle.std.specs.List.{slice_get}
use Rattle.key_guards.specs.declared.taken.Taken.{Taken}
use Rattle.key_guards.specs.TxnGuards.{AreCounts, TxnValue, without_top}
use Rattle.key_guards.proofs.TakenLists.{counts_popped, counted_last, top_goes_by, top_stays}
use Rattle.key_guards.proofs.txn_guards.TxnGuards.undo.Goals as goal

pub returns-then-top-number-clause-taken : goal.returns-then-top-number-clause-taken
returns-then-top-number-clause-taken c =
    let last : Some c.in-Some.top.now ≡ slice_get c.self.inside.taken.items (length c.self.inside.taken.items - 1) =
    subst (λ (ts : List Taken). Some c.in-Some.top.now ≡ slice_get ts (length ts - 1)) c.deref.ensures.value c.in-Some.ensures.value in
    subst (λ (v : TxnValue). v.taken ≡ without_top c.args.number v.taken) c.self.view_is
    (top_stays c.args.number c.self.inside.taken.items c.in-Some.top.now last c.if-top-number.true)

pub lower_taken-requires : goal.lower_taken-requires
lower_taken-requires c =
    counted_last c.pop.new.self.items c.in-Some-pop.top c.self.inside.counts.counts.entries
    (subst (λ (ts : List Taken). AreCounts ts c.self.inside.counts.counts.entries) c.in-Some-pop.ensures.items c.self.invariant)

pub invariant_of-self : goal.invariant_of-self
invariant_of-self c =
    counts_popped c.pop.new.self.items c.in-Some-pop.top c.self.inside.counts.counts.entries c.lower_taken.new.self.counts.entries
    (subst (λ (ts : List Taken). AreCounts ts c.self.inside.counts.counts.entries) c.in-Some-pop.ensures.items c.self.invariant) c.lower_taken.ensures

pub returns-in-Some-pop-clause-taken : goal.returns-in-Some-pop-clause-taken
returns-in-Some-pop-clause-taken c =
    let last : Some c.in-Some.top.now ≡ slice_get c.self.inside.taken.items (length c.self.inside.taken.items - 1) =
    subst (λ (ts : List Taken). Some c.in-Some.top.now ≡ slice_get ts (length ts - 1)) c.deref.ensures.value c.in-Some.ensures.value in
    subst (λ (v : TxnValue). c.pop.new.self.items ≡ without_top c.args.number v.taken) c.self.view_is
    (top_goes_by c.args.number c.self.inside.taken.items c.pop.new.self.items c.in-Some-pop.top c.in-Some.top.now c.in-Some-pop.ensures.items last c.if-top-number.false)
