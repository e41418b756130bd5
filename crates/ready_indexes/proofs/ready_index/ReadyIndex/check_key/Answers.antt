use Rattle.std.proofs.Common.{◌≡◌, ◌∙◌, Some, None, Option, ap, sym, subst, []}
use Rattle.std.specs.Prelude.{MatchResult}
use Rattle.std.proofs.lemmas.Bool.{false≢true}
use Rattle.keybytes.specs.Keys.{indexed_key}
use Rattle.keybytes.specs.Rids.{same_rid}
use Rattle.keybytes.specs.declared.fault.Fault.{Fault}
use Rattle.keybytes.proofs.SameRids.{same_rid-true, same_rid-refl}
use Rattle.key_guards.specs.KeyRefusals.{guarded_refusal}
use Rattle.key_guards.specs.UniqueKeys.{UniqueKeysAreGuarded}
use Rattle.ready_indexes.specs.Following.{GuardedIndex}
use Rattle.ready_indexes.specs.KeyCauses.{MayAsk}
use Rattle.ready_indexes.proofs.KeysAsked.{keeps_key, other_has, none_has}
use Rattle.ready_indexes.proofs.ready_index.ReadyIndex.check_key.Goals as goal

pub returns-in-Some : goal.returns-in-Some
returns-in-Some c =
    let spec = c.args.self.now.index.spec in
    let log = c.args.heap.now.state.log in
    let same : c.in-Some.other ≡ c.args.rid = same_rid-true c.in-Some.other c.args.rid (rw c.in-Some.is at (sym c.if-eq.ensures)) in
    keeps_key c.args.number spec log c.args.txn c.args.rid (indexed_key spec c.args.row.now) (sym c.ask-holder.ensures.holder_is ∙ c.in-Some.is ∙ ap (λ r. Some r) same)

pub returns-in-Some-2 : goal.returns-in-Some-2
returns-in-Some-2 c =
    let spec = c.args.self.now.index.spec in
    let heap = c.args.heap.now.state in
    let may = subst (λ (it : GuardedIndex). MayAsk heap it c.args.row.now) (sym c.self.view_is) c.requires in
    let guarded = c.laws-2.ensures.guarded c.self.inside.spec heap c.laws.ensures.holds (may.follows.guarded may.unique) in
    let unique = subst (λ (it : GuardedIndex). UniqueKeysAreGuarded it.index.spec heap.log) c.self.view_is guarded in
    let apart = λ (e : c.in-Some-2.other ≡ c.args.rid).
    false≢true ((rw c.in-Some-2.is at c.if-eq.ensures) ∙ ap (same_rid c.in-Some-2.other) (sym e) ∙ same_rid-refl c.in-Some-2.other) in
    other_has c.args.number spec heap.log c.args.txn c.args.rid (indexed_key spec c.args.row.now) c.in-Some-2.other (unique.unique [])
    (sym c.ask-holder.ensures.holder_is ∙ c.in-Some-2.is) apart

pub returns-in-None : goal.returns-in-None
returns-in-None c =
    let spec = c.args.self.now.index.spec in
    let log = c.args.heap.now.state.log in
    let none = none_has c.args.number spec log c.args.txn c.args.rid (indexed_key spec c.args.row.now) (sym c.ask-holder.ensures.holder_is ∙ c.in-None.is) in
    subst (λ (cause : Option Fault). MatchResult c.check_guard.result (λ _. cause ≡ None) (λ fault. cause ≡ Some fault))
    (sym (none ∙ ap (guarded_refusal c.args.number) (sym c.ask-holder.ensures.guard_is))) c.check_guard.ensures
