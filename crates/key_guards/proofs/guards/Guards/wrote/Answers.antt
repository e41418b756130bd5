-- A write guards what it takes.
use Rattle.std.proofs.Common.{◌≡◌, ◌++◌, ◌∷◌, [], ℕ, Some, None, List, Option, ap, sym, subst, ◌∙◌}
use Rattle.std.specs.Prelude.{◌==◌, IfSome}
use Rattle.std.specs.List.{position}
use Rattle.key_guards.specs.TxnGuards.{TxnValue}
use Rattle.key_guards.specs.Guarded.{GuardsValue, HasRoomFor, IsGuarded}
use Rattle.key_guards.proofs.Following.{guarded_write, guarded_kept}
use Rattle.key_guards.proofs.guards.Guards.wrote.Goals as goal

pub returns-in_default : goal.returns-in_default
returns-in_default c = λ spec index s rid row let_in number_is taken_is h.
    guarded_kept spec index s c.args.txn rid row c.args.self.now let_in (sym c.in_default.is ∙ taken_is) h

pub returns-in-Some-place : goal.returns-in-Some-place
returns-in-Some-place c = λ spec index s rid row let_in number_is taken_is h.
    guarded_write spec index s c.args.txn rid row c.args.number c.in-Some.key (record { txns = c.self.inside.txns.items }) c.in-Some-place.at c.push.new.self c.index_mut.result.now
    let_in number_is (sym c.in-Some.is ∙ taken_is) (sym c.place.ensures ∙ c.in-Some-place.is)
    (c.push.ensures.txn ∙ ap (λ (t : TxnValue). t.txn) c.index_mut.ensures.value)
    (c.push.ensures.taken ∙ ap (λ (t : TxnValue). t.taken ++ record { number = c.args.number; key = c.in-Some.key } ∷ []) c.index_mut.ensures.value)
    (subst (IsGuarded spec s.log) (sym c.self.view_is) h)

pub returns-in_default-place : goal.returns-in_default-place
returns-in_default-place c = absurd (
    let room : HasRoomFor c.args.self.now c.args.txn c.in-Some.key =
    subst (λ (o : Option (List ℕ)). IfSome o (HasRoomFor c.args.self.now c.args.txn)) c.in-Some.is c.requires in
    let none : None ≡ Some room.0 =
    sym c.in_default-place.is ∙ c.place.ensures ∙ ap (λ (v : GuardsValue). position (λ t. t.txn == c.args.txn) v.txns) c.self.view_is ∙ room.1 in
    cc)
