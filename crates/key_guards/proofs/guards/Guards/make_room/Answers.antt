-- The keys stay as they were.
use Rattle.std.proofs.Common.{◌<◌, length, subst, sym, ap, ◌∙◌}
use Rattle.std.specs.Prelude.{◌==◌, OnOk}
use Rattle.std.specs.List.{position}
use Rattle.std.proofs.Math.ListN.{set}
use Rattle.std.proofs.lemmas.List.{get_or-set_same}
use Rattle.std.proofs.Common.{◌≡◌, Some, Result, Ok, Err}
use Rattle.key_guards.specs.TxnGuards.{TxnValue, CanTake}
use Rattle.key_guards.specs.GuardLists.{AreGuards}
use Rattle.key_guards.specs.Guarded.{GuardsValue}
use Rattle.key_guards.proofs.GuardLists.{same_set, place_within, place_set}
use Rattle.key_guards.proofs.guards.Guards.make_room.Goals as goal

pub returns-in_err-at-clause-kept : goal.returns-in_err-at-clause-kept
returns-in_err-at-clause-kept c = λ spec log h. record {
  unique = h.unique;
  listed = c.place_or_new.ensures.kept spec log (subst (λ (v : GuardsValue). AreGuards spec log v.txns) (sym c.self.view_is) h.listed);
}

pub returns-clause-room : goal.returns-clause-room
returns-clause-room c =
    let place : position (λ (t : TxnValue). t.txn == c.args.txn) (set c.place_or_new.new.txns.items c.in_ok-at.at c.make_room.new.self) ≡ Some c.in_ok-at.at =
    place_set c.place_or_new.new.txns.items c.args.txn c.in_ok-at.at c.make_room.new.self c.index_mut.result.now c.in_ok-at.ensures.at
    (c.make_room.ensures.txn ∙ ap (λ (t : TxnValue). t.txn) c.index_mut.ensures.value) in
    let within : c.in_ok-at.at < length c.place_or_new.new.txns.items =
    place_within c.place_or_new.new.txns.items c.args.txn c.in_ok-at.at c.make_room.new.self c.in_ok-at.ensures.at in
    on_ok c.make_room.result (λ can. (
      c.in_ok-at.at,
      place,
      λ d.
          subst (CanTake c.args.key.now) (sym (get_or-set_same c.place_or_new.new.txns.items c.in_ok-at.at c.make_room.new.self d within)) can,
    )) c.make_room.ensures.room
  where
    on_ok : {X Y : Type 0} {A B : Type 0} (r : Result X Y) → (A → B) → OnOk r A → OnOk r B
    on_ok (Ok x) f a = f a
    on_ok (Err y) f a = a

pub returns-clause-kept : goal.returns-clause-kept
returns-clause-kept c = λ spec log h.
    let within : c.in_ok-at.at < length c.place_or_new.new.txns.items =
    place_within c.place_or_new.new.txns.items c.args.txn c.in_ok-at.at c.make_room.new.self c.in_ok-at.ensures.at in
    record {
      unique = h.unique;
      listed = same_set spec log c.place_or_new.new.txns.items c.in_ok-at.at c.make_room.new.self c.index_mut.result.now within
          (c.make_room.ensures.txn ∙ ap (λ (t : TxnValue). t.txn) c.index_mut.ensures.value)
          (c.make_room.ensures.taken ∙ ap (λ (t : TxnValue). t.taken) c.index_mut.ensures.value)
          (c.place_or_new.ensures.kept spec log (subst (λ (v : GuardsValue). AreGuards spec log v.txns) (sym c.self.view_is) h.listed));
    }
