-- What is forgotten has no keys, and what is new has none.
use Rattle.std.proofs.Common.{◌≡◌, ◌++◌, ◌∷◌, [], ◌+◌, ◌-◌, length, length-append, List, Some, ap, arith, subst, sym, ◌∙◌}
use Rattle.std.specs.Prelude.{◌==◌, filter, not}
use Rattle.std.specs.List.{position}
use Rattle.key_guards.specs.TxnGuards.{TxnValue, is_nil}
use Rattle.key_guards.specs.GuardLists.{AreGuards}
use Rattle.key_guards.proofs.GuardLists.{empty_gone, new_empty, new_place}
use Rattle.key_guards.proofs.guards.place_or_new.Goals as goal

pub returns-in_err-reserve-clause-kept : goal.returns-in_err-reserve-clause-kept
returns-in_err-reserve-clause-kept c = λ spec log h.
    subst (AreGuards spec log) (sym (c.in_err-reserve.ensures.items ∙ c.forget_empty.ensures)) (empty_gone spec log c.args.txns.now.items h)

pub returns-clause-at : goal.returns-clause-at
returns-clause-at c =
    let old : List TxnValue = c.reserve.new.self.items in
    let kept : old ≡ filter (λ t. not (is_nil t.taken)) c.args.txns.now.items = c.reserve.ensures.items ∙ c.forget_empty.ensures in
    let one_more : length (old ++ c.new.result ∷ []) ≡ length old + 1 = length-append old (c.new.result ∷ []) in
    let last : length old ≡ c.len.result - 1 =
    omega (arith, c.len.ensures, c.push_reserved.new.self.ok, ap length c.push_reserved.ensures.items, one_more) in
    ap (position (λ (t : TxnValue). t.txn == c.args.txn)) c.push_reserved.ensures.items
    ∙ new_place c.args.txns.now.items old (λ t. not (is_nil t.taken)) c.args.txn c.new.result (sym c.place.ensures ∙ c.in_default.is) c.new.ensures.txn kept
    ∙ ap Some last

pub returns-clause-kept : goal.returns-clause-kept
returns-clause-kept c = λ spec log h.
    subst (AreGuards spec log) (sym c.push_reserved.ensures.items)
    (new_empty spec log c.reserve.new.self.items c.new.result c.new.ensures.taken
    (subst (AreGuards spec log) (sym (c.reserve.ensures.items ∙ c.forget_empty.ensures)) (empty_gone spec log c.args.txns.now.items h)))
