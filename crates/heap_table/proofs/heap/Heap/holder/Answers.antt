use Rattle.std.proofs.Common.{◌≡◌, ◌∙◌, Bool, true, Some, refl, sym, ap, arith}
use Rattle.std.specs.Bool.{then_some}
use Rattle.std.proofs.lemmas.Bool.{eq-eqb}
use Rattle.heap_log.specs.Standing.{record_at, is_write_of}
use Rattle.heap_table.specs.HeapState.{is_open}
use Rattle.heap_table.specs.HeapValue.{HeapValue}
use Rattle.heap_table.specs.Holders.{holder}
use Rattle.heap_table.proofs.Holding.{holder_unwritten, holder_last, then_some_if}
use Rattle.heap_table.proofs.KeptTxns.{nobody_holds}
use Rattle.heap_table.proofs.heap.Heap.holder.Goals as goal

pub returns-in_err-number : goal.returns-in_err-number
returns-in_err-number c =
    c.from_residual.ensures
    ∙ sym (ap (λ (h : HeapValue). holder h.state.log c.args.rid) (sym c.self.view_is)
    ∙ holder_unwritten _ c.self.invariant.kept.sound c.args.rid (sym c.in_err-number.ensures.value))

pub returns-then-number-self : goal.returns-then-number-self
returns-then-number-self c =
    sym (ap (λ (h : HeapValue). holder h.state.log c.args.rid) (sym c.self.view_is)
    ∙ nobody_holds _ _ _ c.args.rid c.in_ok-number.number c.self.invariant.kept.sound c.self.invariant.txns (sym c.in_ok-number.ensures.value)
    (c.in_ok-number.ensures.write) (omega arith))

pub returns : goal.returns
returns c =
    let by : is_write_of c.in-Write.txn (record_at c.self.inside.log.records c.in_ok-number.number) ≡ true =
    ap (is_write_of c.in-Write.txn) (c.rec.ensures ∙ ap Some c.in-Write.is) ∙ eq-eqb c.in-Write.txn c.in-Write.txn refl in
    let open_is : c.has.result ≡ is_open c.self.inside.open_txns.items c.in-Write.txn =
    c.has.ensures ∙ ap (λ a. is_open a c.in-Write.txn) c.deref.ensures.value in
    c.then_some.ensures ∙ (ap (λ (b : Bool). then_some b c.in-Write.txn) open_is
    ∙ (then_some_if (is_open c.self.inside.open_txns.items c.in-Write.txn) c.in-Write.txn
    ∙ sym (ap (λ (h : HeapValue). holder h.state.log c.args.rid) (sym c.self.view_is)
    ∙ holder_last _ c.self.invariant.kept.sound c.args.rid c.in_ok-number.number c.in-Write.txn (sym c.in_ok-number.ensures.value) by)))
