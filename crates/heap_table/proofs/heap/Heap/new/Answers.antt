use Rattle.std.proofs.Common.{◌≡◌, ◌∙◌, List, arith, true, sym, ap}
use Rattle.std.proofs.lemmas.Bool.{false≢true}
use Rattle.std.proofs.lemmas.Bool.Decides.{nat_tests}
use Rattle.heap_table.specs.HeapState.{are_limits, is_open}
use Rattle.heap_table.specs.declared.open_txn.OpenTxn.{OpenTxn}
use Rattle.heap_table.proofs.KeptChanges.{kept_empty}
use Rattle.heap_table.proofs.heap.Heap.new.Goals as goal

pub invariant_of-result : goal.invariant_of-result
invariant_of-result c =
    let limits : are_limits c.args.slot_limit c.args.page_limit ≡ true = grind (arith, nat_tests) in
    record {
      kept = kept_empty _ _ c.new.ensures.records c.new-3.ensures.items c.new-2.ensures.pages c.new-2.ensures.limit limits (omega arith);
      room = omega (arith, c.new.ensures.room);
      txns = record {
        placed = λ txn e. absurd (false≢true (sym (ap (λ (a : List OpenTxn). is_open a txn) c.new-3.ensures.items) ∙ e));
        within = omega arith;
        over = λ txn n low by. ap (λ (a : List OpenTxn). is_open a txn) c.new-3.ensures.items;
      };
    }
