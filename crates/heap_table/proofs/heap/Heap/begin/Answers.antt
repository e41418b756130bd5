use Rattle.std.proofs.Common.{◌≡◌, ◌∙◌, List, refl, ap, arith}
use Rattle.heap_log.specs.declared.record.LogRec.{LogRec}
use Rattle.heap_table.specs.Kept.{ended_to}
use Rattle.heap_table.specs.declared.open_txn.OpenTxn.{OpenTxn}
use Rattle.heap_table.proofs.KeptChanges.{kept_same}
use Rattle.heap_table.proofs.KeptTxns.{txns_begun}
use Rattle.heap_table.proofs.Sounds.{sound_begin}
use Rattle.heap_table.proofs.heap.Heap.begin.Goals as goal

pub invariant_of-self-2 : goal.invariant_of-self-2
invariant_of-self-2 c =
    let log = c.in_ok-reserve_txn.ensures.records in
    let active = c.in_ok-push.ensures.items in
    let ended : c.ended_to-ended.result ≡ ended_to c.self.inside.open_txns.items c.self.inside.log.records c.self.inside.ended =
    c.ended_to-ended.ensures
    ∙ ap (λ (txns : List OpenTxn). ended_to txns c.reserve_txn.new.self.records c.self.inside.ended) c.deref.ensures.value
    ∙ ap (λ (l : List LogRec). ended_to c.self.inside.open_txns.items l c.self.inside.ended) log in
    record {
      kept = kept_same _ _ _ _ log refl refl refl refl refl (sound_begin _ _ c.self.invariant.kept.sound log active refl) c.self.invariant.kept;
      room = omega (arith, c.in_ok-reserve_txn.ensures.room, c.self.invariant.room);
      txns = txns_begun _ _ _ _ _ _ c.self.invariant.kept.sound c.self.invariant.txns log active c.in_ok-reserve_txn.ensures.kept
          c.in_ok-reserve_txn.ensures.ok ended;
    }
