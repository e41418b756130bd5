use Rattle.std.proofs.Common.{refl, arith}
use Rattle.heap_table.proofs.KeptChanges.{kept_same}
use Rattle.heap_table.proofs.KeptTxns.{txns_same}
use Rattle.heap_table.proofs.Sounds.{sound_same}
use Rattle.heap_table.proofs.heap.Heap.reserve.Goals as goal

pub invariant_of-self-in_err-reserve_at : goal.invariant_of-self-in_err-reserve_at
invariant_of-self-in_err-reserve_at c =
    record {
      kept = kept_same _ _ c.self.inside.pages c.reserve.new.self c.in_err-reserve_at.ensures.records refl refl refl c.in_ok-reserve.ensures.pages
          c.in_ok-reserve.ensures.limit
          (sound_same _ _ c.in_err-reserve_at.ensures.records refl refl c.self.invariant.kept.sound) c.self.invariant.kept;
      room = let same = c.in_err-reserve_at.ensures.err in rw same (omega (arith, c.in_ok-reserve.ensures.spare, c.self.invariant.room));
      txns = txns_same _ _ _ _ _ c.self.invariant.txns c.in_err-reserve_at.ensures.records (λ txn e. e) (omega (arith, c.in_err-reserve_at.ensures.txns));
    }

pub invariant_of-self-2 : goal.invariant_of-self-2
invariant_of-self-2 c =
    record {
      kept = kept_same _ _ c.self.inside.pages c.reserve.new.self c.in_ok-reserve_at.ensures.records refl refl refl c.in_ok-reserve.ensures.pages
          c.in_ok-reserve.ensures.limit
          (sound_same _ _ c.in_ok-reserve_at.ensures.records refl refl c.self.invariant.kept.sound) c.self.invariant.kept;
      room = omega (arith, c.in_ok-reserve.ensures.ok, c.in_ok-reserve.ensures.spare, c.in_ok-reserve_at.ensures.room, c.self.invariant.room);
      txns = txns_same _ _ _ _ _ c.self.invariant.txns c.in_ok-reserve_at.ensures.records (λ txn e. e) (omega (arith, c.in_ok-reserve_at.ensures.txns));
    }
