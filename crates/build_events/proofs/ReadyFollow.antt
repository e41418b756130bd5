-- The ready indexes beside calls of the table that change no row.
use Rattle.std.proofs.Common.{◌≡◌, ℕ, List, Option, None, Result, Ok, Err, sym, ap, ◌∙◌, inl, inr}
use Rattle.std.proofs.lemmas.List.Elements.{All-weaker}
use Rattle.std.proofs.lemmas.List.Folds.{map_fixed}
use Rattle.keybytes.specs.Answered.{Answered}
use Rattle.keybytes.specs.declared.fault.Fault.{Fault}
use Rattle.keybytes.specs.declared.pair.Pair.{Pair}
use Rattle.heap_log.specs.Standing.{newest_standing}
use Rattle.heap_log.specs.declared.record.LogRec.{LogRec}
use Rattle.heap_table.specs.Calls.{OnState, Undoes}
use Rattle.heap_table.specs.HeapState.{HeapState, after_step, undo_refusal}
use Rattle.heap_table.specs.HeapValue.{HeapValue}
use Rattle.heap_table.specs.TablePairs.{pairs_at_rest}
use Rattle.heap_table.specs.declared.undone.Undone.{Undone}
use Rattle.ready_indexes.specs.Indexes.{ReadyValue, FollowTable, index_now, ready_now}
use Rattle.build_events.specs.CoreState.{LiveState, live_with_heap}
use Rattle.build_events.specs.Steps.{OnRows}

-- those that follow it already stay as they are
pub already_now : (log : List LogRec) (ready : List ReadyValue) → FollowTable log ready → ready_now log ready ≡ ready
already_now log ready follow =
    map_fixed (λ (index : ReadyValue). index_now log index.spec) ready
    (All-weaker (λ (index : ReadyValue). index.pairs ≡ pairs_at_rest index.spec log) (λ (index : ReadyValue). index_now log index.spec ≡ index)
    (λ index same. ap (λ (pairs : List Pair). record { spec = index.spec; pairs = pairs }) (sym same)) ready follow)

-- a call of the table, told of its state alone
pub by_state :
    {R : Type 0} (cause : Option Fault) (Does : HeapState → R → HeapState → Type 0) (old new : HeapValue) (answer : Result R Fault)
    → Answered cause (OnState Does) old answer new → Answered cause Does old.state answer new.state
by_state cause Does old new (Ok told) does = does
by_state cause Does old new (Err fault) (inl caused) = inl (caused.0, ap (λ (h : HeapValue). h.state) caused.1)
by_state cause Does old new (Err fault) (inr wants) = inr (wants.0, wants.1, ap (λ (h : HeapValue). h.state) wants.2)

-- a transaction that has no write to undo ends, and the ready indexes stay as they are
pub ends_without :
    (live : LiveState) (new : HeapState) (txn : ℕ) (answer : Result Undone Fault) → newest_standing live.heap.log txn ≡ None
    → FollowTable live.heap.log live.ready → Answered (undo_refusal live.heap txn) (Undoes txn) live.heap answer new
    → Answered (undo_refusal live.heap txn) (OnRows (Undoes txn)) live answer (live_with_heap live new)
ends_without live new txn (Ok undone) none follow does =
    let same : new.log ≡ live.heap.log = ap (λ (h : HeapState). h.log) does.1.2 ∙ ap (λ o. (after_step live.heap txn o).log) none in
    let ready : live.ready ≡ ready_now new.log live.ready =
    sym (ap (λ l. ready_now l live.ready) same ∙ already_now live.heap.log live.ready follow) in
    (does.0, (does.1, ap (λ rs. record live { heap = new; ready = rs }) ready))
ends_without live new txn (Err fault) none follow (inl caused) = inl (caused.0, ap (live_with_heap live) caused.1)
ends_without live new txn (Err fault) none follow (inr wants) = inr (wants.0, wants.1, ap (live_with_heap live) wants.2)
