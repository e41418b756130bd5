-- The guards follow the log in each call.
use Rattle.std.specs.List.{position}
use Rattle.std.proofs.Common.{get_or, Option, Some, None, sym, ap, arith, ◌∙◌, ◌≡◌, ◌+◌, false, length, ℕ, true, List, [], ◌∷◌, ◌++◌, inl, inr}
use Rattle.std.proofs.Math.ListN.{set}
use Rattle.std.proofs.lemmas.List.Quantifiers.{position-Some}
use Rattle.std.proofs.lemmas.Bool.{eqb-true, cases_Bool, false≢true}
use Rattle.keybytes.specs.declared.cell.Cell.{Cell}
use Rattle.keybytes.specs.declared.rid.Rid.{Rid}
use Rattle.heap_log.specs.declared.record.LogRec.TheVariants.{Write, Undo, Commit, Switch}
use Rattle.heap_log.specs.Standing.{live_at, record_at, newest_standing, txn_of, IsWrite}
use Rattle.heap_log.proofs.Growing.{undone-past}
use Rattle.heap_table.specs.Holders.{committed}
use Rattle.key_guards.specs.GuardLists.{key_taken, AreTakenIn, AreUndone}
use Rattle.key_guards.proofs.Undoing.{list_undo}
use Rattle.key_guards.specs.Guarded.{IsLetIn, GuardsValue, IsGuarded}
use Rattle.key_guards.specs.TxnGuards.{TxnValue}
use Rattle.key_guards.proofs.Logging.{Logged, logged}
use Rattle.key_guards.proofs.GuardChanges.{guards_write, guards_commit, guards_undo, guards_switch}
use Rattle.key_guards.proofs.GuardLists.{list_write, list_kept, list_commit, list_switch}
use Rattle.key_guards.proofs.Tables.{write_keeps, all_committed, writes_are_held}
use Rattle.std.specs.Prelude.{◌==◌, filter, not}
use Rattle.std.proofs.lemmas.List.Elements.{All-nil}
use Rattle.keybytes.specs.Keys.{KeySpecValue}
use Rattle.heap_log.specs.declared.outcome.Outcome.{Outcome}
use Rattle.heap_log.specs.declared.record.LogRec.{LogRec}
use Rattle.heap_log.specs.Growing.{UndoesNameEarlier}
use Rattle.heap_log.proofs.Numbers.{newest_standing-write}
use Rattle.heap_table.specs.HeapState.{HeapState, is_open, busy_txns}
use Rattle.heap_table.specs.Sound.{HoldsFollowLog}
use Rattle.key_guards.specs.UniqueKeys.{KeysAreUnique, UniqueKeysAreGuarded, GuardsKey, AllIsCommitted}
use Rattle.key_guards.specs.KeyRefusals.{took_key}
use Rattle.key_guards.proofs.Steps.{unique_at_rest, unique_commit, unique_switch, unique_undo}
use Rattle.key_guards.proofs.OneGuard.{guarded}
use Rattle.key_guards.proofs.Refusals.{guards_by}

pub guarded_commit :
    (spec : KeySpecValue) (log : List LogRec) (txn : ℕ) (v w : GuardsValue) → UndoesNameEarlier log → w.txns ≡ filter (λ t. not (t.txn == txn)) v.txns
    → IsGuarded spec log v → IsGuarded spec (log ++ Commit txn ∷ []) w
guarded_commit spec log txn v w undos after h =
    let added : Logged log (Commit txn) (log ++ Commit txn ∷ []) = logged log (Commit txn) undos tt in
    record {
      unique = unique_commit spec log txn h.unique;
      listed = rw after (list_commit spec log (log ++ Commit txn ∷ []) txn v.txns added (guards_commit spec log (log ++ Commit txn ∷ []) txn added) h.listed);
    }

pub guarded_switch :
    (spec : KeySpecValue) (log : List LogRec) (verdicts : List Outcome) (v : GuardsValue) → UndoesNameEarlier log
    → IsGuarded spec log v → IsGuarded spec (log ++ Switch verdicts ∷ []) v
guarded_switch spec log verdicts v undos h =
    let added : Logged log (Switch verdicts) (log ++ Switch verdicts ∷ []) = logged log (Switch verdicts) undos tt in
    record {
      unique = unique_switch spec log verdicts h.unique;
      listed = list_switch spec log (log ++ Switch verdicts ∷ []) verdicts v.txns added
          (guards_switch spec log (log ++ Switch verdicts ∷ []) verdicts added) h.listed;
    }

pub guarded_undo :
    (spec : KeySpecValue) (s : HeapState) (txn n : ℕ) (v w : GuardsValue) → HoldsFollowLog s → UndoesNameEarlier s.log
    → is_open s.active txn ≡ true → newest_standing s.log txn ≡ Some n → AreUndone n v.txns w.txns
    → IsGuarded spec s.log v → IsGuarded spec (s.log ++ Undo txn n ∷ []) w
guarded_undo spec s txn n v w holds undos opened newest after h =
    let live : committed s.log txn ≡ false = holds.uncommitted txn opened in
    let is : IsWrite s.log n = newest_standing-write s.log txn n newest in
    let added : Logged s.log (Undo txn n) (s.log ++ Undo txn n ∷ []) = logged s.log (Undo txn n) undos (is.low, is.high) in
    record {
      unique = unique_undo spec s.log txn n live newest h.unique;
      listed = list_undo spec s.log (s.log ++ Undo txn n ∷ []) txn n v.txns w.txns added
          (guards_undo spec s.log (s.log ++ Undo txn n ∷ []) txn n added live newest (writes_are_held s holds)) newest after h.listed;
    }

-- where all that stands is committed, nothing is guarded
took_nothing : (spec : KeySpecValue) (log : List LogRec) (key : List ℕ) (n : ℕ) → AllIsCommitted log → took_key spec log key n ≡ false
took_nothing spec log key n all = elim (cases_Bool (took_key spec log key n)) [
  | inr none ↦ none
  | inl took ↦
      let g : GuardsKey spec log (txn_of (record_at log n)) key = guards_by spec log key n took in
      absurd (false≢true (sym g.uncommitted ∙ all.each (txn_of (record_at log n)) g.number g.stands))
]

-- a table at rest has no guards
pub guarded_at_rest : (spec : KeySpecValue) (s : HeapState) (v : GuardsValue) → HoldsFollowLog s → busy_txns s ≡ [] → KeysAreUnique spec s.log
    → v.txns ≡ [] → IsGuarded spec s.log v
guarded_at_rest spec s v holds rest unique none =
    let all : AllIsCommitted s.log = all_committed s holds rest in
    record {
      unique = unique_at_rest spec s.log all unique;
      listed = rw none record { each = All-nil (AreTakenIn s.log); listed = λ key n. sym (took_nothing spec s.log key n all) };
    }

pub keys_are_guarded : (spec : KeySpecValue) (s : HeapState) (v : GuardsValue) → HoldsFollowLog s → IsGuarded spec s.log v → UniqueKeysAreGuarded spec s.log
keys_are_guarded spec s v holds h = guarded spec s.log h.unique (writes_are_held s holds)

-- a write that takes a key, put with its transaction's
pub guarded_write :
    (spec : KeySpecValue) (index : ℕ) (s : HeapState) (txn : ℕ) (rid : Rid) (row : Option (List Cell)) (number : ℕ) (key : List ℕ) (v : GuardsValue) (at : ℕ) (t d : TxnValue)
    → IsLetIn spec index s txn rid row → number ≡ length s.log + 1 → Some key ≡ key_taken spec (live_at s.log rid) row
    → position (λ u. u.txn == txn) v.txns ≡ Some at → t.txn ≡ (get_or v.txns at d).txn
    → t.taken ≡ (get_or v.txns at d).taken ++ record { number = number; key = key } ∷ []
    → IsGuarded spec s.log v → IsGuarded spec (s.log ++ Write txn rid row ∷ []) (record { txns = set v.txns at t })
guarded_write spec index s txn rid row number key v at t d let_in number_is taken_is place by taken h =
    let live : committed s.log txn ≡ false = let_in.holds.uncommitted txn let_in.writer.opened in
    let added : Logged s.log (Write txn rid row) (s.log ++ Write txn rid row ∷ []) = logged s.log (Write txn rid row) let_in.undos tt in
    let found = position-Some (λ u. u.txn == txn) v.txns at d place in
    let was_by : (get_or v.txns at d).txn ≡ txn = eqb-true (get_or v.txns at d).txn txn found.1 in
    record {
      unique = write_keeps index spec s txn rid row let_in.holds live let_in.writer.free let_in.accepted h.unique;
      listed = list_write spec s.log (s.log ++ Write txn rid row ∷ []) txn rid row v.txns at t d key added
          (guards_write spec s.log (s.log ++ Write txn rid row ∷ []) txn rid row added live (undone-past s.log let_in.undos (length s.log + 1) (omega arith)))
          (sym taken_is) found.0 (by ∙ was_by) was_by (taken ∙ ap (λ k. (get_or v.txns at d).taken ++ record { number = k; key = key } ∷ []) number_is) h.listed;
    }

-- a write that takes none
pub guarded_kept :
    (spec : KeySpecValue) (index : ℕ) (s : HeapState) (txn : ℕ) (rid : Rid) (row : Option (List Cell)) (v : GuardsValue)
    → IsLetIn spec index s txn rid row → None ≡ key_taken spec (live_at s.log rid) row → IsGuarded spec s.log v → IsGuarded spec (s.log ++ Write txn rid row ∷ []) v
guarded_kept spec index s txn rid row v let_in taken_is h =
    let live : committed s.log txn ≡ false = let_in.holds.uncommitted txn let_in.writer.opened in
    let added : Logged s.log (Write txn rid row) (s.log ++ Write txn rid row ∷ []) = logged s.log (Write txn rid row) let_in.undos tt in
    record {
      unique = write_keeps index spec s txn rid row let_in.holds live let_in.writer.free let_in.accepted h.unique;
      listed = list_kept spec s.log (s.log ++ Write txn rid row ∷ []) txn rid row v.txns added
          (guards_write spec s.log (s.log ++ Write txn rid row ∷ []) txn rid row added live (undone-past s.log let_in.undos (length s.log + 1) (omega arith)))
          (sym taken_is) h.listed;
    }
