-- An index follows a change of a row: its pairs are those of the rows that stand before and after, and its guards follow the log.
use Rattle.std.proofs.Common.{◌≡◌, ℕ, true, List, ◌∷◌, [], ◌++◌, Option, None, Some, sym, ap, ◌∙◌, refl, subst, inl, inr}
use Rattle.std.specs.Prelude.{IfSome}
use Rattle.std.specs.FinMap.{contains_key, keys}
use Rattle.std.proofs.lemmas.Bool.{cases_Bool, false≢true}
use Rattle.std.proofs.lemmas.Option.{same_Some}
use Rattle.keybytes.proofs.ColumnOrder.{column_order}
use Rattle.keybytes.proofs.PairSets.{is_pair, same_members, set_of-keys}
use Rattle.keybytes.proofs.SameRids.{same_rid-true, same_rid-refl}
use Rattle.keybytes.specs.Keys.{KeySpecValue, are_key_columns}
use Rattle.keybytes.specs.Pairs.{pair_with, set_of, AreOrdered, HaveKeysOf, AreInColumnOrder}
use Rattle.keybytes.specs.Rids.{same_rid}
use Rattle.keybytes.specs.declared.cell.Cell.{Cell}
use Rattle.keybytes.specs.declared.kind.Kind.{Kind}
use Rattle.keybytes.specs.declared.pair.Pair.{Pair}
use Rattle.keybytes.specs.declared.rid.Rid.{Rid}
use Rattle.heap_log.specs.Standing.{live_at}
use Rattle.heap_log.specs.declared.record.LogRec.{LogRec}
use Rattle.heap_log.specs.declared.record.LogRec.TheVariants.{Write, Undo}
use Rattle.heap_table.proofs.KeysAtRest.{keys_at_rest}
use Rattle.heap_table.proofs.TablePairs.{own_pair, contains-index_pairs}
use Rattle.heap_table.specs.HeapState.{HeapState}
use Rattle.heap_table.specs.Kept.{RowsFit, IsTableRow}
use Rattle.heap_table.specs.Pages.{SetsRow}
use Rattle.heap_table.specs.Ready.{IsLawfulChange, after_change, after_ready}
use Rattle.heap_table.specs.TablePairs.{pair_at, index_pairs, pairs_at_rest}
use Rattle.heap_table.specs.declared.ready.Ready.{Ready}
use Rattle.visibility.proofs.Changes.{Turns, changes_turn}
use Rattle.visibility.specs.Applied.{apply_entries}
use Rattle.visibility.specs.SideEntries.{SideEntry, changes}
use Rattle.ready_indexes.specs.Indexes.{IsIndex}

module _ (spec : KeySpecValue) (log new : List LogRec) (rid : Rid) (cells : Option (List Cell)) (sets : SetsRow log rid cells new) where
  -- what the new row changes at its RID
  abbrev row_changes : List SideEntry
  row_changes = changes (pair_at spec log rid) (pair_with spec rid cells)

  row_turns : Turns rid (pair_with spec rid cells) row_changes (index_pairs spec log)
  row_turns =
      changes_turn rid (pair_at spec log rid) (pair_with spec rid cells) (index_pairs spec log) (own_pair spec rid (live_at log rid)) (own_pair spec rid cells)
      (λ q at. contains-index_pairs spec log q ∙ ap (λ r. is_pair (pair_at spec log r) q) at)

  row_members : (q : Pair) → contains_key (apply_entries row_changes (index_pairs spec log)) q ≡ contains_key (index_pairs spec new) q
  row_members q = elim (cases_Bool (same_rid rid q.rid)) [
    | inl here ↦
        let at : q.rid ≡ rid = sym (same_rid-true rid q.rid here) in
        row_turns.here q at
        ∙ sym (contains-index_pairs spec new q ∙ ap (λ r. is_pair (pair_at spec new r) q) at
        ∙ ap (λ (row : Option (List Cell)). is_pair (pair_with spec rid row) q) sets.here)
    | inr there ↦
        let other = λ (e : q.rid ≡ rid). false≢true (sym there ∙ ap (same_rid rid) e ∙ same_rid-refl rid) in
        row_turns.elsewhere q other ∙ contains-index_pairs spec log q
        ∙ sym (contains-index_pairs spec new q ∙ ap (λ (row : Option (List Cell)). is_pair (pair_with spec q.rid row) q) (sets.elsewhere q.rid other))
  ]

  -- applied to the pairs of the rows that stood, it leaves those of the rows that stand
  pub row_follows :
      (old : Option (List Cell)) (pairs left : List Pair) (entries : List SideEntry) → old ≡ live_at log rid → pairs ≡ pairs_at_rest spec log
      → entries ≡ changes (pair_with spec rid old) (pair_with spec rid cells) → set_of left ≡ apply_entries entries (set_of pairs) → AreOrdered left
      → left ≡ pairs_at_rest spec new
  row_follows old pairs left entries stood at_rest made applied order =
      let before : set_of pairs ≡ index_pairs spec log = ap set_of at_rest ∙ set_of-keys (index_pairs spec log) in
      let same : entries ≡ row_changes = made ∙ ap (λ (row : Option (List Cell)). changes (pair_with spec rid row) (pair_with spec rid cells)) stood in
      order
      ∙ ap keys (applied ∙ ap (apply_entries entries) before ∙ ap (λ es. apply_entries es (index_pairs spec log)) same
      ∙ same_members (apply_entries row_changes (index_pairs spec log)) (index_pairs spec new) row_members)

-- the pairs of the rows that stand are those of an index
pub rest_is_index :
    (spec : KeySpecValue) (kinds : List Kind) (log : List LogRec) (pairs : List Pair) → spec.kinds ≡ kinds → RowsFit kinds log
    → are_key_columns spec.kinds spec.columns ≡ true → pairs ≡ pairs_at_rest spec log → IsIndex spec pairs
rest_is_index spec kinds log pairs columns rows key at_rest = record {
  keys = subst (HaveKeysOf spec) (sym at_rest) (keys_at_rest spec kinds log columns rows);
  order = subst (AreInColumnOrder spec) (sym at_rest) (column_order spec (index_pairs spec log) key);
}

-- a record that the change adds to the log
pub schema_stays : (s : HeapState) (txn : ℕ) (rid : Rid) (undone : Option ℕ) (new : Option (List Cell)) → (after_change s txn rid undone new).schema ≡ s.schema
schema_stays s txn rid None new = refl
schema_stays s txn rid (Some n) new = refl

pub write_log : (s : HeapState) (ready : Ready) → ready.undone ≡ None → (after_ready s ready).log ≡ s.log ++ Write ready.txn ready.rid ready.new ∷ []
write_log s ready none = ap (λ o. (after_change s ready.txn ready.rid o ready.new).log) none

pub undo_log : (s : HeapState) (ready : Ready) (n : ℕ) → ready.undone ≡ Some n → (after_ready s ready).log ≡ s.log ++ Undo ready.txn n ∷ []
undo_log s ready n some = ap (λ o. (after_change s ready.txn ready.rid o ready.new).log) some

-- the rows that stand after a lawful change are rows of the table's columns
pub rows_fit_after : (s : HeapState) (ready : Ready) → RowsFit s.schema s.log → IsLawfulChange s ready → SetsRow s.log ready.rid ready.new (after_ready s ready).log
    → RowsFit s.schema (after_ready s ready).log
rows_fit_after s ready fit change sets = record {
  is_row = λ rid cells stands. (row_is rid cells stands).0;
  fitting = λ rid cells stands. (row_is rid cells stands).1;
} where
  new_row : (row : Option (List Cell)) (cells : List Cell) → ready.new ≡ row → row ≡ Some cells → IsTableRow s.schema cells
  new_row None cells is some = absurd (cc)
  new_row (Some row) cells is some = subst (IsTableRow s.schema) (same_Some row cells some) (by ready.new is change.new_fits) where
    by : (o : Option (List Cell)) → o ≡ Some row → IfSome o (IsTableRow s.schema) → IsTableRow s.schema row
    by None bad fits = absurd (cc)
    by (Some x) same fits = subst (IsTableRow s.schema) (same_Some x row same) fits

  row_is : (rid : Rid) (cells : List Cell) → live_at (after_ready s ready).log rid ≡ Some cells → IsTableRow s.schema cells
  row_is rid cells stands = elim (cases_Bool (same_rid ready.rid rid)) [
    | inl here ↦
        let at : rid ≡ ready.rid = sym (same_rid-true ready.rid rid here) in
        new_row ready.new cells refl (sym sets.here ∙ ap (live_at (after_ready s ready).log) (sym at) ∙ stands)
    | inr there ↦
        let other = λ (e : rid ≡ ready.rid). false≢true (sym there ∙ ap (same_rid ready.rid) e ∙ same_rid-refl ready.rid) in
        let stood = sym (sets.elsewhere rid other) ∙ stands in
        (fit.is_row rid cells stood, fit.fitting rid cells stood)
  ]
