-- Each pair of the rows that stand has the key of its row.
use Rattle.std.proofs.Common.{◌≡◌, ℕ, zero, suc, ◌<◌, true, List, [], ◌∷◌, length, get_or, Some, sym, ap, ◌∙◌, subst, arith}
use Rattle.std.specs.Prelude.{filter_map, Bool, false, None, if◌then◌else◌}
use Rattle.std.specs.Option.{option_map}
use Rattle.std.specs.Ordering.{eq_by_cmp, is_eq}
use Rattle.std.proofs.lemmas.Cmp.{tied_itself}
use Rattle.std.proofs.lemmas.Option.{same_Some}
use Rattle.std.proofs.lemmas.Bool.{or_left, or_right}
use Rattle.keybytes.specs.Keys.{KeySpecValue, key_of, IsRowOf}
use Rattle.keybytes.specs.Cells.{fits}
use Rattle.keybytes.specs.declared.cell.Cell.{Cell}
use Rattle.keybytes.specs.declared.kind.Kind.{Kind}
use Rattle.heap_log.specs.declared.record.LogRec.{LogRec}
use Rattle.heap_log.specs.Standing.{live_at}
use Rattle.heap_table.specs.Kept.{RowsFit}
use Rattle.keybytes.specs.declared.pair.Pair.{Pair}
use Rattle.keybytes.specs.Conditions.{takes}
use Rattle.keybytes.specs.Pairs.{pair_cmp, pair_with, HaveKeysOf}
use Rattle.heap_table.specs.TablePairs.{pair_at, written_rids, pairs_at_rest}
use Rattle.keybytes.proofs.PairSets.{pairs_total, is_in, in_set}
use Rattle.heap_table.proofs.TablePairs.{all_listed, pair_there, row_there, row_written}

-- an element of a list is in it
in_own : (pairs : List Pair) (k : ℕ) (d : Pair) → k < length pairs → is_in (get_or pairs k d) pairs ≡ true
in_own [] k d below = absurd (omega arith)
in_own (p ∷ pairs) zero d below = or_left (eq_by_cmp pair_cmp p p) (is_in p pairs) (ap is_eq (tied_itself pairs_total p))
in_own (p ∷ pairs) (suc k) d below =
    or_right (eq_by_cmp pair_cmp (get_or pairs k d) p) (is_in (get_or pairs k d) pairs) (in_own pairs k d (omega arith))

-- the pair that an index has of a row has the row's key
own_key : (taken : Bool) (key : List ℕ) (q : Pair) → option_map (λ k. record { key = k; rid = q.rid }) (if taken then Some key else None) ≡ Some q
    → key ≡ q.key
own_key true key q e = ap (λ (p : Pair). p.key) (same_Some (record { key = key; rid = q.rid }) q e)
own_key false key q e = absurd (cc)

key_is : (spec : KeySpecValue) (log : List LogRec) (q : Pair) (row : List Cell) → pair_at spec log q.rid ≡ Some q → live_at log q.rid ≡ Some row
    → key_of spec row ≡ q.key
key_is spec log q row at live = own_key (takes spec.condition row) (key_of spec row) q (sym (ap (pair_with spec q.rid) live) ∙ at)

pub keys_at_rest : (spec : KeySpecValue) (kinds : List Kind) (log : List LogRec) → spec.kinds ≡ kinds → RowsFit kinds log
    → HaveKeysOf spec (pairs_at_rest spec log)
keys_at_rest spec kinds log same fit = λ k d below.
    let q = get_or (pairs_at_rest spec log) k d in
    let here : is_in q (filter_map (pair_at spec log) (written_rids log)) ≡ true =
    sym (in_set q (filter_map (pair_at spec log) (written_rids log))) ∙ in_own (pairs_at_rest spec log) k d below in
    let counts = sym (all_listed spec log (written_rids log) (row_written log) q) ∙ here in
    let at = pair_there (pair_at spec log q.rid) q counts in
    let row = row_there spec log q counts in
    let of_table : IsRowOf spec row.0 = record {
      is_row = fit.is_row q.rid row.0 row.1;
      fits_kinds = subst (λ (ks : List Kind). fits ks row.0 ≡ true) (sym same) (fit.fitting q.rid row.0 row.1);
    } in
    (row.0, (of_table, key_is spec log q row.0 at row.1))
