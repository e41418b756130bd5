-- The theorems on the side-file: applied to the pairs that were read, it leaves the pairs of the rows that stand where the
-- build sees them, and each of its entries has effect.
use Rattle.std.proofs.Common.{◌≡◌, ℕ, ◌≤◌, Bool, true, false, cond, List, [], ◌∷◌, ◌++◌, length, take, drop, append_assoc, append-nil, Option, Some, None}
use Rattle.std.proofs.Common.{refl, sym, ap, ◌∙◌, subst, inl, inr, take_all, take-append-drop}
use Rattle.std.specs.Prelude.{nat_le, filter_map}
use Rattle.std.specs.FinSet.{FinSet}
use Rattle.std.specs.FinMap.{contains_key}
use Rattle.std.proofs.lemmas.Bool.{cases_Bool, cases_lt, false≢true, or_left, or_right, cond-true, cond-false, le-leb}
use Rattle.keybytes.specs.Keys.{KeySpecValue}
use Rattle.keybytes.specs.Pairs.{pair_cmp, set_of}
use Rattle.keybytes.specs.Rids.{same_rid}
use Rattle.keybytes.specs.declared.pair.Pair.{Pair}
use Rattle.keybytes.specs.declared.rid.Rid.{Rid}
use Rattle.keybytes.proofs.PairSets.{is_pair, IsOwn, contains-set_of, same_members, all_gathered}
use Rattle.keybytes.proofs.SameRids.{same_rid-true, same_rid-refl}
use Rattle.heap_log.specs.Growing.{changed_rid}
use Rattle.heap_log.specs.Standing.{live_at}
use Rattle.heap_log.specs.declared.record.LogRec.{LogRec}
use Rattle.heap_log.proofs.Growing.{is_rid, live_kept}
use Rattle.heap_table.specs.TablePairs.{pair_at, written_rids, index_pairs}
use Rattle.heap_table.proofs.TablePairs.{own_pair, row_there, row_written, contains-index_pairs}
use Rattle.build_events.specs.Scanning.{Scanning, scanned_at, is_by, is_visible, scanned_pairs, IsScanned, AllScanned}
use Rattle.visibility.specs.SideEntries.{SideEntry, changes}
use Rattle.build_events.specs.SideEntries.{entries_for, entries_of, entries_from, side_entries, visible_pair, visible_pairs}
use Rattle.visibility.specs.Applied.{apply_entries, HaveEffect}
use Rattle.visibility.proofs.Changes.{Turns, changes_turn, apply-append, effect-append}
use Rattle.build_events.proofs.Seen.{HasSeen, IsScanAt, scan_at, seen, scan_pair, hidden_stays, shown_next, seen_kept, opened_seen, seen_all}

-- the entries have effect, and leave what is seen once these records are looked at
record Leads (b : Scanning) (log next : List LogRec) (es : List SideEntry) (s : FinSet pair_cmp) : Type 0 where
  effect : HaveEffect es s
  has : HasSeen b log next (apply_entries es s)

-- what a record changes at a RID
abbrev pub changes_at : KeySpecValue → List LogRec → LogRec → Rid → List SideEntry
changes_at spec log rec rid = changes (pair_at spec log rid) (pair_at spec (log ++ rec ∷ []) rid)

own_at : (spec : KeySpecValue) (log : List LogRec) (rid : Rid) → IsOwn rid (pair_at spec log rid)
own_at spec log rid = own_pair spec rid (live_at log rid)

module _
    (b : Scanning) (log first : List LogRec) (rec : LogRec) (rest : List LogRec) (split : log ≡ (first ++ rec ∷ []) ++ rest)
    (s : FinSet pair_cmp) (has : HasSeen b log first s) where
  -- at other RIDs than the record's
  others :
      (q : Pair) → is_rid q.rid (changed_rid first rec) ≡ false → contains_key s q ≡ is_pair (seen b log (first ++ rec ∷ []) q.rid) q
  others q other = has q ∙ sym (ap (λ o. is_pair o q) (seen_kept b log first rec rest split q.rid (live_kept first rec q.rid other)))

  -- its RID is seen
  at_shown :
      (rid : Rid) → changed_rid first rec ≡ Some rid → is_visible b (length first) rid ≡ true
      → Leads b log (first ++ rec ∷ []) (changes_at b.spec first rec rid) s
  at_shown rid is shown =
      let next : List LogRec = first ++ rec ∷ [] in
      let old : Option Pair = pair_at b.spec first rid in
      let new : Option Pair = pair_at b.spec next rid in
      let sees : seen b log first rid ≡ old =
      cond-true (is_visible b (length first) rid) old (scan_pair b log (scanned_at b.scans rid.page) rid) shown in
      let turn : Turns rid new (changes old new) s =
      changes_turn rid old new s (own_at b.spec first rid) (own_at b.spec next rid) (λ q at.
      has q ∙ ap (λ o. is_pair o q) (ap (seen b log first) at ∙ sees)) in
      record {
        effect = turn.effect;
        has = λ q. elim (cases_Bool (same_rid rid q.rid)) [
          | inl here ↦
              let at : q.rid ≡ rid = sym (same_rid-true rid q.rid here) in
              turn.here q at ∙ sym (ap (λ o. is_pair o q) (ap (seen b log next) at ∙ shown_next b log first rec rest split rid shown))
          | inr other ↦
              turn.elsewhere q (λ e. false≢true (sym other ∙ ap (same_rid rid) e ∙ same_rid-refl rid))
              ∙ others q (ap (is_rid q.rid) is ∙ other)
        ];
      }

  -- its RID isn't seen
  at_hidden :
      (rid : Rid) → changed_rid first rec ≡ Some rid → is_visible b (length first) rid ≡ false
      → Leads b log (first ++ rec ∷ []) [] s
  at_hidden rid is hidden = record {
    effect = tt;
    has = λ q. elim (cases_Bool (same_rid rid q.rid)) [
      | inl here ↦
          let at : rid ≡ q.rid = same_rid-true rid q.rid here in
          let hidden_there : is_visible b (length first) q.rid ≡ false = sym (ap (is_visible b (length first)) at) ∙ hidden in
          has q ∙ sym (ap (λ o. is_pair o q) (hidden_stays b log first rec rest split q.rid hidden_there))
      | inr other ↦ others q (ap (is_rid q.rid) is ∙ other)
    ];
  }

  leads_by : (o : Option Rid) → changed_rid first rec ≡ o → Leads b log (first ++ rec ∷ []) (entries_for b first rec o) s
  leads_by None is = record { effect = tt; has = λ q. others q (ap (is_rid q.rid) is) }
  leads_by (Some rid) is =
      let P : List SideEntry → Type 0 = λ es. Leads b log (first ++ rec ∷ []) es s in
      let here : List SideEntry = changes_at b.spec first rec rid in
      elim (cases_Bool (is_visible b (length first) rid)) [
        | inl shown ↦ subst P (sym (cond-true (is_visible b (length first) rid) here [] shown)) (at_shown rid is shown)
        | inr hidden ↦ subst P (sym (cond-false (is_visible b (length first) rid) here [] hidden)) (at_hidden rid is hidden)
      ]

leads_on :
    (b : Scanning) (log first rest : List LogRec) → log ≡ first ++ rest → (s : FinSet pair_cmp) → HasSeen b log first s
    → Leads b log log (entries_from b first rest) s
leads_on b log first [] split s has = record {
  effect = tt;
  has = λ q. has q ∙ ap (λ l. is_pair (seen b log l q.rid) q) (sym (split ∙ append-nil first));
}
leads_on b log first (rec ∷ rest) split s has =
    let next : List LogRec = first ++ rec ∷ [] in
    let es : List SideEntry = entries_of b first rec in
    let split_next : log ≡ next ++ rest = split ∙ sym (append_assoc first (rec ∷ []) rest) in
    let one : Leads b log next es s = leads_by b log first rec rest split_next s has (changed_rid first rec) refl in
    let more : Leads b log log (entries_from b next rest) (apply_entries es s) =
    leads_on b log next rest split_next (apply_entries es s) one.has in
    record {
      effect = effect-append es (entries_from b next rest) s one.effect more.effect;
      has = λ q. ap (λ t. contains_key t q) (apply-append es (entries_from b next rest) s) ∙ more.has q;
    }

module _ (b : Scanning) (log : List LogRec) (is : IsScanned b log) where
  leads : (s : FinSet pair_cmp) → s ≡ set_of (scanned_pairs b log) → Leads b log log (side_entries b log) s
  leads s made =
      leads_on b log (take b.opened log) (drop b.opened log) (sym (take-append-drop b.opened log)) s
      (opened_seen b log is s (λ q. ap (λ t. contains_key t q) made ∙ contains-set_of (scanned_pairs b log) q))

  -- each entry has effect at its turn
  pub entries_have_effect : HaveEffect (side_entries b log) (set_of (scanned_pairs b log))
  entries_have_effect = (leads (set_of (scanned_pairs b log)) refl).effect

  -- the members that the side-file leaves
  pub members_left :
      (q : Pair)
      → contains_key (apply_entries (side_entries b log) (set_of (scanned_pairs b log))) q ≡ is_pair (visible_pair b log q.rid) q
  members_left q = (leads (set_of (scanned_pairs b log)) refl).has q ∙ ap (λ o. is_pair o q) (seen_all b log is q.rid)

  own_visible : (rid : Rid) (shown : Bool) → IsOwn rid (cond shown (pair_at b.spec log rid) None)
  own_visible rid true p e = own_at b.spec log rid p e
  own_visible rid false p e = absurd (cc)

  visible_row :
      (q : Pair) (shown : Bool) → is_pair (cond shown (pair_at b.spec log q.rid) None) q ≡ true
      → is_pair (pair_at b.spec log q.rid) q ≡ true
  visible_row q true e = e
  visible_row q false e = absurd (false≢true e)

  visible_members : (q : Pair) → contains_key (visible_pairs b log) q ≡ is_pair (visible_pair b log q.rid) q
  visible_members q =
      contains-set_of (filter_map (visible_pair b log) (written_rids log)) q
      ∙ all_gathered (visible_pair b log) (λ rid. own_visible rid (is_visible b (length log) rid)) q (written_rids log)
      (λ e. let row = row_there b.spec log q (visible_row q (is_visible b (length log) q.rid) e) in row_written log q.rid row.0 row.1)

  -- the side-file leaves the pairs of the rows that stand where the build sees them
  pub leaves_visible : apply_entries (side_entries b log) (set_of (scanned_pairs b log)) ≡ visible_pairs b log
  leaves_visible =
      same_members (apply_entries (side_entries b log) (set_of (scanned_pairs b log))) (visible_pairs b log) (λ q.
      members_left q ∙ sym (visible_members q))

  all_visible : AllScanned b → (rid : Rid) → is_visible b (length log) rid ≡ true
  all_visible all rid =
      let at : Option ℕ = scanned_at b.scans rid.page in
      elim (cases_lt rid.page b.pages) [
        | inl old ↦
            let scan = all rid.page old in
            let it : IsScanAt b log rid.page scan.0 = scan_at b log b.scans is.scans rid.page scan.0 scan.1 in
            or_right (nat_le b.pages rid.page) (is_by (length log) at) (ap (is_by (length log)) scan.1 ∙ le-leb scan.0 (length log) it.within)
        | inr newer ↦ or_left (nat_le b.pages rid.page) (is_by (length log) at) (le-leb b.pages rid.page newer)
      ]

  -- once each page is read, it leaves the pairs of all rows that stand
  pub leaves_index : AllScanned b → apply_entries (side_entries b log) (set_of (scanned_pairs b log)) ≡ index_pairs b.spec log
  leaves_index all =
      same_members (apply_entries (side_entries b log) (set_of (scanned_pairs b log))) (index_pairs b.spec log) (λ q.
      members_left q
      ∙ ap (λ o. is_pair o q) (cond-true (is_visible b (length log) q.rid) (pair_at b.spec log q.rid) None (all_visible all q.rid))
      ∙ sym (contains-index_pairs b.spec log q))

-- the entries applied one after another: once all are, the set is the index
pub caught_up :
    (b : Scanning) (log : List LogRec) (count : ℕ) → IsScanned b log → AllScanned b → length (side_entries b log) ≤ count
    → apply_entries (take count (side_entries b log)) (set_of (scanned_pairs b log)) ≡ index_pairs b.spec log
caught_up b log count is all done =
    ap (λ es. apply_entries es (set_of (scanned_pairs b log))) (take_all count (side_entries b log) done) ∙ leaves_index b log is all
