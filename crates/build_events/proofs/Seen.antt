-- What a build has of each RID once it has looked at the first records of a log: the pair that stands there, where it sees
-- the RID by then, and else the pair that it will read.
use Rattle.std.proofs.Common.{◌≡◌, ℕ, ◌+◌, ◌<◌, ◌≤◌, Bool, true, false, cond, List, [], ◌∷◌, ◌++◌, length, take, Option, Some, None, refl, sym, ap, ◌∙◌}
use Rattle.std.proofs.Common.{inl, inr, arith, length-take-le, take_at}
use Rattle.std.specs.Prelude.{◌||◌, ◌&&◌, ◌==◌, nat_le, flat_map}
use Rattle.std.specs.List.{All}
use Rattle.std.specs.Ordering.{eq_by_cmp}
use Rattle.std.specs.FinSet.{FinSet}
use Rattle.std.specs.FinMap.{contains_key}
use Rattle.std.proofs.lemmas.Bool.{cases_Bool, false≢true, or_cases, or_parts, or_left, or_right, cond-true, cond-false, eqb-true, leb-true, leb-false, le-leb}
use Rattle.std.proofs.lemmas.Option.{same_Some}
use Rattle.std.proofs.lemmas.List.Elements.{All-head, All-tail}
use Rattle.std.proofs.lemmas.List.Folds.{list_any-append}
use Rattle.keybytes.specs.Keys.{KeySpecValue}
use Rattle.keybytes.specs.Pairs.{pair_cmp, pair_with}
use Rattle.keybytes.specs.declared.pair.Pair.{Pair}
use Rattle.keybytes.specs.declared.rid.Rid.{Rid}
use Rattle.keybytes.proofs.PairSets.{is_in, is_pair}
use Rattle.heap_log.specs.Growing.{first_records}
use Rattle.heap_log.specs.Standing.{live_at}
use Rattle.heap_log.specs.declared.record.LogRec.{LogRec}
use Rattle.heap_log.proofs.Records.{length-added, or_no}
use Rattle.heap_table.specs.Pages.{pages_written}
use Rattle.heap_table.specs.TablePairs.{pair_at}
use Rattle.heap_table.proofs.LogRows.{rows_are_inside}
use Rattle.heap_table.proofs.Small.{some_or_none}
use Rattle.heap_table.proofs.TablePairs.{on_page}
use Rattle.build_events.specs.Scanning.{Scanning, scanned_at, is_by, is_visible, pairs_at_scan, scanned_pairs, IsScanOf, ReadOnce, IsScanned}
use Rattle.build_events.specs.SideEntries.{visible_pair}
use Rattle.build_events.specs.declared.scan.Scan.{Scan}

-- the pair that the build reads at a RID whose page is read then
abbrev pub scan_pair : Scanning → List LogRec → Option ℕ → Rid → Option Pair
scan_pair b log None rid = None
scan_pair b log (Some records) rid = pair_at b.spec (first_records records log) rid

-- the pair at a RID once the build has looked at the first records
abbrev pub seen : Scanning → List LogRec → List LogRec → Rid → Option Pair
seen b log first rid =
    cond (is_visible b (length first) rid) (pair_at b.spec first rid) (scan_pair b log (scanned_at b.scans rid.page) rid)

-- the set has these pairs
abbrev pub HasSeen : Scanning → List LogRec → List LogRec → FinSet pair_cmp → Type 0
HasSeen b log first s = (q : Pair) → contains_key s q ≡ is_pair (seen b log first q.rid) q

-- what is known of the scan of a page
pub record IsScanAt (b : Scanning) (log : List LogRec) (number records : ℕ) : Type 0 where
  pub page : number < b.pages
  pub opened : b.opened ≤ records
  pub within : records ≤ length log

pub scan_at :
    (b : Scanning) (log : List LogRec) (scans : List Scan) → All (IsScanOf b log) scans
    → (page k : ℕ) → scanned_at scans page ≡ Some k → IsScanAt b log page k
scan_at b log [] all page k e = absurd (cc)
scan_at b log (scan ∷ scans) all page k e =
    let rest : Option ℕ = scanned_at scans page in
    elim (cases_Bool (scan.page == page)) [
      | inl here ↦
          let at : scan.page ≡ page = eqb-true scan.page page here in
          let then : scan.records ≡ k =
          same_Some scan.records k (sym (cond-true (scan.page == page) (Some scan.records) rest here) ∙ e) in
          let it : IsScanOf b log scan = All-head (IsScanOf b log) scan scans all in
          record { page = omega (arith, it.page); opened = omega (arith, it.opened); within = omega (arith, it.within) }
      | inr other ↦
          scan_at b log scans (All-tail (IsScanOf b log) scan scans all) page k
          (sym (cond-false (scan.page == page) (Some scan.records) rest other) ∙ e)
    ]

-- the pairs that were read are those of the RIDs on pages that were
scanned_in :
    (b : Scanning) (log : List LogRec) (q : Pair) (scans : List Scan) → ReadOnce scans
    → is_in q (flat_map (pairs_at_scan b log) scans) ≡ is_pair (scan_pair b log (scanned_at scans q.rid.page) q.rid) q
scanned_in b log q [] once = refl
scanned_in b log q (scan ∷ scans) once =
    let rest : List Pair = flat_map (pairs_at_scan b log) scans in
    let later : Option ℕ = scanned_at scans q.rid.page in
    let there : Bool = is_pair (pair_at b.spec (first_records scan.records log) q.rid) q in
    let by : Option ℕ → Bool = λ o. is_pair (scan_pair b log o q.rid) q in
    let start : is_in q (pairs_at_scan b log scan ++ rest) ≡ ((scan.page == q.rid.page) && there || is_in q rest) =
    list_any-append (eq_by_cmp pair_cmp q) (pairs_at_scan b log scan) rest
    ∙ ap (λ x. x || is_in q rest) (on_page b.spec (first_records scan.records log) scan.page q) in
    let in_scans : is_in q rest ≡ by later = scanned_in b log q scans once.1 in
    elim (cases_Bool (scan.page == q.rid.page)) [
      | inl here ↦
          let same : scan.page ≡ q.rid.page = eqb-true scan.page q.rid.page here in
          let none : later ≡ None = sym (ap (scanned_at scans) same) ∙ once.0 in
          start ∙ ap (λ x. x && there || is_in q rest) here
          ∙ ap (λ x. there || x) (in_scans ∙ ap by none)
          ∙ or_no there
          ∙ sym (ap by (cond-true (scan.page == q.rid.page) (Some scan.records) later here))
      | inr other ↦
          start ∙ ap (λ x. x && there || is_in q rest) other
          ∙ in_scans
          ∙ sym (ap by (cond-false (scan.page == q.rid.page) (Some scan.records) later other))
    ]

is_by_more : (count : ℕ) (o : Option ℕ) → is_by count o ≡ true → is_by (count + 1) o ≡ true
is_by_more count None e = absurd (false≢true e)
is_by_more count (Some k) e = let less : k ≤ count = leb-true k count e in le-leb k (count + 1) (omega arith)

-- what is seen stays so
pub visible_more : (b : Scanning) (count : ℕ) (rid : Rid) → is_visible b count rid ≡ true → is_visible b (count + 1) rid ≡ true
visible_more b count rid e =
    let at : Option ℕ = scanned_at b.scans rid.page in
    elim (or_cases (nat_le b.pages rid.page) (is_by count at) e) [
      | inl newer ↦ or_left (nat_le b.pages rid.page) (is_by (count + 1) at) newer
      | inr by ↦ or_right (nat_le b.pages rid.page) (is_by (count + 1) at) (is_by_more count at by)
    ]

module _ (b : Scanning) (log first : List LogRec) (rec : LogRec) (rest : List LogRec) (split : log ≡ (first ++ rec ∷ []) ++ rest) where
  just_scanned :
      (rid : Rid) (o : Option ℕ) → is_by (length first) o ≡ false → is_by (length (first ++ rec ∷ [])) o ≡ true
      → scan_pair b log o rid ≡ pair_at b.spec (first ++ rec ∷ []) rid
  just_scanned rid None late by = absurd (false≢true by)
  just_scanned rid (Some k) late by =
      let next : List LogRec = first ++ rec ∷ [] in
      let low : length first < k = leb-false k (length first) late in
      let high : k ≤ length next = leb-true k (length next) by in
      let same : length next ≡ k = omega (arith, length-added first rec) in
      ap (λ l. pair_at b.spec l rid) (ap (take k) split ∙ take_at next rest k same)

  -- a RID that isn't seen yet keeps the pair that will be read
  pub hidden_stays :
      (rid : Rid) → is_visible b (length first) rid ≡ false → seen b log (first ++ rec ∷ []) rid ≡ seen b log first rid
  hidden_stays rid hidden =
      let next : List LogRec = first ++ rec ∷ [] in
      let at : Option ℕ = scanned_at b.scans rid.page in
      let will : Option Pair = scan_pair b log at rid in
      let parts = or_parts (nat_le b.pages rid.page) (is_by (length first) at) hidden in
      let now : seen b log next rid ≡ will =
      elim (cases_Bool (is_visible b (length next) rid)) [
        | inl shown ↦
            cond-true (is_visible b (length next) rid) (pair_at b.spec next rid) will shown
            ∙ (elim (or_cases (nat_le b.pages rid.page) (is_by (length next) at) shown) [
              | inl newer ↦ absurd (false≢true (sym parts.0 ∙ newer))
              | inr by ↦ sym (just_scanned rid at parts.1 by)
            ])
        | inr still ↦ cond-false (is_visible b (length next) rid) (pair_at b.spec next rid) will still
      ] in
      now ∙ sym (cond-false (is_visible b (length first) rid) (pair_at b.spec first rid) will hidden)

  pub shown_next :
      (rid : Rid) → is_visible b (length first) rid ≡ true
      → seen b log (first ++ rec ∷ []) rid ≡ pair_at b.spec (first ++ rec ∷ []) rid
  shown_next rid shown =
      let next : List LogRec = first ++ rec ∷ [] in
      cond-true (is_visible b (length next) rid) (pair_at b.spec next rid) (scan_pair b log (scanned_at b.scans rid.page) rid)
      (ap (λ n. is_visible b n rid) (length-added first rec) ∙ visible_more b (length first) rid shown)

  -- where the same row stands, the same pair is seen
  pub seen_kept :
      (rid : Rid) → live_at (first ++ rec ∷ []) rid ≡ live_at first rid
      → seen b log (first ++ rec ∷ []) rid ≡ seen b log first rid
  seen_kept rid live =
      elim (cases_Bool (is_visible b (length first) rid)) [
        | inl shown ↦
            shown_next rid shown ∙ ap (pair_with b.spec rid) live
            ∙ sym (cond-true (is_visible b (length first) rid) (pair_at b.spec first rid) (scan_pair b log (scanned_at b.scans rid.page) rid) shown)
        | inr hidden ↦ hidden_stays rid hidden
      ]

no_row : (log : List LogRec) (rid : Rid) → pages_written log ≤ rid.page → live_at log rid ≡ None
no_row log rid past = elim (some_or_none (live_at log rid)) [
  | inl none ↦ none
  | inr some ↦ let inside = (rows_are_inside log).page rid some.0 some.1 in absurd (omega (arith, inside, past))
]

no_pair : (spec : KeySpecValue) (log : List LogRec) (rid : Rid) → pages_written log ≤ rid.page → pair_at spec log rid ≡ None
no_pair spec log rid past = ap (pair_with spec rid) (no_row log rid past)

module _ (b : Scanning) (log : List LogRec) (is : IsScanned b log) where
  opened_count : length (first_records b.opened log) ≡ b.opened
  opened_count = length-take-le b.opened log is.opened

  newer_pair :
      (rid : Rid) → b.pages ≤ rid.page → (o : Option ℕ) → scanned_at b.scans rid.page ≡ o
      → pair_at b.spec (first_records b.opened log) rid ≡ scan_pair b log o rid
  newer_pair rid past None e = no_pair b.spec (first_records b.opened log) rid (omega (arith, is.pages, past))
  newer_pair rid past (Some k) e =
      let it : IsScanAt b log rid.page k = scan_at b log b.scans is.scans rid.page k e in
      absurd (omega (arith, it.page, past))

  old_pair :
      (rid : Rid) (o : Option ℕ) → scanned_at b.scans rid.page ≡ o → is_by (length (first_records b.opened log)) o ≡ true
      → pair_at b.spec (first_records b.opened log) rid ≡ scan_pair b log o rid
  old_pair rid None e by = absurd (false≢true by)
  old_pair rid (Some k) e by =
      let it : IsScanAt b log rid.page k = scan_at b log b.scans is.scans rid.page k e in
      let first : List LogRec = first_records b.opened log in
      let high : k ≤ length first = leb-true k (length first) by in
      let same : b.opened ≡ k = omega (arith, it.opened, opened_count) in
      ap (λ n. pair_at b.spec (first_records n log) rid) same

  -- when it is opened, a build has of each RID what it will read there
  seen_opened : (rid : Rid) → seen b log (first_records b.opened log) rid ≡ scan_pair b log (scanned_at b.scans rid.page) rid
  seen_opened rid =
      let first : List LogRec = first_records b.opened log in
      let at : Option ℕ = scanned_at b.scans rid.page in
      let will : Option Pair = scan_pair b log at rid in
      elim (cases_Bool (is_visible b (length first) rid)) [
        | inl shown ↦
            cond-true (is_visible b (length first) rid) (pair_at b.spec first rid) will shown
            ∙ (elim (or_cases (nat_le b.pages rid.page) (is_by (length first) at) shown) [
              | inl newer ↦ newer_pair rid (leb-true b.pages rid.page newer) at refl
              | inr by ↦ old_pair rid at refl by
            ])
        | inr hidden ↦ cond-false (is_visible b (length first) rid) (pair_at b.spec first rid) will hidden
      ]

  -- so has a set with the pairs that it reads
  pub opened_seen :
      (s : FinSet pair_cmp) → ((q : Pair) → contains_key s q ≡ is_in q (scanned_pairs b log))
      → HasSeen b log (first_records b.opened log) s
  opened_seen s has q = has q ∙ scanned_in b log q b.scans is.once ∙ ap (λ o. is_pair o q) (sym (seen_opened q.rid))

  late_pair :
      (rid : Rid) (o : Option ℕ) → scanned_at b.scans rid.page ≡ o → is_by (length log) o ≡ false
      → scan_pair b log o rid ≡ None
  late_pair rid None e late = refl
  late_pair rid (Some k) e late =
      let it : IsScanAt b log rid.page k = scan_at b log b.scans is.scans rid.page k e in
      let past : length log < k = leb-false k (length log) late in
      absurd (omega (arith, it.within))

  -- in the end it has what it sees
  pub seen_all : (rid : Rid) → seen b log log rid ≡ visible_pair b log rid
  seen_all rid =
      let at : Option ℕ = scanned_at b.scans rid.page in
      let shown : Bool = is_visible b (length log) rid in
      let will : Option Pair = scan_pair b log at rid in
      elim (cases_Bool shown) [
        | inl sees ↦ cond-true shown (pair_at b.spec log rid) will sees ∙ sym (cond-true shown (pair_at b.spec log rid) None sees)
        | inr hidden ↦
            cond-false shown (pair_at b.spec log rid) will hidden
            ∙ late_pair rid at refl (or_parts (nat_le b.pages rid.page) (is_by (length log) at) hidden).1
            ∙ sym (cond-false shown (pair_at b.spec log rid) None hidden)
      ]
