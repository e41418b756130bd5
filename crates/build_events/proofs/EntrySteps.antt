-- What each step of a build does to its side-file: its start, a record more, a page more; and the entries of each kind of record.
use Rattle.std.proofs.Common.{◌≡◌, ℕ, ◌+◌, ◌<◌, ◌≤◌, cond, List, [], ◌∷◌, ◌++◌, length, take, drop, append_assoc, append-nil, Option, Some, None}
use Rattle.std.proofs.Common.{refl, sym, ap, ◌∙◌, arith, length-append, take-append-drop}
use Rattle.std.specs.Prelude.{if◌then◌else◌}
use Rattle.std.proofs.lemmas.List.{take-append-le, drop-append-le, drop_all}
use Rattle.keybytes.specs.Keys.{KeySpecValue}
use Rattle.keybytes.specs.Pairs.{pair_with}
use Rattle.keybytes.specs.declared.cell.Cell.{Cell}
use Rattle.keybytes.specs.declared.rid.Rid.{Rid}
use Rattle.heap_log.specs.Growing.{changed_rid}
use Rattle.heap_log.specs.Standing.{live_at}
use Rattle.heap_log.specs.declared.record.LogRec.{LogRec}
use Rattle.heap_log.specs.declared.record.LogRec.TheVariants.{Commit}
use Rattle.heap_log.proofs.Records.{length-added}
use Rattle.heap_table.specs.TablePairs.{pair_at}
use Rattle.build_events.specs.Scanning.{Scanning, scanned_at, is_visible, opened_scanning, with_scan}
use Rattle.visibility.specs.SideEntries.{SideEntry, changes}
use Rattle.build_events.specs.SideEntries.{entries_for, entries_of, entries_from, side_entries}
use Rattle.build_events.proofs.ScanSteps.{visible_same}

-- the start

pub opened_entries : (spec : KeySpecValue) (log : List LogRec) → side_entries (opened_scanning spec log) log ≡ []
opened_entries spec log = ap (entries_from (opened_scanning spec log) (take (length log) log)) (drop_all (length log) log (omega arith))

-- a record more

entries_from-append :
    (b : Scanning) (log xs ys : List LogRec)
    → entries_from b log (xs ++ ys) ≡ entries_from b log xs ++ entries_from b (log ++ xs) ys
entries_from-append b log [] ys = ap (λ l. entries_from b l ys) (sym (append-nil log))
entries_from-append b log (x ∷ xs) ys =
    let es : List SideEntry = entries_of b log x in
    let next : List LogRec = log ++ x ∷ [] in
    ap (λ fs. es ++ fs) (entries_from-append b next xs ys)
    ∙ ap (λ l. es ++ (entries_from b next xs ++ entries_from b l ys)) (append_assoc log (x ∷ []) xs)
    ∙ sym (append_assoc es (entries_from b next xs) (entries_from b (log ++ x ∷ xs) ys))

-- its entries come last
pub more_entries :
    (b : Scanning) (log : List LogRec) (rec : LogRec) → b.opened ≤ length log
    → side_entries b (log ++ rec ∷ []) ≡ side_entries b log ++ entries_of b log rec
more_entries b log rec opened =
    ap (λ l. entries_from b l (drop b.opened (log ++ rec ∷ []))) (take-append-le b.opened log (rec ∷ []) opened)
    ∙ ap (entries_from b (take b.opened log)) (drop-append-le b.opened log (rec ∷ []) opened)
    ∙ entries_from-append b (take b.opened log) (drop b.opened log) (rec ∷ [])
    ∙ ap (λ l. side_entries b log ++ (entries_of b l rec ++ [])) (take-append-drop b.opened log)
    ∙ ap (λ es. side_entries b log ++ es) (append-nil (entries_of b log rec))

-- a page more

same_of :
    (b : Scanning) (worker page : ℕ) (log first : List LogRec) (rec : LogRec) (o : Option Rid) → scanned_at b.scans page ≡ None
    → length first < length log → entries_for (with_scan b worker page log) first rec o ≡ entries_for b first rec o
same_of b worker page log first rec None none early = refl
same_of b worker page log first rec (Some rid) none early =
    ap (λ x. cond x (changes (pair_at b.spec first rid) (pair_at b.spec (first ++ rec ∷ []) rid)) [])
    (visible_same b worker page log (length first) rid none early)

same_from :
    (b : Scanning) (worker page : ℕ) (log first rest : List LogRec) → scanned_at b.scans page ≡ None
    → length first + length rest ≡ length log → entries_from (with_scan b worker page log) first rest ≡ entries_from b first rest
same_from b worker page log first [] none count = refl
same_from b worker page log first (rec ∷ rest) none count =
    let next : List LogRec = first ++ rec ∷ [] in
    let longer : length next ≡ length first + 1 = length-added first rec in
    ap (λ es. es ++ entries_from (with_scan b worker page log) next rest)
    (same_of b worker page log first rec (changed_rid first rec) none (omega (arith, count)))
    ∙ ap (λ es. entries_of b first rec ++ es) (same_from b worker page log next rest none (omega (arith, count, longer)))

-- the side-file stays
pub same_entries :
    (b : Scanning) (worker page : ℕ) (log : List LogRec) → scanned_at b.scans page ≡ None
    → side_entries (with_scan b worker page log) log ≡ side_entries b log
same_entries b worker page log none =
    same_from b worker page log (take b.opened log) (drop b.opened log) none
    (sym (length-append (take b.opened log) (drop b.opened log)) ∙ ap length (take-append-drop b.opened log))

-- the entries of each kind of record

-- a record that leaves that row at its RID, or none
pub entries_where :
    (b : Scanning) (log : List LogRec) (rec : LogRec) (rid : Rid) (cells : Option (List Cell)) → changed_rid log rec ≡ Some rid
    → live_at (log ++ rec ∷ []) rid ≡ cells → entries_of b log rec
    ≡ (if is_visible b (length log) rid then changes (pair_at b.spec log rid) (pair_with b.spec rid cells) else [])
entries_where b log rec rid cells place live =
    ap (entries_for b log rec) place
    ∙ ap (λ o. cond (is_visible b (length log) rid) (changes (pair_at b.spec log rid) (pair_with b.spec rid o)) []) live

pub commit_entries : (b : Scanning) (log : List LogRec) (txn : ℕ) → entries_of b log (Commit txn) ≡ []
commit_entries b log txn = refl
