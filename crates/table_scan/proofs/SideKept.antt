-- The side-file of a build as it starts, as it copies a page more, and as the log grows by a record that changes no row.
use Rattle.std.proofs.Common.{◌≡◌, ℕ, ◌+◌, ◌<◌, ◌==◌, false, zero, suc, List, [], ◌∷◌, ◌++◌, length, map, drop, Option, Some, None, refl, sym, ap, ◌∙◌, subst, arith, ◌≤◌}
use Rattle.std.proofs.Common.{length-append, ap₂, ◌⊎◌, inl, inr}
use Rattle.std.proofs.lemmas.List.{append-nil, drop-map, length-map}
use Rattle.std.proofs.Math.Seq.{drop-append_seam}
use Rattle.std.specs.List.{All, slice_get}
use Rattle.std.proofs.lemmas.Bool.Decides.{nat_tests}
use Rattle.std.proofs.lemmas.List.Elements.{All-head, All-nil, All-tail, All-weaker}
use Rattle.keybytes.specs.Keys.{KeySpecValue, IsKeyOf}
use Rattle.keybytes.specs.declared.kind.Kind.{Kind}
use Rattle.heap_log.specs.declared.record.LogRec.{LogRec}
use Rattle.heap_table.specs.Pages.{pages_written}
use Rattle.side_file.specs.Entries.{entry_of}
use Rattle.side_file.specs.Changes.{all_appended}
use Rattle.side_file.specs.Ends.{PutEnd}
use Rattle.side_file.specs.SideFileValue.{SideFileValue}
use Rattle.side_file.specs.declared.entry.Entry.{Entry}
use Rattle.side_file.specs.Kept.{last_ones}
use Rattle.visibility.specs.SideEntries.{SideEntry}
use Rattle.table_scan.specs.TableBuilds.{IsBuildOf, BuildFollows}
use Rattle.build_events.specs.CoreState.{BuildState, scanning_of}
use Rattle.build_events.specs.Scanning.{Scanning, opened_scanning, scanned_at}
use Rattle.build_events.specs.SideEntries.{entries_of, side_entries}
use Rattle.table_scan.specs.Noting.{without_room}
use Rattle.table_scan.specs.SideFiles.{HasEntries, HaveEntries, SidesFollow, AreEntriesLeft, EntriesAreOfBuilds, HaveEntryKeys, NoneAhead, own_entries, put_ends, side_refusal}
use Rattle.build_events.specs.Workers.{fed_to}
use Rattle.page_workers.proofs.Places.{all_at, map_at, same_at, below, there_is}
use Rattle.std.specs.Prelude.{get_or, IfSome}
use Rattle.std.proofs.Math.ListN.{drop_of_length-le}
use Rattle.build_events.proofs.EntrySteps.{opened_entries, more_entries, same_entries, commit_entries}
use Rattle.build_events.proofs.NextPages.{next_unscanned}
use Rattle.build_events.specs.Ranges.{next_page}
use Rattle.heap_table.specs.HeapState.{HeapState, after_commit}
use Rattle.heap_log.specs.declared.record.LogRec.TheVariants.{Commit}

-- of a later build there is no entry
own_none : (build : ℕ) (xs : List Entry) → All (λ entry. entry.build < build) xs → own_entries build xs ≡ []
own_none build [] all = refl
own_none build (x ∷ xs) all =
    let before : x.build < build = All-head (λ (entry : Entry). entry.build < build) x xs all in
    let other : (x.build == build) ≡ false = grind (arith, nat_tests) in
    rw other (own_none build xs (All-tail (λ (entry : Entry). entry.build < build) x xs all))

-- the side-file of one of its indexes, as it starts
opened_one :
    (log : List LogRec) (b : BuildState) (index : ℕ) (spec : KeySpecValue) (side : SideFileValue) → b.opened ≡ length log → b.pages ≡ pages_written log → b.scans ≡ []
    → fed_to b index ≡ 0 → side.left ≡ [] → side.fed ≡ [] → All (λ entry. entry.build < b.number) side.end.sent → HasEntries log b index spec side
opened_one log b index spec side opened pages scans none left fed before = record {
  entries =
      nothing
      ∙ sym (ap (map (entry_of b.number)) (ap (λ s. side_entries s log) same ∙ opened_entries spec log));
  keys = subst (All (λ entry. IsKeyOf spec entry.key)) (sym nothing) (All-nil (λ entry. IsKeyOf spec entry.key));
  count = none ∙ sym (ap length fed);
  sent = ap (λ (es : List Entry). last_ones (length es) side.end.sent) fed ∙ drop_of_length-le side.end.sent (omega arith) ∙ sym fed;
  own = own_none b.number side.end.sent before ∙ sym fed;
} where
  nothing : all_appended side ≡ []
  nothing = rw (fed, left) refl

  same : scanning_of b spec ≡ opened_scanning spec log
  same = rw (opened, pages, scans) refl

-- none of so many entries that were not fed
abbrev pub none_fed : List KeySpecValue → List ℕ
none_fed specs = map (λ spec. 0) specs

pub none_at : (specs : List KeySpecValue) (index : ℕ) → get_or (none_fed specs) index 0 ≡ 0
none_at [] index = refl
none_at (spec ∷ specs) zero = refl
none_at (spec ∷ specs) (suc index) = none_at specs index

pub sides_opened :
    (log : List LogRec) (b : BuildState) (sides : List SideFileValue) → b.opened ≡ length log → b.pages ≡ pages_written log → b.scans ≡ []
    → b.fed ≡ map (λ spec. 0) b.specs → All (λ (side : SideFileValue). (side.left ≡ []) × (side.fed ≡ [])) sides → (builds : ℕ) → b.number ≡ builds + 1
    → EntriesAreOfBuilds builds (put_ends sides) → HaveEntries log b sides
sides_opened log b sides opened pages scans none empty builds number before = λ index spec side at there.
    let here = all_at (λ (s : SideFileValue). (s.left ≡ []) × (s.fed ≡ [])) sides index side empty there in
    let sent = all_at (λ (put : PutEnd Entry). All (λ entry. entry.build ≤ builds) put.sent) (put_ends sides) index side.end before
    (map_at (λ (s : SideFileValue). s.end) sides index side there) in
    opened_one log b index spec side opened pages scans (ap (λ fed. get_or fed index 0) none ∙ none_at b.specs index) here.0 here.1
    (All-weaker (λ (entry : Entry). entry.build ≤ builds) (λ (entry : Entry). entry.build < b.number) (λ entry le. omega (arith, le, number)) side.end.sent sent)

scanned_one :
    (log : List LogRec) (b : BuildState) (index : ℕ) (spec : KeySpecValue) (side : SideFileValue) (worker page : ℕ) → scanned_at b.scans page ≡ None
    → HasEntries log b index spec side
    → HasEntries log (record b { scans = b.scans ++ record { worker = worker; page = page; records = length log } ∷ [] }) index spec side
scanned_one log b index spec side worker page none has = record {
  entries = has.entries ∙ ap (map (entry_of b.number)) (sym (same_entries (scanning_of b spec) worker page log none));
  keys = has.keys;
  count = has.count;
  sent = has.sent;
  own = has.own;
}

same_one :
    (kinds : List Kind) (log : List LogRec) (rec : LogRec) (b : BuildState) (index : ℕ) (spec : KeySpecValue) (side : SideFileValue)
    → ((s : Scanning) → entries_of s log rec ≡ []) → IsBuildOf kinds log b → HasEntries log b index spec side → HasEntries (log ++ rec ∷ []) b index spec side
same_one kinds log rec b index spec side nothing build has = record {
  entries =
      let here : Scanning = scanning_of b spec in
      let es : List SideEntry = side_entries here log in
      has.entries
      ∙ ap (map (entry_of b.number)) (sym (more_entries here log rec (build.scanned spec).opened ∙ ap (λ fs. es ++ fs) (nothing here) ∙ append-nil es));
  keys = has.keys;
  count = has.count;
  sent = has.sent;
  own = has.own;
}

-- a side-file with the same entries
pub stays_one :
    (log : List LogRec) (b : BuildState) (index : ℕ) (spec : KeySpecValue) (old new : SideFileValue) → new.fed ≡ old.fed → new.left ≡ old.left
    → new.end.sent ≡ old.end.sent → HasEntries log b index spec old → HasEntries log b index spec new
stays_one log b index spec old new fed left sent has = record {
  entries = same ∙ has.entries;
  keys = subst (All (λ entry. IsKeyOf spec entry.key)) (sym same) has.keys;
  count = has.count ∙ ap length (sym fed);
  sent = ap₂ (λ (es xs : List Entry). last_ones (length es) xs) fed sent ∙ has.sent ∙ sym fed;
  own = ap (own_entries b.number) sent ∙ has.own ∙ sym fed;
} where
  same : all_appended new ≡ all_appended old
  same = rw (fed, left) refl

-- room for more entries changes none
pub sides_stay :
    (log : List LogRec) (build : Option BuildState) (olds news : List SideFileValue) → SidesFollow log build olds → map without_room news ≡ map without_room olds
    → SidesFollow log build news
sides_stay log None olds news has same = tt
sides_stay log (Some b) olds news has same = λ index spec side at there.
    let old = same_at without_room olds news index side (sym same) there in
    stays_one log b index spec old.0 side (ap (λ (s : SideFileValue). s.fed) (sym old.2)) (ap (λ (s : SideFileValue). s.left) (sym old.2))
    (ap (λ (s : SideFileValue). s.end.sent) (sym old.2)) (has index spec old.0 at old.1)

-- a record that changes no row appends nothing
pub sides_plain :
    (kinds : List Kind) (log : List LogRec) (rec : LogRec) (build : Option BuildState) (sides : List SideFileValue) → ((s : Scanning) → entries_of s log rec ≡ [])
    → BuildFollows kinds log build → SidesFollow log build sides → SidesFollow (log ++ rec ∷ []) build sides
sides_plain kinds log rec None sides nothing follows has = tt
sides_plain kinds log rec (Some b) sides nothing follows has = λ index spec side at there.
    same_one kinds log rec b index spec side nothing follows (has index spec side at there)

-- the page that comes next is copied now
pub sides_next :
    (log : List LogRec) (b : BuildState) (sides : List SideFileValue) (range worker page records : ℕ) → next_page b range ≡ Some page → records ≡ length log
    → HaveEntries log b sides
    → HaveEntries log (record b { scans = b.scans ++ record { worker = worker; page = page; records = records } ∷ [] }) sides
sides_next log b sides range worker page records next now has = λ index spec side at there.
    subst (λ r. HasEntries log (record b { scans = b.scans ++ record { worker = worker; page = page; records = r } ∷ [] }) index spec side) (sym now)
    (scanned_one log b index spec side worker page (next_unscanned b range page next) (has index spec side at there))

-- what is left in the side-file are the entries that were not fed
pub left_of :
    (log : List LogRec) (b : BuildState) (index : ℕ) (spec : KeySpecValue) (side : SideFileValue) → HasEntries log b index spec side
    → side.left ≡ map (entry_of b.number) (drop (get_or b.fed index 0) (side_entries (scanning_of b spec) log))
left_of log b index spec side has =
    let put : SideEntry → Entry = entry_of b.number in
    let es : List SideEntry = side_entries (scanning_of b spec) log in
    sym (drop-append_seam side.fed side.left)
    ∙ ap (drop (length side.fed)) has.entries
    ∙ drop-map put (length side.fed) es
    ∙ ap (λ n. map put (drop n es)) (sym has.count)

-- what holds of all holds of the last of them
all_right : {X : Type 0} (P : X → Type 0) (xs ys : List X) → All P (xs ++ ys) → All P ys
all_right P [] ys all = all
all_right P (x ∷ xs) ys all = all_right P xs ys (All-tail P x (xs ++ ys) all)

-- and each has the key of a row
pub keys_left :
    (log : List LogRec) (build : Option BuildState) (sides : List SideFileValue) (index : ℕ) (side : SideFileValue) → SidesFollow log build sides
    → side_refusal build index ≡ None → slice_get sides index ≡ Some side → HaveEntryKeys build index side.left
keys_left log None sides index side has free there = absurd (cc)
keys_left log (Some b) sides index side has free there = λ spec at.
    all_right (λ entry. IsKeyOf spec entry.key) side.fed side.left (has index spec side at there).keys

-- what is left in the side-file are the entries of the build's index
pub entries_left :
    (log : List LogRec) (build : Option BuildState) (sides : List SideFileValue) (index : ℕ) (side : SideFileValue) → SidesFollow log build sides
    → side_refusal build index ≡ None → slice_get sides index ≡ Some side → AreEntriesLeft log build index side.left
entries_left log None sides index side has free there = absurd (cc)
entries_left log (Some b) sides index side has free there = λ spec at. left_of log b index spec side (has index spec side at there)

-- no more was fed than it had
pub none_ahead :
    (log : List LogRec) (build : Option BuildState) (sides : List SideFileValue) → SidesFollow log build sides
    → IfSome build (λ b. length b.specs ≤ length sides) → IfSome build (NoneAhead log)
none_ahead log None sides has many = tt
none_ahead log (Some b) sides has many = λ index spec at.
    let less = below b.specs index spec at in
    let side = there_is sides index (omega (arith, less, many)) in
    let its = has index spec side.0 at side.1 in
    let all = ap length its.entries in
    let sum = length-append side.0.fed side.0.left in
    let same = length-map (side_entries (scanning_of b spec) log) (entry_of b.number) in
    omega (arith, its.count, all, sum, same)

-- after a commit the side-files are the build's own
pub commit_sides :
    (old new : HeapState) (txn : ℕ) (build : Option BuildState) (sides : List SideFileValue) → (new ≡ after_commit old txn) ⊎ (new ≡ old)
    → BuildFollows old.schema old.log build → SidesFollow old.log build sides → SidesFollow new.log build sides
commit_sides old new txn build sides (inl done) is has =
    subst (λ (h : HeapState). SidesFollow h.log build sides) (sym done)
    (sides_plain old.schema old.log (Commit txn) build sides (λ s. commit_entries s old.log txn) is has)
commit_sides old new txn build sides (inr refused) is has = subst (λ (h : HeapState). SidesFollow h.log build sides) (sym refused) has
