-- A change that was made ready and is performed adds its entries to the side-files.
use Rattle.std.proofs.Common.{◌≡◌, ◌≤◌, ℕ, cond, true, List, [], ◌∷◌, ◌++◌, length, map, Option, Some, None, refl, sym, ap, ◌∙◌, subst, append_assoc, arith}
use Rattle.std.proofs.Common.{ap₂}
use Rattle.std.specs.Prelude.{IsSome, IfSome}
use Rattle.std.specs.List.{All, slice_get}
use Rattle.std.proofs.lemmas.Bool.{false≢true}
use Rattle.std.proofs.lemmas.List.{map-append}
use Rattle.keybytes.specs.Keys.{KeySpecValue, IsKeyOf}
use Rattle.heap_table.specs.Kept.{IsTableRow}
use Rattle.std.proofs.lemmas.List.Elements.{All-append, All-from_recursion, All-weaker}
use Rattle.keybytes.specs.Pairs.{pair_with}
use Rattle.keybytes.specs.declared.cell.Cell.{Cell}
use Rattle.keybytes.specs.declared.rid.Rid.{Rid}
use Rattle.heap_log.specs.declared.record.LogRec.{LogRec}
use Rattle.heap_log.specs.declared.record.LogRec.TheVariants.{Write, Undo, Commit, Switch}
use Rattle.heap_log.specs.Standing.{live_at, record_at, place_of, rid_of, IsWrite}
use Rattle.heap_log.specs.Growing.{changed_rid}
use Rattle.heap_log.proofs.Numbers.{newest_standing-write}
use Rattle.heap_table.specs.declared.ready.Ready.{Ready}
use Rattle.heap_table.specs.HeapState.{HeapState}
use Rattle.heap_table.specs.HeapValue.{HeapValue}
use Rattle.heap_table.specs.Pages.{SetsRow}
use Rattle.heap_table.specs.Ready.{IsReady, IsLawful, IsLawfulChange, after_change, after_ready}
use Rattle.side_file.specs.Entries.{entry_of}
use Rattle.side_file.specs.Changes.{all_appended}
use Rattle.side_file.specs.SideFileValue.{SideFileValue}
use Rattle.visibility.specs.SideEntries.{SideEntry, changes}
use Rattle.table_scan.specs.TableBuilds.{IsBuildOf, BuildFollows}
use Rattle.build_events.specs.CoreState.{BuildState, scanning_of}
use Rattle.build_events.specs.Scanning.{Scanning, is_visible}
use Rattle.build_events.specs.SideEntries.{entries_of, side_entries}
use Rattle.table_scan.specs.SideFiles.{noted, own_entries, HasEntries, SidesFollow}
use Rattle.table_scan.specs.Noting.{IsLonger, HaveNoted, FitsBuild}
use Rattle.ready_indexes.proofs.Follow.{schema_stays}
use Rattle.ready_indexes.specs.Following.{FitsColumns}
use Rattle.page_workers.proofs.Places.{below, there_is}
use Rattle.side_file.specs.declared.entry.Entry.{Entry}
use Rattle.side_file.specs.Ends.{PutEnd}
use Rattle.side_file.specs.Kept.{last_ones}
use Rattle.keybytes.specs.Cells.{fits}
use Rattle.keybytes.specs.declared.kind.Kind.{Kind}
use Rattle.build_events.proofs.EntrySteps.{entries_where, more_entries}
use Rattle.build_events.proofs.ScanSteps.{visible_now}
use Rattle.table_scan.proofs.TableBuilds.{build_kept, columns_at}
use Rattle.table_scan.proofs.SideKeys.{noted_keys}

-- the record of a change
abbrev rec_of : ℕ → Rid → Option ℕ → Option (List Cell) → LogRec
rec_of txn rid None new = Write txn rid new
rec_of txn rid (Some n) new = Undo txn n

abbrev pub rec_ready : Ready → LogRec
rec_ready ready = rec_of ready.txn ready.rid ready.undone ready.new

log_grows : (s : HeapState) (txn : ℕ) (rid : Rid) (undone : Option ℕ) (new : Option (List Cell)) → (after_change s txn rid undone new).log ≡ s.log ++ rec_of txn rid undone new ∷ []
log_grows s txn rid None new = refl
log_grows s txn rid (Some n) new = refl

rid_there : (rec : Option LogRec) → IsSome (place_of rec) → place_of rec ≡ Some (rid_of rec)
rid_there None h = absurd (false≢true h)
rid_there (Some (Write t rid row)) h = refl
rid_there (Some (Undo t n)) h = absurd (false≢true h)
rid_there (Some (Commit t)) h = absurd (false≢true h)
rid_there (Some (Switch v)) h = absurd (false≢true h)

-- it changes its RID
changed_there :
    (s : HeapState) (txn : ℕ) (rid : Rid) (undone : Option ℕ) (old new : Option (List Cell)) → IsLawful s txn rid undone old new
    → changed_rid s.log (rec_of txn rid undone new) ≡ Some rid
changed_there s txn rid None old new lawful = refl
changed_there s txn rid (Some n) old new lawful =
    let write : IsWrite s.log n = newest_standing-write s.log txn n lawful.1 in
    rid_there (record_at s.log n) write.write ∙ ap (λ x. Some x) (sym lawful.2)

module _ (h : HeapValue) (ready : Ready) (is : IsReady h ready) (change : IsLawfulChange h.state ready) (sets : SetsRow h.state.log ready.rid ready.new (after_ready h.state ready).log) where
  abbrev log : List LogRec
  log = h.state.log

  -- the log has its record more
  pub grows : (after_ready h.state ready).log ≡ log ++ rec_ready ready ∷ []
  grows = log_grows h.state ready.txn ready.rid ready.undone ready.new

  pub schema_is : (after_ready h.state ready).schema ≡ h.state.schema
  schema_is = schema_stays h.state ready.txn ready.rid ready.undone ready.new

  -- what it appends, by the state of the scan at that moment
  noted_entries : (b : BuildState) (spec : KeySpecValue) → IsBuildOf h.state.schema log b
      → entries_of (scanning_of b spec) log (rec_ready ready) ≡ noted b spec ready.rid ready.old ready.new
  noted_entries b spec build =
      let here : Scanning = scanning_of b spec in
      let rid : Rid = ready.rid in
      entries_where here log (rec_ready ready) rid ready.new
      (changed_there h.state ready.txn rid ready.undone ready.old ready.new is.lawful)
      (ap (λ l. live_at l rid) (sym grows) ∙ sets.here)
      ∙ ap (λ o. cond (is_visible here (length log) rid) (changes (pair_with spec rid o) (pair_with spec rid ready.new)) []) (sym is.old)
      ∙ ap (λ x. cond x (changes (pair_with spec rid ready.old) (pair_with spec rid ready.new)) []) (visible_now here log rid (build.scanned spec))

  pub follows_on : (build : Option BuildState) → BuildFollows h.state.schema log build
      → BuildFollows (after_ready h.state ready).schema (after_ready h.state ready).log build
  follows_on build is_of =
      subst (λ k. BuildFollows k (after_ready h.state ready).log build) (sym schema_is)
      (subst (λ l. BuildFollows h.state.schema l build) (sym grows) (build_kept h.state.schema log (rec_ready ready) build is_of))

  side_on :
      (b : BuildState) (index : ℕ) (spec : KeySpecValue) (old new : SideFileValue) → IsBuildOf h.state.schema log b → slice_get b.specs index ≡ Some spec
      → HasEntries log b index spec old → IsLonger (map (entry_of b.number) (noted b spec ready.rid ready.old ready.new)) old new
      → HasEntries (after_ready h.state ready).log b index spec new
  side_on b index spec old new build at has longer = record {
    entries =
        appended
        ∙ ap (λ es. es ++ map put (noted b spec ready.rid ready.old ready.new)) has.entries
        ∙ ap (λ es. map put (side_entries here log) ++ map put es) (sym (noted_entries b spec build))
        ∙ sym (map-append put (side_entries here log) (entries_of here log (rec_ready ready)))
        ∙ ap (map put) (sym (more_entries here log (rec_ready ready) (build.scanned spec).opened))
        ∙ ap (λ l. map put (side_entries here l)) (sym grows);
    keys =
        let columns : spec.kinds ≡ h.state.schema = columns_at h.state.schema log b index spec build at in
        let old_row : IfSome ready.old (IsTableRow spec.kinds) = subst (λ k. IfSome ready.old (IsTableRow k)) (sym columns) change.old_fits in
        let new_row : IfSome ready.new (IsTableRow spec.kinds) = subst (λ k. IfSome ready.new (IsTableRow k)) (sym columns) change.new_fits in
        subst (All (λ entry. IsKeyOf spec entry.key)) (sym appended)
        (All-append (λ entry. IsKeyOf spec entry.key) (all_appended old) _ has.keys
        (All-from_recursion (λ entry. IsKeyOf spec entry.key) _ (noted_keys b spec ready.rid ready.old ready.new old_row new_row)));
    count = has.count ∙ ap length (sym longer.fed);
    sent = ap₂ (λ (es : List Entry) (end : PutEnd Entry). last_ones (length es) end.sent) longer.fed longer.end ∙ has.sent ∙ sym longer.fed;
    own = ap (λ (end : PutEnd Entry). own_entries b.number end.sent) longer.end ∙ has.own ∙ sym longer.fed;
  } where
    here : Scanning
    here = scanning_of b spec

    put : SideEntry → Entry
    put = entry_of b.number

    appended : all_appended new ≡ all_appended old ++ map put (noted b spec ready.rid ready.old ready.new)
    appended =
        ap (λ es. es ++ new.left) longer.fed ∙ ap (λ es. old.fed ++ es) longer.left
        ∙ sym (append_assoc old.fed old.left (map put (noted b spec ready.rid ready.old ready.new)))

  -- the side-files of the running build, if one runs, follow the change
  pub sides_follow_on :
      (build : Option BuildState) (olds news : List SideFileValue) → length olds ≡ length news → BuildFollows h.state.schema log build → SidesFollow log build olds
      → IfSome build (λ b. HaveNoted b ready olds news) → SidesFollow (after_ready h.state ready).log build news
  sides_follow_on None olds news many is_of has noted = tt
  sides_follow_on (Some b) olds news many is_of has noted = λ index spec new at there.
      let less = below news index new there in
      let old = there_is olds index (omega (arith, less, many)) in
      side_on b index spec old.0 new is_of at (has index spec old.0 at old.1) (noted index spec old.0 new at old.1 there)

pub fits_of : (kinds : List Kind) (row : Option (List Cell)) → IfSome row (IsTableRow kinds) → IfSome row (λ cells. fits kinds cells ≡ true)
fits_of kinds None is = tt
fits_of kinds (Some cells) is = is.1

-- the rows of a change fit the columns of each index
pub fits_build :
    (h : HeapState) (ready : Ready) → IsLawfulChange h ready → (build : Option BuildState) → BuildFollows h.schema h.log build → IfSome build (FitsBuild ready)
fits_build h ready change None is_of = tt
fits_build h ready change (Some b) is_of = All-weaker (λ (spec : KeySpecValue). spec.kinds ≡ h.schema) (FitsColumns ready) (λ spec columns. record {
  old = fits_of spec.kinds ready.old (subst (λ k. IfSome ready.old (IsTableRow k)) (sym columns) change.old_fits);
  new = fits_of spec.kinds ready.new (subst (λ k. IfSome ready.new (IsTableRow k)) (sym columns) change.new_fits);
}) b.specs is_of.columns

-- a build has no more indexes than there are side-files
pub few_specs :
    (h : HeapState) (build : Option BuildState) (sides : List SideFileValue) → BuildFollows h.schema h.log build → length sides ≡ 8
    → IfSome build (λ b. length b.specs ≤ length sides)
few_specs h None sides is_of eight = tt
few_specs h (Some b) sides is_of eight = omega (arith, is_of.few_indexes, eight)
