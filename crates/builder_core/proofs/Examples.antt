-- The definitions computed at small values that a reader can check by hand.
use Rattle.std.proofs.Common.{◌≡◌, ◌∙◌, ◌<◌, arith, ℕ, pos, negsuc, Bool, true, false, List, [], ◌∷◌, Some, None, refl, sym, ap, inl, inr}
use Rattle.std.specs.Prelude.{◌||◌, ◌++◌, replicate}
use Rattle.std.proofs.lemmas.Option.{same_Some}
use Rattle.std.specs.Ordering.{eq_by_cmp}
use Rattle.keybytes.specs.declared.cell.Cell.{Cell}
use Rattle.keybytes.specs.declared.cell.Cell.TheVariants.{Null, Int as Number}
use Rattle.keybytes.specs.declared.kind.Kind.TheVariants.{Int}
use Rattle.keybytes.specs.declared.fault.Fault.TheVariants.{BadCount, BadRanges, RangeDone, RingFull, NotScanned, NotSealed, NotLoaded, SpoolNotEmpty, NoPage}
use Rattle.keybytes.specs.declared.fault.Fault.TheVariants.{Memory}
use Rattle.heap_log.specs.declared.outcome.Outcome.TheVariants.{Ready}
use Rattle.heap_log.specs.declared.record.LogRec.{LogRec}
use Rattle.heap_log.specs.declared.record.LogRec.TheVariants as logged
use Rattle.heap_table.specs.Pages.{rid_at}
use Rattle.scan_range.specs.declared.dealing.Dealing.TheVariants.{Even}
use Rattle.build_events.specs.declared.event.Event.TheVariants.{Scan, Digest, Seal, Load, Switch}
use Rattle.build_events.specs.declared.reply.Reply.{Reply}
use Rattle.build_events.specs.declared.reply.Reply.TheVariants.{Scanned, Digested, Sealed, Loaded, Switched}
use Rattle.keybytes.specs.Pairs.{pair_cmp}
use Rattle.heap_table.specs.TablePairs.{pairs_at_rest}
use Rattle.build_events.specs.CoreState.{BuildState, WorkerState, WorkState, CoreState, scanning_of, spoiled_work}
use Rattle.build_events.specs.Scanning.{scanned_pairs}
use Rattle.scan_range.specs.Cuts.{range_pages, cuts_refusal}
use Rattle.build_events.specs.Ranges.{next_page, open_range}
use Rattle.scan_range.specs.Dealings.{dealt_ends, dealing_refusal}
use Rattle.build_events.specs.BuildSteps.{spools_refusal}
use Rattle.build_events.specs.Steps.{refusal, Does, AfterWant, IsRefused}
use Rattle.building.specs.Holding.{spools_state}
use Rattle.build_events.specs.Workers.{waiting, fill_runs, unsealed_worker}
use Rattle.build_events.specs.declared.scan.Scan.{Scan as Copied}
use Rattle.keybytes.proofs.PairSets.{is_in, items_are}
use Rattle.table_scan.proofs.ScanExamples.{five, on_number, pair, three}

abbrev null : List ℕ
null = 0 ∷ []

abbrev minus_one : List ℕ
minus_one = 1 ∷ 0x7F ∷ 0xFF ∷ 0xFF ∷ 0xFF ∷ 0xFF ∷ 0xFF ∷ 0xFF ∷ 0xFF ∷ []

abbrev put : ℕ → ℕ → ℕ → Cell → LogRec
put txn page slot cell = logged.Write txn (rid_at page slot) (Some (cell ∷ []))

-- the rows 5, 3 and 5, two of them on page 0
abbrev three_rows : List LogRec
three_rows =
    put 1 0 0 (Number (pos 5)) ∷ logged.Commit 1 ∷ put 2 0 1 (Number (pos 3)) ∷ logged.Commit 2
    ∷ put 3 1 0 (Number (pos 5)) ∷ logged.Commit 3 ∷ []

second_first : (a b c : Bool) → (a || (b || c)) ≡ (b || (a || c))
second_first true true c = refl
second_first true false c = refl
second_first false b c = refl

or_true : (a b : Bool) → (a || (b || true)) ≡ true
or_true true b = refl
or_true false true = refl
or_true false false = refl

last_first : (a b c : Bool) → (a || (b || (c || false))) ≡ (c || (a || (b || false)))
last_first a b true = or_true a b
last_first a b false = refl

twice : (a : Bool) → (a || false) ≡ (a || (a || false))
twice true = refl
twice false = refl

-- equal keys stand by RID
equal_keys : pair three 0 1 ∷ pair five 0 0 ∷ pair five 1 0 ∷ [] ≡ pairs_at_rest on_number three_rows
equal_keys =
    items_are (pair three 0 1 ∷ pair five 0 0 ∷ pair five 1 0 ∷ []) (pair five 0 0 ∷ pair three 0 1 ∷ pair five 1 0 ∷ []) tt (λ q.
    second_first (eq_by_cmp pair_cmp q (pair three 0 1)) (eq_by_cmp pair_cmp q (pair five 0 0)) (is_in q (pair five 1 0 ∷ [])))

-- Null is first, and -1 is before 3
null_first :
    pair null 0 1 ∷ pair minus_one 0 2 ∷ pair three 0 0 ∷ []
    ≡ pairs_at_rest on_number (put 1 0 0 (Number (pos 3)) ∷ put 1 0 1 Null ∷ put 1 0 2 (Number (negsuc 0)) ∷ [])
null_first =
    items_are (pair null 0 1 ∷ pair minus_one 0 2 ∷ pair three 0 0 ∷ []) (pair three 0 0 ∷ pair null 0 1 ∷ pair minus_one 0 2 ∷ []) tt (λ q.
    last_first (eq_by_cmp pair_cmp q (pair null 0 1)) (eq_by_cmp pair_cmp q (pair minus_one 0 2)) (eq_by_cmp pair_cmp q (pair three 0 0)))

-- an update that was undone never was
undone_update : pair five 0 0 ∷ [] ≡ pairs_at_rest on_number (put 1 0 0 (Number (pos 5)) ∷ put 2 0 0 (Number (pos 3)) ∷ logged.Undo 2 2 ∷ [])
undone_update =
    items_are (pair five 0 0 ∷ []) (pair five 0 0 ∷ pair five 0 0 ∷ []) tt (λ q. twice (eq_by_cmp pair_cmp q (pair five 0 0)))

-- the writes of a transaction that is still open count
open_delete : [] ≡ pairs_at_rest on_number (put 1 0 0 (Number (pos 5)) ∷ logged.Commit 1 ∷ logged.Write 2 (rid_at 0 0) None ∷ [])
open_delete = items_are [] [] tt (λ q. refl)

-- a page that a worker copied behind the last of these rows
abbrev copied : ℕ → ℕ → Copied
copied worker page = record { worker = worker; page = page; records = 6 }

-- a build that started behind these rows, of so many pages in ranges that end there, by so many workers
abbrev the_build : ℕ → List ℕ → ℕ → List Copied → BuildState
the_build pages ends workers scans = record {
  number = 1;
  specs = on_number ∷ [];
  opened = 6;
  pages = pages;
  ends = ends;
  workers = workers;
  scans = scans;
  fed = 0 ∷ [];
}

-- a worker that sealed so many of the copies that it took
abbrev worker_with : ℕ → ℕ → WorkerState
worker_with taken sealed = record { taken = taken; sealed = sealed }

abbrev work_of : List WorkerState → Bool → WorkState
work_of workers loaded = record { workers = workers; indexes = record { loaded = loaded; applied = 0 } ∷ []; spoiled = None }

-- these rows while one worker builds over one range, and took so many copies
abbrev while_built : ℕ → List Copied → ℕ → Bool → CoreState
while_built pages scans taken loaded = record {
  live = record {
    heap = record { schema = Int ∷ []; slot_limit = 2; page_limit = 8; log = three_rows; active = []; begun = 3; fenced = false; visits = 0 };
    ready = [];
    builds = 1;
    build = Some (the_build pages (pages ∷ []) 1 scans);
  };
  work = work_of (worker_with taken taken ∷ []) loaded;
  spools = record { stakes = None ∷ []; left = [] };
}

abbrev both_pages : List Copied
both_pages = copied 0 0 ∷ copied 0 1 ∷ []

abbrev before_a_scan : CoreState
before_a_scan = while_built 2 (copied 0 0 ∷ []) 0 false

next_scan : (new : CoreState) (reply : Reply) → Does before_a_scan (Scan 0 0) reply new → reply ≡ Scanned 1
next_scan new reply does = does.1 ∙ ap Scanned (sym (same_Some 1 does.0 does.2.0.0))

load_before_a_scan : refusal before_a_scan (Load 0) ≡ Some (NotScanned 0)
load_before_a_scan = refl

no_page_left : refusal (while_built 2 both_pages 0 false) (Scan 0 0) ≡ Some RangeDone
no_page_left = refl

four_wait : refusal (while_built 5 (copied 0 0 ∷ copied 0 1 ∷ copied 0 2 ∷ copied 0 3 ∷ []) 0 false) (Scan 0 0) ≡ Some RingFull
four_wait = refl

seal_takes_all : Does (while_built 2 both_pages 0 false) (Seal 0) (Sealed 2) (while_built 2 both_pages 2 false)
seal_takes_all = (2, refl, (refl, refl))

load_before_a_seal : refusal (while_built 2 both_pages 0 false) (Load 0) ≡ Some (NotSealed 0)
load_before_a_seal = refl

first_load : Does (while_built 2 both_pages 2 false) (Load 0) (Loaded 3) (while_built 2 both_pages 2 true)
first_load = (3, refl, (refl, refl))

second_load : Does (while_built 2 both_pages 2 true) (Load 0) (Loaded 0) (while_built 2 both_pages 2 true)
second_load = (0, refl, (refl, refl))

switch_before_a_load : refusal (while_built 2 both_pages 2 false) Switch ≡ Some (NotLoaded 0)
switch_before_a_load = refl

switched : (new : CoreState) (reply : Reply) → Does (while_built 2 both_pages 2 true) Switch reply new → reply ≡ Switched 7 (Ready 0 ∷ [])
switched new reply does = does.1 ∙ ap (λ number. Switched number does.0.1) does.2.0 ∙ ap (Switched 7) does.2.1

-- a seal that wants memory for a copy spoils the build, which from then on answers so after the counts
abbrev spoiled_build : CoreState
spoiled_build = record before_a_scan { work = spoiled_work Memory before_a_scan.work }

spoils : AfterWant (Seal 0) Memory before_a_scan spoiled_build
spoils = (λ memory. omega arith, refl)

-- one that has nothing to take wants none
takes_nothing : AfterWant (Seal 0) Memory (while_built 2 both_pages 2 false) spoiled_build → ⊥
takes_nothing after = let waits : 0 < 0 = after.0 refl in omega (arith, waits)

-- and so does one that wants a page
spoils_without_page : IsRefused before_a_scan (Seal 0) NoPage (record before_a_scan { work = spoiled_work NoPage before_a_scan.work })
spoils_without_page = inr (refl, inl refl, (λ memory. absurd (let is : NoPage ≡ Memory = memory in cc), refl))

page_stays_wanted : refusal (record before_a_scan { work = spoiled_work NoPage before_a_scan.work }) (Load 0) ≡ Some NoPage
page_stays_wanted = refl

-- empty spools start a build, and one with pairs keeps it from starting
empty_spools : spools_refusal (true ∷ true ∷ []) ≡ None
empty_spools = refl

a_spool_with_pairs : spools_refusal (true ∷ false ∷ []) ≡ Some SpoolNotEmpty
a_spool_with_pairs = refl

-- spools that a build was given are not left for a next one
given_spools : (spools_state true (record { runs = []; open_run = []; stake = None } ∷ [])).left ≡ []
given_spools = refl

-- and of those that are handed in, one with a run whose pairs are all freed is not empty
freed_run : (spools_state false (record { runs = [] ∷ []; open_run = []; stake = None } ∷ record { runs = []; open_run = []; stake = None } ∷ [])).left ≡ false ∷ true ∷ []
freed_run = refl

spoiled_scan : refusal spoiled_build (Scan 0 0) ≡ Some Memory
spoiled_scan = refl

spoiled_count : refusal spoiled_build (Scan 0 1) ≡ Some BadCount
spoiled_count = refl

-- the same with that build
abbrev with_build : CoreState → BuildState → CoreState
with_build s b = record s { live = record s.live { build = Some b } }

-- two workers, for each of whom one page was copied: the first took its copy and sealed, the second took so many
abbrev two_copied : List Copied
two_copied = copied 0 0 ∷ copied 1 1 ∷ []

abbrev built_by_two : ℕ → ℕ → CoreState
built_by_two taken sealed = record (with_build before_a_scan (the_build 2 (2 ∷ []) 2 two_copied)) {
  work = work_of (worker_with 1 1 ∷ worker_with taken sealed ∷ []) false;
}

-- a digest takes one copy, and none where none waits
digest_takes_one : Does (built_by_two 0 0) (Digest 1) (Digested 1) (built_by_two 1 0)
digest_takes_one = (1, refl, (refl, refl))

digest_takes_none : Does (built_by_two 1 0) (Digest 1) (Digested 0) (built_by_two 1 0)
digest_takes_none = (0, refl, (refl, refl))

-- a load waits for the second worker's copy, and for its seal
load_before_a_digest : refusal (built_by_two 0 0) (Load 0) ≡ Some (NotSealed 1)
load_before_a_digest = refl

load_before_its_seal : refusal (built_by_two 1 0) (Load 0) ≡ Some (NotSealed 1)
load_before_its_seal = refl

load_of_both : Does (built_by_two 1 1) (Load 0) (Loaded 3) (record (built_by_two 1 1) { work = work_of (worker_with 1 1 ∷ worker_with 1 1 ∷ []) true })
load_of_both = (3, refl, (refl, refl))

no_third_worker : refusal (built_by_two 1 1) (Digest 2) ≡ Some BadCount
no_third_worker = refl

-- five pages in two ranges
even_ends : dealt_ends 5 (Even 2) ≡ 2 ∷ 5 ∷ []
even_ends = refl

second_range : range_pages (2 ∷ 5 ∷ []) 1 ≡ 2 ∷ 3 ∷ 4 ∷ []
second_range = refl

three_even : dealt_ends 4 (Even 3) ≡ 1 ∷ 2 ∷ 4 ∷ []
three_even = refl

no_range : dealing_refusal 4 (Even 0) ≡ Some BadRanges
no_range = refl

too_many_ranges : dealing_refusal 4 (Even 257) ≡ Some BadRanges
too_many_ranges = refl

ends_go_down : cuts_refusal 4 (3 ∷ 2 ∷ 4 ∷ []) ≡ Some BadRanges
ends_go_down = refl

short_of_the_end : cuts_refusal 4 (2 ∷ 3 ∷ []) ≡ Some BadRanges
short_of_the_end = refl

-- four pages in ranges that end there, by one worker who took no copy
abbrev over_ranges : List ℕ → List Copied → CoreState
over_ranges ends scans = with_build (while_built 4 scans 0 false) (the_build 4 ends 1 scans)

-- a range is done while the other is open
done_beside_open : refusal (over_ranges (2 ∷ 4 ∷ []) both_pages) (Scan 0 0) ≡ Some RangeDone
done_beside_open = refl

open_beside_done : refusal (over_ranges (2 ∷ 4 ∷ []) both_pages) (Scan 1 0) ≡ None
open_beside_done = refl

-- ranges are copied in either order
last_range_first : next_page (the_build 4 (2 ∷ 4 ∷ []) 1 (copied 0 2 ∷ [])) 0 ≡ Some 0
last_range_first = refl

last_range_goes_on : next_page (the_build 4 (2 ∷ 4 ∷ []) 1 (copied 0 2 ∷ copied 0 0 ∷ [])) 1 ≡ Some 3
last_range_goes_on = refl

-- a load and a switch name the lowest range with a page left
first_left : refusal (over_ranges (2 ∷ 4 ∷ []) (copied 0 2 ∷ copied 0 3 ∷ [])) Switch ≡ Some (NotScanned 0)
first_left = refl

second_left : refusal (over_ranges (2 ∷ 4 ∷ []) both_pages) (Load 0) ≡ Some (NotScanned 1)
second_left = refl

-- an empty range is done at once, and never open
empty_range : refusal (over_ranges (2 ∷ 2 ∷ 4 ∷ []) []) (Scan 1 0) ≡ Some RangeDone
empty_range = refl

empty_not_left : refusal (over_ranges (2 ∷ 2 ∷ 4 ∷ []) both_pages) (Load 0) ≡ Some (NotScanned 2)
empty_not_left = refl

no_third_range : refusal (over_ranges (2 ∷ 4 ∷ []) []) (Scan 2 0) ≡ Some BadCount
no_third_range = refl

-- a range a page, and two workers; worker 1 copied page 0
abbrev of_two : BuildState
of_two = the_build 2 (1 ∷ 2 ∷ []) 2 (copied 1 0 ∷ [])

-- worker 1 took so many copies, and sealed so many of these; worker 0 has none
abbrev by_two : ℕ → ℕ → WorkState
by_two taken sealed = work_of (worker_with 0 0 ∷ worker_with taken sealed ∷ []) false

first_range_done : next_page of_two 0 ≡ None
first_range_done = refl

page_left : next_page of_two 1 ≡ Some 1
page_left = refl

range_left : open_range of_two ≡ Some 1
range_left = refl

no_range_left : open_range (the_build 2 (1 ∷ 2 ∷ []) 2 (copied 1 0 ∷ copied 0 1 ∷ [])) ≡ None
no_range_left = refl

none_waits : waiting of_two (by_two 0 0) 0 ≡ 0
none_waits = refl

one_waits : waiting of_two (by_two 0 0) 1 ≡ 1
one_waits = refl

-- a worker isn't sealed while a copy waits for it
waits : unsealed_worker of_two three_rows (by_two 0 0) ≡ Some 1
waits = refl

-- nor before it sealed what it took
unsealed : unsealed_worker of_two three_rows (by_two 1 0) ≡ Some 1
unsealed = refl

all_sealed : unsealed_worker of_two three_rows (by_two 1 1) ≡ None
all_sealed = refl

-- runs close at 4,096 pairs
short_run : fill_runs (replicate 4095 (pair five 0 0)) ≡ false
short_run = refl

whole_run : fill_runs (replicate 4096 (pair five 0 0)) ≡ true
whole_run = refl

-- a table without pages, three empty ranges, four workers: nothing is left to copy, and everybody is sealed
abbrev of_nothing : BuildState
of_nothing = record (the_build 0 (0 ∷ 0 ∷ 0 ∷ []) 4 []) { opened = 0 }

nothing_left : open_range of_nothing ≡ None
nothing_left = refl

nobody_unsealed : unsealed_worker of_nothing [] (work_of (replicate 4 (worker_with 0 0)) false) ≡ None
nobody_unsealed = refl

nothing_copied : scanned_pairs (scanning_of of_nothing on_number) [] ≡ []
nothing_copied = refl

-- five pages, four of them copied: the ring is full until the worker takes one; with the fifth, four wait again
abbrev four_copied : List Copied
four_copied = copied 0 0 ∷ copied 0 1 ∷ copied 0 2 ∷ copied 0 3 ∷ []

room_again : refusal (while_built 5 four_copied 1 false) (Scan 0 0) ≡ None
room_again = refl

fifth_waits : unsealed_worker (the_build 5 (5 ∷ []) 1 (four_copied ++ copied 0 4 ∷ [])) three_rows (work_of (worker_with 1 0 ∷ []) false) ≡ Some 0
fifth_waits = refl

-- that no page is left is asked before whether the ring is full
done_before_full : refusal (while_built 4 four_copied 0 false) (Scan 0 0) ≡ Some RangeDone
done_before_full = refl

-- a load asks for its number, then for the fault, then for the pages, then for the copies
load_counts_first : refusal spoiled_build (Load 1) ≡ Some BadCount
load_counts_first = refl

load_fault_next : refusal spoiled_build (Load 0) ≡ Some Memory
load_fault_next = refl
