-- Of which builds the entries are that a ring was sent.
use Rattle.std.proofs.Common.{◌≡◌, ◌∙◌, ℕ, ◌+◌, ◌≤◌, ◌==◌, true, List, [], ◌∷◌, map, take, drop, set, Some, refl, sym, ap, subst, arith}
use Rattle.std.specs.List.{All, AllZip, slice_get}
use Rattle.std.proofs.lemmas.Bool.{eq-eqb}
use Rattle.std.proofs.lemmas.List.{map-set, take-map}
use Rattle.std.proofs.lemmas.List.Elements.{All-append, All-cons, All-head, All-nil, All-set, All-tail, All-weaker}
use Rattle.keybytes.specs.Keys.{KeySpecValue}
use Rattle.heap_log.specs.declared.record.LogRec.{LogRec}
use Rattle.side_file.specs.Changes.{Feeds}
use Rattle.side_file.specs.Ends.{PutEnd}
use Rattle.side_file.specs.Entries.{entry_of}
use Rattle.side_file.specs.SideFileValue.{SideFileValue}
use Rattle.side_file.specs.declared.entry.Entry.{Entry}
use Rattle.visibility.specs.SideEntries.{SideEntry, delete, insert}
use Rattle.side_file.specs.Ends.{PutEndLooked}
use Rattle.build_events.specs.CoreState.{BuildState, scanning_of}
use Rattle.build_events.specs.SideEntries.{side_entries}
use Rattle.build_events.specs.Workers.{fed_to}
use Rattle.table_scan.specs.SideFiles.{EntriesAreOfBuilds, HasEntries, own_entries, put_ends}
use Rattle.page_workers.proofs.Places.{all_at, map_at}
use Rattle.table_scan.proofs.SideKept.{left_of}

-- where all are of the build, they are its own
pub own_all : (build : ℕ) (xs : List Entry) → All (λ entry. entry.build ≡ build) xs → own_entries build xs ≡ xs
own_all build [] all = refl
own_all build (x ∷ xs) all =
    let own : (x.build == build) ≡ true = eq-eqb x.build build (All-head (λ (entry : Entry). entry.build ≡ build) x xs all) in
    rw own (ap (λ (es : List Entry). x ∷ es) (own_all build xs (All-tail (λ (entry : Entry). entry.build ≡ build) x xs all)))

-- an entry is under the number of its build
entry_build : (build : ℕ) (e : SideEntry) → (entry_of build e).build ≡ build
entry_build build (delete pair) = refl
entry_build build (insert pair) = refl

pub all_own_entries : (build : ℕ) (es : List SideEntry) → All (λ entry. entry.build ≡ build) (map (entry_of build) es)
all_own_entries build [] = All-nil (λ (entry : Entry). entry.build ≡ build)
all_own_entries build (e ∷ es) =
    All-cons (λ (entry : Entry). entry.build ≡ build) (entry_of build e) (map (entry_of build) es) (entry_build build e) (all_own_entries build es)

-- the next ones that are left are the build's own
pub next_are_own :
    (log : List LogRec) (b : BuildState) (index : ℕ) (spec : KeySpecValue) (side : SideFileValue) (count : ℕ) → HasEntries log b index spec side
    → All (λ entry. entry.build ≡ b.number) (take count side.left)
next_are_own log b index spec side count has =
    let es : List SideEntry = drop (fed_to b index) (side_entries (scanning_of b spec) log) in
    subst (All (λ (entry : Entry). entry.build ≡ b.number))
    (sym (ap (take count) (left_of log b index spec side has) ∙ take-map (entry_of b.number) count es)) (all_own_entries b.number (take count es))

-- what a ring was sent is of no later build, where its side-file was fed from
pub sent_fed :
    (log : List LogRec) (b : BuildState) (index : ℕ) (spec : KeySpecValue) (old new : SideFileValue) (count builds : ℕ) → HasEntries log b index spec old
    → Feeds old count new → b.number ≤ builds → All (λ entry. entry.build ≤ builds) old.end.sent → All (λ entry. entry.build ≤ builds) new.end.sent
sent_fed log b index spec old new count builds has feeds number were =
    let Before : Entry → Type 0 = λ entry. entry.build ≤ builds in
    subst (All Before) (sym feeds.sent)
    (All-append Before old.end.sent (take count old.left) were
    (All-weaker (λ (entry : Entry). entry.build ≡ b.number) Before (λ entry same. omega (arith, same, number)) (take count old.left)
    (next_are_own log b index spec old count has)))

-- one of the rings
pub sent_at :
    (builds : ℕ) (sides : List SideFileValue) (index : ℕ) (side : SideFileValue) → EntriesAreOfBuilds builds (put_ends sides) → slice_get sides index ≡ Some side
    → All (λ entry. entry.build ≤ builds) side.end.sent
sent_at builds sides index side before there =
    all_at (λ (put : PutEnd Entry). All (λ entry. entry.build ≤ builds) put.sent) (put_ends sides) index side.end before
    (map_at (λ (s : SideFileValue). s.end) sides index side there)

-- all of them, where one changes
pub sent_set :
    (builds : ℕ) (sides : List SideFileValue) (index : ℕ) (new : SideFileValue) → EntriesAreOfBuilds builds (put_ends sides)
    → All (λ entry. entry.build ≤ builds) new.end.sent → EntriesAreOfBuilds builds (put_ends (set sides index new))
sent_set builds sides index new before its =
    let Of : PutEnd Entry → Type 0 = λ put. All (λ entry. entry.build ≤ builds) put.sent in
    subst (All Of) (sym (map-set (λ (s : SideFileValue). s.end) sides index new)) (All-set Of (put_ends sides) index new.end its before)

-- where they were looked at
pub sent_looked :
    (builds : ℕ) (olds news : List (PutEnd Entry)) → AllZip PutEndLooked olds news → EntriesAreOfBuilds builds olds → EntriesAreOfBuilds builds news
sent_looked builds [] [] looked before = before
sent_looked builds [] (n ∷ ns) looked before = absurd looked
sent_looked builds (o ∷ os) [] looked before = absurd looked
sent_looked builds (o ∷ os) (n ∷ ns) looked before =
    let Of : PutEnd Entry → Type 0 = λ put. All (λ entry. entry.build ≤ builds) put.sent in
    All-cons Of n ns (subst (All (λ (entry : Entry). entry.build ≤ builds)) (sym looked.0.sent) (All-head Of o os before))
    (sent_looked builds os ns looked.1 (All-tail Of o os before))

-- and none is of the number that comes next
pub sent_more : (builds : ℕ) (puts : List (PutEnd Entry)) → EntriesAreOfBuilds builds puts → EntriesAreOfBuilds (builds + 1) puts
sent_more builds puts before =
    All-weaker (λ (put : PutEnd Entry). All (λ entry. entry.build ≤ builds) put.sent) (λ (put : PutEnd Entry). All (λ entry. entry.build ≤ builds + 1) put.sent)
    (λ put old. All-weaker (λ (entry : Entry). entry.build ≤ builds) (λ (entry : Entry). entry.build ≤ builds + 1) (λ entry le. omega (arith, le)) put.sent old)
    puts before

-- rings that were sent nothing
pub nothing_sent : (puts : List (PutEnd Entry)) → All (λ end. end.sent ≡ []) puts → EntriesAreOfBuilds 0 puts
nothing_sent puts none =
    All-weaker (λ (put : PutEnd Entry). put.sent ≡ []) (λ (put : PutEnd Entry). All (λ entry. entry.build ≤ 0) put.sent)
    (λ put is. subst (All (λ (entry : Entry). entry.build ≤ 0)) (sym is) (All-nil (λ (entry : Entry). entry.build ≤ 0))) puts none
