-- What a build has is there until it ends, and an event that asks for it is refused only where nothing can go on.
use Rattle.std.proofs.Common.{◌≡◌, ℕ, zero, suc, ◌+◌, ◌<◌, Bool, true, false, List, [], ◌∷◌, ◌++◌, length, Option, Some, None, All, Result, Ok, Err, IfErr}
use Rattle.std.proofs.Common.{refl, sym, ap, ◌∙◌, subst, inl, inr, arith}
use Rattle.std.specs.Prelude.{not, nat_le, is_some, set, ◌⊎◌, ◌||◌, if◌then◌else◌}
use Rattle.std.specs.List.{range_with_len, slice_get}
use Rattle.std.specs.Option.{option_map}
use Rattle.std.proofs.lemmas.Bool.{cases_Bool, cases_eq, cases_lt, cond-true, cond-false, false≢true, lt-leb}
use Rattle.std.proofs.lemmas.List.{get_or-set_other, get_or-set_same, get_or_past}
use Rattle.std.proofs.lemmas.List.Elements.{All-head, All-tail}
use Rattle.std.proofs.lemmas.Option.{same_Some}
use Rattle.keybytes.specs.Faults.{first_cause}
use Rattle.keybytes.specs.declared.fault.Fault.{Fault}
use Rattle.keybytes.specs.declared.fault.Fault.TheVariants.{BadCount, Memory, NoPage, NotLoaded, NotScanned, NotSealed, RingFull}
use Rattle.build_events.specs.BuildSteps.{OnBuild, build_cause, cause_if, range_refusal}
use Rattle.build_events.specs.BuildSteps.{after_apply, after_digest, after_feed, after_load, after_scan, after_seal, next_applied, next_copies, next_fed}
use Rattle.build_events.specs.BuildSteps.{apply_refusal, index_refusal, load_refusal, pairs_copied, scan_refusal, worker_refusal}
use Rattle.build_events.specs.CoreState.{BuildState, CoreState, IndexState, LiveState, WorkState, with_live}
use Rattle.build_events.specs.Ranges.{first_that, next_page, open_range}
use Rattle.build_events.specs.Steps.{Does, HasPageCause, IsWorkWant, Run, Step, refusal}
use Rattle.build_events.specs.Workers.{index_at, is_sealed, unsealed_worker, waiting, worker_at}
use Rattle.build_events.specs.declared.event.Event.{Event}
use Rattle.build_events.specs.declared.event.Event.TheVariants.{Begin, Insert, Update, Delete, Undo, Commit, Start, Scan, Digest, Seal, Load, Feed, Apply, Fence, Switch, Abandon}
use Rattle.build_events.specs.declared.reply.Reply.{Reply}
use Rattle.build_events.specs.declared.reply.Reply.TheVariants.{Refused}
use Rattle.leased_core.specs.Leasing.{WantedLeasedPage}
use Rattle.kept_table.specs.Counts.{HasLaws}
use Rattle.kept_table.specs.Pieces.{IsDone, IsOfWork, StopsWork, WorksOn}
use Rattle.kept_table.specs.Progresses.{index_count}
use Rattle.kept_table.specs.Shapes.{HasIndex, HasLoaded, HasOpenRange, HasWorker, IsHeldUp, IsPutOff, IsThere, IsUnsealed, ScansIfRoom}
use Rattle.kept_table.proofs.Causes.{first_or, if_told, spoiled_want}
use Rattle.kept_table.proofs.Counts.{laws_of, on_build}
use Rattle.kept_table.proofs.Pieces.{done_not_refused, same_fault, stops_once, work_want}

-- What events of work keep.

-- what was in order is in order
abbrev StayLoaded : List IndexState → List IndexState → Type 0
StayLoaded old new = (index : ℕ) → (index_at old index).loaded ≡ true → (index_at new index).loaded ≡ true

-- the build that runs goes on, with as many workers and the same indexes, and what was in order is in order
record GoesOn (s new : CoreState) : Type 0 where
  before : BuildState
  runs : s.live.build ≡ Some before
  after : BuildState
  ran : new.live.build ≡ Some after
  workers : after.workers ≡ before.workers
  specs : after.specs ≡ before.specs
  loaded : StayLoaded s.work.indexes new.work.indexes

same_indexes : (old new : List IndexState) → new ≡ old → StayLoaded old new
same_indexes old new same index is = ap (λ (xs : List IndexState). (index_at xs index).loaded) same ∙ is

-- an index that is changed stays in order if it was
changed_index : (old : List IndexState) (k : ℕ) (it : IndexState) → ((index_at old k).loaded ≡ true → it.loaded ≡ true) → StayLoaded old (set old k it)
changed_index old k it stays index loaded =
    elim (cases_eq index k) [
      | inl same ↦ here same
      | inr other ↦ ap (λ (i : IndexState). i.loaded) (get_or-set_other old k index it (record { loaded = false; applied = 0 }) other) ∙ loaded
    ] where
      was : index ≡ k → (index_at old k).loaded ≡ true
      was same = ap (λ (n : ℕ). (index_at old n).loaded) (sym same) ∙ loaded

      here : index ≡ k → (index_at (set old k it) index).loaded ≡ true
      here same = ap (λ (n : ℕ). (index_at (set old k it) n).loaded) same ∙ elim (cases_lt k (length old)) [
        | inl less ↦ ap (λ (i : IndexState). i.loaded) (get_or-set_same old k it (record { loaded = false; applied = 0 }) less) ∙ stays (was same)
        | inr past ↦ absurd (false≢true (ap (λ (i : IndexState). i.loaded) (sym (get_or_past old k (record { loaded = false; applied = 0 }) past)) ∙ was same))
      ]

-- the work alone is another
works_on :
    (s new : CoreState) (work : WorkState) (b : BuildState) → s.live.build ≡ Some b → new ≡ record s { work = work }
    → StayLoaded s.work.indexes work.indexes → GoesOn s new
works_on s new work b runs is stay = record {
  before = b;
  runs = runs;
  after = b;
  ran = ap (λ (c : CoreState). c.live.build) is ∙ runs;
  workers = refl;
  specs = refl;
  loaded = λ index loaded. ap (λ (c : CoreState). (index_at c.work.indexes index).loaded) is ∙ stay index loaded;
}

-- what an event of work leaves goes on
goes_on : (s new : CoreState) (event : Event) (reply : Reply) → IsOfWork event → Does s event reply new → GoesOn s new
goes_on s new Begin reply of_work does = absurd of_work
goes_on s new (Insert txn row) reply of_work does = absurd of_work
goes_on s new (Update txn rid row) reply of_work does = absurd of_work
goes_on s new (Delete txn rid) reply of_work does = absurd of_work
goes_on s new (Undo txn) reply of_work does = absurd of_work
goes_on s new (Commit txn) reply of_work does = absurd of_work
goes_on s new (Start plan) reply of_work does = absurd of_work
goes_on s new (Scan range worker) reply of_work does =
    let at = on_build s.live.build (λ b. (next_page b range ≡ Some does.0) × (new.live ≡ after_scan s.live b worker does.0)) does.2.0 in
    record {
      before = at.0;
      runs = at.1;
      after = record at.0 { scans = at.0.scans ++ record { worker = worker; page = does.0; records = length s.live.heap.log } ∷ [] };
      ran = ap (λ (l : LiveState). l.build) at.2.1;
      workers = refl;
      specs = refl;
      loaded = same_indexes s.work.indexes new.work.indexes (ap (λ (c : CoreState). c.work.indexes) does.2.1);
    }
goes_on s new (Digest worker) reply of_work does =
    let at = on_build s.live.build (λ b. (does.0 ≡ next_copies b s.work worker) × (new ≡ record s { work = after_digest b s.work worker })) does.2 in
    works_on s new (after_digest at.0 s.work worker) at.0 at.1 at.2.1 (λ _ is. is)
goes_on s new (Seal worker) reply of_work does =
    let at = on_build s.live.build (λ b. (does.0 ≡ waiting b s.work worker) × (new ≡ record s { work = after_seal b s.work worker })) does.2 in
    works_on s new (after_seal at.0 s.work worker) at.0 at.1 at.2.1 (λ _ is. is)
goes_on s new (Load index) reply of_work does =
    let at = on_build s.live.build (λ b.
    (does.0 ≡ (if (index_at s.work.indexes index).loaded then 0 else pairs_copied b s.live.heap.log (slice_get b.specs index)))
    × (new ≡ record s { work = after_load s.work index })) does.2 in
    works_on s new (after_load s.work index) at.0 at.1 at.2.1
    (changed_index s.work.indexes index (record (index_at s.work.indexes index) { loaded = true }) (λ _. refl))
goes_on s new (Feed index most) reply of_work does =
    let at = on_build s.live.build (λ b.
    (does.0 ≡ next_fed b s.live.heap.log s.work index most)
    × (new ≡ with_live s (record s.live { build = Some (after_feed b index does.0) }))) does.2 in
    record {
      before = at.0;
      runs = at.1;
      after = after_feed at.0 index does.0;
      ran = ap (λ (c : CoreState). c.live.build) at.2.1;
      workers = refl;
      specs = refl;
      loaded = same_indexes s.work.indexes new.work.indexes (ap (λ (c : CoreState). c.work.indexes) at.2.1);
    }
goes_on s new (Apply index most) reply of_work does =
    let at = on_build s.live.build (λ b. (does.0 ≡ next_applied b s.work index most) × (new ≡ record s { work = after_apply s.work index does.0 })) does.2 in
    let it : IndexState = index_at s.work.indexes index in
    works_on s new (after_apply s.work index does.0) at.0 at.1 at.2.1
    (changed_index s.work.indexes index (record it { applied = it.applied + does.0 }) (λ is. is))
goes_on s new Fence reply of_work does = absurd of_work
goes_on s new Switch reply of_work does = absurd of_work
goes_on s new Abandon reply of_work does = absurd of_work

worker_stays : (s new : CoreState) (worker : ℕ) → GoesOn s new → HasWorker worker s → HasWorker worker new
worker_stays s new worker on has =
    let was : worker < on.before.workers = subst (λ (o : Option BuildState). OnBuild o (λ b. worker < b.workers)) on.runs has in
    subst (λ (o : Option BuildState). OnBuild o (λ b. worker < b.workers)) (sym on.ran) (omega (arith, was, on.workers))

index_stays : (s new : CoreState) (index : ℕ) → GoesOn s new → HasIndex index s → HasIndex index new
index_stays s new index on has =
    let was : index < length on.before.specs = subst (λ (o : Option BuildState). OnBuild o (λ b. index < length b.specs)) on.runs has in
    subst (λ (o : Option BuildState). OnBuild o (λ b. index < length b.specs)) (sym on.ran)
    (subst (λ (n : ℕ). index < n) (sym (ap length on.specs)) was)

loaded_stays : (s new : CoreState) (index : ℕ) → GoesOn s new → HasLoaded index s → HasLoaded index new
loaded_stays s new index on has = (index_stays s new index on has.0, on.loaded index has.1)

step_goes_on : (s new : CoreState) (event : Event) (reply : Reply) → IsOfWork event → IsDone reply → Step s event reply new → GoesOn s new
step_goes_on s new event reply of_work done (inl (fault, is, refused)) = absurd (done fault is)
step_goes_on s new event reply of_work done (inr (none, does)) = goes_on s new event reply of_work does

-- what each event keeps all of them keep
run_keeps :
    (P : CoreState → Type 0) → ((s new : CoreState) → GoesOn s new → P s → P new) → (s new : CoreState) (events : List Event) (replies : List Reply)
    → All IsOfWork events → All IsDone replies → Run (λ s event. Unit {0}) s events replies new → P s → P new
run_keeps P keeps s new [] [] of_work done run has = subst P (sym run) has
run_keeps P keeps s new [] (reply ∷ replies) of_work done run has = absurd run
run_keeps P keeps s new (event ∷ events) [] of_work done run has = absurd run
run_keeps P keeps s new (event ∷ events) (reply ∷ replies) of_work done run has =
    let on = step_goes_on s run.0 event reply (All-head IsOfWork event events of_work) (All-head IsDone reply replies done) run.1 in
    run_keeps P keeps run.0 new events replies (All-tail IsOfWork event events of_work) (All-tail IsDone reply replies done) run.3 (keeps s run.0 on has)

pub keeps_worker : (s new : CoreState) (worker : ℕ) → WorksOn s new → HasWorker worker s → HasWorker worker new
keeps_worker s new worker works has =
    run_keeps (HasWorker worker) (λ old after on. worker_stays old after worker on) s new works.events works.replies works.of_work works.done works.run has

pub keeps_worker_scan :
    (s new : CoreState) (range worker : ℕ) → ScansIfRoom range worker s new → HasWorker worker s → HasWorker worker new
keeps_worker_scan s new range worker (inl scanned) has = keeps_worker s new worker scanned.0 has
keeps_worker_scan s new range worker (inr (full, same)) has = subst (HasWorker worker) (sym same) has

pub keeps_loaded : (s new : CoreState) (index : ℕ) → WorksOn s new → HasLoaded index s → HasLoaded index new
keeps_loaded s new index works has =
    run_keeps (HasLoaded index) (λ old after on. loaded_stays old after index on) s new works.events works.replies works.of_work works.done works.run has

pub keeps_count : (s new : CoreState) → WorksOn s new → index_count new.live.build ≡ index_count s.live.build
keeps_count s new works =
    run_keeps (λ (c : CoreState). index_count c.live.build ≡ index_count s.live.build)
    (λ old after on was. ap index_count on.ran ∙ ap length on.specs ∙ sym (ap index_count on.runs) ∙ was) s new works.events works.replies works.of_work
    works.done works.run refl

-- where no build runs none comes
pub none_left : (s new : CoreState) → WorksOn s new → s.live.build ≡ None → new.live.build ≡ None
none_left s new works none =
    run_keeps (λ (c : CoreState). c.live.build ≡ None) (λ old after on is. absurd (let bad : None ≡ Some on.before = sym is ∙ on.runs in cc)) s new
    works.events works.replies works.of_work works.done works.run none

-- Why an event of work is refused.

-- the count is no cause
counted :
    (count n : ℕ) (rest : Option Fault) (fault : Fault) → n < count → first_cause (cause_if (nat_le count n) BadCount) rest ≡ Some fault
    → rest ≡ Some fault
counted count n rest fault less is = subst (λ (t : Bool). first_cause (cause_if t BadCount) rest ≡ Some fault) (lt-leb count n less) is

if_unsealed : (o : Option ℕ) (fault : Fault) → option_map NotSealed o ≡ Some fault → (worker : ℕ) × (fault ≡ NotSealed worker)
if_unsealed None fault is = absurd (cc)
if_unsealed (Some worker) fault is = (worker, sym (same_Some (NotSealed worker) fault is))

worker_cause :
    (build : Option BuildState) (work : WorkState) (worker : ℕ) (fault : Fault) → OnBuild build (λ b. worker < b.workers)
    → build_cause build (λ b. worker_refusal b work worker) ≡ Some fault → work.spoiled ≡ Some fault
worker_cause None work worker fault there is = absurd there
worker_cause (Some b) work worker fault there is = counted b.workers worker work.spoiled fault there is

scan_cause :
    (build : Option BuildState) (work : WorkState) (range worker : ℕ) (fault : Fault)
    → OnBuild build (λ b. (range < length b.ends) × (is_some (next_page b range) ≡ true)) → OnBuild build (λ b. worker < b.workers)
    → build_cause build (λ b. scan_refusal b work range worker) ≡ Some fault → (fault ≡ RingFull) ⊎ (work.spoiled ≡ Some fault)
scan_cause None work range worker fault page there is = absurd there
scan_cause (Some b) work range worker fault page there is =
    let tests : (nat_le (length b.ends) range || nat_le b.workers worker) ≡ false =
    rw (lt-leb (length b.ends) range page.0, lt-leb b.workers worker there) refl in
    let ring : Option Fault = cause_if (nat_le 4 (waiting b work worker)) RingFull in
    let rest : Option Fault = first_cause (range_refusal (next_page b range)) ring in
    let fits : first_cause work.spoiled rest ≡ Some fault =
    subst (λ (t : Bool). first_cause (cause_if t BadCount) (first_cause work.spoiled rest) ≡ Some fault) tests is in
    elim (first_or work.spoiled rest fault fits) [
      | inl spoiled ↦ inr spoiled
      | inr why ↦ inl (if_told (nat_le 4 (waiting b work worker)) RingFull fault (has_page (next_page b range) ring page.1 why))
    ] where
      has_page : (page : Option ℕ) (rest : Option Fault) → is_some page ≡ true → first_cause (range_refusal page) rest ≡ Some fault → rest ≡ Some fault
      has_page None rest none is = absurd (false≢true none)
      has_page (Some page) rest some is = is

load_cause :
    (build : Option BuildState) (s : CoreState) (index : ℕ) (fault : Fault) → OnBuild build (λ b. index < length b.specs)
    → OnBuild build (λ b. None ≡ open_range b) → build_cause build (λ b. load_refusal b s index) ≡ Some fault
    → ((worker : ℕ) × (fault ≡ NotSealed worker)) ⊎ (s.work.spoiled ≡ Some fault)
load_cause None s index fault there scanned is = absurd there
load_cause (Some b) s index fault there scanned is =
    let unsealed : Option ℕ = unsealed_worker b s.live.heap.log s.work in
    let rest : Option Fault = first_cause (option_map NotScanned (open_range b)) (option_map NotSealed unsealed) in
    elim (first_or s.work.spoiled rest fault (counted (length b.specs) index (first_cause s.work.spoiled rest) fault there is)) [
      | inl spoiled ↦ inr spoiled
      | inr why ↦ inl (if_unsealed unsealed fault
          (subst (λ (o : Option ℕ). first_cause (option_map NotScanned o) (option_map NotSealed unsealed) ≡ Some fault) (sym scanned) why))
    ]

feed_cause :
    (build : Option BuildState) (index : ℕ) (fault : Fault) → OnBuild build (λ b. index < length b.specs)
    → build_cause build (λ b. index_refusal b index) ≡ Some fault → ⊥
feed_cause None index fault there is = absurd there
feed_cause (Some b) index fault there is =
    let none : None ≡ Some fault = subst (λ (t : Bool). cause_if t BadCount ≡ Some fault) (lt-leb (length b.specs) index there) is in cc

apply_cause :
    (build : Option BuildState) (work : WorkState) (index : ℕ) (fault : Fault) → OnBuild build (λ b. index < length b.specs)
    → (index_at work.indexes index).loaded ≡ true → build_cause build (λ b. apply_refusal b work index) ≡ Some fault → work.spoiled ≡ Some fault
apply_cause None work index fault there loaded is = absurd there
apply_cause (Some b) work index fault there loaded is =
    let rest : Option Fault = cause_if (not (index_at work.indexes index).loaded) (NotLoaded index) in
    elim (first_or work.spoiled rest fault (counted (length b.specs) index (first_cause work.spoiled rest) fault there is)) [
      | inl spoiled ↦ spoiled
      | inr why ↦ absurd (let none : None ≡ Some fault = subst (λ (t : Bool). cause_if (not t) (NotLoaded index) ≡ Some fault) loaded why in cc)
    ]

-- only want has spoiled a build
spoiled_here :
    (s : CoreState) (fault : Fault) (P : BuildState → Type 0) → HasLaws s → OnBuild s.live.build P → s.work.spoiled ≡ Some fault → IsWorkWant fault
spoiled_here s fault P laws on is =
    let at = on_build s.live.build P on in spoiled_want s.work.spoiled fault (laws_of s at.0 at.1 laws).spoiled is

either_want :
    (s : CoreState) (fault : Fault) (Off : Type 0) (P : BuildState → Type 0) → HasLaws s → OnBuild s.live.build P → Off ⊎ (s.work.spoiled ≡ Some fault)
    → Off ⊎ IsWorkWant fault
either_want s fault Off P laws on (inl off) = inl off
either_want s fault Off P laws on (inr spoiled) = inr (spoiled_here s fault P laws on spoiled)

cause_told :
    (s : CoreState) (event : Event) (fault : Fault) → HasLaws s → IsThere event s → refusal s event ≡ Some fault → IsPutOff event fault ⊎ IsWorkWant fault
cause_told s Begin fault laws there is = absurd there
cause_told s (Insert txn row) fault laws there is = absurd there
cause_told s (Update txn rid row) fault laws there is = absurd there
cause_told s (Delete txn rid) fault laws there is = absurd there
cause_told s (Undo txn) fault laws there is = absurd there
cause_told s (Commit txn) fault laws there is = absurd there
cause_told s (Start plan) fault laws there is = absurd there
cause_told s (Scan range worker) fault laws there is =
    either_want s fault (IsPutOff (Scan range worker) fault) (λ b. worker < b.workers) laws there.1
    (scan_cause s.live.build s.work range worker fault there.0 there.1 is)
cause_told s (Digest worker) fault laws there is =
    inr (spoiled_here s fault (λ b. worker < b.workers) laws there (worker_cause s.live.build s.work worker fault there is))
cause_told s (Seal worker) fault laws there is =
    inr (spoiled_here s fault (λ b. worker < b.workers) laws there (worker_cause s.live.build s.work worker fault there is))
cause_told s (Load index) fault laws there is =
    either_want s fault (IsPutOff (Load index) fault) (λ b. index < length b.specs) laws there.0
    (load_cause s.live.build s index fault there.0 there.1 is)
cause_told s (Feed index most) fault laws there is = absurd (feed_cause s.live.build index fault there is)
cause_told s (Apply index most) fault laws there is =
    inr (spoiled_here s fault (λ b. index < length b.specs) laws there.0 (apply_cause s.live.build s.work index fault there.0 there.1 is))
cause_told s Fence fault laws there is = absurd there
cause_told s Switch fault laws there is = absurd there
cause_told s Abandon fault laws there is = absurd there

why_refused :
    (s new : CoreState) (event : Event) (fault : Fault) → HasLaws s → IsOfWork event → IsThere event s → Step s event (Refused fault) new
    → IsPutOff event fault ⊎ IsWorkWant fault
why_refused s new event fault laws of_work there (inr (none, does)) = absurd (done_not_refused s event fault new of_work does)
why_refused s new event fault laws of_work there (inl (told, is, inl (cause, same))) =
    cause_told s event fault laws there (cause ∙ ap (λ f. Some f) (same_fault fault told is))
why_refused s new event fault laws of_work there (inl (told, is, inr (none, want, after))) =
    inr (subst IsWorkWant (same_fault fault told is) (work_want event told of_work want))

pub held_up :
    (s new : CoreState) (event : Event) (fault : Fault) → HasLaws s → IsOfWork event → IsThere event s → Step s event (Refused fault) new
    → HasPageCause WantedLeasedPage s event (Refused fault) → IsHeldUp s event fault new
held_up s new event fault laws of_work there step full =
    record { refused = step; full = full; why = why_refused s new event fault laws of_work there step }

-- what isn't put off stops
pub stops_unless_off :
    (s new : CoreState) (event : Event) (fault : Fault) → (IsPutOff event fault → ⊥) → IsHeldUp s event fault new → StopsWork (event ∷ []) s fault new
stops_unless_off s new event fault on held = stops_once s new event fault held.refused held.full (elim held.why [
  | inl off ↦ absurd (on off)
  | inr want ↦ want
])

-- so a call that may only be held up stops
pub stops_if_held :
    {T : Type 0} (told : Result T Fault) (s new : CoreState) (event : Event) → ((fault : Fault) → IsPutOff event fault → ⊥)
    → IfErr told (λ fault. IsHeldUp s event fault new) → IfErr told (λ fault. StopsWork (event ∷ []) s fault new)
stops_if_held (Ok x) s new event on held = tt
stops_if_held (Err fault) s new event on held = stops_unless_off s new event fault (on fault) held

-- a full ring and an unsealed worker aren't want of a page or of memory
pub full_wants_none : (fault : Fault) → fault ≡ RingFull → IsWorkWant fault → ⊥
full_wants_none fault is (inl page) = let bad : RingFull ≡ NoPage = sym is ∙ page in cc
full_wants_none fault is (inr memory) = let bad : RingFull ≡ Memory = sym is ∙ memory in cc

pub unsealed_wants_none : (fault : Fault) (worker : ℕ) → fault ≡ NotSealed worker → IsWorkWant fault → ⊥
unsealed_wants_none fault worker is (inl page) = let bad : NotSealed worker ≡ NoPage = sym is ∙ page in cc
unsealed_wants_none fault worker is (inr memory) = let bad : NotSealed worker ≡ Memory = sym is ∙ memory in cc

-- and what is put off changes nothing, and has its cause
pub off_told :
    (s new : CoreState) (event : Event) (fault : Fault) → IsOfWork event → IsHeldUp s event fault new → (IsWorkWant fault → ⊥)
    → (refusal s event ≡ Some fault) × (new ≡ s)
off_told s new event fault of_work held none = of_step held.refused where
  of_step : Step s event (Refused fault) new → (refusal s event ≡ Some fault) × (new ≡ s)
  of_step (inl (told, is, inl (cause, same))) = (cause ∙ ap (λ f. Some f) (same_fault fault told is), same)
  of_step (inl (told, is, inr (cause, want, after))) = absurd (none (subst IsWorkWant (same_fault fault told is) (work_want event told of_work want)))
  of_step (inr (cause, does)) = absurd (done_not_refused s event fault new of_work does)

pub scan_off :
    (s new : CoreState) (range worker : ℕ) (fault : Fault) → fault ≡ RingFull → IsHeldUp s (Scan range worker) fault new → ScansIfRoom range worker s new
scan_off s new range worker fault is held =
    let told = off_told s new (Scan range worker) fault tt held (full_wants_none fault is) in inr (told.0 ∙ ap (λ f. Some f) is, told.1)

-- what is found passes the test
pub found : (test : ℕ → Bool) (first count n : ℕ) → first_that test (range_with_len first count) ≡ Some n → (n < first + count) × (test n ≡ true)
found test first zero n is = absurd (cc)
found test first (suc count) n is =
    let rest : Option ℕ = first_that test (range_with_len (first + 1) count) in
    elim (cases_Bool (test first)) [
      | inl pass ↦
          let same : first ≡ n = same_Some first n (sym (cond-true (test first) (Some first) rest pass) ∙ is) in
          (omega arith, sym (ap test same) ∙ pass)
      | inr fail ↦
          let later = found test (first + 1) count n (sym (cond-false (test first) (Some first) rest fail) ∙ is) in
          (omega (arith, later.0), later.1)
    ]

-- the worker that a load waits for is one of the build
unsealed_there : (s : CoreState) (index worker : ℕ) → HasLaws s → HasIndex index s → HasOpenRange None s → IsUnsealed index worker s → HasWorker worker s
unsealed_there s index worker laws there scanned unsealed = at s.live.build refl where
  at : (o : Option BuildState) → s.live.build ≡ o → HasWorker worker s
  at None none = absurd (subst (λ (o : Option BuildState). OnBuild o (λ b. index < length b.specs)) none there)
  at (Some b) runs =
      let work = laws_of s b runs laws in
      let less : index < length b.specs = subst (λ (o : Option BuildState). OnBuild o (λ it. index < length it.specs)) runs there in
      let copied : None ≡ open_range b = subst (λ (o : Option BuildState). OnBuild o (λ it. None ≡ open_range it)) runs scanned in
      let lowest : Option ℕ = unsealed_worker b s.live.heap.log s.work in
      let is : load_refusal b s index ≡ Some (NotSealed worker) =
      subst (λ (o : Option BuildState). build_cause o (λ it. load_refusal it s index) ≡ Some (NotSealed worker)) runs unsealed in
      let rest : Option Fault = first_cause (option_map NotScanned (open_range b)) (option_map NotSealed lowest) in
      let few : worker < length s.work.workers =
      elim (first_or s.work.spoiled rest (NotSealed worker)
      (counted (length b.specs) index (first_cause s.work.spoiled rest) (NotSealed worker) less is)) [
        | inl spoiled ↦ absurd (unsealed_wants_none (NotSealed worker) worker refl (spoiled_want s.work.spoiled (NotSealed worker) work.spoiled spoiled))
        | inr why ↦ lowest_there lowest refl
            (subst (λ (o : Option ℕ). first_cause (option_map NotScanned o) (option_map NotSealed lowest) ≡ Some (NotSealed worker)) (sym copied) why)
      ] in
      subst (λ (o : Option BuildState). OnBuild o (λ it. worker < it.workers)) (sym runs) (omega (arith, few, work.workers)) where
        lowest_there : (o : Option ℕ) → o ≡ unsealed_worker b s.live.heap.log s.work → option_map NotSealed o ≡ Some (NotSealed worker) → worker < length s.work.workers
        lowest_there None is bad = absurd (cc)
        lowest_there (Some found_at) is same =
            let here : found_at ≡ worker = cc in
            let it = found (λ w. not (is_sealed b s.live.heap.log w (worker_at s.work w))) 0 (length s.work.workers) found_at (sym is) in
            omega (arith, it.0, here)

pub load_off :
    (s new : CoreState) (index worker : ℕ) (fault : Fault) → HasLaws s → HasIndex index s → HasOpenRange None s → fault ≡ NotSealed worker
    → IsHeldUp s (Load index) fault new → IsUnsealed index worker s × HasWorker worker s × (new ≡ s)
load_off s new index worker fault laws there scanned is held =
    let told = off_told s new (Load index) fault tt held (unsealed_wants_none fault worker is) in
    let unsealed : IsUnsealed index worker s = told.0 ∙ ap (λ f. Some f) is in
    (unsealed, unsealed_there s index worker laws there scanned unsealed, told.1)
