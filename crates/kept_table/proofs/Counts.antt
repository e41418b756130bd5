-- What is so of a build, and the count of its pages, stays so whatever is done.
use Rattle.std.proofs.Common.{◌≡◌, ◌<◌, ◌≤◌, ℕ, zero, suc, ◌+◌, Bool, true, false, List, [], ◌∷◌, ◌++◌, length, map, Option, Some, None, Result, Ok, Err, OnErr, IfOk, IfErr, refl, sym, ap, ◌∙◌, subst, inl, inr, arith}
use Rattle.std.specs.Prelude.{IfSome, if◌then◌else◌, is_some, min, not, set, get_or}
use Rattle.std.specs.List.{slice_get}
use Rattle.std.proofs.Math.Nat.{min-le_right}
use Rattle.std.proofs.lemmas.Bool.{cases_eq, cases_lt}
use Rattle.std.proofs.lemmas.List.{get_or-set_other, get_or-set_same, get_or_past, length_push, length-map, length-replicate, length-set, set_past}
use Rattle.std.proofs.lemmas.Option.{same_Some, slice_get_cases}
use Rattle.keybytes.specs.Keys.{KeySpecValue}
use Rattle.keybytes.specs.declared.fault.Fault.{Fault}
use Rattle.keybytes.specs.declared.fault.Fault.TheVariants.{BadCount, BuildRunning}
use Rattle.keybytes.proofs.FirstCause.{both_none}
use Rattle.heap_log.specs.declared.record.LogRec.{LogRec}
use Rattle.heap_table.specs.HeapState.{HeapState}
use Rattle.build_events.specs.BuildSteps.{AreFurther, MayTakeMemory, OnBuild, after_apply, after_digest, after_feed, after_load, after_scan, after_seal, cause_if, counts_fit}
use Rattle.build_events.specs.BuildSteps.{fresh_work, next_applied, next_copies, next_fed, pairs_copied, started}
use Rattle.build_events.specs.CoreState.{BuildState, CoreState, IndexState, LiveState, WorkState, WorkerState, abandoned, spoiled_work, with_heap, with_live, without}
use Rattle.build_events.specs.Ranges.{next_page}
use Rattle.build_events.specs.Steps.{AfterWant, Does, IsRefused, IsWant, IsWorkWant, Step, spoiled_by}
use Rattle.build_events.specs.Workers.{fed_to, in_ring, index_at, put_to, waiting, worker_at}
use Rattle.build_events.specs.declared.event.Event.{Event}
use Rattle.build_events.specs.declared.event.Event.TheVariants.{Begin, Insert, Update, Delete, Undo, Commit, Start, Scan, Digest, Seal, Load, Feed, Apply, Fence, Switch, Abandon}
use Rattle.build_events.specs.declared.plan.Plan.{Plan}
use Rattle.build_events.specs.declared.reply.Reply.{Reply}
use Rattle.build_events.specs.declared.reply.Reply.TheVariants.{Begun, Written, Undone, Committed, Started, Digested, Sealed, Loaded, Fed, Applied, FenceSet, Refused}
use Rattle.run_spool.specs.declared.choice.SpoolChoice.{SpoolChoice}
use Rattle.live_lemmas.proofs.Starts.{has_counts}
use Rattle.leased_core.specs.Leasing.{EndsBuild, KeepsBuild, StartsOver, with_new_spools}
use Rattle.kept_table.specs.Counts.{AreFed, Counts, HasItsWork, HasLaws, IsCounted, count_after}
use Rattle.kept_table.specs.declared.page_count.PageCount.{PageCount}

-- the build that runs has its work, and its pages are counted
abbrev pub IsSound : PageCount → CoreState → Type 0
IsSound count s = Counts count s × HasLaws s

pub on_build : (o : Option BuildState) (P : BuildState → Type 0) → OnBuild o P → (b : BuildState) × (o ≡ Some b) × P b
on_build None P on = absurd on
on_build (Some b) P on = (b, refl, on)

-- what is so of the build that runs, once it is known
pub laws_of : (s : CoreState) (b : BuildState) → s.live.build ≡ Some b → HasLaws s → HasItsWork b s.work
laws_of s b runs laws = subst (λ (o : Option BuildState). IfSome o (λ it. HasItsWork it s.work)) runs laws

counts_of : (count : PageCount) (s : CoreState) (b : BuildState) → s.live.build ≡ Some b → Counts count s → IsCounted count b
counts_of count s b runs counts = subst (λ (o : Option BuildState). IfSome o (IsCounted count)) runs counts

-- and back
sound_at :
    (count : PageCount) (new : CoreState) (b : BuildState) (work : WorkState) → new.live.build ≡ Some b → new.work ≡ work → IsCounted count b
    → HasItsWork b work → IsSound count new
sound_at count new b work runs is counted laws = (
  subst (λ (o : Option BuildState). IfSome o (IsCounted count)) (sym runs) counted,
  subst (λ (o : Option BuildState). IfSome o (λ it. HasItsWork it new.work)) (sym runs) (subst (HasItsWork b) (sym is) laws),
)

pub sound_without : (count : PageCount) (new : CoreState) → new.live.build ≡ None → IsSound count new
sound_without count new none = (
  subst (λ (o : Option BuildState). IfSome o (IsCounted count)) (sym none) tt,
  subst (λ (o : Option BuildState). IfSome o (λ it. HasItsWork it new.work)) (sym none) tt,
)

-- the same build and the same work
same_build : (count : PageCount) (s new : CoreState) → new.live.build ≡ s.live.build → new.work ≡ s.work → IsSound count s → IsSound count new
same_build count s new build work sound = (
  subst (λ (o : Option BuildState). IfSome o (IsCounted count)) (sym build) sound.0,
  subst (λ (o : Option BuildState). IfSome o (λ it. HasItsWork it new.work)) (sym build)
      (subst (λ (w : WorkState). IfSome s.live.build (λ it. HasItsWork it w)) (sym work) sound.1),
)

pub same_sound : (count : PageCount) (s new : CoreState) → new ≡ s → IsSound count s → IsSound count new
same_sound count s new same sound = subst (IsSound count) (sym same) sound

-- the heap is another
of_heap :
    (count : PageCount) (s new : CoreState) (heap : HeapState) → new.live ≡ record s.live { heap = heap } → new ≡ with_live s new.live → IsSound count s
    → IsSound count new
of_heap count s new heap live is sound =
    same_build count s new (ap (λ (l : LiveState). l.build) live) (ap (λ (c : CoreState). c.work) is) sound

-- Entries that were applied were fed.

-- an index is changed, of which no more were applied than were fed
set_fed :
    (b : BuildState) (work : WorkState) (k : ℕ) (it : IndexState) → AreFed b work → it.applied ≤ fed_to b k
    → AreFed b (record work { indexes = set work.indexes k it })
set_fed b work k it fed few index =
    let none : IndexState = record { loaded = false; applied = 0 } in
    elim (cases_eq index k) [
      | inr other ↦ omega (arith, fed index, ap (λ (i : IndexState). i.applied) (get_or-set_other work.indexes k index it none other))
      | inl same ↦ elim (cases_lt k (length work.indexes)) [
        | inl less ↦ omega (
          arith,
          few,
          ap (λ (i : IndexState). i.applied) (get_or-set_same work.indexes k it none less),
          ap (λ (n : ℕ). (index_at (set work.indexes k it) n).applied) same,
          ap (λ (n : ℕ). fed_to b n) same,
        )
        | inr past ↦ omega (arith, fed index, ap (λ (is : List IndexState). (index_at is index).applied) (set_past work.indexes k it past))
      ]
    ]

-- more entries were fed
more_fed : (fed : List ℕ) (k more index : ℕ) → get_or fed index 0 ≤ get_or (set fed k (get_or fed k 0 + more)) index 0
more_fed fed k more index =
    let now : ℕ = get_or fed k 0 + more in
    elim (cases_eq index k) [
      | inr other ↦ omega (arith, get_or-set_other fed k index now 0 other)
      | inl same ↦ elim (cases_lt k (length fed)) [
        | inl less ↦ omega (arith, get_or-set_same fed k now 0 less, ap (λ (n : ℕ). get_or (set fed k now) n 0) same, ap (λ (n : ℕ). get_or fed n 0) same)
        | inr past ↦ omega (arith, ap (λ (ns : List ℕ). get_or ns index 0) (set_past fed k now past))
      ]
    ]

-- each index that is further was fed what was applied to it, and no other is there
further_fed :
    (b : BuildState) (log : List LogRec) (work : WorkState) (fed : List ℕ) (indexes : List IndexState) → length work.indexes ≡ length b.specs
    → AreFurther b log work.indexes fed indexes → AreFed (record b { fed = fed }) (record work { indexes = indexes })
further_fed b log work fed indexes many further index =
    elim ((slice_get_cases b.specs index).1) [
      | inl (spec, less, there, same) ↦ (further.each index spec there).applied_were_fed
      | inr (past, none) ↦
          let gone : length indexes ≤ index = omega (arith, further.indexes_many, many, past) in
          omega (arith, ap (λ (i : IndexState). i.applied) (get_or_past indexes index (record { loaded = false; applied = 0 }) gone))
    ]

-- none was applied at the start
none_applied : (specs : List KeySpecValue) (index : ℕ) → (index_at (map (λ spec. record { loaded = false; applied = 0 }) specs) index).applied ≡ 0
none_applied [] index = refl
none_applied (spec ∷ specs) zero = refl
none_applied (spec ∷ specs) (suc index) = none_applied specs index

-- the work is another
pub has_work :
    (b : BuildState) (old new : WorkState) → HasItsWork b old → length new.workers ≤ length old.workers → length new.indexes ≡ length old.indexes
    → AreFed b new → IfSome new.spoiled IsWorkWant → HasItsWork b new
has_work b old new laws workers indexes were_fed spoiled = record {
  some_workers = laws.some_workers;
  some_indexes = laws.some_indexes;
  few_indexes = laws.few_indexes;
  workers = omega (arith, workers, laws.workers);
  indexes = indexes ∙ laws.indexes;
  fed = laws.fed;
  were_fed = were_fed;
  spoiled = spoiled;
}

of_work :
    (count : PageCount) (s new : CoreState) (work : WorkState) → new ≡ record s { work = work }
    → length work.workers ≤ length s.work.workers → length work.indexes ≡ length s.work.indexes
    → ((b : BuildState) → s.live.build ≡ Some b → HasItsWork b s.work → AreFed b work × IfSome work.spoiled IsWorkWant) → IsSound count s
    → IsSound count new
of_work count s new work is workers indexes rest sound =
    at_build s.live.build refl where
      at_build : (o : Option BuildState) → s.live.build ≡ o → IsSound count new
      at_build None none = sound_without count new (ap (λ (c : CoreState). c.live.build) is ∙ none)
      at_build (Some b) runs =
          let laws = laws_of s b runs sound.1 in
          sound_at count new b work (ap (λ (c : CoreState). c.live.build) is ∙ runs) (ap (λ (c : CoreState). c.work) is)
          (counts_of count s b runs sound.0) (has_work b s.work work laws workers indexes (rest b runs laws).0 (rest b runs laws).1)

-- entries went into the rings, and were applied
fed_sound :
    (count : PageCount) (s new : CoreState) (b : BuildState) (fed : List ℕ) (work : WorkState) → s.live.build ≡ Some b
    → new.live.build ≡ Some (record b { fed = fed }) → new.work ≡ work → work.workers ≡ s.work.workers → length work.indexes ≡ length s.work.indexes
    → length fed ≡ length b.fed → (HasItsWork b s.work → AreFed (record b { fed = fed }) work) → work.spoiled ≡ s.work.spoiled → IsSound count s
    → IsSound count new
fed_sound count s new b fed work runs run is workers indexes many were_fed spoiled sound =
    let counted = counts_of count s b runs sound.0 in
    let laws = laws_of s b runs sound.1 in
    sound_at count new (record b { fed = fed }) work run is (record { all = counted.all; copied = counted.copied })
    (record {
      some_workers = laws.some_workers;
      some_indexes = laws.some_indexes;
      few_indexes = laws.few_indexes;
      workers = omega (arith, ap (λ (ws : List WorkerState). length ws) workers, laws.workers);
      indexes = indexes ∙ laws.indexes;
      fed = many ∙ laws.fed;
      were_fed = were_fed laws;
      spoiled = subst (λ (o : Option Fault). IfSome o IsWorkWant) (sym spoiled) laws.spoiled;
    })

-- Want.

spoiled_sound :
    (count : PageCount) (s new : CoreState) (fault : Fault) → IsWorkWant fault → new ≡ spoiled_by fault s → IsSound count s → IsSound count new
spoiled_sound count s new fault want is sound =
    of_work count s new (spoiled_work fault s.work) is (omega arith) refl (λ b runs laws. (laws.were_fed, want)) sound

applied_sound :
    (count : PageCount) (s new : CoreState) (b : BuildState) (index applied : ℕ) → s.live.build ≡ Some b → applied ≤ in_ring b s.work index
    → new ≡ record s { work = after_apply s.work index applied } → IsSound count s → IsSound count new
applied_sound count s new b index applied runs few is sound =
    let it : IndexState = index_at s.work.indexes index in
    let more : IndexState = record it { applied = it.applied + applied } in
    of_work count s new (after_apply s.work index applied) is (omega arith) (length-set s.work.indexes index more)
    (λ other ran laws. (
      let same : other ≡ b = same_Some other b (sym ran ∙ runs) in
          set_fed other s.work index more laws.were_fed (omega (arith, laws.were_fed index, few, ap (λ (it : BuildState). fed_to it index) same)),
      laws.spoiled,
    )) sound

want_sound :
    (count : PageCount) (s new : CoreState) (event : Event) (fault : Fault) → KeepsBuild event → IsWant event fault → AfterWant event fault s new
    → IsSound count s → IsSound count new
want_sound count s new Begin fault keeps want after sound = same_sound count s new after sound
want_sound count s new (Insert txn row) fault keeps want after sound = same_sound count s new after sound
want_sound count s new (Update txn rid row) fault keeps want after sound = same_sound count s new after sound
want_sound count s new (Delete txn rid) fault keeps want after sound = same_sound count s new after sound
want_sound count s new (Undo txn) fault keeps want after sound = same_sound count s new after sound
want_sound count s new (Commit txn) fault keeps want after sound = same_sound count s new after sound
want_sound count s new (Start plan) fault keeps want after sound = absurd keeps
want_sound count s new (Scan range worker) fault keeps want after sound = same_sound count s new after sound
want_sound count s new (Digest worker) fault keeps want after sound = spoiled_sound count s new fault want after.1 sound
want_sound count s new (Seal worker) fault keeps want after sound = spoiled_sound count s new fault want after.1 sound
want_sound count s new (Load index) fault keeps want after sound = spoiled_sound count s new fault (inr want) after.1 sound
want_sound count s new (Feed index most) fault keeps want after sound = absurd want
want_sound count s new (Apply index most) fault keeps want after sound =
    let at = on_build s.live.build (λ b.
    (applied : ℕ) × (applied < next_applied b s.work index most) × (new ≡ record s { work = after_apply s.work index applied })
    × MayTakeMemory b s.live.heap.log index ((index_at s.work.indexes index).applied + applied)) after in
    applied_sound count s new at.0 index at.2.0 at.1
    (omega (arith, at.2.1, min-le_right most (in_ring at.0 s.work index))) at.2.2 sound
want_sound count s new Fence fault keeps want after sound = absurd want
want_sound count s new Switch fault keeps want after sound = absurd keeps
want_sound count s new Abandon fault keeps want after sound = absurd keeps

refused_sound :
    (count : PageCount) (s new : CoreState) (event : Event) (fault : Fault) → KeepsBuild event → IsRefused s event fault new → IsSound count s
    → IsSound count new
refused_sound count s new event fault keeps (inl (cause, same)) sound = same_sound count s new same sound
refused_sound count s new event fault keeps (inr (none, want, after)) sound = want_sound count s new event fault keeps want after sound

-- What is done.

-- the reply is no page
told_sound :
    (count : PageCount) (new : CoreState) (reply told : Reply) → reply ≡ told → count_after count told ≡ count → IsSound count new
    → IsSound (count_after count reply) new
told_sound count new reply told is same sound =
    subst (λ (r : Reply). IsSound (count_after count r) new) (sym is) (subst (λ (k : PageCount). IsSound k new) (sym same) sound)

does_sound :
    (count : PageCount) (s new : CoreState) (event : Event) (reply : Reply) → KeepsBuild event → Does s event reply new → IsSound count s
    → IsSound (count_after count reply) new
does_sound count s new Begin reply keeps does sound =
    told_sound count new reply (Begun does.0) does.1 refl (of_heap count s new new.live.heap does.2.0.1 does.2.1 sound)
does_sound count s new (Insert txn row) reply keeps does sound =
    told_sound count new reply (Written does.0.0 does.0.1) does.1 refl
    (same_build count s new (ap (λ (l : LiveState). l.build) does.2.0.1) (ap (λ (c : CoreState). c.work) does.2.1) sound)
does_sound count s new (Update txn rid row) reply keeps does sound =
    told_sound count new reply (Written does.0.0 does.0.1) does.1 refl
    (same_build count s new (ap (λ (l : LiveState). l.build) does.2.0.1) (ap (λ (c : CoreState). c.work) does.2.1) sound)
does_sound count s new (Delete txn rid) reply keeps does sound =
    told_sound count new reply (Written does.0.0 does.0.1) does.1 refl
    (same_build count s new (ap (λ (l : LiveState). l.build) does.2.0.1) (ap (λ (c : CoreState). c.work) does.2.1) sound)
does_sound count s new (Undo txn) reply keeps does sound =
    told_sound count new reply (Undone does.0.number does.0.left) does.1 refl
    (same_build count s new (ap (λ (l : LiveState). l.build) does.2.0.1) (ap (λ (c : CoreState). c.work) does.2.1) sound)
does_sound count s new (Commit txn) reply keeps does sound =
    told_sound count new reply (Committed does.0) does.1 refl (of_heap count s new new.live.heap does.2.0.1 does.2.1 sound)
does_sound count s new (Start plan) reply keeps does sound = absurd keeps
does_sound count s new (Scan range worker) reply keeps does sound =
    let at = on_build s.live.build (λ b. (next_page b range ≡ Some does.0) × (new.live ≡ after_scan s.live b worker does.0)) does.2.0 in
    let b : BuildState = at.0 in
    let scans = b.scans ++ record { worker = worker; page = does.0; records = length s.live.heap.log } ∷ [] in
    let counted = counts_of count s b at.1 sound.0 in
    let laws = laws_of s b at.1 sound.1 in
    subst (λ (r : Reply). IsSound (count_after count r) new) (sym does.1)
    (sound_at (record count { copied = min (count.copied + 1) 4294967295 }) new (record b { scans = scans }) s.work
    (ap (λ (l : LiveState). l.build) at.2.1) (ap (λ (c : CoreState). c.work) does.2.1)
    (record { all = counted.all; copied = omega (arith, counted.copied, length_push b.scans (record { worker = worker; page = does.0; records = length s.live.heap.log })) })
    (record {
      some_workers = laws.some_workers;
      some_indexes = laws.some_indexes;
      few_indexes = laws.few_indexes;
      workers = laws.workers;
      indexes = laws.indexes;
      fed = laws.fed;
      were_fed = laws.were_fed;
      spoiled = laws.spoiled;
    }))
does_sound count s new (Digest worker) reply keeps does sound =
    let at = on_build s.live.build (λ b. (does.0 ≡ next_copies b s.work worker) × (new ≡ record s { work = after_digest b s.work worker })) does.2 in
    let old : WorkerState = worker_at s.work worker in
    told_sound count new reply (Digested does.0) does.1 refl
    (of_work count s new (after_digest at.0 s.work worker) at.2.1
    (omega (arith, length-set s.work.workers worker (record old { taken = old.taken + next_copies at.0 s.work worker }))) refl
    (λ b runs laws. (laws.were_fed, laws.spoiled)) sound)
does_sound count s new (Seal worker) reply keeps does sound =
    let at = on_build s.live.build (λ b. (does.0 ≡ waiting b s.work worker) × (new ≡ record s { work = after_seal b s.work worker })) does.2 in
    let put : ℕ = length (put_to at.0 worker) in
    told_sound count new reply (Sealed does.0) does.1 refl
    (of_work count s new (after_seal at.0 s.work worker) at.2.1
    (omega (arith, length-set s.work.workers worker (record { taken = put; sealed = put }))) refl
    (λ b runs laws. (laws.were_fed, laws.spoiled)) sound)
does_sound count s new (Load index) reply keeps does sound =
    let at = on_build s.live.build (λ b.
    (does.0 ≡ (if (index_at s.work.indexes index).loaded then 0 else pairs_copied b s.live.heap.log (slice_get b.specs index)))
    × (new ≡ record s { work = after_load s.work index })) does.2 in
    told_sound count new reply (Loaded does.0) does.1 refl
    (of_work count s new (after_load s.work index) at.2.1 (omega arith)
    (length-set s.work.indexes index (record (index_at s.work.indexes index) { loaded = true }))
    (λ b runs laws. (
      set_fed b s.work index (record (index_at s.work.indexes index) { loaded = true }) laws.were_fed (laws.were_fed index),
      laws.spoiled,
    )) sound)
does_sound count s new (Feed index most) reply keeps does sound =
    let at = on_build s.live.build (λ b.
    (does.0 ≡ next_fed b s.live.heap.log s.work index most)
    × (new ≡ with_live s (record s.live { build = Some (after_feed b index does.0) }))) does.2 in
    told_sound count new reply (Fed does.0) does.1 refl
    (fed_sound count s new at.0 (after_feed at.0 index does.0).fed s.work at.1 (ap (λ (c : CoreState). c.live.build) at.2.1)
    (ap (λ (c : CoreState). c.work) at.2.1) refl refl (length-set at.0.fed index (fed_to at.0 index + does.0))
    (λ laws k. omega (arith, laws.were_fed k, more_fed at.0.fed index does.0 k)) refl sound)
does_sound count s new (Apply index most) reply keeps does sound =
    let at = on_build s.live.build (λ b. (does.0 ≡ next_applied b s.work index most) × (new ≡ record s { work = after_apply s.work index does.0 })) does.2 in
    told_sound count new reply (Applied does.0) does.1 refl
    (applied_sound count s new at.0 index does.0 at.1 (omega (arith, at.2.0, min-le_right most (in_ring at.0 s.work index))) at.2.1 sound)
does_sound count s new Fence reply keeps does sound =
    told_sound count new reply FenceSet does.0 refl
    (same_build count s new (ap (λ (c : CoreState). c.live.build) does.1) (ap (λ (c : CoreState). c.work) does.1) sound)
does_sound count s new Switch reply keeps does sound = absurd keeps
does_sound count s new Abandon reply keeps does sound = absurd keeps

-- an event that neither starts a build nor ends one
pub step_sound :
    (count : PageCount) (s new : CoreState) (event : Event) (reply : Reply) → KeepsBuild event → Step s event reply new → IsSound count s
    → IsSound (count_after count reply) new
step_sound count s new event reply keeps (inl (fault, is, refused)) sound =
    told_sound count new reply (Refused fault) is refl (refused_sound count s new event fault keeps refused sound)
step_sound count s new event reply keeps (inr (none, does)) sound = does_sound count s new event reply keeps does sound

-- The start of a build, and its end.

unless_none : (b : Bool) (fault : Fault) → cause_if (not b) fault ≡ None → b ≡ true
unless_none true fault is = refl
unless_none false fault is = absurd (cc)

pub start_sound :
    (s new : CoreState) (chosen : SpoolChoice) (quota : ℕ) (plan : Plan) (pages : ℕ) → StartsOver chosen quota plan s (Started pages) new
    → IsSound (record { all = pages; copied = 0 }) new
start_sound s new chosen quota plan pages (inl (fault, is, refused)) = absurd (let bad : Started pages ≡ Refused fault = is in cc)
start_sound s new chosen quota plan pages (inr (none, does)) =
    let before : CoreState = with_new_spools chosen quota plan s in
    let b : BuildState = started before.live plan in
    let behind = both_none (cause_if (is_some before.live.build) BuildRunning) _ none in
    let fit = both_none (cause_if (not (counts_fit before.live (length before.spools.left) plan)) BadCount) _ behind.1 in
    let counts = has_counts before.live (length before.spools.left) plan (unless_none (counts_fit before.live (length before.spools.left) plan) BadCount fit.0) in
    let read : pages ≡ does.0 = (let is : Started pages ≡ Started does.0 = does.1 in cc) in
    sound_at (record { all = pages; copied = 0 }) new b (fresh_work plan) (ap (λ (c : CoreState). c.live.build) does.2.1)
    (ap (λ (c : CoreState). c.work) does.2.1) (record { all = read ∙ does.2.0; copied = refl })
    (record {
      some_workers = omega (arith, counts.some);
      some_indexes = omega (arith, counts.some_index);
      few_indexes = counts.few_indexes;
      workers = omega (arith, length-replicate {A = WorkerState} plan.workers (record { taken = 0; sealed = 0 }));
      indexes = length-map plan.specs.items (λ spec. record { loaded = false; applied = 0 });
      fed = length-map plan.specs.items (λ spec. 0);
      were_fed = λ index. omega (arith, none_applied plan.specs.items index);
      spoiled = tt;
    })

-- so too where it was refused
pub told_start_sound :
    (count after : PageCount) (s new : CoreState) (chosen : SpoolChoice) (quota : ℕ) (plan : Plan) (told : Result ℕ Fault)
    → IfOk told (λ pages. StartsOver chosen quota plan s (Started pages) new) → OnErr told (new ≡ s)
    → IfOk told (λ pages. after ≡ record { all = pages; copied = 0 }) → OnErr told (after ≡ count) → IsSound count s → IsSound after new
told_start_sound count after s new chosen quota plan (Ok pages) starts same fresh stays sound =
    subst (λ (it : PageCount). IsSound it new) (sym fresh) (start_sound s new chosen quota plan pages starts)
told_start_sound count after s new chosen quota plan (Err fault) starts same fresh stays sound =
    subst (λ (it : PageCount). IsSound it new) (sym stays) (same_sound count s new same sound)

no_build_left : (live : LiveState) → (abandoned live).build ≡ None
no_build_left live = at live.build refl where
  at : (o : Option BuildState) → live.build ≡ o → (without o live).build ≡ None
  at None none = none
  at (Some b) runs = refl

pub end_sound : (count : PageCount) (asked : Event) (told : Reply) (s new : CoreState) → EndsBuild asked told s new → IsSound count new
end_sound count asked told s new (left, step, is) =
    sound_without count new (ap (λ (c : CoreState). c.live.build) is ∙ no_build_left left.live)

-- a switch that doesn't decide
pub undecided_sound : (count : PageCount) (s new : CoreState) (fault : Fault) → Step s Switch (Refused fault) new → IsSound count s → IsSound count new
undecided_sound count s new fault (inl (told, is, inl (cause, same))) sound = same_sound count s new same sound
undecided_sound count s new fault (inl (told, is, inr (cause, want, after))) sound =
    let at = on_build s.live.build (λ b.
    (fed : List ℕ) × (indexes : List IndexState) × AreFurther b s.live.heap.log s.work.indexes fed indexes
    × (new ≡ record s { live = record s.live { build = Some (record b { fed = fed }) }; work = record s.work { indexes = indexes } })) after in
    let fed : List ℕ = at.2.0 in
    let indexes : List IndexState = at.2.1 in
    fed_sound count s new at.0 fed (record s.work { indexes = indexes }) at.1 (ap (λ (c : CoreState). c.live.build) at.2.3)
    (ap (λ (c : CoreState). c.work) at.2.3) refl at.2.2.indexes_many at.2.2.fed_many
    (λ laws. further_fed at.0 s.live.heap.log s.work fed indexes laws.indexes at.2.2) refl sound
undecided_sound count s new fault (inr (none, does)) sound = absurd (let is = does.1 in cc)

-- or that does
pub told_switch_sound :
    {A : Type 0} (count : PageCount) (s new : CoreState) (reply : A → Reply) (told : Result A Fault)
    → IfOk told (λ answer. EndsBuild Switch (reply answer) s new) → IfErr told (λ fault. Step s Switch (Refused fault) new) → IsSound count s
    → IsSound count new
told_switch_sound count s new reply (Ok answer) ends fails sound = end_sound count Switch (reply answer) s new ends
told_switch_sound count s new reply (Err fault) ends fails sound = undecided_sound count s new fault fails sound

-- a build that isn't given up
pub stays_sound : (count : PageCount) (s new : CoreState) (fault : Fault) → Step s Abandon (Refused fault) new → IsSound count s → IsSound count new
stays_sound count s new fault (inl (told, is, inl (cause, same))) sound = same_sound count s new same sound
stays_sound count s new fault (inl (told, is, inr (cause, want, after))) sound = absurd want
stays_sound count s new fault (inr (none, does)) sound = absurd (let is = does.0 in cc)

-- a row that was read
pub visit_sound : (count : PageCount) (s new : CoreState) (heap : HeapState) → new ≡ with_heap s heap → IsSound count s → IsSound count new
visit_sound count s new heap is sound =
    same_build count s new (ap (λ (c : CoreState). c.live.build) is) (ap (λ (c : CoreState). c.work) is) sound
