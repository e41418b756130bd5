-- What an event leaves of the build that runs and of the pages that are leased for it.
use Rattle.std.proofs.Common.{◌≡◌, ◌<◌, ℕ, ◌+◌, true, false, List, length, Option, Some, None, inl, inr, refl, sym, ap, subst, ◌∙◌, Result, Ok, Err}
use Rattle.std.specs.Prelude.{is_some}
use Rattle.keybytes.specs.declared.fault.Fault.{Fault}
use Rattle.keybytes.specs.declared.fault.Fault.TheVariants.{NoBuild}
use Rattle.heap_log.specs.declared.outcome.Outcome.{Outcome}
use Rattle.build_events.specs.CoreState.{CoreState, LiveState, BuildState, IndexState, WorkState, SpoolsState, idle, opening, with_live, without}
use Rattle.build_events.proofs.Abandoned.{abandoned_none}
use Rattle.build_events.specs.BuildSteps.{AreFurther, AreKeyed, CatchesUp, MayTakeMemory, OnBuild, after_apply, after_digest, after_feed, after_load, after_scan, after_seal, after_switch_in}
use Rattle.build_events.specs.Steps.{AfterWant, Does, Step, AnswersBy}
use Rattle.build_events.specs.BuildSteps.{build_cause, fenced, load_refusal, next_applied, next_copies, next_fed, pairs_copied, verdicts_on, worker_refusal}
use Rattle.build_events.specs.Steps.{refusal, spoiled_by}
use Rattle.build_events.specs.Ranges.{next_page}
use Rattle.build_events.specs.Workers.{index_at, waiting}
use Rattle.std.specs.List.{slice_get}
use Rattle.std.specs.Prelude.{if◌then◌else◌}
use Rattle.build_events.specs.declared.event.Event.{Event}
use Rattle.build_events.specs.declared.event.Event.TheVariants.{Begin, Insert, Update, Delete, Undo, Commit, Start, Scan, Digest, Seal, Load, Feed, Apply, Fence, Switch, Abandon}
use Rattle.build_events.specs.declared.plan.Plan.{Plan}
use Rattle.build_events.specs.declared.reply.Reply.{Reply}
use Rattle.build_events.specs.declared.reply.Reply.TheVariants.{Abandoned, Refused, Started, Switched}
use Rattle.leased_core.specs.Leasing.{AreLeased, AreOf, IsAtRest, IsLeasing, KeepsBuild, LeasesFollow, LeasesValue, no_spools}

-- whether a build runs is as it was; so is the work, where none does, and so are the spools
record IsKept (old new : CoreState) : Type 0 where
  build : is_some new.live.build ≡ is_some old.live.build
  work : old.live.build ≡ None → new.work ≡ old.work
  spools : new.spools ≡ old.spools

unchanged : (old new : CoreState) → new ≡ old → IsKept old new
unchanged old new same = subst (IsKept old) (sym same) (record { build = refl; work = λ _. refl; spools = refl })

-- the rows have changed, and the ready indexes, or the heap alone
on_table :
    (old new : CoreState) → new.live.build ≡ old.live.build → new ≡ with_live old new.live → IsKept old new
on_table old new build same = record {
  build = ap is_some build;
  work = λ _. ap (λ (s : CoreState). s.work) same;
  spools = ap (λ (s : CoreState). s.spools) same;
}

none_runs : (b : BuildState) (build : Option BuildState) → build ≡ Some b → build ≡ None → ⊥
none_runs b build is none = cc

-- a page more is copied
on_scan : (old new : CoreState) (build : Option BuildState) (range worker page : ℕ) → old.live.build ≡ build
    → OnBuild build (λ b. (next_page b range ≡ Some page) × (new.live ≡ after_scan old.live b worker page)) → new ≡ with_live old new.live → IsKept old new
on_scan old new None range worker page is on same = absurd on
on_scan old new (Some b) range worker page is on same = record {
  build = ap (λ (live : LiveState). is_some live.build) on.1 ∙ sym (ap is_some is);
  work = λ none. absurd (none_runs b old.live.build is none);
  spools = ap (λ (s : CoreState). s.spools) same;
}

-- only the work has changed, while a build runs
at_work : (old new : CoreState) (b : BuildState) (work : WorkState) → old.live.build ≡ Some b → new ≡ record old { work = work } → IsKept old new
at_work old new b work is same = record {
  build = ap (λ (s : CoreState). is_some s.live.build) same;
  work = λ none. absurd (none_runs b old.live.build is none);
  spools = ap (λ (s : CoreState). s.spools) same;
}

-- the workers went on
on_work : (old new : CoreState) (build : Option BuildState) (Told : BuildState → Type 0) (work : BuildState → WorkState) → old.live.build ≡ build
    → OnBuild build (λ b. Told b × (new ≡ record old { work = work b })) → IsKept old new
on_work old new None Told work is on = absurd on
on_work old new (Some b) Told work is on = at_work old new b (work b) is on.1

-- so many entries were applied before memory was wanted
on_some : (old new : CoreState) (build : Option BuildState) (Few Next : BuildState → ℕ → Type 0) (work : ℕ → WorkState) → old.live.build ≡ build
    → OnBuild build (λ b. (count : ℕ) × Few b count × (new ≡ record old { work = work count }) × Next b count) → IsKept old new
on_some old new None Few Next work is on = absurd on
on_some old new (Some b) Few Next work is (count, few, same, next) = at_work old new b (work count) is same

-- the build has fed more entries
on_feed : (old new : CoreState) (build : Option BuildState) (Told : BuildState → Type 0) (fed : BuildState → BuildState) → old.live.build ≡ build
    → OnBuild build (λ b. Told b × (new ≡ with_live old (record old.live { build = Some (fed b) }))) → IsKept old new
on_feed old new None Told fed is on = absurd on
on_feed old new (Some b) Told fed is on = record {
  build = ap (λ (s : CoreState). is_some s.live.build) on.1 ∙ sym (ap is_some is);
  work = λ none. absurd (none_runs b old.live.build is none);
  spools = ap (λ (s : CoreState). s.spools) on.1;
}

-- a switch has fed and applied entries before memory was wanted
on_catch_up : (old new : CoreState) → CatchesUp old new → IsKept old new
on_catch_up old new on = caught old.live.build refl on where
  caught : (build : Option BuildState) → old.live.build ≡ build
      → OnBuild build (λ b. (fed : List ℕ) × (indexes : List IndexState) × AreFurther b old.live.heap.log old.work.indexes fed indexes
      × (new ≡ record old { live = record old.live { build = Some (record b { fed = fed }) }; work = record old.work { indexes = indexes } }))
      → IsKept old new
  caught None is on = absurd on
  caught (Some b) is (fed, indexes, further, same) = record {
    build = ap (λ (s : CoreState). is_some s.live.build) same ∙ sym (ap is_some is);
    work = λ none. absurd (none_runs b old.live.build is none);
    spools = ap (λ (s : CoreState). s.spools) same;
  }

-- the build is spoiled
on_want : (old new : CoreState) (build : Option BuildState) (cause : BuildState → Option Fault) (fault : Fault) → old.live.build ≡ build
    → build_cause build cause ≡ None → new ≡ spoiled_by fault old → IsKept old new
on_want old new None cause fault is none same = absurd (let both : Some NoBuild ≡ None = none in cc)
on_want old new (Some b) cause fault is none same = at_work old new b (spoiled_by fault old).work is same

-- the fence is set
on_fence : (old new : CoreState) → new ≡ with_live old (fenced old.live) → IsKept old new
on_fence old new same = record {
  build = ap (λ (s : CoreState). is_some s.live.build) same;
  work = λ _. ap (λ (s : CoreState). s.work) same;
  spools = ap (λ (s : CoreState). s.spools) same;
}

done_keeps : (event : Event) (old new : CoreState) (told : Reply) → KeepsBuild event → refusal old event ≡ None → Does old event told new → IsKept old new
done_keeps Begin old new told keeps none (answer, is, does) =
    on_table old new (ap (λ (live : LiveState). live.build) does.0.1) does.1
done_keeps (Insert txn row) old new told keeps none (answer, is, does) =
    on_table old new (ap (λ (live : LiveState). live.build) does.0.1) does.1
done_keeps (Update txn rid row) old new told keeps none (answer, is, does) =
    on_table old new (ap (λ (live : LiveState). live.build) does.0.1) does.1
done_keeps (Delete txn rid) old new told keeps none (answer, is, does) =
    on_table old new (ap (λ (live : LiveState). live.build) does.0.1) does.1
done_keeps (Undo txn) old new told keeps none (answer, is, does) =
    on_table old new (ap (λ (live : LiveState). live.build) does.0.1) does.1
done_keeps (Commit txn) old new told keeps none (answer, is, does) =
    on_table old new (ap (λ (live : LiveState). live.build) does.0.1) does.1
done_keeps (Start plan) old new told keeps none done = absurd keeps
done_keeps (Scan range worker) old new told keeps none (page, is, does) = on_scan old new old.live.build range worker page refl does.0 does.1
done_keeps (Digest worker) old new told keeps none (images, is, does) =
    on_work old new old.live.build (λ b. images ≡ next_copies b old.work worker) (λ b. after_digest b old.work worker) refl does
done_keeps (Seal worker) old new told keeps none (images, is, does) =
    on_work old new old.live.build (λ b. images ≡ waiting b old.work worker) (λ b. after_seal b old.work worker) refl does
done_keeps (Load index) old new told keeps none (pairs, is, does) =
    on_work old new old.live.build
    (λ b. pairs ≡ (if (index_at old.work.indexes index).loaded then 0 else pairs_copied b old.live.heap.log (slice_get b.specs index)))
    (λ b. after_load old.work index) refl does
done_keeps (Feed index most) old new told keeps none (count, is, does) =
    on_feed old new old.live.build (λ b. count ≡ next_fed b old.live.heap.log old.work index most) (λ b. after_feed b index count) refl does
done_keeps (Apply index most) old new told keeps none (count, is, does) =
    on_work old new old.live.build (λ b. count ≡ next_applied b old.work index most) (λ b. after_apply old.work index count) refl does
done_keeps Fence old new told keeps none done = on_fence old new done.1
done_keeps Switch old new told keeps none done = absurd keeps
done_keeps Abandon old new told keeps none done = absurd keeps

want_keeps : (event : Event) (old new : CoreState) (fault : Fault) → KeepsBuild event → refusal old event ≡ None → AfterWant event fault old new
    → IsKept old new
want_keeps Begin old new fault keeps none after = unchanged old new after
want_keeps (Insert txn row) old new fault keeps none after = unchanged old new after
want_keeps (Update txn rid row) old new fault keeps none after = unchanged old new after
want_keeps (Delete txn rid) old new fault keeps none after = unchanged old new after
want_keeps (Undo txn) old new fault keeps none after = unchanged old new after
want_keeps (Commit txn) old new fault keeps none after = unchanged old new after
want_keeps (Start plan) old new fault keeps none after = absurd keeps
want_keeps (Scan range worker) old new fault keeps none after = unchanged old new after
want_keeps (Digest worker) old new fault keeps none after =
    on_want old new old.live.build (λ b. worker_refusal b old.work worker) fault refl none after.1
want_keeps (Seal worker) old new fault keeps none after =
    on_want old new old.live.build (λ b. worker_refusal b old.work worker) fault refl none after.1
want_keeps (Load index) old new fault keeps none after =
    on_want old new old.live.build (λ b. load_refusal b old index) fault refl none after.1
want_keeps (Feed index most) old new fault keeps none after = absurd after
want_keeps (Apply index most) old new fault keeps none after =
    on_some old new old.live.build (λ b count. count < next_applied b old.work index most)
    (λ b count. MayTakeMemory b old.live.heap.log index ((index_at old.work.indexes index).applied + count)) (λ count. after_apply old.work index count) refl after
want_keeps Fence old new fault keeps none after = absurd after
want_keeps Switch old new fault keeps none after = absurd keeps
want_keeps Abandon old new fault keeps none after = absurd keeps

step_keeps : (event : Event) (old new : CoreState) (told : Reply) → KeepsBuild event → Step old event told new → IsKept old new
step_keeps event old new told keeps (inl (fault, is, inl (cause, same))) = unchanged old new same
step_keeps event old new told keeps (inl (fault, is, inr (none, want, after))) = want_keeps event old new fault keeps none after
step_keeps event old new told keeps (inr (none, done)) = done_keeps event old new told keeps none done

none_of : (build : Option BuildState) → is_some build ≡ false → build ≡ None
none_of None off = refl
none_of (Some b) off = cc

follows : (leases : Option LeasesValue) (old new : CoreState) → IsKept old new → LeasesFollow leases old → LeasesFollow leases new
follows None old new kept rest = record {
  build = none_of new.live.build (kept.build ∙ ap is_some rest.build);
  work = kept.work rest.build ∙ rest.work;
  spools = kept.spools ∙ rest.spools;
}
follows (Some leases) old new kept leasing = record {
  build = kept.build ∙ leasing.build;
  stakes = subst (λ (spools : SpoolsState). AreOf leases spools.stakes) (sym kept.spools) leasing.stakes;
  all_out = leasing.all_out;
}

-- the pages that are leased are those of the build still
pub follow_step : (leases : Option LeasesValue) (event : Event) (old new : CoreState) (told : Reply) → KeepsBuild event → Step old event told new
    → LeasesFollow leases old → LeasesFollow leases new
follow_step leases event old new told keeps step before = follows leases old new (step_keeps event old new told keeps step) before

-- so they are behind a call for such an event
pub follow_answer :
    {R : Type 0} (told : R → Reply) (leases : Option LeasesValue) (event : Event) (old new : CoreState) (result : Result R Fault) → KeepsBuild event
    → AnswersBy told old event result new → LeasesFollow leases old → LeasesFollow leases new
follow_answer told leases event old new (Ok answer) keeps done before = follow_step leases event old new (told answer) keeps (inr done) before
follow_answer told leases event old new (Err fault) keeps refused before = follow_step leases event old new (Refused fault) keeps (inl (fault, refl, refused)) before

pub follow_same : (leases : Option LeasesValue) (old new : CoreState) → new ≡ old → LeasesFollow leases old → LeasesFollow leases new
follow_same leases old new same before = follows leases old new (unchanged old new same) before

-- a table at rest is as it would be opened
pub at_rest : (s : CoreState) → IsAtRest s → opening s.live no_spools ≡ s
at_rest s rest =
    ap (λ (build : Option BuildState). record { live = without build s.live; work = idle; spools = no_spools }) rest.build
    ∙ ap (λ (work : WorkState). record { live = s.live; work = work; spools = no_spools }) (sym rest.work)
    ∙ ap (λ (spools : SpoolsState). record { live = s.live; work = s.work; spools = spools }) (sym rest.spools)

-- what was opened rests
pub opened : (live : LiveState) → LeasesFollow None (opening live no_spools)
opened live = record { build = abandoned_none live; work = refl; spools = refl }

-- with no build the table rests
pub resting : (leases : Option LeasesValue) (s : CoreState) → s.live.build ≡ None → LeasesFollow leases s → IsAtRest s
resting None s none rest = rest
resting (Some leases) s none leasing = absurd (let both : true ≡ false = sym leasing.build ∙ ap is_some none in cc)

-- a refused start, and a build that isn't given up, change nothing
pub start_refused : (old new : CoreState) (plan : Plan) (fault : Fault) → Step old (Start plan) (Refused fault) new → new ≡ old
start_refused old new plan fault (inl (other, is, inl (cause, same))) = same
start_refused old new plan fault (inl (other, is, inr (none, want, after))) = after
start_refused old new plan fault (inr (none, (pages, is, does))) = absurd (let both : Refused fault ≡ Started pages = is in cc)

switch_keeps : (old new : CoreState) (fault : Fault) → Step old Switch (Refused fault) new → IsKept old new
switch_keeps old new fault (inl (other, is, inl (cause, same))) = unchanged old new same
switch_keeps old new fault (inl (other, is, inr (none, want, after))) = on_catch_up old new after
switch_keeps old new fault (inr (none, (told, is, does))) = absurd (let both : Refused fault ≡ Switched told.0 told.1 = is in cc)

-- a switch that is refused leaves the pages leased
pub switch_refused : (leases : Option LeasesValue) (old new : CoreState) (fault : Fault) → Step old Switch (Refused fault) new
    → LeasesFollow leases old → LeasesFollow leases new
switch_refused leases old new fault step before = follows leases old new (switch_keeps old new fault step) before

pub abandon_refused : (old new : CoreState) (fault : Fault) → Step old Abandon (Refused fault) new → new ≡ old
abandon_refused old new fault (inl (other, is, inl (cause, same))) = same
abandon_refused old new fault (inl (other, is, inr (none, want, after))) = absurd want
abandon_refused old new fault (inr (none, (is, does))) = absurd (let both : Refused fault ≡ Abandoned = is in cc)

-- behind a start the pages of its spools are leased
pub start_leases : (leases : LeasesValue) (old new : CoreState) (plan : Plan) (pages : ℕ) → Step old (Start plan) (Started pages) new
    → AreOf leases old.spools.stakes → leases.pool.free ≡ 0 → LeasesFollow (Some leases) new
start_leases leases old new plan pages (inl (fault, is, refused)) of out = absurd (let both : Started pages ≡ Refused fault = is in cc)
start_leases leases old new plan pages (inr (none, (answer, is, (told, after)))) of out =
    subst (IsLeasing leases) (sym after) (record { build = refl; stakes = of; all_out = out })

leased : (leases : Option LeasesValue) (s : CoreState) (spools : SpoolsState) → spools ≡ s.spools → LeasesFollow leases s → AreLeased leases spools.stakes
leased None s spools same rest = tt
leased (Some leases) s spools same leasing = subst (λ (spools : SpoolsState). AreOf leases spools.stakes) (sym same) leasing.stakes

switched_spools : (old new : CoreState) (number : ℕ) (verdicts : List Outcome) (build : Option BuildState)
    → OnBuild build (λ b. (number ≡ length old.live.heap.log + 1) × (verdicts ≡ verdicts_on old.live b)
    × (new ≡ record old { live = after_switch_in old.live b; work = idle }) × AreKeyed old.live.heap.log b.specs) → new.spools ≡ old.spools
switched_spools old new number verdicts None on = absurd on
switched_spools old new number verdicts (Some b) on = ap (λ (s : CoreState). s.spools) on.2

-- the pages of the build are leased still right behind the switch that ends it
pub switch_leases : (leases : Option LeasesValue) (old new : CoreState) (number : ℕ) (verdicts : List Outcome)
    → Step old Switch (Switched number verdicts) new → LeasesFollow leases old → AreLeased leases new.spools.stakes
switch_leases leases old new number verdicts (inl (fault, is, refused)) before = absurd (let both : Switched number verdicts ≡ Refused fault = is in cc)
switch_leases leases old new number verdicts (inr (none, (told, is, does))) before =
    leased leases old new.spools (switched_spools old new told.0 told.1 old.live.build does) before

-- and right behind the end of a build that is given up
pub abandon_leases : (leases : Option LeasesValue) (old new : CoreState) → Step old Abandon Abandoned new → LeasesFollow leases old
    → AreLeased leases new.spools.stakes
abandon_leases leases old new (inl (fault, is, refused)) before = absurd (let both : Abandoned ≡ Refused fault = is in cc)
abandon_leases leases old new (inr (none, (is, does))) before = leased leases old new.spools (ap (λ (s : CoreState). s.spools) does) before
