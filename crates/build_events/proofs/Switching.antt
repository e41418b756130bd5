-- Each switch of a run decides on its indexes by the rows then live, and makes the accepted ready with the pairs at rest of these.
use Rattle.std.proofs.Common.{◌≡◌, ℕ, zero, suc, zero-add, Bool, true, false, ◌+◌, arith, List, [], ◌∷◌, ◌++◌, length, take, append_assoc, append-nil, length-append, Option, Some, None, refl, sym, ap, ◌∙◌, subst, inl, inr}
use Rattle.std.specs.Prelude.{map}
use Rattle.std.specs.List.{slice_get}
use Rattle.std.proofs.Math.Seq.{take-append_seam}
use Rattle.std.proofs.lemmas.Bool.{cond-true, cond-false}
use Rattle.std.proofs.lemmas.List.{length-map}
use Rattle.std.proofs.lemmas.List.Elements.{All-head, All-tail}
use Rattle.std.proofs.lemmas.Option.{same_Some}
use Rattle.keybytes.specs.declared.pair.Pair.{Pair}
use Rattle.keybytes.specs.declared.rid.Rid.{Rid}
use Rattle.unique_verdict.specs.Shared.{shared_pairs}
use Rattle.unique_verdict.specs.Verdicts.{IsLeast, IsUnique, IsVerdict, accepts, first_shared}
use Rattle.unique_verdict.specs.declared.verdict.Verdict.{Verdict}
use Rattle.unique_verdict.specs.declared.verdict.Verdict.TheVariants.{Unique, Shared}
use Rattle.keybytes.specs.Keys.{KeySpecValue}
use Rattle.heap_log.specs.Growing.{first_records}
use Rattle.heap_log.specs.Standing.{newest_standing}
use Rattle.heap_log.specs.declared.outcome.Outcome.{Outcome}
use Rattle.heap_log.specs.declared.outcome.Outcome.TheVariants.{Ready}
use Rattle.heap_log.specs.declared.record.LogRec.{LogRec}
use Rattle.heap_log.specs.declared.record.LogRec.TheVariants as logged
use Rattle.heap_log.proofs.Growing.{live_kept}
use Rattle.heap_table.specs.HeapState.{HeapState, after_step}
use Rattle.heap_table.specs.TablePairs.{pairs_at_rest}
use Rattle.heap_table.proofs.TablePairs.{pairs_kept}
use Rattle.build_events.specs.declared.event.Event.{Event}
use Rattle.build_events.specs.declared.event.Event.TheVariants.{Begin, Insert, Update, Delete, Undo, Commit, Start, Scan, Digest, Seal, Load, Feed, Apply, Fence, Switch, Abandon}
use Rattle.build_events.specs.declared.reply.Reply.{Reply}
use Rattle.build_events.specs.declared.reply.Reply.TheVariants.{Switched, Refused}
use Rattle.build_events.specs.CoreState.{CoreState, LiveState, BuildState, SpoolsState}
use Rattle.ready_indexes.specs.Indexes.{IsIndex, ReadyValue, index_now}
use Rattle.build_events.specs.Headline.{HasPairsAtRest, IsDecided, EachSwitchIsAtRest}
use Rattle.keybytes.specs.declared.fault.Fault.{Fault}
use Rattle.spool_ledger.specs.Accounts.{Stake}
use Rattle.build_events.specs.BuildSteps.{AreKeyed, OnBuild, after_switch_in, verdicts_on}
use Rattle.build_events.specs.Steps.{Step, Run, Does, AfterWant}
use Rattle.build_events.specs.Verdicts.{HasKeyOf, accepted, next_number, outcome, outcomes, verdict_on}
use Rattle.build_events.proofs.Abandoned.{abandoned_log}
use Rattle.build_events.proofs.Verdicts.{accepted_more, accepted_same, verdict_is_right}
use Rattle.build_events.proofs.SharedKeys.{own_key}

-- the second log is the first, and more
abbrev pub GoesOn : List LogRec → List LogRec → Type 0
GoesOn old new = (more : List LogRec) × (new ≡ old ++ more)

goes_same : (old new : List LogRec) → new ≡ old → GoesOn old new
goes_same old new is = ([], is ∙ sym (append-nil old))

goes_on : (old mid new : List LogRec) → GoesOn old mid → GoesOn mid new → GoesOn old new
goes_on old mid new first next = (first.0 ++ next.0, next.1 ∙ ap (λ l. l ++ next.0) first.1 ∙ append_assoc old first.0 next.0)

on_build : (o : Option BuildState) (P : BuildState → Type 0) → OnBuild o P → (b : BuildState) × P b × (o ≡ Some b)
on_build None P holds = absurd holds
on_build (Some b) P holds = (b, holds, refl)

undo_goes_on : (heap : HeapState) (txn : ℕ) (newest : Option ℕ) → GoesOn heap.log (after_step heap txn newest).log
undo_goes_on heap txn None = goes_same heap.log heap.log refl
undo_goes_on heap txn (Some n) = (logged.Undo txn n ∷ [], refl)

same_log : (s new : CoreState) (heap : HeapState) → new.live.heap ≡ heap → GoesOn s.live.heap.log heap.log → GoesOn s.live.heap.log new.live.heap.log
same_log s new heap is goes = subst (λ (h : HeapState). GoesOn s.live.heap.log h.log) (sym is) goes

keeps_log : (s new state : CoreState) → new ≡ state → state.live.heap.log ≡ s.live.heap.log → GoesOn s.live.heap.log new.live.heap.log
keeps_log s new state is same = goes_same s.live.heap.log new.live.heap.log (ap (λ (t : CoreState). t.live.heap.log) is ∙ same)

done_goes_on : (s : CoreState) (event : Event) (reply : Reply) (new : CoreState) → Does s event reply new → GoesOn s.live.heap.log new.live.heap.log
done_goes_on s Begin reply new does = same_log s new _ does.2.0.0.1 (goes_same s.live.heap.log s.live.heap.log refl)
done_goes_on s (Insert txn row) reply new does = same_log s new _ does.2.0.0.2 (_, refl)
done_goes_on s (Update txn rid row) reply new does = same_log s new _ does.2.0.0.2 (_, refl)
done_goes_on s (Delete txn rid) reply new does = same_log s new _ does.2.0.0.2 (_, refl)
done_goes_on s (Undo txn) reply new does =
    same_log s new _ does.2.0.0.2 (undo_goes_on s.live.heap txn (newest_standing s.live.heap.log txn))
done_goes_on s (Commit txn) reply new does = same_log s new _ does.2.0.0.1 (_, refl)
done_goes_on s (Start plan) reply new does = keeps_log s new _ does.2.1 refl
done_goes_on s (Scan range worker) reply new does =
    let on = on_build s.live.build _ does.2.0 in goes_same s.live.heap.log new.live.heap.log (ap (λ (live : LiveState). live.heap.log) on.1.1)
done_goes_on s (Digest worker) reply new does = let on = on_build s.live.build _ does.2 in keeps_log s new _ on.1.1 refl
done_goes_on s (Seal worker) reply new does = let on = on_build s.live.build _ does.2 in keeps_log s new _ on.1.1 refl
done_goes_on s (Load index) reply new does = let on = on_build s.live.build _ does.2 in keeps_log s new _ on.1.1 refl
done_goes_on s (Feed index most) reply new does = let on = on_build s.live.build _ does.2 in keeps_log s new _ on.1.1 refl
done_goes_on s (Apply index most) reply new does = let on = on_build s.live.build _ does.2 in keeps_log s new _ on.1.1 refl
done_goes_on s Switch reply new does =
    let on = on_build s.live.build _ does.2 in same_log s new _ (ap (λ (t : CoreState). t.live.heap) on.1.2) (_, refl)
done_goes_on s Fence reply new does = keeps_log s new _ does.1 refl
done_goes_on s Abandon reply new does = keeps_log s new _ does.1 (abandoned_log s.live)

-- what is read of the rows and the spools alone
abbrev of_both : {X : Type 0} → (HeapState → SpoolsState → X) → CoreState → X
of_both f s = f s.live.heap s.spools

-- want leaves both
want_keeps :
    {X : Type 0} (f : HeapState → SpoolsState → X) (s : CoreState) (event : Event) (fault : Fault) (new : CoreState)
    → AfterWant event fault s new → f new.live.heap new.spools ≡ f s.live.heap s.spools
want_keeps {X} f s event fault new wants = by_event event wants where
  by_event : (event : Event) → AfterWant event fault s new → f new.live.heap new.spools ≡ f s.live.heap s.spools
  by_event Begin is = ap (of_both f) is
  by_event (Insert txn row) is = ap (of_both f) is
  by_event (Update txn rid row) is = ap (of_both f) is
  by_event (Delete txn rid) is = ap (of_both f) is
  by_event (Undo txn) is = ap (of_both f) is
  by_event (Commit txn) is = ap (of_both f) is
  by_event (Start plan) is = ap (of_both f) is
  by_event (Scan range worker) is = ap (of_both f) is
  by_event (Digest worker) is = ap (of_both f) is.1
  by_event (Seal worker) is = ap (of_both f) is.1
  by_event (Load index) is = ap (of_both f) is.1
  by_event (Feed index most) never = absurd never
  by_event (Apply index most) some = let on = on_build s.live.build _ some in ap (of_both f) on.1.2
  by_event Switch caught = let on = on_build s.live.build _ caught in ap (of_both f) on.1.3
  by_event Fence never = absurd never
  by_event Abandon never = absurd never

-- a step adds to the log alone
step_goes_on : (s : CoreState) (event : Event) (reply : Reply) (new : CoreState) → Step s event reply new → GoesOn s.live.heap.log new.live.heap.log
step_goes_on s event reply new (inl refused) = elim refused.2 [
  | inl cause ↦ goes_same s.live.heap.log new.live.heap.log (ap (λ (t : CoreState). t.live.heap.log) cause.1)
  | inr wants ↦ goes_same s.live.heap.log new.live.heap.log (want_keeps (λ (h : HeapState) (spools : SpoolsState). h.log) s event refused.0 new wants.2)
]
step_goes_on s event reply new (inr done) = done_goes_on s event reply new done.1

-- and so does a run
run_goes_on :
    (MissedPage : CoreState → Event → Type 0) (s : CoreState) (events : List Event) (replies : List Reply) (end : CoreState)
    → Run MissedPage s events replies end → GoesOn s.live.heap.log end.live.heap.log
run_goes_on MissedPage s [] [] end run = goes_same s.live.heap.log end.live.heap.log (ap (λ (t : CoreState). t.live.heap.log) run)
run_goes_on MissedPage s [] (reply ∷ replies) end run = absurd run
run_goes_on MissedPage s (event ∷ events) [] end run = absurd run
run_goes_on MissedPage s (event ∷ events) (reply ∷ replies) end run =
    goes_on s.live.heap.log run.0.live.heap.log end.live.heap.log (step_goes_on s event reply run.0 run.1)
    (run_goes_on MissedPage run.0 events replies end run.3)

-- no step takes a stake from a spool
abbrev stakes_of : CoreState → List (Option Stake)
stakes_of s = s.spools.stakes

done_stakes : (s : CoreState) (event : Event) (reply : Reply) (new : CoreState) → Does s event reply new → stakes_of new ≡ stakes_of s
done_stakes s Begin reply new does = ap stakes_of does.2.1
done_stakes s (Insert txn row) reply new does = ap stakes_of does.2.1
done_stakes s (Update txn rid row) reply new does = ap stakes_of does.2.1
done_stakes s (Delete txn rid) reply new does = ap stakes_of does.2.1
done_stakes s (Undo txn) reply new does = ap stakes_of does.2.1
done_stakes s (Commit txn) reply new does = ap stakes_of does.2.1
done_stakes s (Start plan) reply new does = ap stakes_of does.2.1
done_stakes s (Scan range worker) reply new does = ap stakes_of does.2.1
done_stakes s (Digest worker) reply new does = let on = on_build s.live.build _ does.2 in ap stakes_of on.1.1
done_stakes s (Seal worker) reply new does = let on = on_build s.live.build _ does.2 in ap stakes_of on.1.1
done_stakes s (Load index) reply new does = let on = on_build s.live.build _ does.2 in ap stakes_of on.1.1
done_stakes s (Feed index most) reply new does = let on = on_build s.live.build _ does.2 in ap stakes_of on.1.1
done_stakes s (Apply index most) reply new does = let on = on_build s.live.build _ does.2 in ap stakes_of on.1.1
done_stakes s Switch reply new does = let on = on_build s.live.build _ does.2 in ap stakes_of on.1.2
done_stakes s Fence reply new does = ap stakes_of does.1
done_stakes s Abandon reply new does = ap stakes_of does.1

pub step_stakes : (s : CoreState) (event : Event) (reply : Reply) (new : CoreState) → Step s event reply new → stakes_of new ≡ stakes_of s
step_stakes s event reply new (inl refused) = elim refused.2 [
  | inl cause ↦ ap stakes_of cause.1
  | inr wants ↦ want_keeps (λ (h : HeapState) (spools : SpoolsState). spools.stakes) s event refused.0 new wants.2
]
step_stakes s event reply new (inr done) = done_stakes s event reply new done.1

-- nor does a run
pub run_stakes :
    (MissedPage : CoreState → Event → Type 0) (s : CoreState) (events : List Event) (replies : List Reply) (end : CoreState)
    → Run MissedPage s events replies end → end.spools.stakes ≡ s.spools.stakes
run_stakes MissedPage s [] [] end run = ap stakes_of run
run_stakes MissedPage s [] (reply ∷ replies) end run = absurd run
run_stakes MissedPage s (event ∷ events) [] end run = absurd run
run_stakes MissedPage s (event ∷ events) (reply ∷ replies) end run =
    run_stakes MissedPage run.0 events replies end run.3 ∙ step_stakes s event reply run.0 run.1

-- what a switch did that decided
pub record Switched_in (s : CoreState) (event : Event) (number : ℕ) (verdicts : List Outcome) (new : CoreState) : Type 0 where
  pub asked : event ≡ Switch
  pub build : BuildState
  pub running : s.live.build ≡ Some build
  pub number_is : number ≡ length s.live.heap.log + 1
  pub verdicts_are : verdicts ≡ verdicts_on s.live build
  pub new_is : new.live ≡ after_switch_in s.live build
  pub keyed : AreKeyed s.live.heap.log build.specs

does_switch : (s : CoreState) (event : Event) (number : ℕ) (verdicts : List Outcome) (new : CoreState) → Does s event (Switched number verdicts) new → Switched_in s event number verdicts new
does_switch s Begin number verdicts new does = absurd (let bad = does.1 in cc)
does_switch s (Insert txn row) number verdicts new does = absurd (let bad = does.1 in cc)
does_switch s (Update txn rid row) number verdicts new does = absurd (let bad = does.1 in cc)
does_switch s (Delete txn rid) number verdicts new does = absurd (let bad = does.1 in cc)
does_switch s (Undo txn) number verdicts new does = absurd (let bad = does.1 in cc)
does_switch s (Commit txn) number verdicts new does = absurd (let bad = does.1 in cc)
does_switch s (Start plan) number verdicts new does = absurd (let bad = does.1 in cc)
does_switch s (Scan range worker) number verdicts new does = absurd (let bad = does.1 in cc)
does_switch s (Digest worker) number verdicts new does = absurd (let bad = does.1 in cc)
does_switch s (Seal worker) number verdicts new does = absurd (let bad = does.1 in cc)
does_switch s (Load index) number verdicts new does = absurd (let bad = does.1 in cc)
does_switch s (Feed index most) number verdicts new does = absurd (let bad = does.1 in cc)
does_switch s (Apply index most) number verdicts new does = absurd (let bad = does.1 in cc)
does_switch s Switch number verdicts new does =
    let on = on_build s.live.build _ does.2 in
    let told : ℕ × List Outcome = does.0 in
    let same : Switched number verdicts ≡ Switched told.0 told.1 = does.1 in
    let number_told : number ≡ told.0 = cc in
    let verdicts_told : verdicts ≡ told.1 = cc in
    record {
      asked = refl;
      build = on.0;
      running = on.2;
      number_is = number_told ∙ on.1.0;
      verdicts_are = verdicts_told ∙ on.1.1;
      new_is = ap (λ (t : CoreState). t.live) on.1.2;
      keyed = on.1.3;
    }
does_switch s Fence number verdicts new does = absurd (let bad = does.0 in cc)
does_switch s Abandon number verdicts new does = absurd (let bad = does.0 in cc)

pub switches : (s : CoreState) (event : Event) (number : ℕ) (verdicts : List Outcome) (new : CoreState) → Step s event (Switched number verdicts) new → Switched_in s event number verdicts new
switches s event number verdicts new (inl refused) = absurd (let bad : Switched number verdicts ≡ Refused refused.0 = refused.1 in cc)
switches s event number verdicts new (inr done) = does_switch s event number verdicts new done.1

-- as many verdicts as indexes
pub count_outcomes : (first : ℕ) (verdicts : List Verdict) → length (outcomes first verdicts) ≡ length verdicts
count_outcomes first [] = refl
count_outcomes first (verdict ∷ verdicts) = ap suc (count_outcomes (next_number first verdict) verdicts)

-- what became of one index of several: an accepted one stands behind those that were accepted before it
record IsTold (log : List LogRec) (specs : List KeySpecValue) (first : ℕ) (spec : KeySpecValue) (it : Outcome) : Type 0 where
  before : ℕ
  is : it ≡ outcome (first + before) (verdict_on log spec)
  there : accepts (verdict_on log spec) ≡ true → slice_get (map (index_now log) (accepted log specs)) before ≡ Some (index_now log spec)

told_at :
    (log : List LogRec) (specs : List KeySpecValue) (first i : ℕ) (spec : KeySpecValue) (it : Outcome) → slice_get specs i ≡ Some spec
    → slice_get (outcomes first (map (verdict_on log) specs)) i ≡ Some it → IsTold log specs first spec it
told_at log [] first i spec it at there = absurd (let bad : None ≡ Some spec = at in cc)
told_at log (x ∷ specs) first zero spec it at there =
    let same : x ≡ spec = same_Some x spec at in
    subst (λ (s : KeySpecValue). IsTold log (x ∷ specs) first s it) same
    record {
      before = 0;
      is = sym (same_Some (outcome first (verdict_on log x)) it there) ∙ ap (λ n. outcome n (verdict_on log x)) (let none : first ≡ first + 0 = omega arith in none);
      there = λ takes. ap (λ (ss : List KeySpecValue). slice_get (map (index_now log) ss) 0) (accepted_more log x specs takes);
    }
told_at log (x ∷ specs) first (suc i) spec it at there =
    by_verdict (accepts (verdict_on log x)) refl (told_at log specs (next_number first (verdict_on log x)) i spec it at there) where
      by_verdict : (b : Bool) → accepts (verdict_on log x) ≡ b → IsTold log specs (next_number first (verdict_on log x)) spec it → IsTold log (x ∷ specs) first spec it
      by_verdict true takes rest = record {
        before = suc rest.before;
        is = rest.is
            ∙ ap (λ n. outcome (n + rest.before) (verdict_on log spec)) (cond-true (accepts (verdict_on log x)) (first + 1) first takes)
            ∙ ap (λ n. outcome n (verdict_on log spec)) (let next : (first + 1) + rest.before ≡ first + suc rest.before = omega arith in next);
        there = λ own. ap (λ (ss : List KeySpecValue). slice_get (map (index_now log) ss) (suc rest.before)) (accepted_more log x specs takes) ∙ rest.there own;
      }
      by_verdict false drops rest = record {
        before = rest.before;
        is = rest.is ∙ ap (λ n. outcome (n + rest.before) (verdict_on log spec)) (cond-false (accepts (verdict_on log x)) (first + 1) first drops);
        there = λ own. ap (λ (ss : List KeySpecValue). slice_get (map (index_now log) ss) rest.before) (accepted_same log x specs drops) ∙ rest.there own;
      }

-- an index that is not unique shares no key
unique_of_shared :
    (log : List LogRec) (spec : KeySpecValue) (key : List ℕ) (first second : Rid) → verdict_on log spec ≡ Shared key first second → spec.unique ≡ true
unique_of_shared log spec key first second is = by_unique spec.unique refl where
  by_unique : (b : Bool) → spec.unique ≡ b → spec.unique ≡ true
  by_unique true unique = unique
  by_unique false plain =
      absurd (let bad : Unique ≡ Shared key first second = sym (cond-false spec.unique (first_shared (shared_pairs (pairs_at_rest spec log))) Unique plain) ∙ is in cc)

-- the indexes behind those that were ready
behind : (ready more : List ReadyValue) (i : ℕ) → slice_get (ready ++ more) (length ready + i) ≡ slice_get more i
behind [] more i = ap (slice_get more) (zero-add i)
behind (index ∷ ready) more i =
    let next : suc (length ready) + i ≡ suc (length ready + i) = omega arith in
    ap (slice_get (index ∷ ready ++ more)) next ∙ behind ready more i

-- one of several whose pairs at rest are keyed
keyed_at : (log : List LogRec) (specs : List KeySpecValue) (i : ℕ) (spec : KeySpecValue) → AreKeyed log specs → slice_get specs i ≡ Some spec → IsIndex spec (pairs_at_rest spec log)
keyed_at log [] i spec keyed at = absurd (let bad : None ≡ Some spec = at in cc)
keyed_at log (x ∷ specs) zero spec keyed at =
    subst (λ (s : KeySpecValue). IsIndex s (pairs_at_rest s log)) (same_Some x spec at) (All-head (λ (s : KeySpecValue). IsIndex s (pairs_at_rest s log)) x specs keyed)
keyed_at log (x ∷ specs) (suc i) spec keyed at =
    keyed_at log specs i spec (All-tail (λ (s : KeySpecValue). IsIndex s (pairs_at_rest s log)) x specs keyed) at

module _ (s : CoreState) (event : Event) (number : ℕ) (verdicts : List Outcome) (new end : CoreState) (switch : Switched_in s event number verdicts new) (goes : GoesOn new.live.heap.log end.live.heap.log) where
  abbrev noted : LogRec
  noted = logged.Switch (verdicts_on s.live switch.build)

  log_is : new.live.heap.log ≡ s.live.heap.log ++ noted ∷ []
  log_is = ap (λ (live : LiveState). live.heap.log) switch.new_is

  length_is : length new.live.heap.log ≡ number
  length_is = ap length log_is ∙ length-append s.live.heap.log (noted ∷ []) ∙ sym switch.number_is

  beginning_is : new.live.heap.log ≡ first_records number end.live.heap.log
  beginning_is =
      sym (ap (λ n. take n end.live.heap.log) (sym length_is) ∙ ap (take (length new.live.heap.log)) goes.1 ∙ take-append_seam new.live.heap.log goes.0)

  each_is : length verdicts ≡ length switch.build.specs
  each_is =
      ap length switch.verdicts_are ∙ count_outcomes (length s.live.ready) (map (verdict_on s.live.heap.log) switch.build.specs)
      ∙ length-map switch.build.specs (verdict_on s.live.heap.log)

  -- the rows are those that the switch found
  at_rest_is : (spec : KeySpecValue) → pairs_at_rest spec s.live.heap.log ≡ pairs_at_rest spec (first_records number end.live.heap.log)
  at_rest_is spec =
      let log : List LogRec = s.live.heap.log in
      sym (ap (pairs_at_rest spec) log_is ∙ pairs_kept spec log (log ++ noted ∷ []) (λ rid. live_kept log noted rid refl))
      ∙ ap (pairs_at_rest spec) beginning_is

  decided_by :
      (spec : KeySpecValue) (it : Outcome) (told : IsTold s.live.heap.log switch.build.specs (length s.live.ready) spec it) (verdict : Verdict)
      → IsIndex spec (pairs_at_rest spec s.live.heap.log) → verdict_on s.live.heap.log spec ≡ verdict → IsDecided (first_records number end.live.heap.log) new.live.ready spec it
  decided_by spec it told Unique keyed is =
      let log : List LogRec = s.live.heap.log in
      let more : List ReadyValue = map (index_now log) (accepted log switch.build.specs) in
      let ready : it ≡ Ready (length s.live.ready + told.before) = told.is ∙ ap (outcome (length s.live.ready + told.before)) is in
      let made : HasPairsAtRest (first_records number end.live.heap.log) new.live.ready spec (length s.live.ready + told.before) =
      record {
        index = index_now log spec;
        there = ap (λ (live : LiveState). slice_get live.ready (length s.live.ready + told.before)) switch.new_is
            ∙ behind s.live.ready more told.before ∙ told.there (ap accepts is);
        of_spec = refl;
        at_rest = at_rest_is spec;
        keyed = keyed;
      } in
      subst (IsDecided (first_records number end.live.heap.log) new.live.ready spec) (sym ready)
      (made, λ unique. subst IsUnique (at_rest_is spec) (subst (IsVerdict (pairs_at_rest spec log)) is (verdict_is_right log spec unique)))
  decided_by spec it told (Shared key first second) keyed is =
      let log : List LogRec = s.live.heap.log in
      let unique = unique_of_shared log spec key first second is in
      subst (IsDecided (first_records number end.live.heap.log) new.live.ready spec) (sym (told.is ∙ ap (outcome (length s.live.ready + told.before)) is)) (
        unique,
        subst (λ (pairs : List Pair). IsLeast pairs (record { key = key; rid = first }) (record { key = key; rid = second })) (at_rest_is spec)
            (subst (IsVerdict (pairs_at_rest spec log)) is (verdict_is_right log spec unique)),
        subst (λ (v : Verdict). HasKeyOf spec (outcome 0 v)) is (own_key log spec 0 keyed.keys),
      )

  right_is :
      (i : ℕ) (spec : KeySpecValue) (verdict : Outcome) → slice_get switch.build.specs i ≡ Some spec → slice_get verdicts i ≡ Some verdict
      → IsDecided (first_records number end.live.heap.log) new.live.ready spec verdict
  right_is i spec verdict at there =
      let told = told_at s.live.heap.log switch.build.specs (length s.live.ready) i spec verdict at
      (ap (λ vs. slice_get vs i) (sym switch.verdicts_are) ∙ there) in
      decided_by spec verdict told (verdict_on s.live.heap.log spec) (keyed_at s.live.heap.log switch.build.specs i spec switch.keyed at) refl

-- the headline, of every run
pub each_switch :
    (MissedPage : CoreState → Event → Type 0) (start end : CoreState) (events : List Event) (replies : List Reply)
    → Run MissedPage start events replies end → EachSwitchIsAtRest MissedPage start end events replies
each_switch MissedPage start end [] [] run place number verdicts at = absurd (let bad : None ≡ Some (Switched number verdicts) = at in cc)
each_switch MissedPage start end [] (reply ∷ replies) run place number verdicts at = absurd run
each_switch MissedPage start end (event ∷ events) [] run place number verdicts at = absurd run
each_switch MissedPage start end (event ∷ events) (reply ∷ replies) run zero number verdicts at =
    let said : reply ≡ Switched number verdicts = same_Some reply (Switched number verdicts) at in
    let step : Step start event (Switched number verdicts) run.0 = subst (λ (r : Reply). Step start event r run.0) said run.1 in
    let switch = switches start event number verdicts run.0 step in
    let goes = run_goes_on MissedPage run.0 events replies end run.3 in
    record {
      found = start;
      left = run.0;
      before = refl;
      decided = subst (λ (e : Event). Step start e (Switched number verdicts) run.0) switch.asked step;
      after = run.3;
      beginning = beginning_is start event number verdicts run.0 end switch goes;
      build = switch.build;
      running = switch.running;
      each = each_is start event number verdicts run.0 end switch goes;
      right = right_is start event number verdicts run.0 end switch goes;
    }
each_switch MissedPage start end (event ∷ events) (reply ∷ replies) run (suc place) number verdicts at =
    let rest = each_switch MissedPage run.0 end events replies run.3 place number verdicts at in
    record {
      found = rest.found;
      left = rest.left;
      before = (run.0, run.1, run.2, rest.before);
      decided = rest.decided;
      after = rest.after;
      beginning = rest.beginning;
      build = rest.build;
      running = rest.running;
      each = rest.each;
      right = rest.right;
    }
