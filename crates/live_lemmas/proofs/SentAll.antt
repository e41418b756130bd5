-- What the rings of a build's side-files were sent, once its indexes caught up.
use Rattle.std.proofs.Common.{◌≡◌, ℕ, ◌+◌, ◌-◌, ◌<◌, List, ◌++◌, length, get_or, Option, None, Some, refl, sym, ap, ◌∙◌, subst, arith}
use Rattle.std.specs.List.{AllZip, slice_get}
use Rattle.std.proofs.lemmas.Option.{same_Some}
use Rattle.keybytes.specs.Keys.{KeySpecValue}
use Rattle.heap_log.specs.declared.record.LogRec.{LogRec}
use Rattle.side_file.specs.Ends.{PutEnd}
use Rattle.side_file.specs.declared.entry.Entry.{Entry}
use Rattle.side_file.specs.Ends.{PutEndLooked}
use Rattle.build_events.specs.BuildSteps.{OnBuild}
use Rattle.build_events.specs.CoreState.{BuildState, CoreState, LiveState}
use Rattle.build_events.specs.Workers.{all_entries, fed_to, index_at, unfed}
use Rattle.table_scan.proofs.LookedEnds.{looked_on}
use Rattle.page_workers.proofs.Places.{below}
use Rattle.building.specs.BuildingValue.{BuildingValue}
use Rattle.live_lemmas.specs.Builds.{LiveValue, core_state}
use Rattle.live_lemmas.specs.CatchingUp.{left_at, unapplied_at}
use Rattle.live_lemmas.specs.Putting.{AreSentAll, IsSentNext, SendsAll, SendsOn, next_of}
use Rattle.live_lemmas.proofs.CatchingUp.{AllAreFurther}
use Rattle.live_lemmas.proofs.SentNext.{after_look}

-- the end of an index was sent all that was left of it, where it was sent so many; where the build has no such index, nothing was left
all_next :
    (b : BuildState) (log : List LogRec) (index count : ℕ) (o : Option KeySpecValue) (old new : PutEnd Entry) → slice_get b.specs index ≡ o
    → ((spec : KeySpecValue) → o ≡ Some spec → count ≡ unfed b log index (Some spec)) → IsSentNext b log index count old new
    → IsSentNext b log index (unfed b log index o) old new
all_next b log index count None old new is all sent =
    let next : Option KeySpecValue → ℕ → List Entry = λ o n. old.sent ++ next_of b log index o n in
    record {
      ring = sent.ring;
      capacity = sent.capacity;
      sent = sent.sent ∙ ap (λ o. next o count) is ∙ sym (ap (λ o. next o 0) is);
    }
all_next b log index count (Some spec) old new is all sent = subst (λ (n : ℕ). IsSentNext b log index n old new) (all spec refl) sent

-- a build goes on, and its indexes are further
module _
    (live new : LiveValue) (building beside : BuildingValue) (sends : SendsOn live new) (far : AllAreFurther (core_state live building) (core_state new beside)) where
  abbrev log : List LogRec
  log = live.state.heap.log

  abbrev b : BuildState
  b = far.build

  abbrev after : CoreState
  after = record (core_state live building) {
    live = record live.state { build = Some (record b { fed = far.fed }) };
    work = record (core_state live building).work { indexes = far.indexes };
  }

  same : sends.build ≡ b
  same = same_Some sends.build b (sym sends.runs ∙ far.runs)

  after_is : sends.after ≡ record b { fed = far.fed }
  after_is = same_Some sends.after (record b { fed = far.fed }) (sym sends.goes_on ∙ ap (λ (s : CoreState). s.live.build) far.new_is)

  -- no entry of an index is left that wasn't fed
  all_fed :
      (k count : ℕ) → left_at k (core_state new beside) ≡ 0 → fed_to sends.after k ≡ fed_to sends.build k + count
      → (spec : KeySpecValue) → slice_get b.specs k ≡ Some spec → count ≡ unfed b log k (Some spec)
  all_fed k count none fed spec at =
      let further = far.are.each k spec at in
      let left : all_entries b log spec - (index_at far.indexes k).applied ≡ 0 =
      sym (ap (left_at k) far.new_is ∙ ap (unapplied_at (record b { fed = far.fed }) after k) at) ∙ none in
      let was : fed_to sends.build k ≡ fed_to b k = ap (λ (x : BuildState). fed_to x k) same in
      let is : fed_to sends.after k ≡ get_or far.fed k 0 = ap (λ (x : BuildState). fed_to x k) after_is in
      omega (arith, fed, was, is, left, further.applied_were_fed, further.fed_were_there)

  -- so where none of each is left, each ring was sent all that was left
  pub sends_all : ((k : ℕ) → k < length b.specs → left_at k (core_state new beside) ≡ 0) → SendsAll live new.sides
  sends_all none =
      subst (λ (o : Option BuildState). OnBuild o (λ x. AreSentAll x log live.sides new.sides)) (sym far.runs) (λ k end at.
      let it = sends.each k end at in
      let sent : IsSentNext b log k it.2 end it.0 = subst (λ (x : BuildState). IsSentNext x log k it.2 end it.0) same it.4 in (
        it.0,
        it.1,
        all_next b log k it.2 (slice_get b.specs k) end it.0 refl (λ spec is. all_fed k it.2 (none k (below b.specs k spec is)) it.3 spec is) sent,
      ))

-- a look before it doesn't change that
sent_after_look :
    (log : List LogRec) (olds mids news : List (PutEnd Entry)) → AllZip PutEndLooked olds mids → (o : Option BuildState)
    → OnBuild o (λ b. AreSentAll b log mids news) → OnBuild o (λ b. AreSentAll b log olds news)
sent_after_look log olds mids news looked None sent = sent
sent_after_look log olds mids news looked (Some b) sent = λ k end at.
    let one = looked_on olds mids k end looked at in
    let more = sent k one.0 one.1 in
    (more.0, more.1, after_look b log k (unfed b log k (slice_get b.specs k)) end one.0 more.0 one.2 more.2)

pub all_after_look :
    (live mid : LiveValue) (news : List (PutEnd Entry)) → mid.state ≡ live.state → AllZip PutEndLooked live.sides mid.sides → SendsAll mid news
    → SendsAll live news
all_after_look live mid news same looked sends =
    sent_after_look live.state.heap.log live.sides mid.sides news looked live.state.build
    (subst (λ (s : LiveState). OnBuild s.build (λ b. AreSentAll b s.heap.log mid.sides news)) same sends)
