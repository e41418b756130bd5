-- Entries that are fed and applied, by index.
use Rattle.std.proofs.Common.{◌≡◌, false, ℕ, ◌+◌, ◌-◌, ◌<◌, ◌≤◌, List, [], ◌∷◌, length, min, Option, Some, None, refl, sym, ap, ap₂, ◌∙◌, subst, inl, inr, arith}
use Rattle.std.specs.List.{slice_get}
use Rattle.std.proofs.lemmas.List.{get_or-set_other, get_or-set_same}
use Rattle.keybytes.specs.Keys.{KeySpecValue}
use Rattle.keybytes.specs.declared.fault.Fault.{Fault}
use Rattle.heap_log.specs.declared.record.LogRec.{LogRec}
use Rattle.build_events.specs.BuildSteps.{MayTakeMemory, OnBuild, after_apply, after_feed, next_applied, next_fed, ring_most}
use Rattle.build_events.specs.CoreState.{BuildState, CoreState, IndexState, WorkState, with_live}
use Rattle.build_events.specs.Steps.{Does, Step}
use Rattle.build_events.specs.Workers.{all_entries, fed_to, in_ring, index_at, unfed}
use Rattle.build_events.specs.declared.event.Event.{Event}
use Rattle.build_events.specs.declared.event.Event.TheVariants.{Begin, Insert, Update, Delete, Undo, Commit, Start, Scan, Digest, Seal, Load, Feed, Apply, Fence, Switch, Abandon}
use Rattle.build_events.specs.declared.reply.Reply.{Reply}
use Rattle.build_events.specs.declared.reply.Reply.TheVariants.{Applied, Refused}
use Rattle.live_lemmas.specs.CatchingUp.{left_at, left_of, unapplied_at}
use Rattle.live_lemmas.specs.Settling.{ring_at, ring_of}
use Rattle.kept_table.specs.CatchingUp.{MovesEntries, unfed_of}
use Rattle.kept_table.specs.Counts.{AreFed, HasItsWork, HasLaws}
use Rattle.kept_table.specs.Pieces.{IsOfWork}
use Rattle.kept_table.specs.Progresses.{unfed_at}
use Rattle.kept_table.specs.Rounds.{AppliesRing, FeedsRing}
use Rattle.kept_table.specs.Shapes.{DoesAll, HasIndex}
use Rattle.kept_table.proofs.Counts.{laws_of, on_build}
use Rattle.kept_table.proofs.Pieces.{done_not_refused}

-- What is told of the build that runs.

ring_here : (s : CoreState) (b : BuildState) → s.live.build ≡ Some b → (index : ℕ) → ring_at index s ≡ in_ring b s.work index
ring_here s b runs index = ap (λ (o : Option BuildState). ring_of o s index) runs

unfed_here :
    (s : CoreState) (b : BuildState) → s.live.build ≡ Some b → (index : ℕ) → unfed_of s index ≡ unfed b s.live.heap.log index (slice_get b.specs index)
unfed_here s b runs index = ap (λ (o : Option BuildState). unfed_at s.live.heap.log o index) runs

left_here : (s : CoreState) (b : BuildState) → s.live.build ≡ Some b → (index : ℕ) → left_at index s ≡ unapplied_at b s index (slice_get b.specs index)
left_here s b runs index = ap (λ (o : Option BuildState). left_of o s index) runs

-- no fewer are left to be applied than to be fed
fewer_unfed :
    (b : BuildState) (s : CoreState) (index : ℕ) (o : Option KeySpecValue) → AreFed b s.work → unfed b s.live.heap.log index o ≤ unapplied_at b s index o
fewer_unfed b s index None fed = omega arith
fewer_unfed b s index (Some spec) fed = omega (arith, fed index)

pub more_left : (s : CoreState) (index : ℕ) → HasLaws s → unfed_of s index ≤ left_at index s
more_left s index laws = at s.live.build refl where
  at : (o : Option BuildState) → s.live.build ≡ o → unfed_of s index ≤ left_at index s
  at None none =
      omega (arith, ap (λ (o : Option BuildState). unfed_at s.live.heap.log o index) none)
  at (Some b) runs =
      omega (arith, unfed_here s b runs index, left_here s b runs index, fewer_unfed b s index (slice_get b.specs index) (laws_of s b runs laws).were_fed)

-- and just as many where nothing waits in the ring
same_unfed :
    (b : BuildState) (s : CoreState) (index : ℕ) (o : Option KeySpecValue) → AreFed b s.work → in_ring b s.work index ≡ 0
    → unapplied_at b s index o ≡ unfed b s.live.heap.log index o
same_unfed b s index None fed empty = refl
same_unfed b s index (Some spec) fed empty =
    let same : (index_at s.work.indexes index).applied ≡ fed_to b index = omega (arith, fed index, empty) in
    ap (λ (n : ℕ). all_entries b s.live.heap.log spec - n) same

pub settled_left : (s : CoreState) (index : ℕ) → HasLaws s → ring_at index s ≡ 0 → left_at index s ≡ unfed_of s index
settled_left s index laws empty = at s.live.build refl where
  at : (o : Option BuildState) → s.live.build ≡ o → left_at index s ≡ unfed_of s index
  at None none =
      ap (λ (o : Option BuildState). left_of o s index) none ∙ sym (ap (λ (o : Option BuildState). unfed_at s.live.heap.log o index) none)
  at (Some b) runs =
      left_here s b runs index
      ∙ same_unfed b s index (slice_get b.specs index) (laws_of s b runs laws).were_fed (sym (ring_here s b runs index) ∙ empty)
      ∙ sym (unfed_here s b runs index)

-- Entries go into a ring.

fed_now : (b : BuildState) (index count : ℕ) → index < length b.fed → fed_to (after_feed b index count) index ≡ fed_to b index + count
fed_now b index count there = get_or-set_same b.fed index (fed_to b index + count) 0 there

fed_other : (b : BuildState) (index count other : ℕ) → (other ≡ index → ⊥) → fed_to (after_feed b index count) other ≡ fed_to b other
fed_other b index count other differs = get_or-set_other b.fed index other (fed_to b index + count) 0 differs

less_unfed :
    (b : BuildState) (log : List LogRec) (index count : ℕ) (o : Option KeySpecValue) → index < length b.fed
    → unfed (after_feed b index count) log index o ≡ unfed b log index o - count
less_unfed b log index count None there = omega arith
less_unfed b log index count (Some spec) there =
    let before : ℕ = all_entries b log spec in
    let now : ℕ = fed_to b index in
    let less : before - (now + count) ≡ before - now - count = omega arith in
    ap (λ (n : ℕ). before - n) (fed_now b index count there) ∙ less

other_unfed :
    (b : BuildState) (log : List LogRec) (index count other : ℕ) (o : Option KeySpecValue) → (other ≡ index → ⊥)
    → unfed (after_feed b index count) log other o ≡ unfed b log other o
other_unfed b log index count other None differs = refl
other_unfed b log index count other (Some spec) differs = ap (λ (n : ℕ). all_entries b log spec - n) (fed_other b index count other differs)

pub feeds_ring :
    (index most : ℕ) (s new : CoreState) (reply : Reply) → HasLaws s → HasIndex index s → DoesAll (Feed index most ∷ []) s new
    → Does s (Feed index most) reply new → FeedsRing index most s new
feeds_ring index most s new reply laws there done does =
    let count : ℕ = does.0 in
    let at = on_build s.live.build (λ b.
    (count ≡ next_fed b s.live.heap.log s.work index most)
    × (new ≡ with_live s (record s.live { build = Some (after_feed b index count) }))) does.2 in
    let b : BuildState = at.0 in
    let ours : HasItsWork b s.work = laws_of s b at.1 laws in
    let less : index < length b.specs = subst (λ (o : Option BuildState). OnBuild o (λ it. index < length it.specs)) at.1 there in
    let many : index < length b.fed = omega (arith, less, ours.fed) in
    let applied : ℕ = (index_at s.work.indexes index).applied in
    let more : fed_to b index + count - applied ≡ fed_to b index - applied + count = omega (arith, ours.were_fed index) in
    record {
      done = done;
      fed = count;
      fed_is = at.2.0 ∙ ap₂ (λ (n k : ℕ). min most (min n (ring_most - k))) (sym (unfed_here s b at.1 index)) (sym (ring_here s b at.1 index));
      unfed = ap (λ (c : CoreState). unfed_of c index) at.2.1
          ∙ less_unfed b s.live.heap.log index count (slice_get b.specs index) many
          ∙ ap (λ (n : ℕ). n - count) (sym (unfed_here s b at.1 index));
      ring = ap (λ (c : CoreState). ring_at index c) at.2.1
          ∙ ap (λ (n : ℕ). n - applied) (fed_now b index count many)
          ∙ more
          ∙ ap (λ (n : ℕ). n + count) (sym (ring_here s b at.1 index));
      others = λ other differs. record {
        unfed = ap (λ (c : CoreState). unfed_of c other) at.2.1
            ∙ other_unfed b s.live.heap.log index count other (slice_get b.specs other) differs
            ∙ sym (unfed_here s b at.1 other);
        ring = ap (λ (c : CoreState). ring_at other c) at.2.1
            ∙ ap (λ (n : ℕ). n - (index_at s.work.indexes other).applied) (fed_other b index count other differs)
            ∙ sym (ring_here s b at.1 other);
      };
    }

-- Entries are applied.

applied_now :
    (work : WorkState) (index count : ℕ) → index < length work.indexes
    → (index_at (after_apply work index count).indexes index).applied ≡ (index_at work.indexes index).applied + count
applied_now work index count there =
    let it : IndexState = index_at work.indexes index in
    ap (λ (i : IndexState). i.applied)
    (get_or-set_same work.indexes index (record it { applied = it.applied + count }) (record { loaded = false; applied = 0 }) there)

applied_other :
    (work : WorkState) (index count other : ℕ) → (other ≡ index → ⊥)
    → (index_at (after_apply work index count).indexes other).applied ≡ (index_at work.indexes other).applied
applied_other work index count other differs =
    let it : IndexState = index_at work.indexes index in
    ap (λ (i : IndexState). i.applied)
    (get_or-set_other work.indexes index other (record it { applied = it.applied + count }) (record { loaded = false; applied = 0 }) differs)

pub applies_ring :
    (index applied : ℕ) (s new : CoreState) → HasLaws s → HasIndex index s → DoesAll (Apply index ring_most ∷ []) s new
    → Does s (Apply index ring_most) (Applied applied) new → AppliesRing index s applied new
applies_ring index applied s new laws there done does =
    let count : ℕ = does.0 in
    let same : applied ≡ count = (let is : Applied applied ≡ Applied count = does.1 in cc) in
    let at = on_build s.live.build (λ b. (count ≡ next_applied b s.work index ring_most) × (new ≡ record s { work = after_apply s.work index count })) does.2 in
    let b : BuildState = at.0 in
    let ours : HasItsWork b s.work = laws_of s b at.1 laws in
    let less : index < length b.specs = subst (λ (o : Option BuildState). OnBuild o (λ it. index < length it.specs)) at.1 there in
    let many : index < length s.work.indexes = omega (arith, less, ours.indexes) in
    let after : WorkState = after_apply s.work index count in
    let here : (k : ℕ) → ring_at k new ≡ in_ring b after k =
    λ k. ap (λ (c : CoreState). ring_at k c) at.2.1 ∙ ap (λ (o : Option BuildState). ring_of o (record s { work = after }) k) at.1 in
    let before : ℕ = (index_at s.work.indexes index).applied in
    let fewer : fed_to b index - (before + count) ≡ fed_to b index - before - count = omega arith in
    record {
      done = done;
      applied_is = same ∙ at.2.0 ∙ ap (λ (n : ℕ). min ring_most n) (sym (ring_here s b at.1 index));
      unfed = ap (λ (c : CoreState). unfed_of c index) at.2.1;
      ring = here index
          ∙ ap (λ (n : ℕ). fed_to b index - n) (applied_now s.work index count many)
          ∙ fewer
          ∙ ap₂ (λ (n k : ℕ). n - k) (sym (ring_here s b at.1 index)) (sym same);
      others = λ other differs. record {
        unfed = ap (λ (c : CoreState). unfed_of c other) at.2.1;
        ring = here other ∙ ap (λ (n : ℕ). fed_to b other - n) (applied_other s.work index count other differs) ∙ sym (ring_here s b at.1 other);
      };
    }

-- What is refused.

pub moves_work : (event : Event) → MovesEntries event → IsOfWork event
moves_work Begin moves = absurd moves
moves_work (Insert txn row) moves = absurd moves
moves_work (Update txn rid row) moves = absurd moves
moves_work (Delete txn rid) moves = absurd moves
moves_work (Undo txn) moves = absurd moves
moves_work (Commit txn) moves = absurd moves
moves_work (Start plan) moves = absurd moves
moves_work (Scan range worker) moves = absurd moves
moves_work (Digest worker) moves = absurd moves
moves_work (Seal worker) moves = absurd moves
moves_work (Load index) moves = absurd moves
moves_work (Feed index most) moves = tt
moves_work (Apply index most) moves = tt
moves_work Fence moves = absurd moves
moves_work Switch moves = absurd moves
moves_work Abandon moves = absurd moves

-- a feed that is refused feeds none
pub feed_refused :
    (index most : ℕ) (s new : CoreState) (fault : Fault) → Step s (Feed index most) (Refused fault) new → (k : ℕ) → unfed_of new k ≡ unfed_of s k
feed_refused index most s new fault (inl (told, is, inl (cause, same))) k = ap (λ (c : CoreState). unfed_of c k) same
feed_refused index most s new fault (inl (told, is, inr (none, want, after))) k = absurd want
feed_refused index most s new fault (inr (none, does)) k = absurd (done_not_refused s (Feed index most) fault new tt does)

-- nor does an apply
pub apply_refused :
    (index most : ℕ) (s new : CoreState) (fault : Fault) → Step s (Apply index most) (Refused fault) new → (k : ℕ) → unfed_of new k ≡ unfed_of s k
apply_refused index most s new fault (inl (told, is, inl (cause, same))) k = ap (λ (c : CoreState). unfed_of c k) same
apply_refused index most s new fault (inl (told, is, inr (none, want, after))) k =
    let at = on_build s.live.build (λ b.
    (applied : ℕ) × (applied < next_applied b s.work index most) × (new ≡ record s { work = after_apply s.work index applied })
    × MayTakeMemory b s.live.heap.log index ((index_at s.work.indexes index).applied + applied)) after in
    ap (λ (c : CoreState). unfed_of c k) at.2.2
apply_refused index most s new fault (inr (none, does)) k = absurd (done_not_refused s (Apply index most) fault new tt does)
