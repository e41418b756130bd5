-- Why a page isn't copied, where only the worker's ring is left to ask.
use Rattle.std.proofs.Common.{◌≡◌, ℕ, ◌<◌, ◌≤◌, true, length, Option, Some, None, refl, sym, ap, ◌∙◌}
use Rattle.std.specs.Prelude.{nat_le, is_some}
use Rattle.std.proofs.lemmas.Bool.{le-leb, lt-leb}
use Rattle.keybytes.specs.declared.fault.Fault.TheVariants.{RingFull}
use Rattle.side_file.specs.Ends.{PutEnd}
use Rattle.page_workers.specs.declared.copied.Copied.{Copied}
use Rattle.live_lemmas.specs.Builds.{LiveValue, IsRunning, SeesRing, HasLookedAtRings, core_state, cause_of}
use Rattle.building.specs.BuildingValue.{BuildingValue, WorkValue}
use Rattle.build_events.specs.CoreState.{BuildState, CoreState, WorkState}
use Rattle.build_events.specs.Ranges.{next_page}
use Rattle.building.specs.Rings.{all_sent}
use Rattle.live_lemmas.specs.Rings.{PagesFollow}
use Rattle.build_events.specs.BuildSteps.{cause_if, range_refusal}
use Rattle.build_events.specs.Steps.{refusal}
use Rattle.build_events.specs.Workers.{waiting}
use Rattle.build_events.specs.declared.event.Event.TheVariants.{Scan}
use Rattle.live_lemmas.proofs.Looked.{runs_looked, state_looked}
use Rattle.page_workers.proofs.Places.{map_at}
use Rattle.live_lemmas.proofs.Refusals.{state_is, waiting_is}
use Rattle.live_lemmas.proofs.Takes.{put_of}

page_left : (page : Option ℕ) → is_some page ≡ true → range_refusal page ≡ None
page_left None none = absurd (cc)
page_left (Some page) some = refl

ring_cause :
    (s : CoreState) (b : BuildState) (range worker count : ℕ) → s.live.build ≡ Some b → s.work.spoiled ≡ None → range < length b.ends → worker < b.workers
    → is_some (next_page b range) ≡ true → waiting b s.work worker ≡ count → refusal s (Scan range worker) ≡ cause_if (nat_le 4 count) RingFull
ring_cause s b range worker count runs fine ranges workers more waits =
    rw (runs, lt-leb (length b.ends) range ranges, lt-leb b.workers worker workers, fine, page_left (next_page b range) more, waits) refl

module _
    (live new_live : LiveValue) (building new : BuildingValue) (b : BuildState) (w : WorkValue) (range worker count : ℕ) (run : IsRunning live building b w)
    (fine : w.spoiled ≡ None) (ranges : range < length b.ends) (workers : worker < b.workers) (more : is_some (next_page b range) ≡ true)
    (looked : HasLookedAtRings live building new_live new) (sees : SeesRing worker count new_live new)
    (put : PagesFollow new_live.state.heap.schema new_live.state.heap.log new_live.state.builds new_live.state.build (all_sent new_live.pages)) where
  after : IsRunning new_live new b w
  after = runs_looked live new_live building new b w looked run

  cause_after : cause_of new_live new (Scan range worker) ≡ cause_if (nat_le 4 count) RingFull
  cause_after =
      let there = map_at (λ (end : PutEnd Copied). end.sent) new_live.pages worker sees.end sees.ring in
      let waits = waiting_is new_live new b w after fine (put_of new_live b after.build_is put) worker sees.end.sent sees.it there sees.there sees.it.intake.end.known sees.in_order in
      ring_cause (core_state new_live new) b range worker count after.build_is
      (ap (λ (s : WorkState). s.spoiled) (state_is new w after.work_is fine)) ranges workers more (waits ∙ sym sees.seen)

  cause_is : cause_of live building (Scan range worker) ≡ cause_if (nat_le 4 count) RingFull
  cause_is = ap (λ (s : CoreState). refusal s (Scan range worker)) (sym (state_looked live new_live building new looked)) ∙ cause_after

  pub ring_full : 4 ≤ count → cause_of live building (Scan range worker) ≡ Some RingFull
  ring_full many = cause_is ∙ ap (λ t. cause_if t RingFull) (le-leb 4 count many)

  pub has_place : count < 4 → cause_of live building (Scan range worker) ≡ None
  has_place few = cause_is ∙ ap (λ t. cause_if t RingFull) (lt-leb 4 count few)
