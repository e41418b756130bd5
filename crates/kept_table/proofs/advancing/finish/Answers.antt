use Rattle.std.proofs.Common.{◌≡◌, ℕ, ◌<◌, List, Option, Some, refl, subst, inl, arith}
use Rattle.std.specs.Prelude.{get_or}
use Rattle.build_events.specs.CoreState.{CoreState}
use Rattle.keybytes.specs.declared.fault.Fault.{Fault}
use Rattle.kept_table.specs.CatchingUp.{AreKept, unfed_of}
use Rattle.kept_table.specs.Counts.{HasLaws}
use Rattle.kept_table.specs.Decisions.{FailsToDecide}
use Rattle.kept_table.specs.Pieces.{most_of}
use Rattle.kept_table.specs.Rounds.{MovesEach, StopsEach}
use Rattle.kept_table.proofs.Deciding.{ends_work, kept_behind, notes_waits, piece_behind, works_in_vain}
use Rattle.kept_table.proofs.DuePieces.{stops_in_moving}
use Rattle.kept_table.proofs.Rounds.{are_kept}
use Rattle.kept_table.proofs.Shapes.{keeps_count}
use Rattle.kept_table.proofs.advancing.finish.Goals as goal

-- what was counted of the core is kept
kept_now :
    (most : ℕ) (waited : Option (List ℕ)) (old mid core : CoreState) (waits : List ℕ) → HasLaws mid → MovesEach most waited old mid → core ≡ mid
    → ((index : ℕ) → index < 8 → get_or waits index 0 ≡ unfed_of core index) → AreKept mid (Some waits)
kept_now most waited old mid core waits laws moved same told =
    are_kept most waited old mid waits (Some waits) laws (keeps_count old mid moved.works) moved
    (subst (λ (s : CoreState). (index : ℕ) → index < 8 → get_or waits index 0 ≡ unfed_of s index) same told) refl

pub returns-in-Err-clause-refused : goal.returns-in-Err-clause-refused
returns-in-Err-clause-refused g c =
    let most_is : c.max.result ≡ most_of c.args.most = omega (arith, c.max.ensures) in
    let stops = subst (λ (n : ℕ). StopsEach n c.args.waited.now c.args.counted.now c.in-Err.fault c.catch_up-caught_up.new.counted) most_is
    c.in-Err.ensures.refused in
    inl (
      stops_in_moving c.args.most c.args.waited.now c.args.counted.now c.catch_up-caught_up.new.counted c.in-Err.fault c.requires c.laws-2.ensures stops,
      refl,
    )

pub returns-in-Ok-decide-clause-ready : goal.returns-in-Ok-decide-clause-ready
returns-in-Ok-decide-clause-ready g c = λ _.
    let most_is : c.max.result ≡ most_of c.args.most = omega (arith, c.max.ensures) in
    let mid = c.catch_up-caught_up.new.counted in
    let moved = subst (λ (n : ℕ). MovesEach n c.args.waited.now c.args.counted.now mid) most_is c.in-Ok.ensures.done in
    ends_work c.args.most c.args.waited.now c.args.counted.now mid c.decide.new.counted c.in-Ok-decide._number c.decide.new.decided c.laws.ensures
    c.laws-2.ensures moved c.in-Ok-decide.ensures.decided

pub returns-in-Behind-clause-goes_on : goal.returns-in-Behind-clause-goes_on
returns-in-Behind-clause-goes_on g c = λ _.
    let most_is : c.max.result ≡ most_of c.args.most = omega (arith, c.max.ensures) in
    let mid = c.catch_up-caught_up.new.counted in
    let moved = subst (λ (n : ℕ). MovesEach n c.args.waited.now c.args.counted.now mid) most_is c.in-Ok.ensures.done in
    let fails = subst (λ (f : Fault). FailsToDecide mid f c.decide.new.counted) c.in-Behind.is c.in-Err-decide.ensures.refused in (
      piece_behind c.args.most c.in-Behind._left c.args.waited.now c.args.counted.now mid c.decide.new.counted c.requires c.laws.ensures c.laws-2.ensures
          moved fails,
      c.in-Err-decide.ensures.kept,
    )

pub returns-in-Behind-clause-waits : goal.returns-in-Behind-clause-waits
returns-in-Behind-clause-waits g c = λ _.
    let mid = c.catch_up-caught_up.new.counted in
    let are = kept_now c.max.result c.args.waited.now c.args.counted.now mid _ c.of_core.result c.laws-2.ensures c.in-Ok.ensures.done c.core.ensures
    c.of_core.ensures in
    let fails = subst (λ (f : Fault). FailsToDecide mid f c.decide.new.counted) c.in-Behind.is c.in-Err-decide.ensures.refused in
    notes_waits c.args.counted.now c.decide.new.counted c.args.waited.now (Some c.of_core.result) c.requires
    (kept_behind c.in-Behind._left mid c.decide.new.counted (Some c.of_core.result) fails are)

pub returns-in_default : goal.returns-in_default
returns-in_default g c =
    let most_is : c.max.result ≡ most_of c.args.most = omega (arith, c.max.ensures) in
    let mid = c.catch_up-caught_up.new.counted in
    let moved = subst (λ (n : ℕ). MovesEach n c.args.waited.now c.args.counted.now mid) most_is c.in-Ok.ensures.done in
    let are = kept_now c.max.result c.args.waited.now c.args.counted.now mid _ c.of_core.result c.laws-2.ensures c.in-Ok.ensures.done c.core.ensures
    c.of_core.ensures in
    record {
      ready = tt;
      forgotten = tt;
      goes_on = tt;
      waits = tt;
      refused = works_in_vain c.args.most c.args.waited.now (Some c.of_core.result) c.args.counted.now mid c.decide.new.counted c.in-Err-decide.fault
          c.laws.ensures c.laws-2.ensures moved c.in-Ok.ensures.prepared are (λ left is. c.in_default.not-Behind left is) c.in-Err-decide.ensures.refused;
      kept = c.in-Err-decide.ensures.kept;
    }
