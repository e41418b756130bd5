-- The switch after the turns of the indexes.
use Rattle.std.proofs.Common.{◌≡◌, ℕ, List, length, Option, None, Some, IsSomeAnd, refl, sym, ap, ◌∙◌, subst, inl, inr, arith}
use Rattle.std.specs.Prelude.{◌&&◌, nat_lt, IfSome}
use Rattle.std.specs.List.{list_any}
use Rattle.std.proofs.lemmas.Option.{same_Some}
use Rattle.keybytes.specs.Faults.{first_cause}
use Rattle.keybytes.specs.declared.fault.Fault.{Fault}
use Rattle.keybytes.specs.declared.fault.Fault.TheVariants.{Behind, Busy, Memory, NoBuild}
use Rattle.heap_table.specs.HeapState.{busy_txns}
use Rattle.build_events.specs.BuildSteps.{behind_refusal, build_cause, busy_refusal, switch_most, switch_refusal}
use Rattle.build_events.specs.CoreState.{BuildState, CoreState}
use Rattle.build_events.specs.Ranges.{open_range}
use Rattle.build_events.specs.Steps.{refusal}
use Rattle.build_events.specs.Workers.{all_unapplied, unloaded_index}
use Rattle.build_events.specs.declared.event.Event.TheVariants.{Switch}
use Rattle.build_events.specs.declared.reply.Reply.TheVariants.{Refused}
use Rattle.kept_table.specs.CatchingUp.{AreKept}
use Rattle.kept_table.specs.Counts.{HasLaws}
use Rattle.kept_table.specs.Decisions.{Decides, FailsToDecide}
use Rattle.kept_table.specs.KeptTables.{DecidedValue}
use Rattle.kept_table.specs.Pieces.{DoesPiece, FailsToAdvance, IsPrepared, IsUndecided, NotesWaits, WorksToTheEnd, most_of}
use Rattle.kept_table.specs.Progresses.{index_count}
use Rattle.kept_table.specs.Rounds.{MovesEach}
use Rattle.kept_table.proofs.Causes.{first_or, if_told, spoiled_want}
use Rattle.kept_table.proofs.Counts.{laws_of}
use Rattle.kept_table.proofs.DuePieces.{moves_due}
use Rattle.kept_table.proofs.Pieces.{same_fault}
use Rattle.kept_table.proofs.Rounds.{catches_up, leaves_all}
use Rattle.kept_table.proofs.Shapes.{none_left}

-- a switch that is refused since it is behind changes nothing
behind_told : (s new : CoreState) (left : ℕ) → FailsToDecide s (Behind left) new → (new ≡ s) × (refusal s Switch ≡ Some (Behind left))
behind_told s new left (inl (memory, building, same)) = absurd (cc)
behind_told s new left (inr (inl (told, is, inl (cause, same)))) = (same, cause ∙ ap (λ f. Some f) (same_fault (Behind left) told is))
behind_told s new left (inr (inl (told, is, inr (cause, want, after)))) =
    absurd (let both : Refused (Behind left) ≡ Refused told = is in let memory : told ≡ Memory = want in cc)
behind_told s new left (inr (inr (cause, does))) = absurd (let is = does.1 in cc)

pub piece_behind :
    (most left : ℕ) (waited : Option (List ℕ)) (old mid new : CoreState) → IsPrepared old → HasLaws old → HasLaws mid
    → MovesEach (most_of most) waited old mid → FailsToDecide mid (Behind left) new → DoesPiece most waited old new
piece_behind most left waited old mid new prepared laws kept moved fails = at old.live.build refl where
  told : (new ≡ mid) × (refusal mid Switch ≡ Some (Behind left))
  told = behind_told mid new left fails

  here : MovesEach (most_of most) waited old new
  here = subst (λ (s : CoreState). MovesEach (most_of most) waited old s) (sym told.0) moved

  cause : refusal new Switch ≡ Some (Behind left)
  cause = ap (λ (s : CoreState). refusal s Switch) told.0 ∙ told.1

  at : (o : Option BuildState) → old.live.build ≡ o → DoesPiece most waited old new
  at None none = absurd (
      let gone : new.live.build ≡ None = none_left old new here.works none in
      let bad : Some NoBuild ≡ Some (Behind left) =
      subst (λ (o : Option BuildState). build_cause o (λ b. switch_refusal b new.live.heap new.work) ≡ Some (Behind left)) gone cause in
      cc
      )
  at (Some b) runs = record {
    works = here.works;
    due = moves_due old b here.works.events runs prepared here.entries;
    some = here.some (omega (arith, (laws_of old b runs laws).some_indexes, ap index_count runs));
    leaves = λ _. leaves_all (most_of most) waited old new laws (subst HasLaws (sym told.0) kept) here;
    behind = λ _. (left, cause);
  }

pub ends_work :
    (most : ℕ) (waited : Option (List ℕ)) (old mid new : CoreState) (number : ℕ) (decided : Option DecidedValue) → HasLaws old → HasLaws mid
    → MovesEach (most_of most) waited old mid → IsSomeAnd decided (λ told. Decides mid number told new)
    → IsSomeAnd decided (λ told. WorksToTheEnd most waited old told new)
ends_work most waited old mid new number None laws kept moved decides = absurd decides
ends_work most waited old mid new number (Some decided) laws kept moved decides =
    record { mid = mid; caught_up = catches_up (most_of most) waited old mid laws kept moved; number = number; decides = decides }

-- Why a switch doesn't decide.

switch_cause :
    (s : CoreState) (fault : Fault) → IsPrepared s → HasLaws s → ((left : ℕ) → fault ≡ Behind left → ⊥) → refusal s Switch ≡ Some fault → IsUndecided fault
switch_cause s fault prepared laws not_behind cause = at s.live.build refl where
  busy : (b : BuildState) (writers : ℕ) → busy_refusal b writers ≡ Some fault → IsUndecided fault
  busy b writers is =
      inr (inl (writers, if_told (list_any (λ spec. spec.unique) b.specs && nat_lt 0 writers) (Busy writers) fault is))

  at : (o : Option BuildState) → s.live.build ≡ o → IsUndecided fault
  at None none =
      let is : Some NoBuild ≡ Some fault =
      subst (λ (o : Option BuildState). build_cause o (λ b. switch_refusal b s.live.heap s.work) ≡ Some fault) none cause in
      inl (sym (same_Some NoBuild fault is))
  at (Some b) runs =
      let none = subst (λ (o : Option BuildState). IfSome o (λ it. (open_range it ≡ None) × (unloaded_index s.work ≡ None))) runs prepared in
      let is : switch_refusal b s.live.heap s.work ≡ Some fault =
      subst (λ (o : Option BuildState). build_cause o (λ it. switch_refusal it s.live.heap s.work) ≡ Some fault) runs cause in
      let left : ℕ = all_unapplied b s.live.heap.log b.specs s.work.indexes in
      let writers : ℕ = length (busy_txns s.live.heap) in
      let rest : Option Fault = first_cause (behind_refusal left) (busy_refusal b writers) in
      let read : switch_refusal b s.live.heap s.work ≡ first_cause s.work.spoiled rest = rw (none.0, none.1) refl in
      elim (first_or s.work.spoiled rest fault (sym read ∙ is)) [
        | inl spoiled ↦ inr (inr (spoiled_want s.work.spoiled fault (laws_of s b runs laws).spoiled spoiled))
        | inr why ↦ elim (first_or (behind_refusal left) (busy_refusal b writers) fault why) [
          | inl behind ↦ absurd (not_behind left (if_told (nat_lt switch_most left) (Behind left) fault behind))
          | inr waits ↦ busy b writers waits
        ]
      ]

why_undecided :
    (s new : CoreState) (fault : Fault) → IsPrepared s → HasLaws s → ((left : ℕ) → fault ≡ Behind left → ⊥) → FailsToDecide s fault new → IsUndecided fault
why_undecided s new fault prepared laws not_behind (inl (memory, building, same)) = inr (inr (inr memory))
why_undecided s new fault prepared laws not_behind (inr (inl (told, is, inl (cause, same)))) =
    switch_cause s fault prepared laws not_behind (cause ∙ ap (λ f. Some f) (same_fault fault told is))
why_undecided s new fault prepared laws not_behind (inr (inl (told, is, inr (cause, want, after)))) =
    inr (inr (inr (sym (same_fault fault told is) ∙ want)))
why_undecided s new fault prepared laws not_behind (inr (inr (cause, does))) = absurd (let is = does.1 in cc)

pub works_in_vain :
    (most : ℕ) (waited kept_now : Option (List ℕ)) (old mid new : CoreState) (fault : Fault) → HasLaws old → HasLaws mid
    → MovesEach (most_of most) waited old mid → IsPrepared mid → AreKept mid kept_now
    → ((left : ℕ) → fault ≡ Behind left → ⊥) → FailsToDecide mid fault new → FailsToAdvance most waited old fault new kept_now
works_in_vain most waited kept_now old mid new fault laws kept moved prepared are not_behind fails =
    inr (record {
      mid = mid;
      caught_up = catches_up (most_of most) waited old mid laws kept moved;
      kept_is = are;
      fails = fails;
      why = why_undecided mid new fault prepared kept not_behind fails;
    })

-- What is noted of it.

-- where the switch was behind nothing changed, so that just as much waits
pub kept_behind :
    (left : ℕ) (mid new : CoreState) (kept : Option (List ℕ)) → FailsToDecide mid (Behind left) new → AreKept mid kept → AreKept new kept
kept_behind left mid new kept fails are = subst (λ (s : CoreState). AreKept s kept) (sym (behind_told mid new left fails).0) are

pub notes_waits :
    (old new : CoreState) (waited kept : Option (List ℕ)) → IsPrepared old → AreKept new kept → NotesWaits old waited new kept
notes_waits old new waited kept prepared are = record { caught_up = λ _. are; others = λ not. absurd (not prepared) }

pub notes_none : (old new : CoreState) (waited : Option (List ℕ)) → (IsPrepared old → ⊥) → NotesWaits old waited new waited
notes_none old new waited not = record { caught_up = λ prepared. absurd (not prepared); others = λ _. refl }
