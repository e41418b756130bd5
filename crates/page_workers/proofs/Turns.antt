-- What holds after a turn, whether it was a digest or a seal.
use Rattle.std.proofs.Common.{◌≤◌, ◌≡◌, ℕ, ◌+◌, ◌<◌, List, length, take, drop, ap, arith, inl, inr}
use Rattle.std.specs.Prelude.{Result, Ok, Err, OnErr, IfErr}
use Rattle.std.proofs.lemmas.List.{length-take, length-drop}
use Rattle.keybytes.specs.declared.fault.Fault.{Fault}
use Rattle.keybytes.specs.declared.fault.Fault.TheVariants.{Memory}
use Rattle.keybytes.specs.declared.kind.Kind.{Kind}
use Rattle.page_workers.specs.declared.turn.Turn.{Turn}
use Rattle.page_workers.specs.declared.turn.Turn.TheVariants.{Digest, Seal}
use Rattle.run_maker.specs.Making.{MakerValue}
use Rattle.page_workers.specs.IntakeValue.{IntakeValue}
use Rattle.side_file.specs.Ends.{after_taking}
use Rattle.page_workers.specs.Turns.{StopsIn, after_turn, turn_copies}
use Rattle.page_workers.specs.Work.{image_behind}
use Rattle.page_workers.specs.WorkerValue.{IsCounting}
use Rattle.page_workers.proofs.Keeping.{digest_counts, seal_counts}
use Rattle.page_workers.proofs.ManyPairs.{images_few}

-- it counts what it took
pub turn_counts :
    (turn : Turn) (old new : MakerValue) (intake after : IntakeValue) → new.schema ≡ old.schema → after ≡ after_turn turn old.schema intake
    → IsCounting intake old → IsCounting after new
turn_counts Digest old new intake after schema is counts = digest_counts 1 old new intake after schema is counts
turn_counts Seal old new intake after schema is counts = seal_counts (length intake.end.known) old new intake after schema is counts

-- there is a copy behind the first n
pub behind_known : (n : ℕ) (kinds : List Kind) (worker : IntakeValue) → length (image_behind n kinds worker) ≡ 1 → n < length worker.end.known
behind_known n kinds worker own =
    let few = images_few worker.build kinds (take 1 (drop n worker.end.known)) in
    omega (arith, own, few, length-take 1 (drop n worker.end.known), length-drop n worker.end.known)

-- at a turn that is refused it took the next copies, none that the turn doesn't take
pub taken_till :
    (turn : Turn) (kinds : List Kind) (old new : IntakeValue) (fault : Fault) → StopsIn turn kinds old new fault
    → (n : ℕ) × (new.end ≡ after_taking n old.end) × (n ≤ turn_copies turn old)
taken_till Digest kinds old new fault stops = (1, ap (λ (w : IntakeValue). w.end) stops.left, omega arith)
taken_till Seal kinds old new fault stops = elim stops [
  | inl at ↦ (let there = behind_known at.0 kinds old at.1.own in (at.0 + 1, ap (λ (w : IntakeValue). w.end) at.1.left, omega (arith, there)))
  | inr all ↦ (length old.end.known, ap (λ (w : IntakeValue). w.end) all.1, omega arith)
]

-- a seal that wants memory has seen a copy
pub seal_saw :
    (kinds : List Kind) (old new : IntakeValue) (fault : Fault) → StopsIn Seal kinds old new fault → fault ≡ Memory → 0 < length old.end.known
seal_saw kinds old new fault stops memory = elim stops [
  | inl at ↦ let there = behind_known at.0 kinds old at.1.own in omega (arith, there)
  | inr all ↦ absurd (let page = all.0 in cc)
]

-- what two clauses on one refusal say together
pub both_err : {T E P : Type 0} {Q R : E → Type 0} (r : Result T E) → (P → (e : E) → Q e → R e) → OnErr r P → IfErr r Q → IfErr r R
both_err (Ok x) f p q = tt
both_err (Err e) f p q = f p e q
