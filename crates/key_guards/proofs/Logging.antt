-- What one record more does to a log, as far as guards go.
use Rattle.std.proofs.Common.{◌≡◌, List, [], ◌∷◌, ◌++◌, length, refl}
use Rattle.heap_log.specs.declared.record.LogRec.{LogRec}
use Rattle.heap_log.specs.Growing.{UndoesNameEarlier}
use Rattle.heap_log.specs.Standing.{NamesEarlier}
use Rattle.heap_log.proofs.Adds.{AddsToBefore, AddsToNumbers}
use Rattle.heap_log.proofs.Added.{adds_to_before, adds_to_numbers}
use Rattle.heap_log.proofs.Growing.{undone-past}

pub record Logged (old : List LogRec) (rec : LogRec) (new : List LogRec) : Type 0 where
  pub is : new ≡ old ++ rec ∷ []
  pub before : AddsToBefore old rec new
  pub numbers : AddsToNumbers old rec new

pub logged : (log : List LogRec) (rec : LogRec) → UndoesNameEarlier log → NamesEarlier (length log) rec → Logged log rec (log ++ rec ∷ [])
logged log rec undos names = record {
  is = refl;
  before = adds_to_before log rec;
  numbers = adds_to_numbers log rec (undone-past log undos) names;
}
