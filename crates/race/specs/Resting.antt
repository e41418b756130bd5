-- What is told of ready indexes.
use Rattle.std.specs.Prelude.{◌≡◌, ℕ, List, length, min}
use Rattle.std.specs.List.{All}
use Rattle.keybytes.specs.declared.fault.Fault.TheVariants.{Memory}
use Rattle.heap_log.specs.declared.record.LogRec.{LogRec}
use Rattle.crew.specs.MadeReady.{HasMadeReady}
use Rattle.race.specs.declared.check_line.CheckLine.{CheckLine}
use Rattle.race.specs.declared.check_line.CheckLine.TheVariants.{Same, Differs, Refused}

-- the line says that an index has the pairs of the rows; or that it can't be told, for want of memory
abbrev pub SaysSame : CheckLine → Type 0
SaysSame Same = Unit {0}
SaysSame Differs = ⊥
SaysSame (Refused fault) = fault ≡ Memory

-- there is a line for each of so many ready indexes, up to the eighth, and each says that its index has the pairs of the rows, if there was memory to look
pub record AreChecked (ready : ℕ) (lines : List CheckLine) : Type 0 where
  pub many : length lines ≡ min ready 8
  pub same : All SaysSame lines

-- so it is of as many indexes as that log made ready, which goes on from `opening`
pub record AreCheckedIn (opening log : List LogRec) (lines : List CheckLine) : Type 0 where
  pub ready : ℕ
  pub made : HasMadeReady opening log ready
  pub checked : AreChecked ready lines
