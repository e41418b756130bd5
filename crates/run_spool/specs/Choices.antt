-- Which kind of spool each of a build's spools is.
use Rattle.std.specs.Prelude.{ℕ, zero, suc, ◌==◌, ◌%◌, if◌then◌else◌, List, [], ◌∷◌}
use Rattle.run_spool.specs.declared.choice.SpoolChoice.{SpoolChoice}
use Rattle.run_spool.specs.declared.choice.SpoolChoice.TheVariants as choice
use Rattle.spool_ledger.specs.declared.kind.SpoolKind.{SpoolKind}
use Rattle.spool_ledger.specs.declared.kind.SpoolKind.TheVariants.{Plain, Prefix}

-- the kind of the spool of that number: of mixed spools those with even numbers are plain
abbrev pub kind_at : SpoolChoice → ℕ → SpoolKind
kind_at choice.Plain number = Plain
kind_at choice.Prefix number = Prefix
kind_at choice.Mixed number = if number % 2 == 0 then Plain else Prefix

-- the kinds of so many spools, of which the first has that number
abbrev pub kinds_from : SpoolChoice → ℕ → ℕ → List SpoolKind
kinds_from chosen first zero = []
kinds_from chosen first (suc count) = kind_at chosen first ∷ kinds_from chosen (suc first) count
