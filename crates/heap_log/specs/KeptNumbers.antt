-- How the number of a record is kept.
use Rattle.std.specs.Prelude.{ℕ, zero, suc, Option, Some, None}

-- the number that is kept so: 0 is none
abbrev pub number_in : ℕ → Option ℕ
number_in zero = None
number_in (suc n) = Some (suc n)
