-- What it means that threads may share the values of a type.
use Rattle.std.specs.Prelude.{ℕ}
use denote.RattleType.{RattleType}
use denote.Param.Send.{Common}

-- a value that is lent says the same to every thread: this is std's `IsSync`, spelled out
abbrev pub SaysTheSame : RattleType → Type 0
SaysTheSame T = (x : T.Denot) (block offset : ℕ) → Common (T.shr_at x block offset)
