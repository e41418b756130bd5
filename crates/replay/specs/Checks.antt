-- Which scripts a check approves.
use Rattle.std.specs.Prelude.{ℕ, List, ◌⊎◌}
use Rattle.script.specs.RaceScripts.{AreGoodOfRace}
use Rattle.script.specs.Scripts.{AreGood}

-- all records are good, of a script that is replayed or of a race
abbrev pub IsGood : List ℕ → Type 0
IsGood text = ((count : ℕ) × AreGood text count) ⊎ ((count : ℕ) × AreGoodOfRace text count)
