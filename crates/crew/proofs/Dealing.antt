-- The queue of ranges keeps its rule.
use Rattle.std.specs.Prelude.{ℕ, ◌<◌, ◌++◌, List, [], ◌∷◌}
use Rattle.crew.specs.Dealt.{AreDealt}

pub dealt_more : (numbers : List ℕ) (number : ℕ) → number < 256 → AreDealt numbers → AreDealt (numbers ++ number ∷ [])
dealt_more [] number may dealt = (may, tt)
dealt_more (first ∷ numbers) number may dealt = (dealt.0, dealt_more numbers number may dealt.1)
