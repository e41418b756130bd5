use Rattle.std.proofs.Common.{◌≡◌, ◌<◌, ℕ, get_or}
use Rattle.keybytes.specs.Keys.{KeySpecValue}
use Rattle.live_table.proofs.live.part.are_same.Given as goal

abbrev pub invariant-loop-index : goal.invariant-loop-index
invariant-loop-index l = (k : ℕ) (d : KeySpecValue) → k < l.index → get_or l.one k d ≡ get_or l.other k d
