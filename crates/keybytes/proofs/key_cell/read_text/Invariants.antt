use Rattle.std.proofs.Common.{ℕ, List, length, ◌-◌}
use Rattle.keybytes.specs.Keys.{BeginsWithTextKey}
use Rattle.keybytes.proofs.KeyReads.{TextLeft}
use Rattle.keybytes.proofs.key_cell.read_text.Given as goal

abbrev pub invariant-loop-at : goal.invariant-loop-at
invariant-loop-at l = (text rest : List ℕ) → BeginsWithTextKey text rest l.bytes → TextLeft text rest l.bytes l.text.items l.at

abbrev pub decreases-loop-at : goal.decreases-loop-at
decreases-loop-at l = length l.bytes - l.at
