use Rattle.std.proofs.Common.{◌≡◌, ℕ, ◌+◌, ◌-◌, slice_index, vec_len}
use Rattle.csv_index.proofs.table.lines.note_slot.Given as goal

abbrev pub invariant-loop-lines : goal.invariant-loop-lines
invariant-loop-lines l = (place : ℕ) → slice_index l.lines.items place ≡ slice_index l.fn.lines.items place

abbrev pub decreases-loop-lines : goal.decreases-loop-lines
decreases-loop-lines l = l.slot + 1 - vec_len l.lines
