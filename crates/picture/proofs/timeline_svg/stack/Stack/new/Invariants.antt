use Rattle.std.proofs.Common.{◌≡◌, ℕ, ◌<◌, ◌+◌, length, slice_index_or, sum, take}
use Rattle.picture.proofs.timeline_svg.stack.Stack.new.Given as goal

-- the places before this one are laid out, and this one begins behind them
abbrev pub invariant-loop-size : goal.invariant-loop-size
invariant-loop-size l =
    (length l.starts.items ≡ l.size-index)
    × ((number : ℕ) → number < l.size-index → slice_index_or l.starts.items number 0 ≡ l.fn.first + sum (take number l.size-items))
    × (l.end ≡ l.fn.first + sum (take l.size-index l.size-items))
