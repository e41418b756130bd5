-- Places along one direction, each of which begins where the one before it ends.
use Rattle.std.specs.Prelude.{◌≡◌, ℕ, ◌+◌, ◌<◌, List, length, sum, take, slice_index}

-- where the first place begins, and how large each place is
pub record StackValue : Type 0 where
  pub first : ℕ
  pub sizes : List ℕ

-- a place begins behind all places before it
abbrev pub start_of : StackValue → ℕ → ℕ
start_of stack number = stack.first + sum (take number stack.sizes)

-- the last place ends behind all places
abbrev pub end_of : StackValue → ℕ
end_of stack = stack.first + sum stack.sizes

-- the starts and the end are those of places of these sizes
pub record IsLaidOut (first : ℕ) (sizes starts : List ℕ) (end : ℕ) : Type 0 where
  pub each : length starts ≡ length sizes
  pub behind : (number : ℕ) → number < length sizes → slice_index starts number ≡ first + sum (take number sizes)
  pub last : end ≡ first + sum sizes
