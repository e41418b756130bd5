-- Pairs of which each is there once, and these in order.
use Rattle.std.specs.Prelude.{List}
use Rattle.std.specs.FinMap.{keys}
use Rattle.std.specs.List.{IsDistinct}
use Rattle.std.specs.Ordering.{eq_by_cmp}
use Rattle.keybytes.specs.Pairs.{pair_cmp, set_of}
use Rattle.keybytes.specs.declared.pair.Pair.{Pair}
use Rattle.run_spool.specs.Spools.{all_pairs}

-- no pair is there twice
abbrev pub AreEachOnce : List Pair → Type 0
AreEachOnce pairs = IsDistinct (eq_by_cmp pair_cmp) pairs

-- the pairs of runs in order
abbrev pub in_order : List (List Pair) → List Pair
in_order runs = keys (set_of (all_pairs runs))
