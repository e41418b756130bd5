-- Leaves.
use Rattle.std.proofs.Common.{◌≡◌, ℕ, List, sym, subst, take, drop}
use Rattle.std.proofs.lemmas.List.{take-append-drop}
use Rattle.keybytes.specs.declared.pair.Pair.{Pair}
use Rattle.tree_nodes.specs.Lists.{put, without, front_count, IsRising}
use Rattle.tree_nodes.specs.Order.{is_before, PairsRise}
use Rattle.tree_nodes.proofs.Strict.{before-strict}
use Rattle.tree_nodes.proofs.Places.{Here, found}
use Rattle.tree_nodes.proofs.Rising.{rising_put, rising_without, rising_parts, Joined}

pub leaf_here : (p : Pair) (ps : List Pair) (at : ℕ) → PairsRise ps → at ≡ front_count (λ q. is_before q p) ps → Here is_before p ps at
leaf_here p ps at o e = found before-strict p ps at o.rising e

pub rise_put : (p : Pair) (ps : List Pair) → PairsRise ps → PairsRise (put is_before p ps)
rise_put p ps o = record { rising = rising_put before-strict p ps o.rising }

pub rise_without : (p : Pair) (ps : List Pair) → PairsRise ps → PairsRise (without is_before p ps)
rise_without p ps o = record { rising = rising_without is_before p ps o.rising }

parts : (n : ℕ) (ps : List Pair) → PairsRise ps → Joined is_before (take n ps) (drop n ps)
parts n ps o = rising_parts is_before (take n ps) (drop n ps) (subst (IsRising is_before) (sym (take-append-drop n ps)) o.rising)

pub rise_take : (n : ℕ) (ps : List Pair) → PairsRise ps → PairsRise (take n ps)
rise_take n ps o = record { rising = (parts n ps o).left }

pub rise_drop : (n : ℕ) (ps : List Pair) → PairsRise ps → PairsRise (drop n ps)
rise_drop n ps o = record { rising = (parts n ps o).right }
