-- The front of a list of pairs in order.
use Rattle.std.proofs.Common.{◌≡◌, List, [], ◌∷◌, ◌++◌, sym, ◌∙◌, subst, append_assoc}
use Rattle.keybytes.specs.declared.pair.Pair.{Pair}
use Rattle.keybytes.specs.Pairs.{AreOrdered}
use Rattle.tree_nodes.specs.Lists.{IsRising}
use Rattle.tree_nodes.specs.Order.{is_before}
use Rattle.tree_nodes.proofs.Rising.{rising_parts}
use Rattle.btree.proofs.Sets.{rises_of, ordered_of}

pub ordered_front : (ps rest all : List Pair) (p : Pair) → AreOrdered all → ps ++ (p ∷ rest) ≡ all → AreOrdered (ps ++ p ∷ [])
ordered_front ps rest all p ordered is =
    let shape : (ps ++ p ∷ []) ++ rest ≡ all = append_assoc ps (p ∷ []) rest ∙ is in
    let whole : IsRising is_before ((ps ++ p ∷ []) ++ rest) = subst (IsRising is_before) (sym shape) (rises_of all ordered) in
    ordered_of (ps ++ p ∷ []) (rising_parts is_before (ps ++ p ∷ []) rest whole).left
