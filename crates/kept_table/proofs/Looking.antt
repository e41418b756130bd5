-- The pairs of an index from a pair on.
use Rattle.std.proofs.Common.{◌≡◌, Bool, true, false, if◌then◌else◌, List, [], ◌∷◌, Some, None, ap, ◌∙◌}
use Rattle.std.specs.List.{slice_get}
use Rattle.keybytes.specs.declared.pair.Pair.{Pair}
use Rattle.btree.specs.From.{from}
use Rattle.tree_nodes.specs.Order.{is_before}
use Rattle.kept_table.specs.Lookups.{onward, without}

pub none_onward : (past : Bool) (p : Pair) (pairs : List Pair) → from p pairs ≡ [] → slice_get (onward past p pairs) 0 ≡ None
none_onward false p pairs none = ap (λ (xs : List Pair). slice_get xs 0) none
none_onward true p pairs none = ap (λ (xs : List Pair). slice_get (without p xs) 0) none

pub first_onward :
    (p q : Pair) (pairs rest : List Pair) → from p pairs ≡ q ∷ rest → slice_get (onward false p pairs) 0 ≡ Some q
first_onward p q pairs rest is = ap (λ (xs : List Pair). slice_get xs 0) is

pub first_past :
    (p q : Pair) (pairs rest : List Pair) → from p pairs ≡ q ∷ rest → is_before p q ≡ true → slice_get (onward true p pairs) 0 ≡ Some q
first_past p q pairs rest is before =
    ap (λ (xs : List Pair). slice_get (without p xs) 0) is ∙ ap (λ (b : Bool). slice_get (if b then q ∷ rest else rest) 0) before

pub second_past :
    (p q : Pair) (pairs rest : List Pair) → from p pairs ≡ q ∷ rest → is_before p q ≡ false → slice_get (onward true p pairs) 0 ≡ slice_get rest 0
second_past p q pairs rest is before =
    ap (λ (xs : List Pair). slice_get (without p xs) 0) is ∙ ap (λ (b : Bool). slice_get (if b then q ∷ rest else rest) 0) before
