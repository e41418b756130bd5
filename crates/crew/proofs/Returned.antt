-- The first fault in a list that is read from a place on.
use Rattle.std.proofs.Common.{◌≡◌, ◌+◌, ◌<◌, ◌≤◌, ℕ, List, [], ◌∷◌, ◌++◌, false, Option, Some, None, get_or, length, map, drop, refl, sym, ap, subst, ◌∙◌, append_assoc}
use Rattle.std.specs.Prelude.{IfSome, is_some}
use Rattle.std.specs.List.{All}
use Rattle.std.proofs.lemmas.List.{drop_all, drop_more, map-append}
use Rattle.std.proofs.lemmas.List.Elements.{All-head, All-tail}
use Rattle.std.proofs.lemmas.Option.{same_Some}
use Rattle.keybytes.specs.Faults.{first_cause}
use Rattle.keybytes.specs.declared.fault.Fault.{Fault}
use Rattle.crew.specs.Returning.{first_fault}

module _ {X : Type 0} (fault : X → Option Fault) (xs : List X) where
  read : (n : ℕ) (x : X) → n < length xs → x ≡ get_or xs n x
      → first_fault (map fault (drop n xs)) ≡ first_cause (fault x) (first_fault (map fault (drop (n + 1) xs)))
  read n x inside is =
      ap (λ (l : List X). first_fault (map fault l)) (drop_more xs n x inside)
      ∙ ap (λ (y : X). first_cause (fault y) (first_fault (map fault (drop (n + 1) xs)))) (sym is)

  -- one that has none is passed
  pub first_behind : (n : ℕ) (x : X) → n < length xs → x ≡ get_or xs n x → fault x ≡ None
      → first_fault (map fault (drop n xs)) ≡ first_fault (map fault (drop (n + 1) xs))
  first_behind n x inside is none = read n x inside is ∙ ap (λ (o : Option Fault). first_cause o (first_fault (map fault (drop (n + 1) xs)))) none

  -- the first one that has some
  pub first_here : (n : ℕ) (x : X) (it : Fault) → n < length xs → x ≡ get_or xs n x → fault x ≡ Some it → first_fault (map fault (drop n xs)) ≡ Some it
  first_here n x it inside is some = read n x inside is ∙ ap (λ (o : Option Fault). first_cause o (first_fault (map fault (drop (n + 1) xs)))) some

  pub first_none : (n : ℕ) → length xs ≤ n → first_fault (map fault (drop n xs)) ≡ None
  first_none n past = ap (λ (l : List X). first_fault (map fault l)) (drop_all n xs past)

pub none_from : {X : Type 0} (o : Option X) → is_some o ≡ false → o ≡ None
none_from None e = refl
none_from (Some x) e = absurd (cc (e))

-- one more was put behind, which stands for the next of those that are left
pub pushed_next :
    {X Y Z : Type 0} (f : X → Z) (g : Y → Z) (all : List Z) (back now : List X) (x : X) (left rest : List Y) (y : Y)
    → map f back ++ map g left ≡ all → now ≡ back ++ x ∷ [] → left ≡ y ∷ rest → f x ≡ g y → map f now ++ map g rest ≡ all
pushed_next {X} {Y} {Z} f g all back now x left rest y before pushed next same =
    ap (λ (l : List X). map f l ++ map g rest) pushed
    ∙ ap (λ (l : List Z). l ++ map g rest) (map-append f back (x ∷ []))
    ∙ append_assoc (map f back) (f x ∷ []) (map g rest)
    ∙ ap (λ (z : Z). map f back ++ z ∷ map g rest) same
    ∙ ap (λ (l : List Y). map f back ++ map g l) (sym next)
    ∙ before

-- what holds of each fault holds of the first
module _ {X : Type 0} (fault : X → Option Fault) (P : Fault → Type 0) where
  holds_of_cause : (one rest : Option Fault) (it : Fault) → IfSome one P → (rest ≡ Some it → P it) → first_cause one rest ≡ Some it → P it
  holds_of_cause (Some first) rest it is others e = subst P (same_Some first it e) is
  holds_of_cause None rest it is others e = others e

  pub holds_of_first : (xs : List X) (it : Fault) → All (λ x. IfSome (fault x) P) xs → first_fault (map fault xs) ≡ Some it → P it
  holds_of_first [] it all e = absurd (cc (e))
  holds_of_first (x ∷ xs) it all e =
      holds_of_cause (fault x) (first_fault (map fault xs)) it (All-head (λ y. IfSome (fault y) P) x xs all)
      (holds_of_first xs it (All-tail (λ y. IfSome (fault y) P) x xs all)) e
