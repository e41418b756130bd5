-- Lists that rise.
use Rattle.std.proofs.Common.{◌≡◌, ◌⊎◌, Bool, true, List, [], ◌∷◌, ◌++◌, refl, inl, inr}
use Rattle.std.proofs.lemmas.Bool.{cases_Bool}
use Rattle.tree_nodes.specs.Lists.{In, IsRising, IsStrict, same_by, put, without}

pub in_left : {X : Type 0} (x : X) (a b : List X) → In x a → In x (a ++ b)
in_left x [] b h = absurd h
in_left x (y ∷ a) b h = elim h [ inl e ↦ inl e | inr r ↦ inr (in_left x a b r) ]

pub in_right : {X : Type 0} (x : X) (a b : List X) → In x b → In x (a ++ b)
in_right x [] b h = h
in_right x (y ∷ a) b h = inr (in_right x a b h)

pub in_either : {X : Type 0} (x : X) (a b : List X) → In x (a ++ b) → In x a ⊎ In x b
in_either x [] b h = inr h
in_either x (y ∷ a) b h = elim h [
  | inl e ↦ inl (inl e)
  | inr r ↦ elim (in_either x a b r) [ inl s ↦ inl (inr s) | inr s ↦ inr s ]
]

pub record Joined {X : Type 0} (lt : X → X → Bool) (a b : List X) : Type 0 where
  pub left : IsRising lt a
  pub right : IsRising lt b
  pub apart : (x y : X) → In x a → In y b → lt x y ≡ true

pub rising_parts : {X : Type 0} (lt : X → X → Bool) (a b : List X) → IsRising lt (a ++ b) → Joined lt a b
rising_parts lt [] b r = record { left = tt; right = r; apart = λ x y h k. absurd h }
rising_parts lt (z ∷ a) b r =
    let s = rising_parts lt a b r.1 in
    record {
      left = (λ y h. r.0 y (in_left y a b h), s.left);
      right = s.right;
      apart = λ x y h k. elim h [ inl e ↦ rw e (r.0 y (in_right y a b k)) | inr i ↦ s.apart x y i k ];
    }

pub rising_joined : {X : Type 0} (lt : X → X → Bool) (a b : List X) → Joined lt a b → IsRising lt (a ++ b)
rising_joined lt [] b j = j.right
rising_joined lt (z ∷ a) b j = (
  λ y h. elim (in_either y a b h) [ inl i ↦ j.left.0 y i | inr i ↦ j.apart z y (inl refl) i ],
  rising_joined lt a b (record { left = j.left.1; right = j.right; apart = λ x y h k. j.apart x y (inr h) k }),
)

pub in_put : {X : Type 0} (lt : X → X → Bool) (x y : X) (zs : List X) → In y (put lt x zs) → (y ≡ x) ⊎ In y zs
in_put lt x y [] h = h
in_put lt x y (z ∷ zs) h =
    elim (cases_Bool (lt x z)) [
      | inl e ↦ rw e at h
      | inr e ↦ elim (cases_Bool (lt z x)) [
        | inl f ↦ elim (rw (e, f) at h) [ inl i ↦ inr (inl i) | inr i ↦ elim (in_put lt x y zs i) [ inl s ↦ inl s | inr s ↦ inr (inr s) ] ]
        | inr f ↦ inr (rw (e, f) at h)
      ]
    ]

pub rising_put : {X : Type 0} {lt : X → X → Bool} → IsStrict lt → (x : X) (zs : List X) → IsRising lt zs → IsRising lt (put lt x zs)
rising_put o x [] r = (λ y h. absurd h, tt)
rising_put {lt = lt} o x (z ∷ zs) r =
    elim (cases_Bool (lt x z)) [
      | inl e ↦ rw e ((λ y h. elim h [ inl i ↦ rw i e | inr i ↦ o.onward x z y e (r.0 y i) ]), r)
      | inr e ↦ elim (cases_Bool (lt z x)) [
        | inl f ↦ rw (e, f) ((λ y h. elim (in_put lt x y zs h) [ inl i ↦ rw i f | inr i ↦ r.0 y i ]), rising_put o x zs r.1)
        | inr f ↦ rw (e, f) r
      ]
    ]

pub in_without : {X : Type 0} (lt : X → X → Bool) (x y : X) (zs : List X) → In y (without lt x zs) → In y zs
in_without lt x y [] h = h
in_without lt x y (z ∷ zs) h =
    elim (cases_Bool (same_by lt x z)) [
      | inl e ↦ inr (rw e at h)
      | inr e ↦ elim (rw e at h) [ inl i ↦ inl i | inr i ↦ inr (in_without lt x y zs i) ]
    ]

pub rising_without : {X : Type 0} (lt : X → X → Bool) (x : X) (zs : List X) → IsRising lt zs → IsRising lt (without lt x zs)
rising_without lt x [] r = r
rising_without lt x (z ∷ zs) r =
    elim (cases_Bool (same_by lt x z)) [
      | inl e ↦ rw e r.1
      | inr e ↦ rw e ((λ y h. r.0 y (in_without lt x y zs h)), rising_without lt x zs r.1)
    ]
