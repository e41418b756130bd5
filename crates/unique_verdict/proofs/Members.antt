-- Lists that rise and have the same members are the same.
use Rattle.std.proofs.Common.{◌≡◌, ◌⊎◌, Bool, true, ◌||◌, List, [], ◌∷◌, refl, sym, ap, ◌∙◌, subst, inl, inr}
use Rattle.std.proofs.lemmas.Bool.{cases_Bool, both_ways, false≢true}
use Rattle.tree_nodes.specs.Lists.{In, IsRising, IsStrict, same_by, has, put, without}
use Rattle.tree_nodes.proofs.Rising.{in_put, rising_put, in_without, rising_without}
use Rattle.tree_nodes.proofs.Places.{one_way, put_present}

pub in_first : {X : Type 0} {x y : X} (ys : List X) → x ≡ y → In x (y ∷ ys)
in_first ys e = inl e

-- whether two values are one
pub record Told {X : Type 0} (x y : X) : Type 0 where
  pub by : (x ≡ y) ⊎ (x ≡ y → ⊥)

pub one_or_two : {X : Type 0} {lt : X → X → Bool} → IsStrict lt → (x y : X) → (x ≡ y) ⊎ ((lt x y || lt y x) ≡ true)
one_or_two {lt = lt} o x y = elim (cases_Bool (lt x y)) [
  | inl e ↦ inr (rw e refl)
  | inr e ↦ elim (cases_Bool (lt y x)) [ inl f ↦ inr (rw (e, f) refl) | inr f ↦ inl (o.tied x y e f) ]
]

pub not_one : {X : Type 0} {lt : X → X → Bool} → IsStrict lt → (x y : X) → (lt x y || lt y x) ≡ true → x ≡ y → ⊥
not_one {X} {lt} o x y h e =
    let P : X → Type 0 = λ z. (lt x z || lt z x) ≡ true in
    let k : (lt x x || lt x x) ≡ true = subst P (sym e) h in
    false≢true (rw (o.not_itself x) at k)

pub lt_not_one : {X : Type 0} {lt : X → X → Bool} → IsStrict lt → (x y : X) → lt x y ≡ true → x ≡ y → ⊥
lt_not_one {X} {lt} o x y h e =
    let P : X → Type 0 = λ z. lt x z ≡ true in
    both_ways _ (o.not_itself x) (subst P (sym e) h)

head_of : {X : Type 0} {lt : X → X → Bool} → IsStrict lt → (x y : X) (xs ys : List X) → IsRising lt (x ∷ xs) → IsRising lt (y ∷ ys) → In x (y ∷ ys)
    → In y (x ∷ xs) → x ≡ y
head_of {lt = lt} o x y xs ys r s h k = elim h [
  | inl e ↦ e
  | inr i ↦ elim k [ inl e ↦ sym e | inr j ↦ absurd (both_ways _ (one_way o x y (r.0 y j)) (s.0 x i)) ]
]

tail_of : {X : Type 0} {lt : X → X → Bool} → IsStrict lt → (x y z : X) (xs ys : List X) → IsRising lt (x ∷ xs) → x ≡ y → In z xs → In z (y ∷ ys) → In z ys
tail_of o x y z xs ys r e i h = elim h [ inl f ↦ absurd (lt_not_one o x z (r.0 z i) (e ∙ sym f)) | inr j ↦ j ]

pub rising_same : {X : Type 0} {lt : X → X → Bool} → IsStrict lt → (xs ys : List X) → IsRising lt xs → IsRising lt ys → ((z : X) → In z xs
    → In z ys) → ((z : X) → In z ys → In z xs) → xs ≡ ys
rising_same o [] [] r s f g = refl
rising_same o [] (y ∷ ys) r s f g = absurd (g y (inl refl))
rising_same o (x ∷ xs) [] r s f g = absurd (f x (inl refl))
rising_same {X} o (x ∷ xs) (y ∷ ys) r s f g =
    let e : x ≡ y = head_of o x y xs ys r s (f x (inl refl)) (g y (inl refl)) in
    let t : xs ≡ ys = rising_same o xs ys r.1 s.1 (λ z i. tail_of o x y z xs ys r e i (f z (inr i))) (λ z i. tail_of o y x z ys xs s (sym e) i (g z (inr i))) in
    ap (λ (zs : List X). x ∷ zs) t ∙ ap (λ (w : X). w ∷ ys) e

pub put_in : {X : Type 0} {lt : X → X → Bool} → IsStrict lt → (x : X) (zs : List X) → In x (put lt x zs)
put_in o x [] = inl refl
put_in {lt = lt} o x (z ∷ zs) = elim (cases_Bool (lt x z)) [
  | inl e ↦ rw e (inl refl)
  | inr e ↦ elim (cases_Bool (lt z x)) [ inl f ↦ rw (e, f) (inr (put_in o x zs)) | inr f ↦ rw (e, f) (inl (o.tied x z e f)) ]
]

pub put_keeps : {X : Type 0} (lt : X → X → Bool) (x y : X) (zs : List X) → In y zs → In y (put lt x zs)
put_keeps lt x y [] h = absurd h
put_keeps lt x y (z ∷ zs) h = elim (cases_Bool (lt x z)) [
  | inl e ↦ rw e (inr h)
  | inr e ↦ elim (cases_Bool (lt z x)) [
    | inl f ↦ rw (e, f) (elim h [ inl i ↦ inl i | inr i ↦ inr (put_keeps lt x y zs i) ])
    | inr f ↦ rw (e, f) h
  ]
]

same_as : {X : Type 0} {lt : X → X → Bool} → IsStrict lt → (x y : X) → same_by lt x y ≡ true → x ≡ y
same_as {lt = lt} o x y h = elim (one_or_two o x y) [
  | inl e ↦ e
  | inr e ↦ absurd (false≢true (elim (cases_Bool (lt x y)) [ inl f ↦ rw f at h | inr f ↦ rw (f, (rw f at e)) at h ]))
]

same_self : {X : Type 0} {lt : X → X → Bool} → IsStrict lt → (x z : X) → x ≡ z → same_by lt x z ≡ true
same_self {X} {lt} o x z e = let P : X → Type 0 = λ w. same_by lt x w ≡ true in subst P e (rw (o.not_itself x) refl)

pub without_leaves : {X : Type 0} {lt : X → X → Bool} → IsStrict lt → (x y : X) (zs : List X) → IsRising lt zs → In y (without lt x zs) → y ≡ x → ⊥
without_leaves o x y [] r h e = h
without_leaves {lt = lt} o x y (z ∷ zs) r h e = elim (cases_Bool (same_by lt x z)) [
  | inl f ↦ lt_not_one o z y (r.0 y (rw f at h)) (sym (same_as o x z f) ∙ sym e)
  | inr f ↦ elim (rw f at h) [
    | inl i ↦ both_ways _ f (same_self o x z (sym e ∙ i))
    | inr i ↦ without_leaves o x y zs r.1 i e
  ]
]

pub without_keeps : {X : Type 0} {lt : X → X → Bool} → IsStrict lt → (x y : X) (zs : List X) → In y zs → (y ≡ x → ⊥) → In y (without lt x zs)
without_keeps o x y [] h n = h
without_keeps {lt = lt} o x y (z ∷ zs) h n = elim (cases_Bool (same_by lt x z)) [
  | inl f ↦ rw f (elim h [ inl i ↦ absurd (n (i ∙ sym (same_as o x z f))) | inr i ↦ i ])
  | inr f ↦ rw f (elim h [ inl i ↦ inl i | inr i ↦ inr (without_keeps o x y zs i n) ])
]

pub has_in : {X : Type 0} {lt : X → X → Bool} → IsStrict lt → (x : X) (zs : List X) → has lt x zs ≡ true → In x zs
has_in o x [] h = absurd (false≢true h)
has_in {lt = lt} o x (z ∷ zs) h = elim (cases_Bool (same_by lt x z)) [ inl e ↦ inl (same_as o x z e) | inr e ↦ inr (has_in o x zs (rw e at h)) ]

pub in_has : {X : Type 0} {lt : X → X → Bool} → IsStrict lt → (x : X) (zs : List X) → In x zs → has lt x zs ≡ true
in_has o x [] h = absurd h
in_has {lt = lt} o x (z ∷ zs) h = elim (cases_Bool (same_by lt x z)) [
  | inl e ↦ rw e refl
  | inr e ↦ rw e (elim h [ inl i ↦ absurd (both_ways _ e (same_self o x z i)) | inr i ↦ in_has o x zs i ])
]

pub put_there : {X : Type 0} {lt : X → X → Bool} → IsStrict lt → (x : X) (zs : List X) → IsRising lt zs → In x zs → put lt x zs ≡ zs
put_there o x zs r i = put_present o x zs r (in_has o x zs i)

pub without_absent : {X : Type 0} {lt : X → X → Bool} → IsStrict lt → (x : X) (zs : List X) → IsRising lt zs → (In x zs → ⊥) → without lt x zs ≡ zs
without_absent {X} {lt} o x zs r n =
    rising_same o (without lt x zs) zs (rising_without lt x zs r) r (λ z i. in_without lt x z zs i)
    (λ z i. without_keeps o x z zs i (λ e. let P : X → Type 0 = λ y. In y zs in n (subst P e i)))

pub without_put : {X : Type 0} {lt : X → X → Bool} → IsStrict lt → (x : X) (zs : List X) → IsRising lt zs → (In x zs → ⊥) → without lt x (put lt x zs) ≡ zs
without_put {X} {lt} o x zs r n =
    let more : IsRising lt (put lt x zs) = rising_put o x zs r in
    rising_same o (without lt x (put lt x zs)) zs (rising_without lt x _ more) r
    (λ z i. elim (in_put lt x z zs (in_without lt x z _ i)) [ inl e ↦ absurd (without_leaves o x z _ more i e) | inr j ↦ j ])
    (λ z i. without_keeps o x z _ (put_keeps lt x z zs i) (λ e. let P : X → Type 0 = λ y. In y zs in n (subst P e i)))
