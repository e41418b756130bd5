-- A value that belongs into the middle of a list.
use Rattle.std.proofs.Common.{◌≡◌, Bool, true, ◌||◌, List, [], ◌∷◌, ◌++◌, refl, ap, ◌∙◌, inl, inr}
use Rattle.std.proofs.lemmas.Bool.{cases_Bool}
use Rattle.tree_nodes.specs.Lists.{In, IsStrict, same_by, has, put, without}
use Rattle.tree_nodes.proofs.Places.{one_way, has_none_below, without_none_below}

module _ {X : Type 0} {lt : X → X → Bool} (o : IsStrict lt) (x : X) where
  has-left : (l m : List X) → ((y : X) → In y l → lt y x ≡ true) → has lt x (l ++ m) ≡ has lt x m
  has-left [] m h = refl
  has-left (y ∷ l) m h = rw (one_way o y x (h y (inl refl)), h y (inl refl)) (has-left l m (λ z i. h z (inr i)))

  has-right : (w r : List X) → ((y : X) → In y r → lt x y ≡ true) → has lt x (w ++ r) ≡ has lt x w
  has-right [] r h = has_none_below lt x r h
  has-right (y ∷ w) r h = ap (λ b. same_by lt x y || b) (has-right w r h)

  pub has-middle : (l w r : List X) → ((y : X) → In y l → lt y x ≡ true) → ((y : X) → In y r → lt x y ≡ true) → has lt x (l ++ (w ++ r)) ≡ has lt x w
  has-middle l w r h k = has-left l (w ++ r) h ∙ has-right w r k

  without-left : (l m : List X) → ((y : X) → In y l → lt y x ≡ true) → without lt x (l ++ m) ≡ l ++ without lt x m
  without-left [] m h = refl
  without-left (y ∷ l) m h = rw (one_way o y x (h y (inl refl)), h y (inl refl)) (ap (λ zs. y ∷ zs) (without-left l m (λ z i. h z (inr i))))

  without-right : (w r : List X) → ((y : X) → In y r → lt x y ≡ true) → without lt x (w ++ r) ≡ without lt x w ++ r
  without-right [] r h = without_none_below lt x r h
  without-right (y ∷ w) r h =
      elim (cases_Bool (same_by lt x y)) [ inl e ↦ rw e refl | inr e ↦ rw e (ap (λ zs. y ∷ zs) (without-right w r h)) ]

  pub without-middle :
      (l w r : List X) → ((y : X) → In y l → lt y x ≡ true) → ((y : X) → In y r → lt x y ≡ true) → without lt x (l ++ (w ++ r)) ≡ l ++ (without lt x w ++ r)
  without-middle l w r h k = without-left l (w ++ r) h ∙ ap (λ zs. l ++ zs) (without-right w r k)

  put-left : (l m : List X) → ((y : X) → In y l → lt y x ≡ true) → put lt x (l ++ m) ≡ l ++ put lt x m
  put-left [] m h = refl
  put-left (y ∷ l) m h = rw (one_way o y x (h y (inl refl)), h y (inl refl)) (ap (λ zs. y ∷ zs) (put-left l m (λ z i. h z (inr i))))

  put_front : (r : List X) → ((y : X) → In y r → lt x y ≡ true) → put lt x r ≡ x ∷ r
  put_front [] h = refl
  put_front (y ∷ r) h = rw (h y (inl refl)) refl

  put-right : (w r : List X) → ((y : X) → In y r → lt x y ≡ true) → put lt x (w ++ r) ≡ put lt x w ++ r
  put-right [] r h = put_front r h
  put-right (y ∷ w) r h =
      elim (cases_Bool (lt x y)) [
        | inl e ↦ rw e refl
        | inr e ↦ elim (cases_Bool (lt y x)) [ inl f ↦ rw (e, f) (ap (λ zs. y ∷ zs) (put-right w r h)) | inr f ↦ rw (e, f) refl ]
      ]

  pub put-middle :
      (l w r : List X) → ((y : X) → In y l → lt y x ≡ true) → ((y : X) → In y r → lt x y ≡ true) → put lt x (l ++ (w ++ r)) ≡ l ++ (put lt x w ++ r)
  put-middle l w r h k = put-left l (w ++ r) h ∙ ap (λ zs. l ++ zs) (put-right w r k)
