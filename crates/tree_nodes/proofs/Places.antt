-- What is at the place of a value in a list that rises.
use Rattle.std.proofs.Common.{◌≡◌, ℕ, ◌<◌, ◌≤◌, Bool, true, false, List, [], ◌∷◌, length, get_or, refl, ap, inl, inr, arith}
use Rattle.std.proofs.lemmas.Bool.{both_ways, cases_Bool, cases_lt}
use Rattle.tree_nodes.specs.Lists.{In, IsRising, IsStrict, has, put, without, front_count}
use Rattle.tree_nodes.specs.Found.{IsAt, IsGap}

-- an order goes one way
pub one_way : {X : Type 0} {lt : X → X → Bool} → IsStrict lt → (a b : X) → lt a b ≡ true → lt b a ≡ false
one_way {lt = lt} o a b h = elim (cases_Bool (lt b a)) [ inl r ↦ absurd (both_ways _ (o.not_itself a) (o.onward a b a h r)) | inr r ↦ r ]

pub has_none_below : {X : Type 0} (lt : X → X → Bool) (x : X) (ys : List X) → ((y : X) → In y ys → lt x y ≡ true) → has lt x ys ≡ false
has_none_below lt x [] h = refl
has_none_below lt x (y ∷ ys) h = rw (h y (inl refl)) (has_none_below lt x ys (λ z i. h z (inr i)))

pub without_none_below : {X : Type 0} (lt : X → X → Bool) (x : X) (ys : List X) → ((y : X) → In y ys → lt x y ≡ true) → without lt x ys ≡ ys
without_none_below lt x [] h = refl
without_none_below lt x (y ∷ ys) h = rw (h y (inl refl)) (ap (λ zs. y ∷ zs) (without_none_below lt x ys (λ z i. h z (inr i))))

-- at the first that isn't below x
pub record Here {X : Type 0} (lt : X → X → Bool) (x : X) (ys : List X) (at : ℕ) : Type 0 where
  pub there : (d : X) → at < length ys → lt x (get_or ys at d) ≡ false → IsAt lt x ys at
  pub gap : (d : X) → at < length ys → lt x (get_or ys at d) ≡ true → IsGap lt x ys at
  pub last : length ys ≤ at → IsGap lt x ys at

pub here : {X : Type 0} {lt : X → X → Bool} → IsStrict lt → (x : X) (ys : List X) → IsRising lt ys → Here lt x ys (front_count (λ y. lt y x) ys)
here {lt = lt} o x [] r = record {
  there = λ d h e. absurd (omega arith);
  gap = λ d h e. absurd (omega arith);
  last = λ h. record { within = omega arith; absent = refl; put = refl; without = refl };
}
here {X} {lt} o x (y ∷ ys) r =
    let next = here o x ys r.1 in
    elim (cases_Bool (lt y x)) [
      | inl below ↦
          let back : lt x y ≡ false = one_way o y x below in
          rw below (record {
            there = λ d h e. let f = next.there d (omega arith) e in record {
              within = omega (arith, f.within);
              there = rw (back, below) f.there;
              put = rw (back, below) (ap (λ zs. y ∷ zs) f.put);
              without = rw (back, below) (ap (λ zs. y ∷ zs) f.without);
            };
            gap = λ d h e. let f = next.gap d (omega arith) e in record {
              within = omega (arith, f.within);
              absent = rw (back, below) f.absent;
              put = rw (back, below) (ap (λ zs. y ∷ zs) f.put);
              without = rw (back, below) (ap (λ zs. y ∷ zs) f.without);
            };
            last = λ h. let f = next.last (omega arith) in record {
              within = omega (arith, f.within);
              absent = rw (back, below) f.absent;
              put = rw (back, below) (ap (λ zs. y ∷ zs) f.put);
              without = rw (back, below) (ap (λ zs. y ∷ zs) f.without);
            };
          })
      | inr stop ↦ rw stop (record {
        there = λ d h e. record {
          within = omega arith;
          there = rw (e, stop) refl;
          put = rw (e, stop) refl;
          without = rw (e, stop) refl;
        };
        gap = λ d h e.
            let later = λ (z : X) (i : In z ys). o.onward x y z e (r.0 z i) in
            record {
              within = omega arith;
              absent = rw e (has_none_below lt x ys later);
              put = rw e refl;
              without = rw e (ap (λ zs. y ∷ zs) (without_none_below lt x ys later));
            };
        last = λ h. absurd (omega arith);
      })
    ]

pub found : {X : Type 0} {lt : X → X → Bool} → IsStrict lt → (x : X) (ys : List X) (at : ℕ) → IsRising lt ys → at ≡ front_count (λ y. lt y x) ys → Here lt x ys at
found o x ys at r e = rw e (here o x ys r)

pub put_present : {X : Type 0} {lt : X → X → Bool} → IsStrict lt → (x : X) (ys : List X) → IsRising lt ys → has lt x ys ≡ true → put lt x ys ≡ ys
put_present {lt = lt} o x ys r e =
    let h = here o x ys r in
    elim (cases_lt (front_count (λ y. lt y x) ys) (length ys)) [
      | inl w ↦ elim (cases_Bool (lt x (get_or ys (front_count (λ y. lt y x) ys) x))) [
        | inl up ↦ absurd (both_ways _ (h.gap x w up).absent e)
        | inr miss ↦ (h.there x w miss).put
      ]
      | inr past ↦ absurd (both_ways _ (h.last past).absent e)
    ]
