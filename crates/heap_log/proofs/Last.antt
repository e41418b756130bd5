-- The greatest number below n that passes a test.
use Rattle.std.proofs.Common.{◌≡◌, ℕ, zero, suc, ◌+◌, ◌<◌, ◌≤◌, Bool, true, false, Option, Some, None, refl, sym, ap, ◌∙◌, arith, add-one, inl, inr}
use Rattle.std.specs.Prelude.{if◌then◌else◌}
use Rattle.std.proofs.lemmas.Bool.{cases_eq, cond-true, cond-false, cases_Bool, false≢true}
use Rattle.heap_log.specs.Standing.{last_below, count_below}

pub last_below-more : (p : ℕ → Bool) (n : ℕ) → last_below p (n + 1) ≡ (if p n then Some n else last_below p n)
last_below-more p n = rw add-one refl

-- what the answer says
pub record IsLast (p : ℕ → Bool) (n m : ℕ) : Type 0 where
  pub below : m < n
  pub passes : p m ≡ true
  pub after : (k : ℕ) → m < k → k < n → p k ≡ false

pub last_below_agree : (p q : ℕ → Bool) (n : ℕ) → ((k : ℕ) → k < n → p k ≡ q k) → last_below p n ≡ last_below q n
last_below_agree p q zero h = refl
last_below_agree p q (suc n) h =
    let here : p n ≡ q n = h n (omega arith) in
    let rest : last_below p n ≡ last_below q n = last_below_agree p q n (λ k l. h k (omega arith)) in
    rw (here, rest) refl

-- nothing passes from m on
pub last_below_skip : (p : ℕ → Bool) (m n : ℕ) → m ≤ n → ((k : ℕ) → m ≤ k → k < n → p k ≡ false) → last_below p n ≡ last_below p m
last_below_skip p m zero l h = let e : m ≡ 0 = omega arith in rw e refl
last_below_skip p m (suc n) l h =
    elim (cases_eq m (suc n)) [
      | inl e ↦ rw e refl
      | inr ne ↦
          let here : p n ≡ false = h n (omega arith) (omega arith) in
          let rest : last_below p n ≡ last_below p m = last_below_skip p m n (omega arith) (λ k a b. h k a (omega arith)) in
          rw here rest
    ]

pub last_below_none_is : (p : ℕ → Bool) (n : ℕ) → ((k : ℕ) → k < n → p k ≡ false) → last_below p n ≡ None
last_below_none_is p n h = last_below_skip p 0 n (omega arith) (λ k a b. h k b)

pub last_below_is : (p : ℕ → Bool) (n m : ℕ) → IsLast p n m → last_below p n ≡ Some m
last_below_is p n m h =
    let l : suc m ≤ n = omega (arith, h.below) in
    let e : last_below p n ≡ last_below p (suc m) = last_below_skip p (suc m) n l (λ k a b. h.after k (omega arith) b) in
    e ∙ cond-true (p m) (Some m) (last_below p m) h.passes

pub last_below_some : (p : ℕ → Bool) (n m : ℕ) → last_below p n ≡ Some m → IsLast p n m
last_below_some p zero m e = absurd (cc)
last_below_some p (suc n) m e =
    elim (cases_Bool (p n)) [
      | inl hit ↦
          let same : n ≡ m = let f : Some n ≡ Some m = sym (cond-true (p n) (Some n) (last_below p n) hit) ∙ e in (cc) in
          record { below = omega arith; passes = rw (← same) hit; after = λ k a b. absurd (omega arith) }
      | inr miss ↦
          let before : IsLast p n m = last_below_some p n m (sym (cond-false (p n) (Some n) (last_below p n) miss) ∙ e) in
          record {
            below = omega (arith, before.below);
            passes = before.passes;
            after = λ k a b. elim (cases_eq k n) [
              | inl same ↦ rw same miss
              | inr other ↦ before.after k a (omega arith)
            ];
          }
    ]

pub last_below_none : (p : ℕ → Bool) (n : ℕ) → last_below p n ≡ None → (k : ℕ) → k < n → p k ≡ false
last_below_none p zero e k l = absurd (omega arith)
last_below_none p (suc n) e k l =
    elim (cases_Bool (p n)) [
      | inl hit ↦ let f : Some n ≡ None = sym (cond-true (p n) (Some n) (last_below p n) hit) ∙ e in absurd (cc)
      | inr miss ↦ elim (cases_eq k n) [
        | inl same ↦ rw same miss
        | inr other ↦ last_below_none p n (sym (cond-false (p n) (Some n) (last_below p n) miss) ∙ e) k (omega arith)
      ]
    ]

-- where the last one no longer passes, and nothing else changed, the answer is the one before it
pub last_below_taken : (p q : ℕ → Bool) (n m : ℕ) → IsLast p n m → q m ≡ false → ((k : ℕ) → k < n → (k ≡ m → ⊥) → q k ≡ p k) → last_below q n ≡ last_below p m
last_below_taken p q n m h miss same =
    let at : (k : ℕ) → m ≤ k → k < n → q k ≡ false = λ k a b. elim (cases_eq k m) [
      | inl e ↦ rw e miss
      | inr ne ↦ same k b ne ∙ h.after k (omega arith) b
    ] in
    let l : m ≤ n = omega (arith, h.below) in
    last_below_skip q m n l at ∙ last_below_agree q p m (λ k b. same k (omega arith) (omega arith))

-- where one number no longer passes, and it was not the last, the answer stays
pub last_below_without : (p q : ℕ → Bool) (n m : ℕ) → (last_below p n ≡ Some m → ⊥) → q m ≡ false → ((k : ℕ) → k < n → (k ≡ m → ⊥) → q k ≡ p k)
    → last_below q n ≡ last_below p n
last_below_without p q n m other miss same = at (last_below p n) refl
  where
    at : (o : Option ℕ) → last_below p n ≡ o → last_below q n ≡ last_below p n
    at None e = last_below_none_is q n (λ k b. elim (cases_eq k m) [
      | inl is ↦ rw is miss
      | inr ne ↦ same k b ne ∙ last_below_none p n e k b
    ]) ∙ sym e
    at (Some l) e =
        let last : IsLast p n l = last_below_some p n l e in
        let apart : l ≡ m → ⊥ = λ is. other (e ∙ ap Some is) in
        last_below_is q n l (record {
          below = last.below;
          passes = same l last.below apart ∙ last.passes;
          after = λ k a b. elim (cases_eq k m) [
            | inl is ↦ rw is miss
            | inr ne ↦ same k b ne ∙ last.after k a b
          ];
        }) ∙ sym e

pub count_below-more : (p : ℕ → Bool) (n : ℕ) → count_below p (n + 1) ≡ (if p n then count_below p n + 1 else count_below p n)
count_below-more p n = rw (add-one n) refl

pub count_below_agree : (p q : ℕ → Bool) (n : ℕ) → ((k : ℕ) → k < n → p k ≡ q k) → count_below p n ≡ count_below q n
count_below_agree p q zero h = refl
count_below_agree p q (suc n) h =
    let here : p n ≡ q n = h n (omega arith) in
    let rest : count_below p n ≡ count_below q n = count_below_agree p q n (λ k l. h k (omega arith)) in
    rw (here, rest) refl

-- where one number no longer passes, there is one less
pub count_below_taken : (p q : ℕ → Bool) (n m : ℕ) → m < n → p m ≡ true → q m ≡ false → ((k : ℕ) → k < n → (k ≡ m → ⊥) → q k ≡ p k)
    → count_below q n + 1 ≡ count_below p n
count_below_taken p q zero m l hit miss same = absurd (omega arith)
count_below_taken p q (suc n) m l hit miss same =
    elim (cases_eq n m) [
      | inl is ↦
          let p_here : p n ≡ true = rw is hit in
          let q_here : q n ≡ false = rw is miss in
          let rest : count_below q n ≡ count_below p n = count_below_agree q p n (λ k b. same k (omega arith) (omega arith)) in
          rw (p_here, q_here, rest) refl
      | inr ne ↦
          let here : q n ≡ p n = same n (omega arith) ne in
          let rest : count_below q n + 1 ≡ count_below p n = count_below_taken p q n m (omega arith) hit miss (λ k b. same k (omega arith)) in
          elim (cases_Bool (p n)) [
            | inl yes' ↦ rw (here, yes') (ap (λ c. c + 1) rest)
            | inr no' ↦ rw (here, no') rest
          ]
    ]

-- where 0 doesn't pass, there are fewer than n
pub count_below-le : (p : ℕ → Bool) (n : ℕ) → p 0 ≡ false → count_below p (n + 1) ≤ n
count_below-le p zero none = rw (count_below-more p 0, none) (omega arith)
count_below-le p (suc n) none =
    let rest : count_below p (n + 1) ≤ n = count_below-le p n none in
    let next : suc n ≡ n + 1 = omega arith in
    elim (cases_Bool (p (n + 1))) [
      | inl hit ↦ rw (next, count_below-more p (n + 1), hit) (omega (arith, rest))
      | inr miss ↦ rw (next, count_below-more p (n + 1), miss) (omega (arith, rest))
    ]

-- where one passes, there is one
pub count_below-some : (p : ℕ → Bool) (n m : ℕ) → m < n → p m ≡ true → 0 < count_below p n
count_below-some p zero m l e = absurd (omega arith)
count_below-some p (suc n) m l e =
    elim (cases_Bool (p n)) [
      | inl hit ↦ rw hit (omega arith)
      | inr miss ↦
          let apart : m ≡ n → ⊥ = λ is. false≢true (sym miss ∙ ap p (sym is) ∙ e) in
          rw miss (count_below-some p n m (omega arith) e)
    ]
