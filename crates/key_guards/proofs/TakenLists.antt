-- How often a list of taken keys has a key.
use Rattle.std.proofs.Common.{◌≡◌, ◌≢◌, ℕ, suc, ◌+◌, ◌-◌, ◌<◌, ◌≤◌, Bool, true, false, List, [], ◌∷◌, ◌++◌, length, Some, refl, sym, ap, ◌∙◌, arith, inl, inr, length-append}
use Rattle.std.specs.Prelude.{if◌then◌else◌, ◌||◌, nat_lt}
use Rattle.std.specs.List.{slice_get}
use Rattle.std.proofs.lemmas.Option.{same_Some}
use Rattle.heap_log.proofs.Records.{slice_get-append_seam}
use Rattle.std.specs.Str.{bytes_eq}
use Rattle.std.proofs.lemmas.Bool.{cases_Bool, false≢true, lt-ltb, eq-eqb, ne_eqb}
use Rattle.std.proofs.lemmas.Slice.Eq.{bytes_eq-Decides}
use Rattle.key_guards.specs.declared.taken.Taken.{Taken}
use Rattle.key_guards.specs.KeyCounts.{count_of, CountsOnly}
use Rattle.key_guards.specs.TxnGuards.{has_taken, times_taken, AreCounts, without_top}

abbrev step : Bool → ℕ → ℕ
step b n = if b then suc n else n

times_cons : (key : List ℕ) (t : Taken) (ts : List Taken) → times_taken key (t ∷ ts) ≡ step (bytes_eq t.key key) (times_taken key ts)
times_cons key t ts = elim (cases_Bool (bytes_eq t.key key)) [
  | inl is ↦ rw is refl
  | inr other ↦ rw other refl
]

-- it has it where it has it at least once
pub has_by_times : (key : List ℕ) (taken : List Taken) → nat_lt 0 (times_taken key taken) ≡ has_taken key taken
has_by_times key [] = refl
has_by_times key (t ∷ ts) = ap (nat_lt 0) (times_cons key t ts) ∙ at (bytes_eq t.key key) (times_taken key ts) (has_taken key ts) (has_by_times key ts)
  where
    at : (b : Bool) (n : ℕ) (has : Bool) → nat_lt 0 n ≡ has → nat_lt 0 (step b n) ≡ (b || has)
    at true n has e = lt-ltb 0 (suc n) (omega arith)
    at false n has e = e

pub times_within : (key : List ℕ) (taken : List Taken) → times_taken key taken ≤ length taken
times_within key [] = omega arith
times_within key (t ∷ ts) =
    let rest : step (bytes_eq t.key key) (times_taken key ts) ≤ suc (length ts) = at (bytes_eq t.key key) (times_taken key ts) (length ts) (times_within key ts) in
    omega (arith, rest, times_cons key t ts)
  where
    at : (b : Bool) (n m : ℕ) → n ≤ m → step b n ≤ suc m
    at true n m l = omega (arith, l)
    at false n m l = omega (arith, l)

times_append : (key : List ℕ) (taken : List Taken) (t : Taken) → times_taken key (taken ++ t ∷ []) ≡ step (bytes_eq t.key key) (times_taken key taken)
times_append key [] t = times_cons key t []
times_append key (u ∷ ts) t =
    times_cons key u (ts ++ t ∷ []) ∙ ap (step (bytes_eq u.key key)) (times_append key ts t)
    ∙ turned (bytes_eq u.key key) (bytes_eq t.key key) (times_taken key ts) ∙ ap (step (bytes_eq t.key key)) (sym (times_cons key u ts))
  where
    turned : (a b : Bool) (n : ℕ) → step a (step b n) ≡ step b (step a n)
    turned true true n = refl
    turned true false n = refl
    turned false true n = refl
    turned false false n = refl

itself : (k : List ℕ) → bytes_eq k k ≡ true
itself k = (bytes_eq-Decides k k).1 refl

apart_keys : (a b : List ℕ) → b ≢ a → bytes_eq a b ≡ false
apart_keys a b ne = elim (cases_Bool (bytes_eq a b)) [
  | inr other ↦ other
  | inl same ↦ absurd (ne (sym ((bytes_eq-Decides a b).0 same)))
]

one_more : (n : ℕ) → n + 1 ≡ suc n
one_more n = omega arith

-- one more is counted
pub counts_pushed : (taken : List Taken) (t : Taken) (old new : List (List ℕ × ℕ)) → AreCounts taken old
    → CountsOnly old new t.key (count_of old t.key + 1) → AreCounts (taken ++ t ∷ []) new
counts_pushed taken t old new are only key = elim (cases_Bool (bytes_eq t.key key)) [
  | inl is ↦
      let same : t.key ≡ key = (bytes_eq-Decides t.key key).0 is in
      ap (count_of new) (sym same) ∙ only.this_key ∙ ap (λ n. n + 1) (ap (count_of old) same ∙ are key)
      ∙ one_more (times_taken key taken) ∙ sym (times_append key taken t ∙ ap (λ b. step b (times_taken key taken)) is)
  | inr other ↦
      only.other_keys key (λ same. false≢true (sym other ∙ ap (bytes_eq t.key) same ∙ itself t.key)) ∙ are key
      ∙ sym (times_append key taken t ∙ ap (λ b. step b (times_taken key taken)) other)
]

-- one less is
pub counts_popped : (taken : List Taken) (t : Taken) (old new : List (List ℕ × ℕ)) → AreCounts (taken ++ t ∷ []) old
    → CountsOnly old new t.key (count_of old t.key - 1) → AreCounts taken new
counts_popped taken t old new are only key = elim (cases_Bool (bytes_eq t.key key)) [
  | inl is ↦
      let same : t.key ≡ key = (bytes_eq-Decides t.key key).0 is in
      let was : count_of old t.key ≡ suc (times_taken key taken) =
      ap (count_of old) same ∙ are key ∙ times_append key taken t ∙ ap (λ b. step b (times_taken key taken)) is in
      ap (count_of new) (sym same) ∙ only.this_key ∙ ap (λ n. n - 1) was ∙ (let less : suc (times_taken key taken) - 1 ≡ times_taken key taken = omega arith in less)
  | inr other ↦
      only.other_keys key (λ same. false≢true (sym other ∙ ap (bytes_eq t.key) same ∙ itself t.key)) ∙ are key
      ∙ times_append key taken t ∙ ap (λ b. step b (times_taken key taken)) other
]

-- the last one of a list that ends with it
pub counted_last : (taken : List Taken) (t : Taken) (counts : List (List ℕ × ℕ)) → AreCounts (taken ++ t ∷ []) counts → 0 < count_of counts t.key
counted_last taken t counts are =
    let was : count_of counts t.key ≡ suc (times_taken t.key taken) =
    are t.key ∙ times_append t.key taken t ∙ ap (λ b. step b (times_taken t.key taken)) (itself t.key) in
    omega (arith, was)

pub top_goes : (n : ℕ) (taken : List Taken) (t : Taken) → t.number ≡ n → without_top n (taken ++ t ∷ []) ≡ taken
top_goes n [] t is = rw (eq-eqb t.number n is) refl
top_goes n (u ∷ []) t is = ap (λ ts. u ∷ ts) (top_goes n [] t is)
top_goes n (u ∷ v ∷ ts) t is = ap (λ xs. u ∷ xs) (top_goes n (v ∷ ts) t is)

pub top_stays : (n : ℕ) (taken : List Taken) (t : Taken) → Some t ≡ slice_get taken (length taken - 1) → t.number ≢ n → taken ≡ without_top n taken
top_stays n [] t last ne = refl
top_stays n (u ∷ []) t last ne = rw (ne_eqb u.number n (λ is. ne (ap (λ (x : Taken). x.number) (same_Some t u last) ∙ is))) refl
top_stays n (u ∷ v ∷ ts) t last ne =
    let less : length (u ∷ v ∷ ts) - 1 ≡ suc (length (v ∷ ts) - 1) = omega arith in
    ap (λ xs. u ∷ xs) (top_stays n (v ∷ ts) t (last ∙ ap (slice_get (u ∷ v ∷ ts)) less) ne)

same_end : (taken rest : List Taken) (t top : Taken) → taken ≡ rest ++ t ∷ [] → Some top ≡ slice_get taken (length taken - 1) → top ≡ t
same_end taken rest t top is last =
    same_Some top t (last ∙ ap (slice_get taken) (ap (λ n. n - 1) (ap length is ∙ length-append rest (t ∷ [])) ∙ (let less : length rest + 1 - 1 ≡ length rest = omega arith in less))
    ∙ ap (λ (xs : List Taken). slice_get xs (length rest)) is ∙ slice_get-append_seam rest t)

-- what was taken off is the top
pub top_goes_by : (n : ℕ) (taken rest : List Taken) (t top : Taken) → taken ≡ rest ++ t ∷ [] → Some top ≡ slice_get taken (length taken - 1) → top.number ≡ n
    → rest ≡ without_top n taken
top_goes_by n taken rest t top is last number =
    sym (ap (without_top n) is ∙ top_goes n rest t (ap (λ (x : Taken). x.number) (sym (same_end taken rest t top is last)) ∙ number))
