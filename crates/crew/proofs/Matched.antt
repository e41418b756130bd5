-- Which numbers receipts in order match, and that their order doesn't matter.
use Rattle.std.proofs.Common.{◌≡◌, ℕ, zero, suc, ◌+◌, ◌-◌, ◌<◌, ◌≤◌, true, false, List, length, get_or, refl, sym, ap, ◌∙◌, arith, ⊎_elim, inl, inr}
use Rattle.std.specs.Prelude.{◌==◌, cond}
use Rattle.std.specs.List.Sorted.{IsPermutation, IsNonDecreasingBy}
use Rattle.std.proofs.lemmas.Bool.{eq-eqb, ne_eqb, eqb-true, eqb-false, cases_Bool, cases_lt}
use Rattle.std.proofs.lemmas.List.{get_or_default}
use Rattle.std.proofs.lemmas.List.Folds.{list_any_none, list_any_at}
use Rattle.std.proofs.lemmas.List.Sorted.{list_any-IsPermutation}
use Rattle.heap_log.specs.declared.record.LogRec.{LogRec}
use Rattle.crew.specs.Receipts.{is_matched, missing_of}

-- the receipts before the place are for earlier records, and those from there on for later ones
pub unmatched :
    (receipts : List (List LogRec)) (place number : ℕ) → IsNonDecreasingBy (length {A = LogRec}) receipts
    → ((k : ℕ) (d : List LogRec) → k < place → length (get_or receipts k d) < number)
    → ((d : List LogRec) → place < length receipts → number < length (get_or receipts place d)) → is_matched number receipts ≡ false
unmatched receipts place number order below above =
    list_any_none (λ receipt. length receipt == number) receipts
    (λ k d within. ne_eqb (length (get_or receipts k d)) number (λ same.
    ⊎_elim
    (λ (before : k < place). omega (arith, below k d before, same))
    (λ (behind : place ≤ k). omega (arith, above d (omega (arith, behind, within)), order place k d behind within, same))
    (cases_lt k place)))

-- one of them is for the record
pub matched :
    (receipts : List (List LogRec)) (place number : ℕ) (d : List LogRec) → place < length receipts → length (get_or receipts place d) ≡ number
    → is_matched number receipts ≡ true
matched receipts place number d within same =
    list_any_at (λ receipt. length receipt == number) receipts place d within (eq-eqb (length (get_or receipts place d)) number same)

-- it is for the one that stands at the place, or for none
pub matched_here :
    (receipts : List (List LogRec)) (place number : ℕ) (d : List LogRec) → IsNonDecreasingBy (length {A = LogRec}) receipts
    → ((k : ℕ) (e : List LogRec) → k < place → length (get_or receipts k e) < number)
    → ((e : List LogRec) → place < length receipts → number ≤ length (get_or receipts place e)) → place < length receipts
    → (length (get_or receipts place d) == number) ≡ is_matched number receipts
matched_here receipts place number d order below first within =
    let own : ℕ = length (get_or receipts place d) in
    let above : (own == number) ≡ false → (e : List LogRec) → place < length receipts → number < length (get_or receipts place e) =
    λ other e _. let same : get_or receipts place e ≡ get_or receipts place d = get_or_default receipts place e d within in
    omega (arith, first e within, ap (length {A = LogRec}) same, (λ (is : own ≡ number). eqb-false own number other is)) in
    elim (cases_Bool (own == number)) [
      | inl is ↦ is ∙ sym (matched receipts place number d within (eqb-true own number is))
      | inr other ↦ other ∙ sym (unmatched receipts place number order below (above other))
    ]

-- one more record
pub missing_more :
    (receipts : List (List LogRec)) (opened before : ℕ) → opened ≤ before
    → missing_of receipts opened (before + 1 - opened) ≡ missing_of receipts opened (before - opened) + cond (is_matched (before + 1) receipts) 0 1
missing_more receipts opened before begun =
    let n : ℕ = before - opened in
    let longer : before + 1 - opened ≡ suc n = omega (arith, begun) in
    let number : opened + n + 1 ≡ before + 1 = omega (arith, begun) in
    ap (missing_of receipts opened) longer ∙ ap (λ m. missing_of receipts opened n + cond (is_matched m receipts) 0 1) number

-- receipts in another order miss as many
pub missing_alike :
    (receipts others : List (List LogRec)) (opened n : ℕ) → IsPermutation receipts others → missing_of others opened n ≡ missing_of receipts opened n
missing_alike receipts others opened zero same = refl
missing_alike receipts others opened (suc n) same =
    let number : ℕ = opened + n + 1 in
    let alike : is_matched number receipts ≡ is_matched number others = list_any-IsPermutation (λ receipt. length receipt == number) receipts others same in
    rw (missing_alike receipts others opened n same, sym alike) refl
