-- The columns of a list, where the first one is taken out; and lists with the same columns.
use Rattle.std.proofs.Common.{◌≡◌, ℕ, zero, suc, ◌-◌, ◌<◌, ◌≤◌, ◌⊎◌, List, [], ◌∷◌, refl, sym, ap, ◌∙◌, inl, inr, arith}
use Rattle.index_load.specs.Columns.{every, all_but, column, other_columns}
use Rattle.index_load.proofs.Columns.{same_parts}

-- where one of each turn is left out, one that comes before it stands as near, and one behind it one nearer
abbrev IsNearer : ℕ → ℕ → ℕ → Type 0
IsNearer left wanted step = ((wanted < left) × (step ≡ wanted)) ⊎ ((left < wanted) × (suc step ≡ wanted))

spread :
    {X : Type 0} (n left wanted step : ℕ) (xs : List X) → left ≤ suc n → wanted ≤ suc n → IsNearer left wanted step
    → every n step (all_but (suc n) left xs) ≡ every (suc n) wanted xs
spread n left wanted step [] few low nearer = refl
spread n zero zero step (x ∷ xs) few low nearer = elim nearer [
  | inl before ↦ absurd (omega (arith, before.0))
  | inr behind ↦ absurd (omega (arith, behind.0))
]
spread n zero (suc wanted) step (x ∷ xs) few low nearer = elim nearer [
  | inl before ↦ absurd (omega (arith, before.0))
  | inr behind ↦ spread n (suc n) wanted step xs (omega arith) (omega (arith, low)) (inl (omega (arith, low), omega (arith, behind.1)))
]
spread n (suc left) zero zero (x ∷ xs) few low nearer =
    ap (λ l. x ∷ l) (spread n left (suc n) n xs (omega (arith, few)) (omega arith) (inr (omega (arith, few), refl)))
spread n (suc left) zero (suc step) (x ∷ xs) few low nearer = elim nearer [
  | inl before ↦ absurd (omega (arith, before.1))
  | inr behind ↦ absurd (omega (arith, behind.0))
]
spread n (suc left) (suc wanted) zero (x ∷ xs) few low nearer = elim nearer [
  | inl before ↦ absurd (omega (arith, before.1))
  | inr behind ↦ absurd (omega (arith, behind.0, behind.1))
]
spread n (suc left) (suc wanted) (suc step) (x ∷ xs) few low nearer =
    spread n left wanted step xs (omega (arith, few)) (omega (arith, low)) (elim nearer [
      | inl before ↦ inl (omega (arith, before.0), omega (arith, before.1))
      | inr behind ↦ inr (omega (arith, behind.0), omega (arith, behind.1))
    ])

-- without the first column each other one has the number before
pub column_later : {X : Type 0} (j m : ℕ) (xs : List X) → j < m → column j m (other_columns 0 (suc m) xs) ≡ column (suc j) (suc m) xs
column_later j m xs less =
    let one : suc m - 1 ≡ suc (m - 1) = omega (arith, less) in
    ap (λ i. every (m - 1) j (all_but i 0 xs)) one
    ∙ spread (m - 1) 0 (suc j) j xs (omega arith) (omega (arith, less)) (inr (omega arith, refl)) ∙ ap (λ i. every i (suc j) xs) (sym one)

-- of one column nothing is left
none_but : {X : Type 0} (xs : List X) → all_but 0 0 xs ≡ []
none_but [] = refl
none_but (x ∷ xs) = none_but xs

-- lists with the same columns are the same
pub by_columns : {X : Type 0} (m : ℕ) (xs ys : List X) → ((j : ℕ) → j < suc m → column j (suc m) xs ≡ column j (suc m) ys) → xs ≡ ys
by_columns zero xs ys same =
    let one : suc zero - 1 ≡ 0 = omega arith in
    same_parts (suc zero - 1) 0 xs ys (same 0 (omega arith))
    (ap (λ i. all_but i 0 xs) one ∙ none_but xs ∙ sym (none_but ys) ∙ ap (λ i. all_but i 0 ys) (sym one))
by_columns (suc m) xs ys same =
    same_parts (suc (suc m) - 1) 0 xs ys (same 0 (omega arith))
    (by_columns m (other_columns 0 (suc (suc m)) xs) (other_columns 0 (suc (suc m)) ys)
    (λ j less. column_later j (suc m) xs less ∙ same (suc j) (omega (arith, less)) ∙ sym (column_later j (suc m) ys less)))
