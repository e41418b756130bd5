-- A RID's text has one page and one slot.
use Rattle.std.proofs.Common.{◌≡◌, ◌≢◌, ℕ, suc, ◌<◌, ◌^◌, get_or, true, false, List, [], ◌∷◌, ◌++◌, length, Some, None, arith, refl, sym, ap, ◌∙◌, ◌⊎◌, inl}
use Rattle.std.proofs.Common.{inr}
use Rattle.std.specs.Char.{is_ascii_digit}
use Rattle.std.specs.List.{list_all}
use Rattle.std.proofs.lemmas.Bool.{and_parts}
use Rattle.keybytes.specs.declared.rid.Rid.{Rid}
use Rattle.script.specs.Fields.{is_digits, number_below, number_of, slot_of, SpellsRid}
use Rattle.script.proofs.FieldLemmas.{bool_cases, digits_parts, number_below-none}

-- a number's text is digits
pub digits_of : (limit : ℕ) (text : List ℕ) (n : ℕ) → number_below limit text ≡ Some n → list_all is_ascii_digit text ≡ true
digits_of limit text n is = bool_cases (is_digits text)
    (λ are. (digits_parts text are).1)
    (λ none. absurd (let bad : None ≡ Some n = sym (number_below-none limit text none) ∙ is in cc))

-- digits before the first point, and what is behind it, are the only such parts
same_parts : (a b page slot : List ℕ) → a ++ 46 ∷ b ≡ page ++ 46 ∷ slot → ((i : ℕ) → i < length a → get_or a i 0 ≢ 46)
    → list_all is_ascii_digit page ≡ true → (a ≡ page) × (b ≡ slot)
same_parts [] b [] slot e plain digits = (refl, let both : 46 ∷ b ≡ 46 ∷ slot = e in cc)
same_parts [] b (p ∷ ps) slot e plain digits =
    let first : 46 ≡ p = (let both : 46 ∷ b ≡ p ∷ (ps ++ 46 ∷ slot) = e in cc) in
    let digit : is_ascii_digit 46 ≡ true = ap is_ascii_digit first ∙ (and_parts _ _ digits).0 in
    absurd (let bad : false ≡ true = digit in cc)
same_parts (a ∷ more) b [] slot e plain digits =
    absurd (plain 0 (omega arith) (let both : a ∷ (more ++ 46 ∷ b) ≡ 46 ∷ slot = e in cc))
same_parts (a ∷ more) b (p ∷ ps) slot e plain digits =
    let first : a ≡ p = (let both : a ∷ (more ++ 46 ∷ b) ≡ p ∷ (ps ++ 46 ∷ slot) = e in cc) in
    let rest : more ++ 46 ∷ b ≡ ps ++ 46 ∷ slot = (let both : a ∷ (more ++ 46 ∷ b) ≡ p ∷ (ps ++ 46 ∷ slot) = e in cc) in
    let same = same_parts more b ps slot rest (λ i inside. plain (suc i) (omega arith)) (and_parts _ _ digits).1 in
    (rw (first, same.0) refl, same.1)

at_point : (page slot : List ℕ) → get_or (page ++ 46 ∷ slot) (length page) 0 ≡ 46
at_point [] slot = refl
at_point (p ∷ ps) slot = at_point ps slot

point_inside : (page slot : List ℕ) → length page < length (page ++ 46 ∷ slot)
point_inside [] slot = omega arith
point_inside (p ∷ ps) slot = let inside = point_inside ps slot in omega (arith, inside)

-- a text with no point spells no RID
pub no_point : (text : List ℕ) → ((i : ℕ) → i < length text → get_or text i 0 ≢ 46) → (rid : Rid) → SpellsRid text rid → ⊥
no_point text plain rid spelled =
    let none : (i : ℕ) → i < length (spelled.0 ++ 46 ∷ spelled.1) → get_or (spelled.0 ++ 46 ∷ spelled.1) i 0 ≢ 46 = rw spelled.2 at plain in
    none (length spelled.0) (point_inside spelled.0 spelled.1) (at_point spelled.0 spelled.1)

-- a text that is no page before its first point, or no slot behind it, spells no RID
pub no_rid : (text a b : List ℕ) → text ≡ a ++ 46 ∷ b → ((i : ℕ) → i < length a → get_or a i 0 ≢ 46)
    → (number_of a ≡ None) ⊎ (slot_of b ≡ None) → (rid : Rid) → SpellsRid text rid → ⊥
no_rid text a b parts plain (inl none) rid spelled =
    let same = same_parts a b spelled.0 spelled.1 (sym parts ∙ spelled.2) plain (digits_of (2 ^ 32) spelled.0 rid.page spelled.3) in
    let bad : None ≡ Some rid.page = sym none ∙ ap number_of same.0 ∙ spelled.3 in cc
no_rid text a b parts plain (inr none) rid spelled =
    let same = same_parts a b spelled.0 spelled.1 (sym parts ∙ spelled.2) plain (digits_of (2 ^ 32) spelled.0 rid.page spelled.3) in
    let bad : None ≡ Some rid.slot = sym none ∙ ap slot_of same.1 ∙ spelled.4 in cc
