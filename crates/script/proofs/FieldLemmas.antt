-- What std's parsing says of texts of digits.
use Rattle.std.proofs.Common.{◌≡◌, ℕ, ◌+◌, ◌<◌, ◌≤◌, nat_lt, get_or, ◌≢◌, Bool, true, false, List, [], ◌∷◌, length, arith, rules, refl, sym, ◌∙◌, ap, codes}
use Rattle.std.proofs.Common.{MatchOption, Option, option_map, Some, None, Result, Ok, Err}
use Rattle.std.proofs.Math.Bool.{and-false}
use Rattle.std.proofs.lemmas.Bool.Decides.{nat_tests}
use Rattle.std.proofs.lemmas.Str.Parse.{IsNumeralModel, numerals_by_value}
use Rattle.std.specs.Char.{is_ascii_digit}
use Rattle.std.specs.List.{list_all}
use Rattle.std.specs.Result.{OkIff, result_ok}
use Rattle.std.specs.Str.Parse.{digits_value}
use Rattle.keybytes.specs.declared.cell.Cell.{Cell}
use Rattle.keybytes.specs.declared.cell.Cell.TheVariants.{Null, Int, Text, Flag}
use Rattle.script.specs.Fields.{is_digits, number_below, int_of, SpellsCell}

pub digits : IsNumeralModel (λ ds. list_all is_ascii_digit ds ≡ true) (digits_value 10)
digits = numerals_by_value _ (search rules)

-- a text that is no digits spells no number
pub number_below-none : (limit : ℕ) (text : List ℕ) → is_digits text ≡ false → number_below limit text ≡ None
number_below-none limit text none = simp none

-- the parts of the test
pub digits_parts : (text : List ℕ) → is_digits text ≡ true → (0 < length text) × (list_all is_ascii_digit text ≡ true)
digits_parts text are = grind arith

-- the test of an order
pub below_true : (a b : ℕ) → a < b → nat_lt a b ≡ true
below_true a b below = grind (arith, nat_tests)

pub below_false : (a b : ℕ) → (a < b → ⊥) → nat_lt a b ≡ false
below_false a b above = grind (arith, nat_tests)

-- the number that a text of digits spells
pub number_below-some : (limit : ℕ) (text : List ℕ) → is_digits text ≡ true → digits_value 10 text < limit
    → number_below limit text ≡ Some (digits_value 10 text)
number_below-some limit text are below = simp (are, below_true _ _ below)

pub number_below-above : (limit : ℕ) (text : List ℕ) → (digits_value 10 text < limit → ⊥) → number_below limit text ≡ None
number_below-above limit text above = simp (below_false _ _ above, and-false)

-- a test is true or false
pub bool_cases : (b : Bool) {Q : Type 0} → (b ≡ true → Q) → (b ≡ false → Q) → Q
bool_cases true at_true at_false = at_true refl
bool_cases false at_true at_false = at_false refl

-- the text is digits that spell a number below the limit
abbrev pub SpellsBelow : ℕ → List ℕ → Type 0
SpellsBelow limit text = (list_all is_ascii_digit text ≡ true) × (0 < length text) × (digits_value 10 text < limit)

pub number_below-not : (limit : ℕ) (text : List ℕ) → (SpellsBelow limit text → ⊥) → number_below limit text ≡ None
number_below-not limit text not = bool_cases (is_digits text)
    (λ are. number_below-above limit text (λ below. not ((digits_parts text are).1, (digits_parts text are).0, below)))
    (λ none. number_below-none limit text none)

-- what a parse gives, where it succeeds at just such a text
pub parsed : {T E : Type 0} (f : ℕ → T) (limit : ℕ) (text : List ℕ) (r : Result T E) → OkIff r (SpellsBelow limit text) (f (digits_value 10 text))
    → result_ok r ≡ option_map f (number_below limit text)
parsed f limit text (Ok x) h =
    let are : is_digits text ≡ true = grind (arith, h.0.0, h.0.1, below_true 0 (length text) h.0.1) in
    ap Some h.1 ∙ sym (ap (option_map f) (number_below-some limit text are h.0.2))
parsed f limit text (Err e) h = sym (ap (option_map f) (number_below-not limit text h))

pub same_number : (o : Option ℕ) → option_map (λ n. n) o ≡ o
same_number None = refl
same_number (Some n) = refl

-- a text that does not begin with a plus sign
pub not_plus : (text : List ℕ) → ((rest : List ℕ) → text ≡ 43 ∷ rest → ⊥) → get_or text 0 0 ≢ 43
not_plus [] other e = absurd (omega arith)
not_plus (c ∷ cs) other e = other cs (ap (λ x. x ∷ cs) e)

-- a number below a limit, stated in two ways
pub at_most : (most : ℕ) {T E : Type 0} (text : List ℕ) (value : T) (r : Result T E)
    → OkIff r ((list_all is_ascii_digit text ≡ true) × (0 < length text) × (digits_value 10 text ≤ most)) value
    → OkIff r (SpellsBelow (most + 1) text) value
at_most most text value (Ok x) h = ((h.0.0, h.0.1, omega (arith, h.0.2)), h.1)
at_most most text value (Err e) h = λ below. h (below.0, below.1, omega (arith, below.2))

-- a text that spells no cell
pub spells_none : (text : List ℕ) → (text ≡ codes "~" → ⊥) → int_of text ≡ None → ((bytes : List ℕ) → text ≡ 61 ∷ bytes → ⊥)
    → (text ≡ codes "true" → ⊥) → (text ≡ codes "false" → ⊥) → (cell : Cell) → SpellsCell text cell → ⊥
spells_none text null int any_text are_true are_false Null spells = null spells
spells_none text null int any_text are_true are_false (Int n) spells = let bad : None ≡ Some n = sym int ∙ spells in cc
spells_none text null int any_text are_true are_false (Text bytes) spells = any_text bytes spells
spells_none text null int any_text are_true are_false (Flag true) spells = are_true spells
spells_none text null int any_text are_true are_false (Flag false) spells = are_false spells

-- which case an option is
pub at_none : {A : Type 0} {P : Type 0} (Q : A → Type 0) (o : Option A) → MatchOption o P Q → ((x : A) → o ≡ Some x → ⊥) → P
at_none Q None holds other = holds
at_none Q (Some x) holds other = absurd (other x refl)
