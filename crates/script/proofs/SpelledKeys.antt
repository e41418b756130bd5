-- The text of a key has one way to be read: digits end at the first sign, and columns at the first `?`, which is 63.
use Rattle.std.proofs.Common.{◌≡◌, ◌≢◌, ℕ, ◌<◌, ◌^◌, Bool, true, false, get_or, List, [], ◌∷◌, ◌++◌, length, Option, Some, None, Bor, MatchOption, codes}
use Rattle.std.proofs.Common.{arith, ap, length-append, lit<, refl, sym, subst, ◌∙◌}
use Rattle.std.proofs.lemmas.Bool.{and_parts}
use Rattle.std.proofs.Math.Seq.{get_or-append_seam}
use Rattle.std.proofs.lemmas.List.{append-nil}
use Rattle.std.proofs.lemmas.List.Elements.{All-append, All-cons, All-nil}
use Rattle.std.proofs.lemmas.List.Folds.{list_all_at}
use Rattle.std.proofs.lemmas.List.Splits.{join_with_byte-slice_split}
use Rattle.std.proofs.lemmas.Str.Pattern.{IsSplitOnceResult, split_after, split_parts}
use Rattle.std.specs.Char.{is_ascii_digit}
use Rattle.std.specs.List.{All, AllZip, join_with_byte, list_all}
use Rattle.keybytes.specs.declared.cell.Cell.{Cell}
use Rattle.keybytes.specs.declared.key_col.KeyCol.{KeyCol}
use Rattle.keybytes.specs.declared.when.When.{When}
use Rattle.keybytes.specs.declared.when.When.TheVariants.{Equal, Less, IsNull}
use Rattle.script.specs.Fields.{direction_mark, number_of, SpellsCell, SpellsColumn, SpellsColumns, SpellsKey, spec_front, SpellsNumber, SpellsNumberBefore}
use Rattle.script.specs.Fields.{SpellsWhen}
use Rattle.script.proofs.RidPoints.{digits_of}

-- no character of the text is that one
abbrev pub Lacks : ℕ → List ℕ → Type 0
Lacks sign text = All (λ c. c ≢ sign) text

digits_lack : (sign : ℕ) (text : List ℕ) → is_ascii_digit sign ≡ false → list_all is_ascii_digit text ≡ true → Lacks sign text
digits_lack sign text none digits k d inside e =
    let bad : true ≡ false = sym digits ∙ list_all_at is_ascii_digit text k d inside (ap is_ascii_digit e ∙ none) in cc

-- a number's text has no character that is no digit
pub number_lacks : (sign number : ℕ) (text : List ℕ) → is_ascii_digit sign ≡ false → SpellsNumber text number → Lacks sign text
number_lacks sign number text none spelled = digits_lack sign text none (digits_of (2 ^ 32) text number spelled)

mark_lacks : (descending : Bool) → Lacks 63 (direction_mark descending)
mark_lacks true = All-cons (λ c. c ≢ 63) 100 [] (λ e. omega arith) (All-nil _)
mark_lacks false = All-nil _

column_lacks : (text : List ℕ) (named : KeyCol) → SpellsColumn text named → Lacks 63 text
column_lacks text named spelled =
    rw spelled.1
    (All-append (λ c. c ≢ 63) spelled.0 (direction_mark named.descending) (number_lacks 63 named.column spelled.0 refl spelled.2) (mark_lacks named.descending))

parts_lack : (parts : List (List ℕ)) (columns : List KeyCol) → AllZip SpellsColumn parts columns → Lacks 63 (join_with_byte 59 parts)
parts_lack [] columns all = All-nil _
parts_lack (p ∷ ps) [] all = absurd all
parts_lack (p ∷ []) (v ∷ vs) all = column_lacks p v all.0
parts_lack (p ∷ q ∷ ps) (v ∷ vs) all =
    All-append (λ c. c ≢ 63) p (59 ∷ join_with_byte 59 (q ∷ ps)) (column_lacks p v all.0)
    (All-cons (λ c. c ≢ 63) 59 (join_with_byte 59 (q ∷ ps)) (λ e. omega arith) (parts_lack (q ∷ ps) vs all.1))

-- the text of a key's columns has no `?`
pub columns_lack : (text : List ℕ) (columns : List KeyCol) → SpellsColumns text columns → Lacks 63 text
columns_lack text columns all = subst (Lacks 63) (join_with_byte-slice_split 59 text) (parts_lack _ columns all)

-- digits, a character that is none, and what is behind it, are the only such parts of a text
same_parts : (a b x y : List ℕ) (s t : ℕ) → a ++ s ∷ x ≡ b ++ t ∷ y → list_all is_ascii_digit a ≡ true → list_all is_ascii_digit b ≡ true
    → is_ascii_digit s ≡ false → is_ascii_digit t ≡ false → (s ≡ t) × (x ≡ y)
same_parts [] [] x y s t e left right no_s no_t = ((let both : s ∷ x ≡ t ∷ y = e in cc), (let both : s ∷ x ≡ t ∷ y = e in cc))
same_parts [] (b ∷ bs) x y s t e left right no_s no_t =
    let first : s ≡ b = (let both : s ∷ x ≡ b ∷ (bs ++ t ∷ y) = e in cc) in
    let digit : is_ascii_digit s ≡ true = ap is_ascii_digit first ∙ (and_parts _ _ right).0 in
    absurd (let bad : false ≡ true = sym no_s ∙ digit in cc)
same_parts (a ∷ more) [] x y s t e left right no_s no_t =
    let first : t ≡ a = (let both : a ∷ (more ++ s ∷ x) ≡ t ∷ y = e in cc) in
    let digit : is_ascii_digit t ≡ true = ap is_ascii_digit first ∙ (and_parts _ _ left).0 in
    absurd (let bad : false ≡ true = sym no_t ∙ digit in cc)
same_parts (a ∷ more) (b ∷ bs) x y s t e left right no_s no_t =
    let rest : more ++ s ∷ x ≡ bs ++ t ∷ y = (let both : a ∷ (more ++ s ∷ x) ≡ b ∷ (bs ++ t ∷ y) = e in cc) in
    same_parts more bs x y s t rest (and_parts _ _ left).1 (and_parts _ _ right).1 no_s no_t

-- a text has one sign behind a number, and one rest
same_before : (text : List ℕ) (n m s t : ℕ) (x y : List ℕ) → is_ascii_digit s ≡ false → is_ascii_digit t ≡ false
    → SpellsNumberBefore text n (s ∷ []) x → SpellsNumberBefore text m (t ∷ []) y → (s ≡ t) × (x ≡ y)
same_before text n m s t x y no_s no_t one other =
    same_parts one.0 other.0 x y s t (sym one.1 ∙ other.1) (digits_of (2 ^ 32) one.0 n one.2) (digits_of (2 ^ 32) other.0 m other.2) no_s no_t

-- no number stands before the sign where it was found, if it was
abbrev pub NoneFound : Option (Bor (List ℕ) × Bor (List ℕ)) → Type 0
NoneFound found = MatchOption found (Unit {0}) (λ parts. number_of parts.0.now ≡ None)

-- where no number stands before the first such sign of a text, none stands before any
pub none_before : (sign : ℕ) (text : List ℕ) (found : Option (Bor (List ℕ) × Bor (List ℕ))) → IsSplitOnceResult sign text found → sign < 128
    → is_ascii_digit sign ≡ false → NoneFound found → (number : ℕ) (rest : List ℕ) → SpellsNumberBefore text number (sign ∷ []) rest → ⊥
none_before sign text None split low none found number rest spelled =
    split_after sign text spelled.0 rest None split low spelled.1 (λ i. number_lacks sign number spelled.0 none spelled.2 i 0)
none_before sign text (Some parts) split low none found number rest spelled =
    let same = split_after sign text spelled.0 rest (Some parts) split low spelled.1 (λ i. number_lacks sign number spelled.0 none spelled.2 i 0) in
    let bad : None ≡ Some number = sym found ∙ ap number_of same.0 ∙ spelled.2 in cc

-- where what is behind `=` or `<` spells no cell, the text spells no condition
pub no_equal : (text given : List ℕ) (column : ℕ) → SpellsNumberBefore text column (codes "=") given → ((cell : Cell) → SpellsCell given cell → ⊥)
    → (condition : When) → SpellsWhen text condition → ⊥
no_equal text given column before none (Equal other cell) spelled =
    let same = same_before text column other 61 61 given spelled.0 refl refl before spelled.1 in
    none cell (subst (λ (asked : List ℕ). SpellsCell asked cell) (sym same.1) spelled.2)
no_equal text given column before none (Less other bound) spelled =
    let same = same_before text column other 61 60 given spelled.0 refl refl before spelled.1 in omega (arith, same.0)
no_equal text given column before none (IsNull other) spelled =
    let same = same_before text column other 61 126 given [] refl refl before spelled in omega (arith, same.0)

pub no_less : (text given : List ℕ) (column : ℕ) → SpellsNumberBefore text column (codes "<") given → ((cell : Cell) → SpellsCell given cell → ⊥)
    → (condition : When) → SpellsWhen text condition → ⊥
no_less text given column before none (Equal other cell) spelled =
    let same = same_before text column other 60 61 given spelled.0 refl refl before spelled.1 in omega (arith, same.0)
no_less text given column before none (Less other bound) spelled =
    let same = same_before text column other 60 60 given spelled.0 refl refl before spelled.1 in
    none bound (subst (λ (asked : List ℕ). SpellsCell asked bound) (sym same.1) spelled.2)
no_less text given column before none (IsNull other) spelled =
    let same = same_before text column other 60 126 given [] refl refl before spelled in omega (arith, same.0)

-- no number stands before such a sign
abbrev pub NoneBefore : List ℕ → List ℕ → Type 0
NoneBefore text sign = (number : ℕ) (rest : List ℕ) → SpellsNumberBefore text number sign rest → ⊥

-- where neither `=` nor `<` stands behind a number, and not `~` alone, the text spells no condition
pub no_when : (text : List ℕ) → NoneBefore text (codes "=") → NoneBefore text (codes "<")
    → ((number : ℕ) → SpellsNumberBefore text number (codes "~") [] → ⊥) → (condition : When) → SpellsWhen text condition → ⊥
no_when text equal less null (Equal column cell) spelled = equal column spelled.0 spelled.1
no_when text equal less null (Less column bound) spelled = less column spelled.0 spelled.1
no_when text equal less null (IsNull column) spelled = null column spelled

-- something stands behind `~`, so that it does not stand alone
pub not_alone : (text rest : List ℕ) (column : ℕ) → SpellsNumberBefore text column (codes "~") rest → rest ≢ []
    → (number : ℕ) → SpellsNumberBefore text number (codes "~") [] → ⊥
not_alone text rest column before some number alone = some (same_before text column number 126 126 rest [] refl refl before alone).1

-- a key with no condition is its columns
key_alone : (text : List ℕ) (columns : List KeyCol) → SpellsKey text columns None → SpellsColumns text columns
key_alone text columns key =
    let all : text ≡ key.0 = key.2 ∙ ap (λ behind. key.0 ++ behind) key.4 ∙ append-nil key.0 in
    subst (λ (front : List ℕ). SpellsColumns front columns) (sym all) key.3

-- a key with a condition has its columns before the first `?`, and the condition behind it
key_parts : (text : List ℕ) (found : Option (Bor (List ℕ) × Bor (List ℕ))) → IsSplitOnceResult 63 text found
    → (columns : List KeyCol) (condition : When) → (key : SpellsKey text columns (Some condition))
    → MatchOption found ⊥ (λ parts. (parts.0.now ≡ key.0) × (parts.1.now ≡ key.4.0))
key_parts text found split columns condition key =
    split_after 63 text key.0 key.4.0 found split (lit< tt) (key.2 ∙ ap (λ behind. key.0 ++ behind) key.4.1)
    (λ i inside. columns_lack key.0 columns key.3 i 0 inside)

-- a text with a `?` is no columns
no_columns : (text : List ℕ) (parts : Bor (List ℕ) × Bor (List ℕ)) → IsSplitOnceResult 63 text (Some parts)
    → (columns : List KeyCol) → SpellsColumns text columns → ⊥
no_columns text parts split columns spelled =
    let cut = split_parts 63 text (Some parts) split (lit< tt) in
    let inside : length parts.0.now < length text = omega (arith, ap length cut.0, length-append parts.0.now (63 ∷ parts.1.now)) in
    columns_lack text columns spelled (length parts.0.now) 0 inside
    (ap (λ whole. get_or whole (length parts.0.now) 0) cut.0 ∙ get_or-append_seam parts.0.now 63 parts.1.now 0)

-- where there is no `?`, the text of a key is its columns; else they stand before the first one, and the condition behind it
pub same_key : (text : List ℕ) (found : Option (Bor (List ℕ) × Bor (List ℕ))) → IsSplitOnceResult 63 text found
    → (columns : List KeyCol) (condition : Option When) → SpellsKey text columns condition
    → MatchOption found (SpellsColumns text columns)
    (λ parts. SpellsColumns parts.0.now columns × ((one : When) × SpellsWhen parts.1.now one))
same_key text None split columns None key = key_alone text columns key
same_key text None split columns (Some condition) key = absurd (key_parts text None split columns condition key)
same_key text (Some parts) split columns None key = absurd (no_columns text parts split columns (key_alone text columns key))
same_key text (Some parts) split columns (Some condition) key =
    let same = key_parts text (Some parts) split columns condition key in (
      subst (λ (front : List ℕ). SpellsColumns front columns) (sym same.0) key.3,
      (condition, subst (λ (rest : List ℕ). SpellsWhen rest condition) (sym same.1) key.4.2),
    )

-- a specification has one front, and one key behind it
pub same_front : (one other : Bool) (x y : List ℕ) → spec_front one ++ x ≡ spec_front other ++ y → x ≡ y
same_front true true x y e = let both : 117 ∷ 58 ∷ x ≡ 117 ∷ 58 ∷ y = e in cc
same_front true false x y e = absurd (omega (arith, ap (λ (text : List ℕ). get_or text 0 0) e))
same_front false true x y e = absurd (omega (arith, ap (λ (text : List ℕ). get_or text 0 0) e))
same_front false false x y e = let both : 110 ∷ 58 ∷ x ≡ 110 ∷ 58 ∷ y = e in cc
