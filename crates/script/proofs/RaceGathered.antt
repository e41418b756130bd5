-- What the lines of a race script give one after the other.
use Rattle.std.proofs.Common.{◌≡◌, ℕ, ◌+◌, suc, Bool, ◌||◌, true, false, Option, Some, None}
use Rattle.std.proofs.Common.{is_some, List, [], ◌∷◌, ◌++◌, length, add-zero, arith, refl, sym, ap, ◌∙◌}
use Rattle.std.proofs.lemmas.List.{append-nil, append_assoc}
use Rattle.std.proofs.lemmas.List.Folds.{list_any-append}
use Rattle.std.specs.List.{list_any}
use Rattle.std.specs.Option.{option_to_list}
use Rattle.script.specs.RaceDrafts.{is_some_list}
use Rattle.script.specs.Grammars.{names}
use Rattle.script.specs.RaceOrder.{gathered, has, name_of_line}
use Rattle.script.specs.RaceScripts.{build_at, choice_at, race_grammar, table_at}
use Rattle.script.specs.declared.race.line.RaceLine.{RaceLine}
use Rattle.script.specs.declared.race.line.RaceLine.TheVariants.{PassedOver, Table, Row, Spools, Build, Go, In}
use Rattle.script.specs.declared.race.name.RaceName.{RaceName}
use Rattle.script.specs.declared.race.name.RaceName.TheVariants as name

-- the number behind one line more
next_number : (number : ℕ) (lines : List RaceLine) → number + 1 + length lines ≡ number + suc (length lines)
next_number number lines = omega arith

gathered_push : {A : Type 0} (given : ℕ → RaceLine → List A) (number : ℕ) (lines : List RaceLine) (line : RaceLine)
    → gathered given number (lines ++ line ∷ []) ≡ gathered given number lines ++ given (number + length lines) line
gathered_push given number [] line = append-nil (given number line) ∙ rw add-zero refl
gathered_push {A} given number (first ∷ lines) line =
    let more = gathered_push given (number + 1) lines line in
    let here = ap (λ n. gathered given (number + 1) lines ++ given n line) (next_number number lines) in
    ap (λ (rest : List A). given number first ++ rest) (more ∙ here)
    ∙ sym (append_assoc (given number first) (gathered given (number + 1) lines) (given (number + suc (length lines)) line))

-- one line more, behind lines that gave this
pub pushed : {A : Type 0} (given : ℕ → RaceLine → List A) (lines : List RaceLine) (line : RaceLine) (number : ℕ) (some : List A)
    → number ≡ length lines + 1 → gathered given 1 lines ≡ some → gathered given 1 (lines ++ line ∷ []) ≡ some ++ given number line
pushed given lines line number some is gave =
    let here : 1 + length lines ≡ number = omega arith in
    gathered_push given 1 lines line ∙ rw (gave, here) refl

-- whether one of two lists has an element
pub some_append : {A : Type 0} (xs ys : List A) → is_some_list (xs ++ ys) ≡ (is_some_list xs || is_some_list ys)
some_append [] ys = refl
some_append (x ∷ xs) ys = refl

pub none_some : {A : Type 0} (xs : List A) → is_some_list xs ≡ false → xs ≡ []
none_some [] none = refl
none_some (x ∷ xs) none = absurd (let both = none in cc)

-- whether an option as a list has one
pub none_listed : {A : Type 0} (o : Option A) → is_some o ≡ false → option_to_list o ≡ []
none_listed None none = refl
none_listed (Some x) none = absurd (let both = none in cc)

pub some_listed : {A : Type 0} (o : Option A) → is_some o ≡ true → is_some_list (option_to_list o) ≡ true
some_listed None some = absurd (let both = some in cc)
some_listed (Some x) some = refl

pub not_listed : {A : Type 0} (o : Option A) → o ≡ None → is_some_list (option_to_list o) ≡ true → ⊥
not_listed None none some = let both : false ≡ true = some in cc
not_listed (Some x) none some = let both = none in cc

-- the names with one line more
pub names_more : (lines : List RaceLine) (line : RaceLine)
    → names race_grammar (lines ++ line ∷ []) ≡ names race_grammar lines ++ option_to_list (name_of_line line)
names_more [] line = append-nil (option_to_list (name_of_line line))
names_more (first ∷ lines) line =
    ap (λ (rest : List RaceName). option_to_list (name_of_line first) ++ rest) (names_more lines line)
    ∙ sym (append_assoc (option_to_list (name_of_line first)) (names race_grammar lines) (option_to_list (name_of_line line)))

-- lines give something where they have a name
linked : {A : Type 0} (test : RaceName → Bool) (given : ℕ → RaceLine → List A)
    → ((number : ℕ) (line : RaceLine) → list_any test (option_to_list (name_of_line line)) ≡ is_some_list (given number line))
    → (number : ℕ) (lines : List RaceLine) → list_any test (names race_grammar lines) ≡ is_some_list (gathered given number lines)
linked test given each number [] = refl
linked test given each number (line ∷ lines) =
    list_any-append test (option_to_list (name_of_line line)) (names race_grammar lines)
    ∙ rw (each number line, linked test given each (number + 1) lines) refl
    ∙ sym (some_append (given number line) (gathered given (number + 1) lines))

table_named : (number : ℕ) (line : RaceLine) → has name.Table (option_to_list (name_of_line line)) ≡ is_some_list (table_at number line)
table_named number PassedOver = refl
table_named number (Table table) = refl
table_named number (Row cells) = refl
table_named number (Spools choice) = refl
table_named number (Build build) = refl
table_named number Go = refl
table_named number (In session command) = refl

choice_named : (number : ℕ) (line : RaceLine) → has name.Spools (option_to_list (name_of_line line)) ≡ is_some_list (choice_at number line)
choice_named number PassedOver = refl
choice_named number (Table table) = refl
choice_named number (Row cells) = refl
choice_named number (Spools choice) = refl
choice_named number (Build build) = refl
choice_named number Go = refl
choice_named number (In session command) = refl

build_named : (number : ℕ) (line : RaceLine) → has name.Build (option_to_list (name_of_line line)) ≡ is_some_list (build_at number line)
build_named number PassedOver = refl
build_named number (Table table) = refl
build_named number (Row cells) = refl
build_named number (Spools choice) = refl
build_named number (Build build) = refl
build_named number Go = refl
build_named number (In session command) = refl

pub has_table : (lines : List RaceLine) → has name.Table (names race_grammar lines) ≡ is_some_list (gathered table_at 1 lines)
has_table lines = linked _ table_at table_named 1 lines

pub has_spools : (lines : List RaceLine) → has name.Spools (names race_grammar lines) ≡ is_some_list (gathered choice_at 1 lines)
has_spools lines = linked _ choice_at choice_named 1 lines

pub has_build : (lines : List RaceLine) → has name.Build (names race_grammar lines) ≡ is_some_list (gathered build_at 1 lines)
has_build lines = linked _ build_at build_named 1 lines
