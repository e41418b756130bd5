use Rattle.std.proofs.Common.{◌≡◌, ◌≢◌, ◌^◌, ◌+◌, ◌==◌, ℕ, get_or, drop, pos, neg_ℤ, false, List, Result, ℤ, ◌∙◌, arith}
use Rattle.std.specs.Int.{w64}
use Rattle.std.specs.Result.{result_ok}
use Rattle.std.specs.Str.Parse.{ParsesSigned}
use Rattle.std.proofs.lemmas.Bool.Decides.{nat_tests}
use Rattle.std.proofs.lemmas.Str.Parse.{parse_signed_plain, parse_signed_minus}
use Rattle.script.specs.Fields.{int_of}
use Rattle.script.proofs.FieldLemmas.{bool_cases, digits, not_plus, parsed, at_most}
use Rattle.script.proofs.fields.int.Goals as goal

-- what is read behind a minus sign
minus : {E : Type 0} (text : List ℕ) (r : Result ℤ E) → ParsesSigned w64 10 text r → get_or text 0 0 ≡ 45 → result_ok r ≡ int_of text
minus text r reads sign =
    let h = parse_signed_minus digits w64 text r reads sign in
    parsed (λ n. neg_ℤ (pos n)) (2 ^ 63 + 1) (drop 1 text) r (at_most (2 ^ 63) (drop 1 text) _ r h) ∙ simp sign

-- what is read with no sign
plain : {E : Type 0} (text : List ℕ) (r : Result ℤ E) → ParsesSigned w64 10 text r → get_or text 0 0 ≢ 43 → get_or text 0 0 ≢ 45 → result_ok r ≡ int_of text
plain text r reads no_plus no_minus =
    let h = parse_signed_plain digits w64 text r reads no_plus no_minus in
    let test : (get_or text 0 0 == 45) ≡ false = grind (arith, nat_tests) in
    parsed pos (2 ^ 63) text r h ∙ simp test

pub returns : goal.returns
unfolding lib.Utf8.encode
returns c =
    let text = c.args.text.now in
    let no_plus : get_or text 0 0 ≢ 43 = not_plus text c.if-starts_with.ensures.cases in
    c.ok.ensures.value
    ∙ bool_cases (get_or text 0 0 == 45)
    (λ test. minus text c.parse.result c.parse.ensures.value.0 (grind (arith, nat_tests, test)))
    (λ test. plain text c.parse.result c.parse.ensures.value.0 no_plus (grind (arith, nat_tests, test)))
