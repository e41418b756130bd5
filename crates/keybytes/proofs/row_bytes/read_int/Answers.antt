use Rattle.std.proofs.Common.{rules, ◌≡◌, ◌<◌, ℕ, ◌++◌, length, get_or, w64, FitsSigned, arith}
use Rattle.std.proofs.lemmas.Int.{to_z-of_z}
use Rattle.std.proofs.lemmas.List.{take-append-drop}
use Rattle.std.proofs.lemmas.Grind.{common_steps}
use Rattle.keybytes.proofs.Spelling.{begins_with_int}
use Rattle.keybytes.proofs.row_bytes.read_int.Goals as goal

pub returns-clause-ok : goal.returns-clause-ok
returns-clause-ok c =
    let number = c.cast_signed-number.result in
    let digits = c.in-Some.digits.now in
    let in_range : FitsSigned w64 number = search rules in
    let cases = c.in-Some.ensures.cases in
    let split : c.args.rest.now ≡ digits ++ c.in-Some.after.now = grind (arith, common_steps, take-append-drop) in
    let eight : length digits ≡ 8 = grind (arith, common_steps) in
    let below : (i : ℕ) → get_or digits i 0 < 256 = λ i. grind (arith, common_steps, c.type_inv.rest i) in
    rw (to_z-of_z w64 number in_range)
    (begins_with_int _ digits _ c.from_be_bytes.result number eight below split c.from_be_bytes.ensures (search rules)
    c.cast_signed-number.ensures in_range)
