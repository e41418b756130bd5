use Rattle.std.proofs.Common.{◌≡◌, drop, refl, sym, ◌∙◌}
use Rattle.std.proofs.lemmas.List.{take_rest}
use Rattle.std.specs.Ordering.{nat_cmp}
use Rattle.std.specs.Cmp.Lexicographic.{slice_cmp}
use Rattle.byteorder.specs.Endian.{big_number}
use Rattle.keybytes.proofs.Heads.{numbers_decide, numbers_tie}
use Rattle.keybytes.proofs.key.compare_long.Goals as goal

pub returns-then-number-other : goal.returns-then-number-other
returns-then-number-other c =
    let xs = c.args.bytes.now in
    let ys = c.args.others.now in
    let number : c.head-number.result ≡ big_number 8 xs = c.head-number.ensures in
    let other : c.head-other.result ≡ big_number 8 ys = c.head-other.ensures in
    let apart : big_number 8 xs ≡ big_number 8 ys → ⊥ = λ same. c.if-number-other.true (number ∙ same ∙ sym other) in
    let is = numbers_decide 8 xs ys c.requires.long c.requires.other_long c.requires.bytes c.requires.other_bytes apart in
    c.cmp.ensures ∙ rw (number, other) (sym is)

pub returns : goal.returns
returns c =
    let xs = c.args.bytes.now in
    let ys = c.args.others.now in
    let number : c.head-number.result ≡ big_number 8 xs = c.head-number.ensures in
    let other : c.head-other.result ≡ big_number 8 ys = c.head-other.ensures in
    let same : big_number 8 xs ≡ big_number 8 ys = sym number ∙ c.if-number-other.false ∙ other in
    let rest : c.cmp-2.result ≡ slice_cmp nat_cmp (drop 8 xs) (drop 8 ys) =
    c.cmp-2.ensures ∙ rw (take_rest xs 8, take_rest ys 8) refl in
    rest ∙ sym (numbers_tie 8 xs ys c.requires.long c.requires.other_long c.requires.bytes c.requires.other_bytes same)
