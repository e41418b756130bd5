-- Writes over bytes, one behind another.
use Rattle.std.proofs.Common.{◌≡◌, ℕ, ◌+◌, ◌≤◌, List, ◌++◌, length, take, drop, sym, ap, ◌∙◌, arith, append_assoc}
use Rattle.std.proofs.lemmas.List.{length-append, length-take-le, take_at}
use Rattle.keybytes.specs.Writes.{overwritten}
use Rattle.keybytes.proofs.Writes.{length-overwritten, drop-overwritten}

-- a write right behind another
pub overwritten-twice : (at : ℕ) (a b bytes : List ℕ) → at + length a ≤ length bytes →
    overwritten (at + length a) b (overwritten at a bytes) ≡ overwritten at (a ++ b) bytes
overwritten-twice at a b bytes h =
    let mid = drop (at + length a) bytes in
    let long : length (take at bytes ++ a) ≡ at + length a = omega (arith, length-append (take at bytes) a, length-take-le at bytes (omega arith)) in
    let front : take (at + length a) (overwritten at a bytes) ≡ take at bytes ++ a =
    ap (take (at + length a)) (sym (append_assoc (take at bytes) a mid)) ∙ take_at (take at bytes ++ a) mid (at + length a) long in
    let n : (at + length a) + length b ≡ at + length (a ++ b) = omega (arith, length-append a b) in
    let back : drop ((at + length a) + length b) (overwritten at a bytes) ≡ drop (at + length (a ++ b)) bytes =
    drop-overwritten ((at + length a) + length b) at a bytes (omega arith) (omega arith) ∙ ap (λ (k : ℕ). drop k bytes) n in
    let rest = drop (at + length (a ++ b)) bytes in
    rw (front, back) (append_assoc (take at bytes) a (b ++ rest) ∙ ap (λ (xs : List ℕ). take at bytes ++ xs) (sym (append_assoc a b rest)))

-- three writes, each right behind the one before
pub overwritten-thrice : (at : ℕ) (a b c bytes : List ℕ) → at + (length a + length b) ≤ length bytes →
    overwritten ((at + length a) + length b) c (overwritten (at + length a) b (overwritten at a bytes)) ≡ overwritten at (a ++ (b ++ c)) bytes
overwritten-thrice at a b c bytes h =
    let long = length-overwritten at a bytes (omega arith) in
    overwritten-twice (at + length a) b c (overwritten at a bytes) (omega arith) ∙ overwritten-twice at a (b ++ c) bytes (omega arith)
