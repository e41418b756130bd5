-- A write behind the first bytes.
use Rattle.std.proofs.Common.{◌≡◌, ℕ, ◌+◌, ◌≤◌, List, ◌++◌, length, take, drop, sym, ap, ◌∙◌, arith}
use Rattle.std.proofs.lemmas.List.{length-take-le, drop-append-le, drop-drop, drop-take}
use Rattle.keybytes.specs.Writes.{overwritten}

-- a write behind the first k bytes, seen without them
pub rest-overwritten : (k at : ℕ) (bytes image : List ℕ) → k + at ≤ length image →
    drop k (overwritten (k + at) bytes image) ≡ overwritten at bytes (drop k image)
rest-overwritten k at bytes image h =
    let e : (k + at) + length bytes ≡ k + (at + length bytes) = omega arith in
    drop-append-le k (take (k + at) image) (bytes ++ drop ((k + at) + length bytes) image) (omega (arith, length-take-le (k + at) image h))
    ∙ ap (λ (xs : List ℕ). xs ++ (bytes ++ drop ((k + at) + length bytes) image)) (drop-take k at image)
    ∙ ap (λ (n : ℕ). take at (drop k image) ++ (bytes ++ drop n image)) e
    ∙ ap (λ (xs : List ℕ). take at (drop k image) ++ (bytes ++ xs)) (sym (drop-drop (at + length bytes) k image))
