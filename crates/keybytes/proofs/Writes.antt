-- What a write over bytes leaves.
use Rattle.std.proofs.Common.{◌≡◌, ℕ, ◌+◌, ◌-◌, ◌≤◌, List, ◌++◌, length, take, drop, sym, ap, ◌∙◌, arith, append_assoc}
use Rattle.std.specs.Prelude.{slice_range}
use Rattle.std.proofs.lemmas.List.{length-append, length-drop, length-take-le, take-append-le, take-take, take_at, drop_at}
use Rattle.std.proofs.lemmas.Slice.{drop-append-drop}
use Rattle.keybytes.specs.Writes.{overwritten}

pub length-overwritten : (at : ℕ) (bytes image : List ℕ) → at + length bytes ≤ length image →
    length (overwritten at bytes image) ≡ length image
length-overwritten at bytes image h =
    let a = length-append (take at image) (bytes ++ drop (at + length bytes) image) in
    let b = length-append bytes (drop (at + length bytes) image) in
    let c = length-take-le at image (omega arith) in
    let d = length-drop (at + length bytes) image in
    omega (arith, a, b, c, d)

-- what stands before the bytes
pub take-overwritten : (n at : ℕ) (bytes image : List ℕ) → n ≤ at → at ≤ length image →
    take n (overwritten at bytes image) ≡ take n image
take-overwritten n at bytes image le h =
    take-append-le n (take at image) (bytes ++ drop (at + length bytes) image) (omega (arith, length-take-le at image h))
    ∙ take-take n at image le

-- what stands after them
pub drop-overwritten : (n at : ℕ) (bytes image : List ℕ) → at + length bytes ≤ n → at ≤ length image →
    drop n (overwritten at bytes image) ≡ drop n image
drop-overwritten n at bytes image le h =
    let k : length (take at image ++ bytes) ≡ at + length bytes =
    omega (arith, length-append (take at image) bytes, length-take-le at image h) in
    ap (drop n) (sym (append_assoc (take at image) bytes (drop (at + length bytes) image)))
    ∙ drop-append-drop (at + length bytes) image (take at image ++ bytes) n le k

-- the bytes themselves
pub range-overwritten : (at : ℕ) (bytes image : List ℕ) → at ≤ length image →
    slice_range (overwritten at bytes image) at (at + length bytes) ≡ bytes
range-overwritten at bytes image h =
    let rest = drop (at + length bytes) image in
    let n : length bytes ≡ (at + length bytes) - at = omega arith in
    ap (take ((at + length bytes) - at)) (drop_at (take at image) (bytes ++ rest) at (length-take-le at image h))
    ∙ take_at bytes rest ((at + length bytes) - at) n
