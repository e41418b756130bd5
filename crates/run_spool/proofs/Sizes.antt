-- How many bytes pairs take, where `size` tells how many each takes behind a key.
use Rattle.std.proofs.Common.{◌≡◌, ℕ, ◌+◌, ◌≤◌, ◌<◌, List, [], ◌∷◌, ◌++◌, length, refl, arith}
use Rattle.keybytes.specs.declared.pair.Pair.{Pair}
use Rattle.run_spool.specs.Pages.{last_behind, pairs_size}

pub count_le_size : (size : List ℕ → Pair → ℕ) → ((before : List ℕ) (pair : Pair) → 0 < size before pair) → (before : List ℕ) (ps : List Pair) →
    length ps ≤ pairs_size size before ps
count_le_size size some before [] = omega arith
count_le_size size some before (p ∷ ps) = omega (arith, some before p, count_le_size size some p.key ps)

-- the bytes of one pair more
pub size_more : (size : List ℕ → Pair → ℕ) (before : List ℕ) (ps : List Pair) (p : Pair) →
    pairs_size size before (ps ++ p ∷ []) ≡ pairs_size size before ps + size (last_behind before ps) p
size_more size before [] p = omega arith
size_more size before (q ∷ ps) p = omega (arith, size_more size q.key ps p)

-- the last of one pair more
pub last_more : (before : List ℕ) (ps : List Pair) (p : Pair) → last_behind before (ps ++ p ∷ []) ≡ p.key
last_more before [] p = refl
last_more before (q ∷ ps) p = last_more q.key ps p
