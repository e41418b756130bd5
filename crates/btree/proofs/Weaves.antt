-- Two weaves and the separator between them.
use Rattle.std.proofs.Common.{◌≡◌, ℕ, suc, ◌+◌, ◌-◌, ◌<◌, List, [], ◌∷◌, ◌++◌, length, refl, sym, ap, ◌∙◌, arith, append_assoc}
use Rattle.std.specs.List.{insert}
use Rattle.std.proofs.lemmas.List.Edits.{insert-append_left, insert-append_right, length-insert}
use Rattle.keybytes.specs.declared.pair.Pair.{Pair}
use Rattle.btree.specs.Marks.{Mark, Between}
use Rattle.btree.specs.Seen.{Seen}
use Rattle.btree.specs.Weave.{weave}

pub weave-append :
    (lo hi : List Seen) (ss : List Pair) (m : Pair) (ts : List Pair) → length ss + 1 ≡ length lo
    → weave (lo ++ hi) (ss ++ m ∷ ts) ≡ weave lo ss ++ Between m ∷ weave hi ts
weave-append [] hi ss m ts e = absurd (omega arith)
weave-append (c ∷ []) hi [] m ts e = simp append_assoc
weave-append (c ∷ []) hi (s ∷ ss) m ts e = absurd (omega arith)
weave-append (c ∷ b ∷ lo) hi [] m ts e = absurd (omega arith)
weave-append (c ∷ b ∷ lo) hi (s ∷ ss) m ts e = ap (λ (v : List Mark). c.marks ++ Between s ∷ v) (weave-append (b ∷ lo) hi ss m ts (omega arith))
    ∙ sym (append_assoc c.marks (Between s ∷ weave (b ∷ lo) ss) (Between m ∷ weave hi ts))

pub weave-lower :
    (lo hi : List Seen) (ss : List Pair) (m : Pair) (ts : List Pair) (i : ℕ) (n : Seen) (s : Pair) → length ss + 1 ≡ length lo → i < length lo
    → weave (insert (lo ++ hi) (suc i) n) (insert (ss ++ m ∷ ts) i s) ≡ weave (insert lo (suc i) n) (insert ss i s) ++ Between m ∷ weave hi ts
weave-lower lo hi ss m ts i n s e h =
    let a : insert (lo ++ hi) (suc i) n ≡ insert lo (suc i) n ++ hi = insert-append_left lo hi (suc i) n (omega arith) in
    let b : insert (ss ++ m ∷ ts) i s ≡ insert ss i s ++ m ∷ ts = insert-append_left ss (m ∷ ts) i s (omega arith) in
    let la : length (insert lo (suc i) n) ≡ length lo + 1 = length-insert lo (suc i) n (omega arith) in
    let lb : length (insert ss i s) ≡ length ss + 1 = length-insert ss i s (omega arith) in
    ap (λ (v : List Seen). weave v (insert (ss ++ m ∷ ts) i s)) a ∙ ap (λ (v : List Pair). weave (insert lo (suc i) n ++ hi) v) b
    ∙ weave-append (insert lo (suc i) n) hi (insert ss i s) m ts (omega arith)

pub weave-upper :
    (lo hi : List Seen) (ss : List Pair) (m : Pair) (ts : List Pair) (j : ℕ) (n : Seen) (s : Pair) → length ss + 1 ≡ length lo
    → weave (insert (lo ++ hi) (length lo + suc j) n) (insert (ss ++ m ∷ ts) (length lo + j) s) ≡ weave lo ss
    ++ Between m ∷ weave (insert hi (suc j) n) (insert ts j s)
weave-upper lo hi ss m ts j n s e =
    let x : (length lo + suc j) - length lo ≡ suc j = omega arith in
    let y : (length lo + j) - length ss ≡ suc j = omega arith in
    let a : insert (lo ++ hi) (length lo + suc j) n ≡ lo
    ++ insert hi (suc j) n = insert-append_right lo hi (length lo) (length lo + suc j) n refl (omega arith) ∙ ap (λ (k : ℕ). lo ++ insert hi k n) x in
    let b : insert (ss ++ m ∷ ts) (length lo + j) s ≡ ss
    ++ m ∷ insert ts j s = insert-append_right ss (m ∷ ts) (length ss) (length lo + j) s refl (omega arith) ∙ ap (λ (k : ℕ). ss ++ insert (m ∷ ts) k s) y in
    ap (λ (v : List Seen). weave v (insert (ss ++ m ∷ ts) (length lo + j) s)) a ∙ ap (λ (v : List Pair). weave (lo ++ insert hi (suc j) n) v) b
    ∙ weave-append lo (insert hi (suc j) n) ss m (insert ts j s) e
