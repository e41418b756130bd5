-- Filled levels that grow by a leaf behind all others are filled.
use Rattle.std.proofs.Common.{◌≡◌, ℕ, ◌+◌, ◌<◌, ◌≤◌, List, [], ◌∷◌, ◌++◌, Option, Some, None, length, length-append, refl, sym, ap, subst, inl, inr, arith}
use Rattle.std.specs.List.{sum, fold}
use Rattle.std.proofs.lemmas.List.Elements.{All-nil, All-cons, All-append}
use Rattle.btree.specs.declared.loader.Full.{Full}
use Rattle.btree.specs.declared.split.Split.{Split}
use Rattle.btree.specs.Seen.{Seen}
use Rattle.btree.specs.Marks.{leaves_in}
use Rattle.btree.specs.Loading.{leaves_behind, LevelsBehind}
use Rattle.btree.specs.TreeValue.{Level, AreParents, AreFilledAbove}
use Rattle.btree.specs.Levels.{alone, joined, beside}
use Rattle.btree.specs.Growing.{AreFull, begun, HaveGrown, LevelsAfter, levels_raised}

pub fold_end : {A B : Type 0} (f : B → A → B) (b : B) (xs : List A) (x : A) → fold f b (xs ++ x ∷ []) ≡ f (fold f b xs) x
fold_end f b [] x = refl
fold_end f b (y ∷ xs) x = fold_end f (f b y) xs x

parents_more : (n : ℕ) (l : Level) → AreParents n l → l.last < 32 → AreParents (n + 1) (record l { last = l.last + 1 })
parents_more n l p h = record { have_32 = p.have_32; few = omega arith; some = omega arith; all = omega (arith, p.all) }

parents_begun : (n : ℕ) (l : Level) → AreParents n l → l.last ≡ 32 → AreParents (n + 1) (joined l (alone 1))
parents_begun n l p e =
    let P : ℕ → Type 0 = λ children. children ≡ 32 in
    let s : sum (l.before ++ l.last ∷ []) ≡ sum l.before + l.last = fold_end (λ (a : ℕ) (x : ℕ). a + x) 0 l.before l.last in
    record {
      have_32 = All-append P l.before (l.last ∷ []) p.have_32 (All-cons P l.last [] e (All-nil P));
      few = omega arith;
      some = omega arith;
      all = omega (arith, s, p.all);
    }

counted : (l : Level) (levels : List Level) → AreFilledAbove (length l.before + 1 + 1) levels → AreFilledAbove (length (l.before ++ l.last ∷ []) + 1) levels
counted l levels h =
    let F : ℕ → Type 0 = λ n. AreFilledAbove n levels in
    subst F (ap (λ (n : ℕ). n + 1) (sym (length-append l.before (l.last ∷ [])))) h

filled_grown : (n : ℕ) (olds news : List Level) → AreFilledAbove n olds → HaveGrown olds news → AreFilledAbove (n + 1) news
filled_grown n [] news f h = absurd h
filled_grown n (o ∷ olds) [] f h = absurd h
filled_grown n (o ∷ olds) (m ∷ news) f h =
    let two : 2 ≤ n + 1 = omega (arith, f.0) in
    elim h [
      | inl w ↦ rw (w.1, w.2) (two, parents_more n o f.1 w.0, f.2)
      | inr w ↦ rw w.1 (two, parents_begun n o f.1 w.0, counted o news (filled_grown (length o.before + 1) olds news f.2 w.2))
    ]

-- a root over the old one and what is begun beside it
filled_raised : (n : ℕ) (olds : List Level) → AreFilledAbove n olds → AreFull olds → AreFilledAbove (n + 1) (beside olds (begun olds) ++ alone 2 ∷ [])
filled_raised n [] f full =
    let P : ℕ → Type 0 = λ children. children ≡ 32 in
    (omega (arith, f), record { have_32 = All-nil P; few = omega arith; some = omega arith; all = omega (arith, f) }, refl)
filled_raised n (o ∷ olds) f full =
    (omega (arith, f.0), parents_begun n o f.1 full.0, counted o _ (filled_raised (length o.before + 1) olds f.2 full.1))

filled_by :
    (n : ℕ) (root now : Seen) (split : Option Split) → AreFilledAbove n root.levels → LevelsAfter root.levels now.levels split
    → AreFilledAbove (n + 1) (levels_raised now split)
filled_by n root now None f h = filled_grown n root.levels now.levels f h
filled_by n root now (Some split) f h = rw (h.1, h.2) (filled_raised n root.levels f h.0)

-- the same of what stands in front of the leaf that is being filled
pub filled_under :
    (full : Option Full) (was : Full) (now : Seen) (split : Option Split) → full ≡ Some was → LevelsBehind full → LevelsAfter was.root.levels now.levels split
    → AreFilledAbove (length (leaves_behind full) + 1) (levels_raised now split)
filled_under full was now split is behind after =
    let B : Option Full → Type 0 = λ f. LevelsBehind f → AreFilledAbove (length (leaves_behind f) + 1) (levels_raised now split) in
    subst B (sym is) (λ h. filled_by (length (leaves_in was.root.marks)) was.root now split h after) behind
