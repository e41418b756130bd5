-- The leaves of a load.
use Rattle.std.proofs.Common.{◌≡◌, ◌⊎◌, ◌≤◌, ℕ, ◌+◌, List, [], ◌∷◌, ◌++◌, Option, Some, None, length, length-append, refl, sym, ap, ◌∙◌, subst, inl, inr, arith, append_assoc}
use Rattle.std.specs.List.{All}
use Rattle.std.proofs.lemmas.List.Elements.{All-nil, All-cons, All-append}
use Rattle.keybytes.specs.declared.pair.Pair.{Pair}
use Rattle.btree.specs.declared.loader.Full.{Full}
use Rattle.btree.specs.Loading.{marks_behind, leaves_behind, BehindFull}
use Rattle.btree.specs.Marks.{Mark, Item, Between, items_of, in_first, leaves_in}
use Rattle.btree.specs.TreeValue.{Level, AreFilled, AreFilledAbove}

leaves_items : (ps : List Pair) → leaves_in (items_of ps) ≡ ps ∷ []
leaves_items [] = refl
leaves_items (p ∷ ps) = ap (in_first p) (leaves_items ps)

some_first : (p : Pair) (leaves : List (List Pair)) → 1 ≤ length (in_first p leaves)
some_first p [] = omega arith
some_first p (leaf ∷ leaves) = omega arith

some_leaf : (ms : List Mark) → 1 ≤ length (leaves_in ms)
some_leaf [] = omega arith
some_leaf (Item p ∷ ms) = some_first p (leaves_in ms)
some_leaf (Between s ∷ ms) = omega arith

first_append : (p : Pair) (xs ys : List (List Pair)) → 1 ≤ length xs → in_first p (xs ++ ys) ≡ in_first p xs ++ ys
first_append p [] ys h = absurd (omega (arith, h))
first_append p (x ∷ xs) ys h = refl

leaves_more : (ms : List Mark) (s : Pair) (ps : List Pair) → leaves_in (ms ++ Between s ∷ items_of ps) ≡ leaves_in ms ++ ps ∷ []
leaves_more [] s ps = ap (λ (leaves : List (List Pair)). [] ∷ leaves) (leaves_items ps)
leaves_more (Item p ∷ ms) s ps = ap (in_first p) (leaves_more ms s ps) ∙ first_append p (leaves_in ms) (ps ∷ []) (some_leaf ms)
leaves_more (Between t ∷ ms) s ps = ap (λ (leaves : List (List Pair)). [] ∷ leaves) (leaves_more ms s ps)

behind_is : (full : Option Full) (ps : List Pair) → leaves_in (marks_behind full ++ items_of ps) ≡ leaves_behind full ++ ps ∷ []
behind_is None ps = leaves_items ps
behind_is (Some full) ps =
    ap leaves_in (append_assoc full.root.marks (Between full.separator ∷ []) (items_of ps)) ∙ leaves_more full.root.marks full.separator ps

all_full : (full : Option Full) → BehindFull full → All (λ leaf. length leaf ≡ 32) (leaves_behind full)
all_full None h = All-nil (λ leaf. length leaf ≡ 32)
all_full (Some full) h = h

-- a full leaf put behind the others
pub full_after :
    (full : Option Full) (ps : List Pair) (marks : List Mark) → BehindFull full → length ps ≡ 32 → marks ≡ marks_behind full ++ items_of ps
    → All (λ leaf. length leaf ≡ 32) (leaves_in marks)
full_after full ps marks h few is =
    let A : List (List Pair) → Type 0 = λ leaves. All (λ leaf. length leaf ≡ 32) leaves in
    subst A (sym (ap leaves_in is ∙ behind_is full ps))
    (All-append (λ leaf. length leaf ≡ 32) (leaves_behind full) (ps ∷ []) (all_full full h)
    (All-cons (λ leaf. length leaf ≡ 32) ps [] few (All-nil (λ leaf. length leaf ≡ 32))))

begun_is : (full : Option Full) (ps : List Pair) → (marks_behind full ≡ []) ⊎ (1 ≤ length ps) → (leaves_behind full ≡ []) ⊎ (1 ≤ length ps)
begun_is None ps begun = inl refl
begun_is (Some full) ps begun = elim begun [
  | inl none ↦ absurd (omega (arith, ap length none, length-append full.root.marks (Between full.separator ∷ [])))
  | inr some ↦ inr some
]

-- the last leaf put behind the others
pub filled_after :
    (full : Option Full) (ps : List Pair) (marks : List Mark) (leaves : List (List Pair)) → BehindFull full → length ps ≤ 32
    → (marks_behind full ≡ []) ⊎ (1 ≤ length ps) → marks ≡ marks_behind full ++ items_of ps → leaves ≡ leaves_in marks → AreFilled leaves
filled_after full ps marks leaves h few begun is e = record {
  full = leaves_behind full;
  rest = ps;
  is = e ∙ ap leaves_in is ∙ behind_is full ps;
  have_32 = all_full full h;
  few = few;
  some = begun_is full ps begun;
}

-- levels that are filled above one leaf more
pub above_leaves :
    (full : Option Full) (ps : List Pair) (marks : List Mark) (levels : List Level) → marks ≡ marks_behind full ++ items_of ps
    → AreFilledAbove (length (leaves_behind full) + 1) levels → AreFilledAbove (length (leaves_in marks)) levels
above_leaves full ps marks levels is h =
    let F : ℕ → Type 0 = λ n. AreFilledAbove n levels in
    subst F (sym (ap length (ap leaves_in is ∙ behind_is full ps) ∙ length-append (leaves_behind full) (ps ∷ []))) h
