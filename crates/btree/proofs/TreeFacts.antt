-- The pairs of a tree among its marks.
use Rattle.std.proofs.Common.{◌≡◌, ℕ, suc, ◌+◌, Bool, true, false, cond, not, ◌&&◌, ◌||◌, List, [], ◌∷◌, ◌++◌, Option, length, get_or, refl, ap}
use Rattle.std.proofs.Common.{◌∙◌, subst, inl, inr, arith}
use Rattle.std.proofs.lemmas.Bool.{cases_Bool, cases_lt, both_ways}
use Rattle.std.proofs.lemmas.List.Edits.{length-insert}
use Rattle.keybytes.specs.declared.pair.Pair.{Pair}
use Rattle.tree_nodes.specs.declared.fan.Fan.{Fan}
use Rattle.tree_nodes.specs.Lists.{IsRising, IsStrict, same_by, has, put, without, front_count}
use Rattle.tree_nodes.specs.Order.{is_before}
use Rattle.btree.specs.Marks.{Mark, Item, Between, mark_before, pairs_in}
use Rattle.btree.specs.Seen.{Seen}
use Rattle.tree_nodes.specs.Fans.{IsBlankFan}
use Rattle.btree.specs.Splits.{AllBlank}
use Rattle.btree.specs.declared.tree.Tree.TheInside.{Inside}
use Rattle.btree.specs.Grown.{GrownBy}
use Rattle.btree.specs.Trees.{tree_value, IsTree}
use Rattle.btree.specs.Roots.{marks_under, height_under}
use Rattle.tree_nodes.proofs.Strict.{before-strict}
use Rattle.tree_nodes.proofs.Places.{put_present, here}
use Rattle.btree.proofs.MarkFacts.{in-pairs_in}

not_both : (b : Bool) → (not b && not (not b)) ≡ false
not_both true = refl
not_both false = refl

pub held_pairs : (p : Pair) (marks : List Mark) → has mark_before (Item p) marks ≡ has is_before p (pairs_in marks)
held_pairs p [] = refl
held_pairs p (Item q ∷ marks) = ap (λ b. same_by is_before p q || b) (held_pairs p marks)
held_pairs p (Between q ∷ marks) = rw (not_both (is_before p q)) (held_pairs p marks)

pub removed_pairs : (p : Pair) (marks : List Mark) → pairs_in (without mark_before (Item p) marks) ≡ without is_before p (pairs_in marks)
removed_pairs p [] = refl
removed_pairs p (Item q ∷ marks) =
    elim (cases_Bool (same_by is_before p q)) [ inl e ↦ rw e refl | inr e ↦ rw e (ap (λ ps. q ∷ ps) (removed_pairs p marks)) ]
removed_pairs p (Between q ∷ marks) = rw (not_both (is_before p q)) (removed_pairs p marks)

pub rising_pairs : (marks : List Mark) → IsRising mark_before marks → IsRising is_before (pairs_in marks)
rising_pairs [] r = tt
rising_pairs (Item q ∷ marks) r = ((λ p i. r.0 (Item p) (in-pairs_in p marks i)), rising_pairs marks r.1)
rising_pairs (Between q ∷ marks) r = rising_pairs marks r.1

pub length-without : {X : Type 0} (lt : X → X → Bool) (x : X) (ys : List X) → length (without lt x ys) + cond (has lt x ys) 1 0 ≡ length ys
length-without lt x [] = refl
length-without lt x (y ∷ ys) =
    elim (cases_Bool (same_by lt x y)) [ inl e ↦ rw e (omega arith) | inr e ↦ rw e (omega (arith, length-without lt x ys)) ]

pub length-put :
    {X : Type 0} {lt : X → X → Bool} → IsStrict lt → (x : X) (ys : List X) → IsRising lt ys
    → length (put lt x ys) ≡ length ys + cond (not (has lt x ys)) 1 0
length-put {lt = lt} o x ys r =
    let h = here o x ys r in
    elim (cases_Bool (has lt x ys)) [
      | inl e ↦ rw e (ap length (put_present o x ys r e) ∙ omega arith)
      | inr e ↦ rw e (elim (cases_lt (front_count (λ y. lt y x) ys) (length ys)) [
        | inl w ↦ elim (cases_Bool (lt x (get_or ys (front_count (λ y. lt y x) ys) x))) [
          | inl up ↦ ap length (h.gap x w up).put ∙ length-insert ys _ x (h.gap x w up).within
          | inr miss ↦ absurd (both_ways _ e (h.there x w miss).there)
        ]
        | inr past ↦ ap length (h.last past).put ∙ length-insert ys _ x (h.last past).within
      ])
    ]

pub blank_more : (fans : List (Fan Seen)) (fan : Fan Seen) → AllBlank fans → IsBlankFan fan → AllBlank (fans ++ fan ∷ [])
blank_more [] fan all b = (b, tt)
blank_more (first ∷ fans) fan all b = (all.0, blank_more fans fan all.1 b)

-- a tree by its root, if it has one
pub record AtRoot (tree : Inside) (root : Option Seen) : Type 0 where
  pub rising : IsRising mark_before (marks_under root)
  pub height_is : tree.height ≡ height_under root
  pub count_is : tree.count ≡ length (pairs_in (marks_under root))
  pub pairs_are : (tree_value tree).pairs ≡ pairs_in (marks_under root)

pub at_root : {tree : Inside} {root : Option Seen} → IsTree tree → tree.root ≡ root → AtRoot tree root
at_root {tree} {root} t is =
    let R : Option Seen → Type 0 = λ o. IsRising mark_before (marks_under o) in
    record {
      rising = subst R is t.rising;
      height_is = t.height_is ∙ ap height_under is;
      count_is = t.count_is ∙ ap (λ (o : Option Seen). length (pairs_in (marks_under o))) is;
      pairs_are = ap (λ (o : Option Seen). pairs_in (marks_under o)) is;
    }

-- what a removal leaves
pub removed_count :
    {tree : Inside} {root : Option Seen} → AtRoot tree root → (p : Pair) (new : List Mark) (found : Bool) (one : ℕ)
    → new ≡ without mark_before (Item p) (marks_under root) → found ≡ has mark_before (Item p) (marks_under root) → one ≡ cond found 1 0
    → length (pairs_in new) + one ≡ tree.count
removed_count {tree} {root} a p new found one e f o =
    let pairs : pairs_in new ≡ without is_before p (pairs_in (marks_under root)) = ap pairs_in e ∙ removed_pairs p (marks_under root) in
    let same : one ≡ cond (has is_before p (pairs_in (marks_under root))) 1 0 = o ∙ ap (λ (b : Bool). cond b 1 0) (f ∙ held_pairs p (marks_under root)) in
    omega (arith, ap length pairs, same, length-without is_before p (pairs_in (marks_under root)), a.count_is)

-- what an insert leaves
pub added_count :
    {tree : Inside} {root : Option Seen} → AtRoot tree root → (p : Pair) (new : List Mark) (added : Bool) (one : ℕ)
    → GrownBy p (marks_under root) new → added ≡ not (has mark_before (Item p) (marks_under root)) → one ≡ cond added 1 0
    → tree.count + one ≡ length (pairs_in new)
added_count {tree} {root} a p new added one g f o =
    let same : one ≡ cond (not (has is_before p (pairs_in (marks_under root)))) 1 0 =
    o ∙ ap (λ (b : Bool). cond b 1 0) (f ∙ ap not (held_pairs p (marks_under root))) in
    omega (arith, ap length g.pairs, same, length-put before-strict p (pairs_in (marks_under root)) (rising_pairs (marks_under root) a.rising), a.count_is)

pub deeper_height : (before after : ℕ) (deeper : Bool) (one : ℕ) → after ≡ cond deeper (suc before) before → one ≡ cond deeper 1 0 → before + one ≡ after
deeper_height before after true one e f = omega arith
deeper_height before after false one e f = omega arith
