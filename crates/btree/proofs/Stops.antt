-- A walk stops at a change for which a leaf has to be split.
use Rattle.std.proofs.Common.{◌≡◌, ℕ, suc, ◌+◌, ◌<◌, ◌≤◌, true, false, not, List, [], ◌∷◌, ◌++◌, length, take, get_or, refl, sym, ap, ◌∙◌, subst, inl, inr, arith, append-nil, zero}
use Rattle.std.proofs.Math.ListN.{set}
use Rattle.std.proofs.lemmas.List.{get_or-set_same}
use Rattle.std.proofs.lemmas.Bool.{cases_Bool, cases_lt, both_ways, not_from_true}
use Rattle.keybytes.specs.declared.pair.Pair.{Pair}
use Rattle.tree_nodes.specs.declared.fan.Fan.{Fan}
use Rattle.tree_nodes.specs.Fans.{children_of, separators_of}
use Rattle.tree_nodes.specs.Lists.{In, IsRising, has, front_count}
use Rattle.tree_nodes.specs.Order.{is_before}
use Rattle.tree_nodes.proofs.Fronts.{front_count-le-length, front_fails}
use Rattle.tree_nodes.proofs.Rising.{rising_parts}
use Rattle.tree_nodes.proofs.Strict.{before-strict}
use Rattle.btree.specs.declared.change.Change.{Change}
use Rattle.btree.specs.declared.change.Steps.{Steps}
use Rattle.btree.specs.declared.walking.Share.{Share}
use Rattle.btree.specs.Changes.{AreInOrder, leaf_count, WantsSplit, Walked, IsShare}
use Rattle.btree.specs.Marks.{Mark, Item, Between, mark_before, items_of}
use Rattle.btree.specs.Nodes.{IsFanned}
use Rattle.btree.specs.Seen.{Seen}
use Rattle.btree.specs.Weave.{weave}
use Rattle.btree.proofs.Changing.{Belong}
use Rattle.btree.proofs.MarkFacts.{mark_before-strict}
use Rattle.btree.proofs.Middles.{has-middle}
use Rattle.btree.proofs.Ordered.{none_before_first, in_more}
use Rattle.btree.proofs.Removed.{with_child}
use Rattle.btree.proofs.Turns.{place, belong_one, first_pair, no_change}

-- ---- the leaf that a pair belongs to

count_past :
    (p s : Pair) (n : ℕ) (w m : List Mark) → ((t : Pair) → In (Between t) w → is_before p t ≡ false) → is_before p s ≡ false
    → leaf_count n p (w ++ Between s ∷ m) ≡ leaf_count 0 p m
count_past p s n [] m h e = rw e refl
count_past p s n (Item q ∷ w) m h e = count_past p s (suc n) w m (λ t i. h t (inr i)) e
count_past p s n (Between t ∷ w) m h e = rw (h t (inl refl)) (count_past p s 0 w m (λ u i. h u (inr i)) e)

count_to : (p s : Pair) (n : ℕ) (w m : List Mark) → is_before p s ≡ true → leaf_count n p (w ++ Between s ∷ m) ≡ leaf_count n p w
count_to p s n [] m e = rw e refl
count_to p s n (Item q ∷ w) m e = count_to p s (suc n) w m e
count_to p s n (Between t ∷ w) m e = elim (cases_Bool (is_before p t)) [
  | inl f ↦ rw f refl
  | inr f ↦ rw f (count_to p s 0 w m e)
]

count_end : (p : Pair) (n : ℕ) (w : List Mark) → leaf_count n p (w ++ []) ≡ leaf_count n p w
count_end p n w = ap (leaf_count n p) (append-nil w)

abbrev pub place_of : Pair → List Pair → ℕ
place_of p ss = front_count (λ s. not (is_before p s)) ss

-- it is the leaf that it belongs to in its child
pub count_child :
    (p : Pair) (cs : List Seen) (ss : List Pair) (d : Seen) → length ss + 1 ≡ length cs → IsRising mark_before (weave cs ss)
    → leaf_count 0 p (weave cs ss) ≡ leaf_count 0 p (get_or cs (place_of p ss) d).marks
count_child p [] ss d e r = absurd (omega arith)
count_child p (c ∷ []) [] d e r = count_end p 0 c.marks
count_child p (c ∷ []) (s ∷ ss) d e r = absurd (omega arith)
count_child p (c ∷ b ∷ cs) [] d e r = absurd (omega arith)
count_child p (c ∷ b ∷ cs) (s ∷ ss) d e r =
    let j = rising_parts mark_before c.marks (Between s ∷ weave (b ∷ cs) ss) r in
    elim (cases_Bool (is_before p s)) [
      | inl up ↦ rw up (count_to p s 0 c.marks (weave (b ∷ cs) ss) up)
      | inr other ↦ rw other (count_past p s 0 c.marks (weave (b ∷ cs) ss) (λ t i. behind t (j.apart (Between t) (Between s) i (inl refl)) other) other
          ∙ count_child p (b ∷ cs) ss d (omega arith) j.right.1)
    ] where
      behind : (t : Pair) → is_before t s ≡ true → is_before p s ≡ false → is_before p t ≡ false
      behind t lt stop = elim (cases_Bool (is_before p t)) [
        | inl f ↦ absurd (both_ways _ stop (before-strict.onward p t s f lt))
        | inr f ↦ f
      ]

pub count_leaf : (p : Pair) (n : ℕ) (ps : List Pair) → leaf_count n p (items_of ps) ≡ n + length ps
count_leaf p n [] = omega arith
count_leaf p n (q ∷ ps) = count_leaf p (suc n) ps ∙ omega arith

-- ---- pairs that belong to one child

fronts : (p q : Pair) (ss : List Pair) → is_before q p ≡ false → place_of p ss ≤ place_of q ss
fronts p q [] h = omega arith
fronts p q (s ∷ ss) h = elim (cases_Bool (is_before p s)) [
  | inl e ↦ rw e (omega arith)
  | inr e ↦ rw (e, below e) (omega (arith, fronts p q ss h))
] where
  below : is_before p s ≡ false → is_before q s ≡ false
  below e = elim (cases_Bool (is_before q s)) [
    | inl f ↦ elim (cases_Bool (is_before p q)) [
      | inl g ↦ absurd (both_ways _ e (before-strict.onward p q s g f))
      | inr g ↦ absurd (both_ways _ e (subst (λ t. is_before t s ≡ true) (sym (before-strict.tied p q g h)) f))
    ]
    | inr f ↦ f
  ]

-- a pair that isn't before p, and is before the separator behind p's child, belongs to that child
pub same_place :
    (p q : Pair) (ss : List Pair) (place : ℕ) → place ≡ place_of p ss → is_before q p ≡ false → (place < length ss → is_before q (get_or ss place p) ≡ true)
    → place_of q ss ≡ place
same_place p q ss place e h k =
    let low : place ≤ place_of q ss = omega (arith, e, fronts p q ss h) in
    elim (cases_lt place (length ss)) [
      | inl within ↦
          let high : place_of q ss ≤ place = front_fails (λ s. not (is_before q s)) ss place p within (not_from_true _ (k within)) in
          omega arith
      | inr past ↦ let high = front_count-le-length (λ s. not (is_before q s)) ss in omega (arith, high)
    ]

in_at : (c : Change) (n : ℕ) (made rest : List Change) → length made < n → In c (take n (made ++ c ∷ rest))
in_at c zero made rest h = absurd (omega arith)
in_at c (suc n) [] rest h = inl refl
in_at c (suc n) (d ∷ made) rest h = inr (in_at c n made rest (omega arith))

-- ---- where the child stops, the fan does

wants_there :
    {fan : Fan Seen} {queue : List Change} {count : ℕ} {share : Share} (child : Seen) (made rest : List Change) (c : Change)
    → IsFanned fan → IsShare (separators_of fan) queue count share → AreInOrder (take count queue) → IsFanned (with_child fan share.place child)
    → queue ≡ made ++ c ∷ rest → length made < share.count → WantsSplit (c ∷ rest) child.marks
    → WantsSplit (c ∷ rest) (weave (children_of (with_child fan share.place child)) (separators_of fan))
wants_there {fan} {queue} {count} {share} child made rest c f s order kept is few w =
    let a = place f s in
    let I : List Change → Type 0 = λ cs. In c (take share.count cs) in
    let i : In c (take share.count queue) = subst I (sym is) (in_at c share.count made rest few) in
    let no : is_before c.pair (first_pair queue) ≡ false = none_before_first count queue no_change c order (in_more c share.count count queue s.few i) in
    let same : place_of c.pair (separators_of fan) ≡ share.place =
    same_place (first_pair queue) c.pair (separators_of fan) share.place (s.place no_change) no (λ within. s.before c i (first_pair queue) within) in
    let cs : List Seen = set (children_of fan) share.place child in
    let found : get_or cs (place_of c.pair (separators_of fan)) child ≡ child =
    ap (λ (n : ℕ). get_or cs n child) same ∙ get_or-set_same (children_of fan) share.place child child a.within in
    let b : Belong (c ∷ []) a.l a.r = belong_one f s order c i in (
      w.0,
      ap (has mark_before (Item c.pair)) (a.changed child)
          ∙ has-middle mark_before-strict (Item c.pair) a.l child.marks a.r (b.below c (inl refl)) (b.above c (inl refl)) ∙ w.1,
      count_child c.pair cs (separators_of fan) child kept.sound.between kept.rising ∙ ap (λ (d : Seen). leaf_count 0 c.pair d.marks) found ∙ w.2,
    )

pub stops_there :
    {fan : Fan Seen} {queue rest : List Change} {count : ℕ} {share : Share} {steps : Steps} (old child : Seen)
    → IsFanned fan → IsShare (separators_of fan) queue count share → AreInOrder (take count queue) → IsFanned (with_child fan share.place child)
    → Walked share.count old.marks child.marks queue rest steps → steps.taken < share.count → WantsSplit rest child.marks
    → WantsSplit rest (weave (children_of (with_child fan share.place child)) (separators_of fan))
stops_there {rest = []} old child f s order kept w h stop = absurd stop
stops_there {rest = c ∷ rest} old child f s order kept w h stop = wants_there child w.made rest c f s order kept w.queue_is (omega (arith, w.taken)) stop
