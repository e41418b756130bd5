-- A fan one of whose children changes were made in.
use Rattle.std.proofs.Common.{◌≡◌, ℕ, ◌+◌, ◌≤◌, true, false, List, [], ◌∷◌, ◌++◌, length, take, get_or, refl, sym, ap, ◌∙◌, subst, inl, inr, arith, length-append}
use Rattle.std.proofs.lemmas.Bool.{cases_Bool, cases_lt}
use Rattle.keybytes.specs.declared.pair.Pair.{Pair}
use Rattle.tree_nodes.specs.declared.fan.Fan.{Fan}
use Rattle.tree_nodes.specs.Fans.{children_of, separators_of}
use Rattle.tree_nodes.specs.Lists.{In, IsRising}
use Rattle.tree_nodes.specs.Order.{is_before, PairsRise}
use Rattle.tree_nodes.proofs.Rising.{rising_parts}
use Rattle.tree_nodes.proofs.Strict.{before-strict}
use Rattle.btree.specs.declared.change.Change.{Change}
use Rattle.btree.specs.declared.change.Steps.{Steps}
use Rattle.btree.specs.declared.node.Kind.TheVariants as kind
use Rattle.btree.specs.declared.walking.Share.{Share}
use Rattle.btree.specs.Changes.{AreInOrder, marks_changed, Walked, IsShare}
use Rattle.btree.specs.Marks.{Mark, Item, Between, mark_before, pairs_in}
use Rattle.btree.specs.Nodes.{seen_kind, IsFanned}
use Rattle.btree.specs.Seen.{Seen}
use Rattle.btree.specs.Weave.{weave, height_of}
use Rattle.btree.proofs.Around.{Around}
use Rattle.btree.proofs.Changing.{Belong, rising_changed, changed-middle}
use Rattle.btree.proofs.FanFacts.{AtFan, at_fan, around_fan, child_height}
use Rattle.btree.proofs.MarkFacts.{mark_before-strict, pairs_in-append}
use Rattle.btree.proofs.Ordered.{in_more, in_front, none_before_first}
use Rattle.btree.proofs.Removed.{with_child, fanned_with}

-- what is before a pair is before one that isn't before it
still_below : (y : Mark) (p q : Pair) → mark_before y (Item p) ≡ true → is_before q p ≡ false → mark_before y (Item q) ≡ true
still_below y p q e f = elim (cases_Bool (is_before p q)) [
  | inl up ↦ mark_before-strict.onward y (Item p) (Item q) e up
  | inr other ↦ subst (λ t. mark_before y (Item t) ≡ true) (before-strict.tied p q other f) e
]

-- some change, where a list has none
abbrev pub no_change : Change
no_change = record { puts_in = false; pair = record { key = []; rid = record { page = 0; slot = 0 } } }

abbrev no_child : Seen
no_child = record { marks = []; height = 0; levels = [] }

abbrev pub first_pair : List Change → Pair
first_pair queue = (get_or queue 0 no_change).pair

-- the separators of a fan rise
pub fan_ordered : {fan : Fan Seen} → IsFanned fan → PairsRise (separators_of fan)
fan_ordered {fan} f = let a : AtFan (seen_kind (kind.Fan fan)) fan = at_fan refl f refl in a.ordered

module _ {fan : Fan Seen} {queue : List Change} {count : ℕ} {share : Share} (f : IsFanned fan) (s : IsShare (separators_of fan) queue count share) where
  pub here : AtFan (seen_kind (kind.Fan fan)) fan
  here = at_fan refl f refl

  pub place : Around (first_pair queue) (children_of fan) (separators_of fan) share.place
  place = around_fan here (first_pair queue) share.place (s.place no_change)

  weave_is : weave (children_of fan) (separators_of fan) ≡ place.l ++ ((get_or (children_of fan) share.place no_child).marks ++ place.r)
  weave_is = place.is no_child

  rising_right : IsRising mark_before place.r
  rising_right =
      let R : List Mark → Type 0 = λ ms. IsRising mark_before ms in
      let outer = rising_parts mark_before place.l _ (subst R weave_is f.rising) in
      (rising_parts mark_before (get_or (children_of fan) share.place no_child).marks place.r outer.right).right

  above : (c : Change) → In c (take share.count queue) → (y : Mark) → In y place.r → mark_before (Item c.pair) y ≡ true
  above c i y j = elim (cases_lt share.place (length (separators_of fan))) [
    | inl within ↦
        let m = place.more c.pair within in
        let t : Pair = get_or (separators_of fan) share.place c.pair in
        let up : is_before c.pair t ≡ true = s.before c i c.pair within in
        let R : List Mark → Type 0 = λ ms. IsRising mark_before ms in
        let I : List Mark → Type 0 = λ ms. In y ms in
        elim (subst I m.1 j) [
          | inl is ↦ rw is up
          | inr k ↦ mark_before-strict.onward (Item c.pair) (Between t) y up ((subst R m.1 rising_right).0 y k)
        ]
    | inr past ↦ let I : List Mark → Type 0 = λ ms. In y ms in absurd (subst I (place.last past) j)
  ]

  -- the changes of a share belong to its child
  pub belong_each : AreInOrder (take count queue) → (cs : List Change) → ((c : Change) → In c cs → In c (take share.count queue)) → Belong cs place.l place.r
  belong_each order cs there = record {
    below = λ c i y j. still_below y (first_pair queue) c.pair (place.below y j)
        (none_before_first count queue no_change c order (in_more c share.count count queue s.few (there c i)));
    above = λ c i y j. above c (there c i) y j;
  }

  pub belong : AreInOrder (take count queue) → (made rest : List Change) → queue ≡ made ++ rest → length made ≤ share.count → Belong made place.l place.r
  belong order made rest is few =
      let there : (c : Change) → In c made → In c (take share.count queue) = λ c i.
      let I : List Change → Type 0 = λ cs. In c (take share.count cs) in subst I (sym is) (in_front c share.count made rest few i) in
      belong_each order made there

  pub belong_one : AreInOrder (take count queue) → (c : Change) → In c (take share.count queue) → Belong (c ∷ []) place.l place.r
  belong_one order c i = belong_each order (c ∷ []) (λ d j. elim j [ inl is ↦ rw is i | inr k ↦ absurd k ])

-- how many pairs stand in the middle
count_middle : (l w v r : List Mark) (a b : ℕ) → length (pairs_in v) + b ≡ length (pairs_in w) + a
    → length (pairs_in (l ++ (v ++ r))) + b ≡ length (pairs_in (l ++ (w ++ r))) + a
count_middle l w v r a b h =
    let x : length (pairs_in (l ++ (v ++ r))) ≡ length (pairs_in l) + (length (pairs_in v) + length (pairs_in r)) = count_parts l v r in
    let y : length (pairs_in (l ++ (w ++ r))) ≡ length (pairs_in l) + (length (pairs_in w) + length (pairs_in r)) = count_parts l w r in
    omega (arith, x, y, h) where
      count_two : (l r : List Mark) → length (pairs_in (l ++ r)) ≡ length (pairs_in l) + length (pairs_in r)
      count_two l r = ap length (pairs_in-append l r) ∙ length-append (pairs_in l) (pairs_in r)

      count_parts : (l w r : List Mark) → length (pairs_in (l ++ (w ++ r))) ≡ length (pairs_in l) + (length (pairs_in w) + length (pairs_in r))
      count_parts l w r = count_two l (w ++ r) ∙ ap (λ (n : ℕ). length (pairs_in l) + n) (count_two w r)

pub record Turned (fan new : Fan Seen) (count : ℕ) (queue rest : List Change) (steps : Steps) : Type 0 where
  pub kept : IsFanned new
  pub walked : Walked count (weave (children_of fan) (separators_of fan)) (weave (children_of new) (separators_of new)) queue rest steps
  pub height : height_of (children_of new) ≡ height_of (children_of fan)

-- changes were made in one child
pub turned :
    {fan : Fan Seen} {queue rest : List Change} {count : ℕ} {share : Share} {steps : Steps} (old child : Seen)
    → IsFanned fan → IsShare (separators_of fan) queue count share → AreInOrder (take count queue)
    → old ≡ get_or (children_of fan) share.place old → Walked share.count old.marks child.marks queue rest steps → child.height ≡ old.height
    → Turned fan (with_child fan share.place child) count queue rest steps
turned {fan} {queue} {rest} {count} {share} {steps} old child f s order is w height =
    let a = place f s in
    let now : weave (children_of fan) (separators_of fan) ≡ a.l ++ (old.marks ++ a.r) =
    a.is old ∙ ap (λ (c : Seen). a.l ++ (c.marks ++ a.r)) (sym is) in
    let b : Belong w.made a.l a.r = belong f s order w.made rest w.queue_is (omega (arith, w.taken, w.within)) in
    let marks : marks_changed w.made (weave (children_of fan) (separators_of fan)) ≡ a.l ++ (child.marks ++ a.r) =
    ap (marks_changed w.made) now ∙ changed-middle w.made a.l old.marks a.r b ∙ ap (λ (ms : List Mark). a.l ++ (ms ++ a.r)) (sym w.marks) in
    let R : List Mark → Type 0 = λ ms. IsRising mark_before ms in
    let same : child.height ≡ height_of (children_of fan) = height ∙ child_height (here f s) a old is in
    let new = fanned_with (here f s) a child same (subst R marks (rising_changed w.made (weave (children_of fan) (separators_of fan)) f.rising)) in
    record {
      kept = new.kept;
      walked = record {
        made = w.made;
        queue_is = w.queue_is;
        marks = new.is ∙ sym marks;
        taken = w.taken;
        within = omega (arith, w.within, s.few);
        counted =
            rw (new.is, now) (count_middle a.l old.marks child.marks a.r steps.added steps.removed w.counted);
        few_added = w.few_added;
        few_removed = w.few_removed;
      };
      height = omega (arith, new.height);
    }
