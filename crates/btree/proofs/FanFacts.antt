-- A node that is a leaf, and one that is a fan.
use Rattle.std.proofs.Common.{◌≡◌, ℕ, zero, suc, ◌+◌, ◌<◌, ◌≤◌, not, List, [], ◌∷◌, ◌++◌, length, get_or, take, drop, sym, ap, ◌∙◌, subst, inl, inr, arith}
use Rattle.std.proofs.Math.ListN.{set}
use Rattle.std.specs.List.{insert}
use Rattle.keybytes.specs.declared.pair.Pair.{Pair}
use Rattle.tree_nodes.specs.declared.fan.Fan.{Fan}
use Rattle.btree.specs.declared.node.Kind.{Kind}
use Rattle.btree.specs.declared.node.Kind.TheVariants as kind
use Rattle.tree_nodes.specs.Lists.{In, IsRising, front_count}
use Rattle.tree_nodes.specs.Order.{is_before, PairsRise}
use Rattle.btree.specs.Marks.{Between, mark_before, items_of}
use Rattle.btree.specs.Seen.{Seen}
use Rattle.tree_nodes.specs.Fans.{children_of, separators_of, IsFan}
use Rattle.btree.specs.Weave.{weave, height_of, AllAt}
use Rattle.btree.specs.Levels.{levels_over}
use Rattle.btree.specs.Nodes.{seen_kind, IsKind, IsFanned}
use Rattle.tree_nodes.proofs.Rising.{in_right, rising_parts}
use Rattle.btree.proofs.Around.{Around, around}

-- the separators stand in the weave
pub in_weave : (t : Pair) (cs : List Seen) (ss : List Pair) → length ss ≤ length cs → In t ss → In (Between t) (weave cs ss)
in_weave t cs [] e h = absurd h
in_weave t [] (s ∷ ss) e h = absurd (omega arith)
in_weave t (c ∷ cs) (s ∷ ss) e h = elim h [
  | inl is ↦ in_right (Between t) c.marks _ (inl (ap Between is))
  | inr i ↦ in_right (Between t) c.marks _ (inr (in_weave t cs ss (omega arith) i))
]

rising_separators : (cs : List Seen) (ss : List Pair) → length ss ≤ length cs → IsRising mark_before (weave cs ss) → IsRising is_before ss
rising_separators cs [] e r = tt
rising_separators [] (s ∷ ss) e r = absurd (omega arith)
rising_separators (c ∷ cs) (s ∷ ss) e r =
    let j = rising_parts mark_before c.marks (Between s ∷ weave cs ss) r in
    ((λ t i. j.right.0 (Between t) (in_weave t cs ss (omega arith) i)), rising_separators cs ss (omega arith) j.right.1)

AllAt-get : (h : ℕ) (cs : List Seen) (i : ℕ) (d : Seen) → AllAt h cs → i < length cs → (get_or cs i d).height ≡ h
AllAt-get h [] i d a e = absurd (omega arith)
AllAt-get h (c ∷ cs) zero d a e = a.0
AllAt-get h (c ∷ cs) (suc i) d a e = AllAt-get h cs i d a.1 (omega arith)

pub AllAt-set : (h : ℕ) (cs : List Seen) (i : ℕ) (c : Seen) → AllAt h cs → c.height ≡ h → AllAt h (set cs i c)
AllAt-set h [] i c a e = tt
AllAt-set h (b ∷ cs) zero c a e = (e, a.1)
AllAt-set h (b ∷ cs) (suc i) c a e = (a.0, AllAt-set h cs i c a.1 e)

pub AllAt-append : (h : ℕ) (cs ds : List Seen) → AllAt h cs → AllAt h ds → AllAt h (cs ++ ds)
AllAt-append h [] ds a b = b
AllAt-append h (c ∷ cs) ds a b = (a.0, AllAt-append h cs ds a.1 b)

pub AllAt-take : (h : ℕ) (n : ℕ) (cs : List Seen) → AllAt h cs → AllAt h (take n cs)
AllAt-take h zero cs a = tt
AllAt-take h (suc n) [] a = tt
AllAt-take h (suc n) (c ∷ cs) a = (a.0, AllAt-take h n cs a.1)

pub AllAt-drop : (h : ℕ) (n : ℕ) (cs : List Seen) → AllAt h cs → AllAt h (drop n cs)
AllAt-drop h zero cs a = a
AllAt-drop h (suc n) [] a = tt
AllAt-drop h (suc n) (c ∷ cs) a = AllAt-drop h n cs a.1

pub AllAt-insert : (h : ℕ) (i : ℕ) (cs : List Seen) (c : Seen) → AllAt h cs → c.height ≡ h → AllAt h (insert cs i c)
AllAt-insert h i cs c a e = AllAt-append h (take i cs) (c ∷ drop i cs) (AllAt-take h i cs a) (e, AllAt-drop h i cs a)

pub height_of-all : (h : ℕ) (cs : List Seen) → AllAt h cs → 1 ≤ length cs → height_of cs ≡ h
height_of-all h [] a e = absurd (omega arith)
height_of-all h (c ∷ cs) a e = a.0

pub record AtLeaf (seen : Seen) (pairs : List Pair) : Type 0 where
  pub marks : seen.marks ≡ items_of pairs
  pub height : seen.height ≡ 0
  pub levels : seen.levels ≡ []
  pub rising : IsRising mark_before (items_of pairs)

pub at_leaf : {k : Kind} {seen : Seen} {pairs : List Pair} → seen_kind k ≡ seen → IsKind k → k ≡ kind.Leaf pairs → AtLeaf seen pairs
at_leaf {k} {seen} {pairs} view_is sound is =
    let e : seen ≡ seen_kind (kind.Leaf pairs) = sym view_is ∙ ap seen_kind is in
    record {
      marks = ap (λ (s : Seen). s.marks) e;
      height = ap (λ (s : Seen). s.height) e;
      levels = ap (λ (s : Seen). s.levels) e;
      rising = subst IsKind is sound;
    }

pub record AtFan (seen : Seen) (fan : Fan Seen) : Type 0 where
  pub marks : seen.marks ≡ weave (children_of fan) (separators_of fan)
  pub height : seen.height ≡ suc (height_of (children_of fan))
  pub levels : seen.levels ≡ levels_over (children_of fan)
  pub sound : IsFan fan
  pub rising : IsRising mark_before (weave (children_of fan) (separators_of fan))
  pub level : AllAt (height_of (children_of fan)) (children_of fan)
  pub ordered : PairsRise (separators_of fan)

pub at_fan : {k : Kind} {seen : Seen} {fan : Fan Seen} → seen_kind k ≡ seen → IsKind k → k ≡ kind.Fan fan → AtFan seen fan
at_fan {k} {seen} {fan} view_is kept is =
    let e : seen ≡ seen_kind (kind.Fan fan) = sym view_is ∙ ap seen_kind is in
    let f : IsFanned fan = subst IsKind is kept in
    let b : length (separators_of fan) + 1 ≡ length (children_of fan) = f.sound.between in
    record {
      marks = ap (λ (s : Seen). s.marks) e;
      height = ap (λ (s : Seen). s.height) e;
      levels = ap (λ (s : Seen). s.levels) e;
      sound = f.sound;
      rising = f.rising;
      level = f.level;
      ordered = record { rising = rising_separators (children_of fan) (separators_of fan) (omega arith) f.rising };
    }

pub around_fan :
    {seen : Seen} {fan : Fan Seen} → AtFan seen fan → (p : Pair) (i : ℕ) → i ≡ front_count (λ s. not (is_before p s)) (separators_of fan)
    → Around p (children_of fan) (separators_of fan) i
around_fan {seen} {fan} f p i e = rw e (around p (children_of fan) (separators_of fan) f.sound.between f.rising)

-- all children are of one height
pub child_height :
    {seen : Seen} {fan : Fan Seen} {p : Pair} {i : ℕ} → AtFan seen fan → Around p (children_of fan) (separators_of fan) i → (child : Seen)
    → child ≡ get_or (children_of fan) i child → child.height ≡ height_of (children_of fan)
child_height f a child is = ap (λ (s : Seen). s.height) is ∙ AllAt-get _ _ _ _ f.level a.within

pub rising_kind : (k : Kind) → IsKind k → IsRising mark_before (seen_kind k).marks
rising_kind (kind.Leaf pairs) h = h
rising_kind (kind.Fan fan) h = h.rising
