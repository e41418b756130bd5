-- What a removal leaves of a node.
use Rattle.std.proofs.Common.{◌≡◌, ℕ, suc, List, ◌++◌, length, get_or, sym, ap, ◌∙◌, subst, arith}
use Rattle.std.proofs.Math.ListN.{set, length-set}
use Rattle.std.specs.Vec.{with_item}
use Rattle.keybytes.specs.declared.pair.Pair.{Pair}
use Rattle.tree_nodes.specs.declared.fan.Fan.{Fan}
use Rattle.btree.specs.declared.node.Kind.{Kind}
use Rattle.btree.specs.declared.node.Kind.TheVariants as kind
use Rattle.tree_nodes.specs.Lists.{IsRising, without}
use Rattle.tree_nodes.specs.Order.{is_before}
use Rattle.btree.specs.Marks.{Mark, Item, mark_before, items_of}
use Rattle.btree.specs.Seen.{Seen}
use Rattle.tree_nodes.specs.Fans.{children_of, separators_of, IsFan}
use Rattle.btree.specs.Weave.{weave, height_of, AllAt}
use Rattle.btree.specs.Nodes.{seen_kind, IsKind, IsFanned}
use Rattle.tree_nodes.proofs.Rising.{rising_without}
use Rattle.btree.proofs.Middles.{without-middle}
use Rattle.btree.proofs.MarkFacts.{mark_before-strict, without-items_of}
use Rattle.btree.proofs.Around.{Around}
use Rattle.btree.proofs.FanFacts.{AtLeaf, AtFan, AllAt-set, child_height, height_of-all}

-- the fan with another child at that place
abbrev pub with_child : Fan Seen → ℕ → Seen → Fan Seen
with_child fan i child = record fan { children = with_item fan.children i child }

pub sound_with : (fan : Fan Seen) (i : ℕ) (child : Seen) → IsFan fan → IsFan (with_child fan i child)
sound_with fan i child f =
    let e : length (set (children_of fan) i child) ≡ length (children_of fan) = length-set _ _ _ in
    record {
      some = omega (arith, e, f.some);
      few = omega (arith, e, f.few);
      between = f.between ∙ sym e;
      children_room = f.children_room;
    }

-- another child of the same height
pub record Fanned (seen : Seen) (fan : Fan Seen) (marks : List Mark) : Type 0 where
  pub kept : IsFanned fan
  pub is : weave (children_of fan) (separators_of fan) ≡ marks
  pub height : suc (height_of (children_of fan)) ≡ seen.height

pub fanned_with :
    {seen : Seen} {fan : Fan Seen} {p : Pair} {i : ℕ} → AtFan seen fan → (a : Around p (children_of fan) (separators_of fan) i) → (child : Seen)
    → child.height ≡ height_of (children_of fan) → IsRising mark_before (a.l ++ (child.marks ++ a.r))
    → Fanned seen (with_child fan i child) (a.l ++ (child.marks ++ a.r))
fanned_with {seen} {fan} {p} {i} f a child h rise =
    let sound = sound_with fan i child f.sound in
    let all = AllAt-set (height_of (children_of fan)) (children_of fan) i child f.level h in
    let top : height_of (set (children_of fan) i child) ≡ height_of (children_of fan) = height_of-all _ _ all sound.some in
    let P : ℕ → Type 0 = λ n. AllAt n (set (children_of fan) i child) in
    let Q : List Mark → Type 0 = λ ms. IsRising mark_before ms in
    record {
      kept = record { sound = sound; rising = subst Q (sym (a.changed child)) rise; level = subst P (sym top) all };
      is = a.changed child;
      height = ap suc top ∙ sym f.height;
    }

pub record Removed (p : Pair) (old : Seen) (new : Kind) : Type 0 where
  pub kept : IsKind new
  pub marks : (seen_kind new).marks ≡ without mark_before (Item p) old.marks
  pub height : (seen_kind new).height ≡ old.height

pub removed_leaf :
    {seen : Seen} {pairs : List Pair} → AtLeaf seen pairs → (p : Pair) (new : List Pair) → new ≡ without is_before p pairs → Removed p seen (kind.Leaf new)
removed_leaf {seen} {pairs} f p new e =
    let m : items_of new ≡ without mark_before (Item p) (items_of pairs) = ap items_of e ∙ sym (without-items_of p pairs) in
    let Q : List Mark → Type 0 = λ ms. IsRising mark_before ms in
    record {
      kept = subst Q (sym m) (rising_without mark_before (Item p) (items_of pairs) f.rising);
      marks = m ∙ ap (without mark_before (Item p)) (sym f.marks);
      height = sym f.height;
    }

pub removed_fan :
    {seen : Seen} {fan : Fan Seen} {p : Pair} {i : ℕ} → AtFan seen fan → Around p (children_of fan) (separators_of fan) i → (old child : Seen)
    → old ≡ get_or (children_of fan) i old → child.marks ≡ without mark_before (Item p) old.marks → child.height ≡ old.height
    → Removed p seen (kind.Fan (with_child fan i child))
removed_fan {seen} {fan} {p} {i} f a old child is marks height =
    let at : weave (children_of fan) (separators_of fan) ≡ a.l ++ (old.marks ++ a.r) = a.is old ∙ ap (λ (c : Seen). a.l ++ (c.marks ++ a.r)) (sym is) in
    let whole : without mark_before (Item p) (weave (children_of fan) (separators_of fan)) ≡ a.l ++ (child.marks ++ a.r) =
    ap (without mark_before (Item p)) at ∙ without-middle mark_before-strict (Item p) a.l old.marks a.r a.below a.above
    ∙ ap (λ ms. a.l ++ (ms ++ a.r)) (sym marks) in
    let Q : List Mark → Type 0 = λ ms. IsRising mark_before ms in
    let new = fanned_with f a child (height ∙ child_height f a old is) (subst Q whole (rising_without mark_before (Item p) (weave (children_of fan) (separators_of fan)) f.rising)) in
    record {
      kept = new.kept;
      marks = new.is ∙ sym whole ∙ ap (without mark_before (Item p)) (sym f.marks);
      height = new.height;
    }
