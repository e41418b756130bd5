-- A fan one of whose children was inserted into.
use Rattle.tree_nodes.specs.Fans.{children_of, separators_of}
use Rattle.std.proofs.Common.{◌≡◌, ℕ, suc, ◌+◌, ◌≤◌, List, ◌++◌, Option, Some, None, get_or, sym, ap, ◌∙◌, subst, arith}
use Rattle.std.proofs.Math.ListN.{set}
use Rattle.std.specs.List.{insert}
use Rattle.keybytes.specs.declared.pair.Pair.{Pair}
use Rattle.tree_nodes.specs.declared.fan.Fan.{Fan}
use Rattle.btree.specs.declared.node.Kind.{Kind}
use Rattle.btree.specs.declared.node.Kind.TheVariants as kind
use Rattle.btree.specs.declared.split.Split.{Split}
use Rattle.btree.specs.declared.spare.Spare.{Spare}
use Rattle.tree_nodes.specs.Lists.{IsRising, has}
use Rattle.tree_nodes.specs.Order.{is_before}
use Rattle.btree.specs.Marks.{Mark, Item, mark_before, items_of}
use Rattle.btree.specs.Seen.{Seen}
use Rattle.btree.specs.Weave.{weave, height_of, AllAt}
use Rattle.btree.specs.Nodes.{seen_kind, IsKind}
use Rattle.btree.specs.Grown.{GrownBy}
use Rattle.btree.specs.Splits.{marks_after, SplitAt, Inserted, IsUsed}
use Rattle.btree.proofs.MarksGrown.{grown_inside}
use Rattle.btree.proofs.Middles.{has-middle}
use Rattle.btree.proofs.MarkFacts.{mark_before-strict, has-items_of}
use Rattle.btree.proofs.Around.{Around}
use Rattle.btree.proofs.FanFacts.{AtLeaf, AtFan, AllAt-set, child_height}
use Rattle.btree.proofs.Removed.{with_child, fanned_with}

-- the child at that place, as it was and as it is
pub record Below (p : Pair) (seen : Seen) (fan : Fan Seen) (i : ℕ) (old new : Seen) (split : Option Split) : Type 0 where
  pub at : AtFan seen fan
  pub around : Around p (children_of fan) (separators_of fan) i
  pub old_is : old ≡ get_or (children_of fan) i old
  pub inserted : Inserted p old new split

module _ {p : Pair} {seen : Seen} {fan : Fan Seen} {i : ℕ} {old new : Seen} {split : Option Split} (b : Below p seen fan i old new split) where
  pub marks_is : seen.marks ≡ b.around.l ++ (old.marks ++ b.around.r)
  marks_is = b.at.marks ∙ b.around.is old ∙ ap (λ (c : Seen). b.around.l ++ (c.marks ++ b.around.r)) (sym b.old_is)

  pub height_is : old.height ≡ height_of (children_of fan)
  height_is = child_height b.at b.around old b.old_is

  pub grown : GrownBy p seen.marks (b.around.l ++ (marks_after new.marks split ++ b.around.r))
  grown =
      let R : List Mark → Type 0 = λ ms. IsRising mark_before ms in
      let G : List Mark → Type 0 = λ ms. GrownBy p ms (b.around.l ++ (marks_after new.marks split ++ b.around.r)) in
      subst G (sym marks_is) (grown_inside p b.around.l old.marks b.around.r (marks_after new.marks split) b.inserted.grown
      (subst R (sym b.at.marks ∙ marks_is) b.at.rising) b.around.below b.around.above)

  pub held : has mark_before (Item p) old.marks ≡ has mark_before (Item p) seen.marks
  held = sym (ap (has mark_before (Item p)) marks_is ∙ has-middle mark_before-strict (Item p) b.around.l old.marks b.around.r b.around.below b.around.above)

-- nothing was split off the child
pub record Stays (p : Pair) (seen : Seen) (new : Kind) : Type 0 where
  pub kept : IsKind new
  pub inserted : Inserted p seen (seen_kind new) None

pub stays :
    {p : Pair} {seen : Seen} {fan : Fan Seen} {i : ℕ} {old new : Seen} → Below p seen fan i old new None → Stays p seen (kind.Fan (with_child fan i new))
stays {p} {seen} {fan} {i} {old} {new} b =
    let g = grown b in
    let f = fanned_with b.at b.around new (b.inserted.height ∙ height_is b) g.rising in
    let G : List Mark → Type 0 = λ ms. GrownBy p seen.marks ms in
    record {
      kept = f.kept;
      inserted = record { grown = subst G (sym f.is) g; height = f.height; beside = tt };
    }

-- what the fan takes in beside the child
pub record TakesIn (fan : Fan Seen) (i : ℕ) (new : Seen) (split : Split) : Type 0 where
  pub rising : IsRising mark_before (weave (insert (set (children_of fan) i new) (i + 1) split.node) (insert (separators_of fan) i split.separator))
  pub level : AllAt split.node.height (set (children_of fan) i new)

pub split_is :
    {p : Pair} {seen : Seen} {fan : Fan Seen} {i : ℕ} {old new : Seen} {split : Split} → (b : Below p seen fan i old new (Some split))
    → weave (insert (set (children_of fan) i new) (i + 1) split.node) (insert (separators_of fan) i split.separator) ≡ b.around.l
    ++ (marks_after new.marks (Some split) ++ b.around.r)
split_is {p} {seen} {fan} {i} {old} {new} {split} b =
    let one : i + 1 ≡ suc i = omega arith in
    ap (λ (k : ℕ). weave (insert (set (children_of fan) i new) k split.node) (insert (separators_of fan) i split.separator)) one
    ∙ b.around.split new split.node split.separator

pub takes_in :
    {p : Pair} {seen : Seen} {fan : Fan Seen} {i : ℕ} {old new : Seen} {split : Split} → Below p seen fan i old new (Some split) → TakesIn fan i new split
takes_in {p} {seen} {fan} {i} {old} {new} {split} b =
    let R : List Mark → Type 0 = λ ms. IsRising mark_before ms in
    let beside : split.node.height ≡ old.height = b.inserted.beside in
    let same : height_of (children_of fan) ≡ split.node.height = sym (beside ∙ height_is b) in
    let L : ℕ → Type 0 = λ n. AllAt n (set (children_of fan) i new) in
    record {
      rising = subst R (sym (split_is b)) (grown b).rising;
      level = subst L same (AllAt-set (height_of (children_of fan)) (children_of fan) i new b.at.level (b.inserted.height ∙ height_is b));
    }

pub takes_split :
    {p : Pair} {seen : Seen} {fan : Fan Seen} {i : ℕ} {old new : Seen} {split : Split} → Below p seen fan i old new (Some split)
    → (after : Fan Seen) (result : Option Split)
    → marks_after (weave (children_of after) (separators_of after)) result
    ≡ weave (insert (set (children_of fan) i new) (i + 1) split.node) (insert (separators_of fan) i split.separator)
    → height_of (children_of after) ≡ split.node.height → SplitAt (suc split.node.height) result → Inserted p seen (seen_kind (kind.Fan after)) result
takes_split {p} {seen} {fan} {i} {old} {new} {split} b after result marks height side =
    let beside : split.node.height ≡ old.height = b.inserted.beside in
    let same : suc split.node.height ≡ seen.height = ap suc (beside ∙ height_is b) ∙ sym b.at.height in
    let G : List Mark → Type 0 = λ ms. GrownBy p seen.marks ms in
    let S : ℕ → Type 0 = λ n. SplitAt n result in
    record {
      grown = subst G (sym (marks ∙ split_is b)) (grown b);
      height = ap suc height ∙ same;
      beside = subst S same side;
    }

-- a leaf
pub leaf_inserted :
    {seen : Seen} {pairs : List Pair} → AtLeaf seen pairs → (p : Pair) (new : List Pair) (result : Option Split)
    → GrownBy p (items_of pairs) (marks_after (items_of new) result) → SplitAt 0 result → Inserted p seen (seen_kind (kind.Leaf new)) result
leaf_inserted {seen} {pairs} f p new result g side =
    let G : List Mark → Type 0 = λ ms. GrownBy p ms (marks_after (items_of new) result) in
    let S : ℕ → Type 0 = λ n. SplitAt n result in
    record { grown = subst G (sym f.marks) g; height = sym f.height; beside = subst S (sym f.height) side }

pub leaf_held : {seen : Seen} {pairs : List Pair} → AtLeaf seen pairs → (p : Pair) → has is_before p pairs ≡ has mark_before (Item p) seen.marks
leaf_held {seen} {pairs} f p = sym (ap (has mark_before (Item p)) f.marks ∙ has-items_of p pairs)

-- what is used
pub used_within : (old new : Spare) (n m : ℕ) → IsUsed old new n → n ≤ m → IsUsed old new m
used_within old new n m u h = record { leaf = u.leaf; blank = u.blank; used = omega (arith, u.used) }

pub used_both : (old mid new : Spare) (n m k : ℕ) → IsUsed old mid n → IsUsed mid new m → n + m ≤ k → IsUsed old new k
used_both old mid new n m k u v h = record { leaf = v.leaf; blank = v.blank; used = omega (arith, u.used, v.used) }

pub below_at :
    {p : Pair} {seen : Seen} {fan : Fan Seen} {i : ℕ} {old new : Seen} {was split : Option Split} → AtFan seen fan
    → Around p (children_of fan) (separators_of fan) i → old ≡ get_or (children_of fan) i old → Inserted p old new was → was ≡ split
    → Below p seen fan i old new split
below_at {p} {seen} {fan} {i} {old} {new} {was} {split} f a is g e =
    let I : Option Split → Type 0 = λ s. Inserted p old new s in
    record { at = f; around = a; old_is = is; inserted = subst I e g }
