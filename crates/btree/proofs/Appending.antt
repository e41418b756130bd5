-- Marks that are put behind all others of a fan: they go to its last child.
use Rattle.std.proofs.Common.{◌≡◌, ℕ, suc, ◌+◌, true, not, List, [], ◌∷◌, ◌++◌, Option, Some, None, Bool}
use Rattle.std.proofs.Common.{length, get_or, refl, sym, ap, ◌∙◌, subst, inl, inr, arith, append_assoc}
use Rattle.std.proofs.Math.ListN.{set}
use Rattle.std.proofs.lemmas.Bool.{not_from_false}
use Rattle.std.specs.List.{insert}
use Rattle.keybytes.specs.declared.pair.Pair.{Pair}
use Rattle.tree_nodes.specs.declared.fan.Fan.{Fan}
use Rattle.tree_nodes.specs.Fans.{children_of, separators_of}
use Rattle.tree_nodes.specs.Lists.{In, IsRising, front_count}
use Rattle.tree_nodes.specs.Lending.{with_child}
use Rattle.tree_nodes.specs.Order.{is_before}
use Rattle.tree_nodes.proofs.Places.{one_way}
use Rattle.tree_nodes.proofs.Rising.{rising_parts}
use Rattle.tree_nodes.proofs.Strict.{before-strict}
use Rattle.btree.specs.declared.node.Kind.{Kind}
use Rattle.btree.specs.declared.node.Kind.TheVariants as kind
use Rattle.btree.specs.declared.split.Split.{Split}
use Rattle.btree.specs.Marks.{Mark, Between, mark_before}
use Rattle.btree.specs.Nodes.{seen_kind, IsKind}
use Rattle.btree.specs.Seen.{Seen}
use Rattle.btree.specs.Splits.{marks_after, SplitAt, Appended}
use Rattle.btree.specs.Weave.{weave, height_of, AllAt}
use Rattle.btree.proofs.Around.{Around}
use Rattle.btree.proofs.FanFacts.{AtFan, in_weave, around_fan, AllAt-set, child_height}
use Rattle.btree.proofs.Removed.{fanned_with}

front_all : (test : Pair → Bool) (ps : List Pair) → ((p : Pair) → In p ps → test p ≡ true) → front_count test ps ≡ length ps
front_all test [] h = refl
front_all test (p ∷ ps) h = rw (h p (inl refl)) (ap suc (front_all test ps (λ q i. h q (inr i))))

-- the last child, and what stands in front of it
pub record AtEnd (p : Pair) (seen : Seen) (fan : Fan Seen) (i : ℕ) (more : List Mark) : Type 0 where
  pub at : AtFan seen fan
  pub around : Around p (children_of fan) (separators_of fan) i
  pub nothing : around.r ≡ []
  pub rising : IsRising mark_before (seen.marks ++ more)

pub at_end :
    {p : Pair} {seen : Seen} {fan : Fan Seen} {i : ℕ} {rest : List Mark} → AtFan seen fan → IsRising mark_before (seen.marks ++ Between p ∷ rest)
    → i + 1 ≡ length (children_of fan) → AtEnd p seen fan i (Between p ∷ rest)
at_end {p} {seen} {fan} {i} {rest} f rise e =
    let ss = separators_of fan in
    let few : length ss + 1 ≡ length (children_of fan) = f.sound.between in
    let apart : (s : Pair) → In s ss → not (is_before p s) ≡ true = λ s k.
    let I : List Mark → Type 0 = λ ms. In (Between s) ms in
    let there : In (Between s) seen.marks = subst I (sym f.marks) (in_weave s (children_of fan) ss (omega (arith, few)) k) in
    not_from_false _ (one_way before-strict s p ((rising_parts mark_before seen.marks (Between p ∷ rest) rise).apart (Between s) (Between p) there
    (inl refl))) in
    let all : front_count (λ s. not (is_before p s)) ss ≡ length ss = front_all (λ s. not (is_before p s)) ss apart in
    let a = around_fan f p i (omega (arith, all, few, e)) in
    record { at = f; around = a; nothing = a.last (omega (arith, few, e)); rising = rise }

append-nil : {X : Type 0} (xs : List X) → xs ++ [] ≡ xs
append-nil [] = refl
append-nil (x ∷ xs) = ap (λ ys. x ∷ ys) (append-nil xs)

moved : (l c r t : List Mark) → r ≡ [] → (l ++ (c ++ r)) ++ t ≡ l ++ ((c ++ t) ++ r)
moved l c r t e =
    ap (λ (u : List Mark). (l ++ (c ++ u)) ++ t) e
    ∙ ap (λ (u : List Mark). (l ++ u) ++ t) (append-nil c)
    ∙ append_assoc l c t
    ∙ ap (λ (u : List Mark). l ++ u) (sym (append-nil (c ++ t)))
    ∙ ap (λ (u : List Mark). l ++ ((c ++ t) ++ u)) (sym e)

module _ {p : Pair} {seen : Seen} {fan : Fan Seen} {i : ℕ} {more : List Mark} (b : AtEnd p seen fan i more) (old : Seen)
    (old_is : old ≡ get_or (children_of fan) i old) where
  pub whole : seen.marks ++ more ≡ b.around.l ++ ((old.marks ++ more) ++ b.around.r)
  whole =
      ap (λ (ms : List Mark). ms ++ more) (b.at.marks ∙ b.around.is old ∙ ap (λ (c : Seen). b.around.l ++ (c.marks ++ b.around.r)) (sym old_is))
      ∙ moved b.around.l old.marks b.around.r more b.nothing

  pub whole_rises : IsRising mark_before (b.around.l ++ ((old.marks ++ more) ++ b.around.r))
  whole_rises = let R : List Mark → Type 0 = λ ms. IsRising mark_before ms in subst R whole b.rising

  pub child_rises : IsRising mark_before (old.marks ++ more)
  child_rises = (rising_parts mark_before (old.marks ++ more) b.around.r
      (rising_parts mark_before b.around.l ((old.marks ++ more) ++ b.around.r) whole_rises).right).left

-- the last child, as it was and as it is
pub record Last (p : Pair) (seen : Seen) (fan : Fan Seen) (i : ℕ) (more : List Mark) (old new : Seen) (split : Option Split) : Type 0 where
  pub end : AtEnd p seen fan i more
  pub old_is : old ≡ get_or (children_of fan) i old
  pub appended : Appended more old new split

pub last_at :
    {p : Pair} {seen : Seen} {fan : Fan Seen} {i : ℕ} {more : List Mark} {old new : Seen} {was split : Option Split}
    → AtEnd p seen fan i more → old ≡ get_or (children_of fan) i old → Appended more old new was → was ≡ split → Last p seen fan i more old new split
last_at {p} {seen} {fan} {i} {more} {old} {new} {was} {split} b is g e =
    let I : Option Split → Type 0 = λ s. Appended more old new s in
    record { end = b; old_is = is; appended = subst I e g }

module _ {p : Pair} {seen : Seen} {fan : Fan Seen} {i : ℕ} {more : List Mark} {old new : Seen} {split : Option Split}
    (b : Last p seen fan i more old new split) where
  pub now_is : b.end.around.l ++ (marks_after new.marks split ++ b.end.around.r) ≡ seen.marks ++ more
  now_is =
      ap (λ (ms : List Mark). b.end.around.l ++ (ms ++ b.end.around.r)) b.appended.marks
      ∙ sym (whole b.end old b.old_is)

  pub now_rises : IsRising mark_before (b.end.around.l ++ (marks_after new.marks split ++ b.end.around.r))
  now_rises = let R : List Mark → Type 0 = λ ms. IsRising mark_before ms in subst R (sym now_is) b.end.rising

  pub new_height : new.height ≡ height_of (children_of fan)
  new_height = b.appended.height ∙ child_height b.end.at b.end.around old b.old_is

-- nothing was split off the child
pub record Ends (more : List Mark) (seen : Seen) (new : Kind) : Type 0 where
  pub kept : IsKind new
  pub appended : Appended more seen (seen_kind new) None

pub ends :
    {p : Pair} {seen : Seen} {fan : Fan Seen} {i : ℕ} {more : List Mark} {old new : Seen} → Last p seen fan i more old new None
    → Ends more seen (kind.Fan (with_child fan i new))
ends {p} {seen} {fan} {i} {more} {old} {new} b =
    let f = fanned_with b.end.at b.end.around new (new_height b) (now_rises b) in
    record {
      kept = f.kept;
      appended = record { marks = f.is ∙ now_is b; height = f.height; beside = tt };
    }

-- what the fan takes in behind the child
pub record TakesLast (fan : Fan Seen) (i : ℕ) (new : Seen) (split : Split) : Type 0 where
  pub rising : IsRising mark_before (weave (insert (set (children_of fan) i new) (i + 1) split.node) (insert (separators_of fan) i split.separator))
  pub level : AllAt split.node.height (set (children_of fan) i new)

split_is :
    {p : Pair} {seen : Seen} {fan : Fan Seen} {i : ℕ} {more : List Mark} {old new : Seen} {split : Split}
    → (b : Last p seen fan i more old new (Some split))
    → weave (insert (set (children_of fan) i new) (i + 1) split.node) (insert (separators_of fan) i split.separator)
    ≡ b.end.around.l ++ (marks_after new.marks (Some split) ++ b.end.around.r)
split_is {p} {seen} {fan} {i} {more} {old} {new} {split} b =
    let one : i + 1 ≡ suc i = omega arith in
    ap (λ (k : ℕ). weave (insert (set (children_of fan) i new) k split.node) (insert (separators_of fan) i split.separator)) one
    ∙ b.end.around.split new split.node split.separator

pub takes_last :
    {p : Pair} {seen : Seen} {fan : Fan Seen} {i : ℕ} {more : List Mark} {old new : Seen} {split : Split}
    → Last p seen fan i more old new (Some split) → TakesLast fan i new split
takes_last {p} {seen} {fan} {i} {more} {old} {new} {split} b =
    let R : List Mark → Type 0 = λ ms. IsRising mark_before ms in
    let beside : split.node.height ≡ old.height = b.appended.beside in
    let same : height_of (children_of fan) ≡ split.node.height = sym (beside ∙ child_height b.end.at b.end.around old b.old_is) in
    let L : ℕ → Type 0 = λ n. AllAt n (set (children_of fan) i new) in
    record {
      rising = subst R (sym (split_is b)) (now_rises b);
      level = subst L same (AllAt-set (height_of (children_of fan)) (children_of fan) i new b.end.at.level (new_height b));
    }

pub ends_split :
    {p : Pair} {seen : Seen} {fan : Fan Seen} {i : ℕ} {more : List Mark} {old new : Seen} {split : Split}
    → Last p seen fan i more old new (Some split) → (after : Fan Seen) (result : Option Split)
    → marks_after (weave (children_of after) (separators_of after)) result
    ≡ weave (insert (set (children_of fan) i new) (i + 1) split.node) (insert (separators_of fan) i split.separator)
    → height_of (children_of after) ≡ split.node.height → SplitAt (suc split.node.height) result
    → Appended more seen (seen_kind (kind.Fan after)) result
ends_split {p} {seen} {fan} {i} {more} {old} {new} {split} b after result marks height side =
    let beside : split.node.height ≡ old.height = b.appended.beside in
    let same : suc split.node.height ≡ seen.height = ap suc (beside ∙ child_height b.end.at b.end.around old b.old_is) ∙ sym b.end.at.height in
    let S : ℕ → Type 0 = λ n. SplitAt n result in
    record {
      marks = marks ∙ split_is b ∙ now_is b;
      height = ap suc height ∙ same;
      beside = subst S same side;
    }

-- what is put behind a leaf stands beside it
pub leaf_ends :
    (seen now node : Seen) (separator : Pair) (more : List Mark) → now ≡ seen → seen.height ≡ 0 → node.marks ≡ more → node.height ≡ 0
    → Appended (Between separator ∷ more) seen now (Some (record { separator = separator; node = node }))
leaf_ends seen now node separator more same h marks height = record {
  marks = ap (λ (s : Seen). s.marks ++ Between separator ∷ node.marks) same ∙ ap (λ (ms : List Mark). seen.marks ++ Between separator ∷ ms) marks;
  height = ap (λ (s : Seen). s.height) same;
  beside = height ∙ sym h;
}
