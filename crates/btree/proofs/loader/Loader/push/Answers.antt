use Rattle.std.proofs.Common.{◌≡◌, ◌+◌, Option, refl, ◌++◌, [], ◌∷◌, List, length, length-append, ap, sym, ◌∙◌, subst, inr, arith}
use Rattle.keybytes.specs.declared.pair.Pair.{Pair}
use Rattle.keybytes.specs.Pairs.{AreOrdered}
use Rattle.tree_nodes.specs.Lists.{IsRising}
use Rattle.tree_nodes.specs.Order.{is_before}
use Rattle.tree_nodes.proofs.Strict.{pair_same}
use Rattle.btree.specs.declared.loader.Full.{Full}
use Rattle.btree.specs.Loading.{marks_behind, height_behind, leaves_behind, LevelsBehind}
use Rattle.btree.specs.Marks.{mark_before, items_of, pairs_in}
use Rattle.btree.specs.TreeValue.{Level, AreFilledAbove}
use Rattle.btree.proofs.LeavesIn.{full_after, above_leaves}
use Rattle.btree.proofs.Loads.{Started, pushed, started}
use Rattle.btree.proofs.Sets.{rises_of}
use Rattle.btree.proofs.TreeFacts.{deeper_height}
use Rattle.btree.proofs.loader.Loader.push.Goals as goal
use Rattle.btree.proofs.loader.Loader.push.Goals.{After-one_if}

-- the pairs so far and the next one rise
order : (was now : List Pair) (p : Pair) → was ≡ now → AreOrdered (now ++ p ∷ []) → IsRising is_before (was ++ p ∷ [])
order was now p is o = subst (λ ps. IsRising is_before (ps ++ p ∷ [])) (sym is) (rises_of (now ++ p ∷ []) o)

-- what was taken is what stood there
above :
    (was now : Option Full) (levels : List Level) → now ≡ was → LevelsBehind was
    → (LevelsBehind now → AreFilledAbove (length (leaves_behind now) + 1) levels) → AreFilledAbove (length (leaves_behind was) + 1) levels
above was now levels is h by =
    let B : Option Full → Type 0 = λ f. LevelsBehind f → AreFilledAbove (length (leaves_behind f) + 1) levels in
    subst B is by h

pub push-requires-clause-rise : goal.push-requires-clause-rise
push-requires-clause-rise c =
    (pushed (marks_behind c.self.inside.full) c.self.inside.leaf c.args.pair c.self.invariant.rising c.self.invariant.begun
    (order _ _ c.args.pair c.self.view_is c.requires)).leaf

pub invariant_of-self : goal.invariant_of-self
invariant_of-self c =
    let ms = marks_behind c.self.inside.full in
    let ps : List Pair = c.self.inside.leaf in
    let p = c.args.pair in
    let b = pushed ms ps p c.self.invariant.rising c.self.invariant.begun (order _ _ p c.self.view_is c.requires) in
    let R : List Pair → Type 0 = λ qs. IsRising mark_before (ms ++ items_of qs) in
    let is : c.push.new.self ≡ ps ++ p ∷ [] = c.push.ensures in
    let len : length (ps ++ p ∷ []) ≡ length ps + 1 = length-append ps (p ∷ []) in
    let all : length (pairs_in ms ++ c.push.new.self) ≡ length (pairs_in ms ++ ps) + 1 =
    ap length (ap (λ (qs : List Pair). pairs_in ms ++ qs) is ∙ b.pairs) ∙ length-append (pairs_in ms ++ ps) (p ∷ []) in
    record {
      rising = subst R (sym is) b.rising;
      begun = inr (omega (arith, ap length is, len));
      full = c.self.invariant.full;
      levels = c.self.invariant.levels;
      height_is = c.self.invariant.height_is;
      count_is = omega (arith, all, c.self.invariant.count_is, c.in-Some.ensures);
      tidy = c.self.invariant.tidy;
    }

-- what goes under the root is what stood behind it and the full leaf
under : (c : After-one_if) → c.append_under-root.result.root.marks ≡ marks_behind c.self.inside.full ++ items_of c.self.inside.leaf
under c =
    c.append_under-root.ensures.marks
    ∙ ap (λ (f : Option Full). marks_behind f ++ items_of c.replace-full.result) c.take.ensures.value
    ∙ ap (λ (qs : List Pair). marks_behind c.self.inside.full ++ items_of qs) c.replace-full.ensures.value

-- the leaf that is begun has the pair alone
begun :
    (c : After-one_if)
    → Started (marks_behind c.self.inside.full) c.append_under-root.result.root.marks c.self.inside.leaf c.args.pair
    (record { key = c.in_ok-clone.field-0; rid = c.args.pair.rid }) c.replace-full.new.dest
begun c =
    let alone : c.replace-full.new.dest ≡ c.args.pair ∷ [] =
    c.replace-full.ensures.after ∙ c.push-2.ensures ∙ ap (λ (qs : List Pair). qs ++ c.args.pair ∷ []) c.in_ok-leaf.ensures.empty in
    started _ _ c.self.inside.leaf c.args.pair _ _ c.self.invariant.rising c.self.invariant.begun (order _ _ c.args.pair c.self.view_is c.requires) (under c)
    (pair_same _ c.args.pair c.in_ok-clone.ensures.same refl) alone

pub invariant_of-self-2 : goal.invariant_of-self-2
invariant_of-self-2 c =
    let ps : List Pair = c.self.inside.leaf in
    let is = under (goal.at.invariant_of-self-2 c).After-one_if in
    let b = begun (goal.at.invariant_of-self-2 c).After-one_if in
    let all = ap length b.pairs ∙ length-append (pairs_in (marks_behind c.self.inside.full) ++ ps) (c.args.pair ∷ []) in
    let raised = c.append_under-root.ensures in
    record {
      rising = b.rising;
      begun = inr (omega (arith, b.one));
      full = full_after c.self.inside.full ps _ c.self.invariant.full (omega (arith, c.if-pairs-lt-LEAF_MAX.false, c.pairs.ensures.few, ap length c.pairs.ensures.pairs)) is;
      levels = above_leaves c.self.inside.full ps _ _ is (above _ _ _ c.take.ensures.value c.self.invariant.levels raised.levels);
      height_is =
          ap (λ n. n + c.one_if.result) (c.self.invariant.height_is ∙ ap height_behind (sym c.take.ensures.value))
          ∙ deeper_height _ _ _ _ raised.height.is c.one_if.ensures;
      count_is = omega (arith, all, c.self.invariant.count_is, c.in-Some.ensures);
      tidy = record { leaf = raised.used.leaf; blank = raised.used.blank };
    }

pub returns-clause-ok : goal.returns-clause-ok
returns-clause-ok c = (begun (goal.at.returns-clause-ok c).After-one_if).pairs ∙ ap (λ (qs : List Pair). qs ++ c.args.pair ∷ []) c.self.view_is
