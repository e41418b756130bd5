-- Changes that are made in a leaf.
use Rattle.std.proofs.Common.{◌≡◌, ℕ, ◌+◌, ◌<◌, ◌≤◌, Bool, true, false, cond, List, [], ◌∷◌, length, get_or, refl, sym, ap, ◌∙◌, subst, arith}
use Rattle.keybytes.specs.declared.pair.Pair.{Pair}
use Rattle.tree_nodes.specs.Lists.{IsRising, has, put, without}
use Rattle.tree_nodes.specs.Order.{is_before, PairsRise}
use Rattle.tree_nodes.proofs.Strict.{before-strict}
use Rattle.btree.specs.declared.change.Change.{Change}
use Rattle.btree.specs.declared.change.Steps.{Steps}
use Rattle.btree.specs.Changes.{leaf_count, WantsSplit, Walked}
use Rattle.btree.specs.Marks.{Mark, Item, mark_before, items_of, pairs_in}
use Rattle.btree.specs.Seen.{Seen}
use Rattle.btree.proofs.Changing.{rising_changed, put-items_of}
use Rattle.btree.proofs.FanFacts.{AtLeaf}
use Rattle.btree.proofs.MarkFacts.{has-items_of, without-items_of, pairs_in-items_of}
use Rattle.btree.proofs.Stops.{count_leaf}
use Rattle.btree.proofs.TreeFacts.{length-without, length-put}

count_items : (ps : List Pair) → length (pairs_in (items_of ps)) ≡ length ps
count_items ps = ap length (pairs_in-items_of ps)

few_cond : (b : Bool) → cond b 1 0 ≤ 1
few_cond true = omega arith
few_cond false = omega arith

-- a pair is taken out
pub leaf_out :
    (c : Change) (queue rest : List Change) (ps new : List Pair) (found : Bool) (one : ℕ) → queue ≡ c ∷ rest → c.puts_in ≡ false
    → new ≡ without is_before c.pair ps → found ≡ has is_before c.pair ps → one ≡ cond found 1 0
    → Walked 1 (items_of ps) (items_of new) queue rest (record { taken = 1; added = 0; removed = one })
leaf_out c queue rest ps new found one is out e f o =
    let same : one ≡ cond (has is_before c.pair ps) 1 0 = o ∙ ap (λ (b : Bool). cond b 1 0) f in
    record {
      made = c ∷ [];
      queue_is = is;
      marks = rw out (ap items_of e ∙ sym (without-items_of c.pair ps));
      taken = refl;
      within = omega arith;
      counted = omega (arith, count_items new, count_items ps, ap length e, length-without is_before c.pair ps, same);
      few_added = omega arith;
      few_removed = omega (arith, few_cond found, o);
    }

-- a pair is put in that wasn't there
pub leaf_in :
    (c : Change) (queue rest : List Change) (ps new : List Pair) → queue ≡ c ∷ rest → c.puts_in ≡ true → PairsRise ps
    → has is_before c.pair ps ≡ false → new ≡ put is_before c.pair ps
    → Walked 1 (items_of ps) (items_of new) queue rest (record { taken = 1; added = 1; removed = 0 })
leaf_in c queue rest ps new is puts rise absent e =
    let more : length (put is_before c.pair ps) ≡ length ps + 1 = rw absent at (length-put before-strict c.pair ps rise.rising) in
    record {
      made = c ∷ [];
      queue_is = is;
      marks = rw puts (ap items_of e ∙ sym (put-items_of c.pair ps));
      taken = refl;
      within = omega arith;
      counted = omega (arith, count_items new, count_items ps, ap length e, more);
      few_added = omega arith;
      few_removed = omega arith;
    }

-- the pair is there already
pub leaf_same :
    (c : Change) (queue rest : List Change) (ps : List Pair) → queue ≡ c ∷ rest → c.puts_in ≡ true → put is_before c.pair ps ≡ ps
    → Walked 1 (items_of ps) (items_of ps) queue rest (record { taken = 1; added = 0; removed = 0 })
leaf_same c queue rest ps is puts same = record {
  made = c ∷ [];
  queue_is = is;
  marks = rw puts (sym (put-items_of c.pair ps ∙ ap items_of same));
  taken = refl;
  within = omega arith;
  counted = refl;
  few_added = omega arith;
  few_removed = omega arith;
}

-- there is no room for it
pub leaf_full :
    (queue : List Change) (c : Change) (ps : List Pair) → 0 < length queue → c ≡ get_or queue 0 c → c.puts_in ≡ true → has is_before c.pair ps ≡ false
    → length ps ≡ 32 → WantsSplit queue (items_of ps)
leaf_full [] c ps some is puts absent full = absurd (omega arith)
leaf_full (d ∷ queue) c ps some is puts absent full =
    let P : Change → Type 0 = λ x. (x.puts_in ≡ true) × (has mark_before (Item x.pair) (items_of ps) ≡ false) × (leaf_count 0 x.pair (items_of ps) ≡ 32) in
    subst P is (puts, has-items_of c.pair ps ∙ absent, count_leaf c.pair 0 ps ∙ omega (arith, full))

-- the first of a queue
pub first_is : (queue rest : List Change) (c d : Change) → queue ≡ c ∷ rest → get_or queue 0 d ≡ c
first_is queue rest c d is = ap (λ (cs : List Change). get_or cs 0 d) is

-- a leaf still rises
pub leaf_rises :
    {seen : Seen} {ps : List Pair} {n : ℕ} {queue rest : List Change} {steps : Steps} (new : List Pair) → AtLeaf seen ps
    → Walked n (items_of ps) (items_of new) queue rest steps → IsRising mark_before (items_of new)
leaf_rises {seen} {ps} new f w =
    let R : List Mark → Type 0 = λ ms. IsRising mark_before ms in subst R (sym w.marks) (rising_changed w.made (items_of ps) f.rising)
