-- Where in a fan a pair belongs.
use Rattle.std.proofs.Common.{◌≡◌, ℕ, suc, ◌+◌, ◌<◌, ◌≤◌, true, not, List, [], ◌∷◌, ◌++◌, length, get_or, refl, ap, ◌∙◌, inl, inr, arith, append_assoc}
use Rattle.std.proofs.Math.ListN.{set}
use Rattle.std.proofs.lemmas.Bool.{cases_Bool, not-false}
use Rattle.std.specs.List.{insert}
use Rattle.keybytes.specs.declared.pair.Pair.{Pair}
use Rattle.tree_nodes.specs.Lists.{In, IsRising, front_count}
use Rattle.tree_nodes.specs.Order.{is_before}
use Rattle.btree.specs.Marks.{Mark, Item, Between, mark_before}
use Rattle.btree.specs.Seen.{Seen}
use Rattle.btree.specs.Weave.{weave}
use Rattle.tree_nodes.proofs.Rising.{in_either, rising_parts}
use Rattle.btree.proofs.MarkFacts.{mark_before-strict}

pub record Around (p : Pair) (cs : List Seen) (ss : List Pair) (i : ℕ) : Type 0 where
  pub l : List Mark
  pub r : List Mark
  pub within : i < length cs
  pub is : (d : Seen) → weave cs ss ≡ l ++ ((get_or cs i d).marks ++ r)
  pub changed : (c : Seen) → weave (set cs i c) ss ≡ l ++ (c.marks ++ r)
  pub split : (c n : Seen) (s : Pair) → weave (insert (set cs i c) (suc i) n) (insert ss i s) ≡ l ++ ((c.marks ++ Between s ∷ n.marks) ++ r)
  pub last : length ss ≤ i → r ≡ []
  pub more : (d : Pair) → i < length ss → (rest : List Mark) × (r ≡ Between (get_or ss i d) ∷ rest)
  pub below : (y : Mark) → In y l → mark_before y (Item p) ≡ true
  pub above : (y : Mark) → In y r → mark_before (Item p) y ≡ true

pub around :
    (p : Pair) (cs : List Seen) (ss : List Pair) → length ss + 1 ≡ length cs → IsRising mark_before (weave cs ss)
    → Around p cs ss (front_count (λ s. not (is_before p s)) ss)
around p [] ss e rise = absurd (omega arith)
around p (c ∷ []) [] e rise = record {
  l = [];
  r = [];
  within = omega arith;
  is = λ d. refl;
  changed = λ d. refl;
  split = λ d n s. simp append_assoc;
  last = λ h. refl;
  more = λ d h. absurd (omega arith);
  below = λ y h. absurd h;
  above = λ y h. absurd h;
}
around p (c ∷ []) (s ∷ ss) e rise = absurd (omega arith)
around p (c ∷ b ∷ cs) [] e rise = absurd (omega arith)
around p (c ∷ b ∷ cs) (s ∷ ss) e rise =
    let j = rising_parts mark_before c.marks (Between s ∷ weave (b ∷ cs) ss) rise in
    elim (cases_Bool (not (is_before p s))) [
      | inl pass ↦
          let next = around p (b ∷ cs) ss (omega arith) j.right.1 in
          rw pass (record {
            l = c.marks ++ Between s ∷ next.l;
            r = next.r;
            within = omega (arith, next.within);
            is = λ d. ap (λ ms. c.marks ++ Between s ∷ ms) (next.is d) ∙ simp append_assoc;
            changed = λ d. ap (λ ms. c.marks ++ Between s ∷ ms) (next.changed d) ∙ simp append_assoc;
            split = λ d n t. ap (λ ms. c.marks ++ Between s ∷ ms) (next.split d n t) ∙ simp append_assoc;
            last = λ h. next.last (omega arith);
            more = λ d h. next.more d (omega arith);
            below = λ y h. elim (in_either y c.marks (Between s ∷ next.l) h) [
              | inl i ↦ mark_before-strict.onward y (Between s) (Item p) (j.apart y (Between s) i (inl refl)) pass
              | inr k ↦ elim k [ inl is ↦ rw is pass | inr i ↦ next.below y i ]
            ];
            above = next.above;
          })
      | inr stop ↦ rw stop (record {
        l = [];
        r = Between s ∷ weave (b ∷ cs) ss;
        within = omega arith;
        is = λ d. refl;
        changed = λ d. refl;
        split = λ d n t. simp append_assoc;
        last = λ h. absurd (omega arith);
        more = λ d h. (weave (b ∷ cs) ss, refl);
        below = λ y h. absurd h;
        above = λ y h. elim h [
          | inl is ↦ rw is (not-false _ stop)
          | inr i ↦ mark_before-strict.onward (Item p) (Between s) y (not-false _ stop) (j.right.0 y i)
        ];
      })
    ]
