-- What is shared once a pair is put in or taken out.
use Rattle.std.proofs.Common.{◌≡◌, ◌⊎◌, List, refl, sym, ap, ◌∙◌, subst, inl, inr}
use Rattle.keybytes.specs.declared.pair.Pair.{Pair}
use Rattle.tree_nodes.specs.Lists.{In, IsRising, put, without}
use Rattle.tree_nodes.specs.Order.{is_before}
use Rattle.tree_nodes.proofs.Strict.{before-strict}
use Rattle.tree_nodes.proofs.Rising.{in_put, rising_put, in_without, rising_without}
use Rattle.unique_verdict.specs.Shared.{shared_pairs}
use Rattle.unique_verdict.proofs.Members.{one_or_two, not_one, rising_same, put_in, put_keeps, without_leaves, without_keeps}
use Rattle.unique_verdict.proofs.Others.{NoOnly}
use Rattle.unique_verdict.proofs.SharedFacts.{shared_rises, shared_there, shared_other, in_shared}

-- three values apart aren't all among two
three_of_two : (x y z a b : Pair) → (x ≡ y → ⊥) → (x ≡ z → ⊥) → (y ≡ z → ⊥) → (x ≡ a) ⊎ (x ≡ b) → (y ≡ a) ⊎ (y ≡ b) → (z ≡ a) ⊎ (z ≡ b) → ⊥
three_of_two x y z a b xy xz yz (inl i) (inl j) k = xy (i ∙ sym j)
three_of_two x y z a b xy xz yz (inl i) (inr j) (inl k) = xz (i ∙ sym k)
three_of_two x y z a b xy xz yz (inl i) (inr j) (inr k) = yz (j ∙ sym k)
three_of_two x y z a b xy xz yz (inr i) (inl j) (inl k) = yz (j ∙ sym k)
three_of_two x y z a b xy xz yz (inr i) (inl j) (inr k) = xz (i ∙ sym k)
three_of_two x y z a b xy xz yz (inr i) (inr j) k = xy (i ∙ sym j)

-- a pair whose key no other has
pub put_alone : (p : Pair) (ps : List Pair) → IsRising is_before ps → ((q : Pair) → In q ps → q.key ≡ p.key → ⊥)
    → shared_pairs (put is_before p ps) ≡ shared_pairs ps
put_alone p ps r none =
    let more : IsRising is_before (put is_before p ps) = rising_put before-strict p ps r in
    rising_same before-strict (shared_pairs (put is_before p ps)) (shared_pairs ps) (shared_rises _ more) (shared_rises ps r)
    (λ z i.
    let o = shared_other z _ i in
    elim (in_put is_before p z ps (shared_there z _ i)) [
      | inl e ↦ elim (in_put is_before p o.other ps o.there) [
        | inl f ↦ absurd (o.apart (f ∙ sym e))
        | inr k ↦ absurd (none o.other k (o.key_is ∙ ap (λ (x : Pair). x.key) e))
      ]
      | inr j ↦ elim (in_put is_before p o.other ps o.there) [
        | inl f ↦ absurd (none z j (sym o.key_is ∙ ap (λ (x : Pair). x.key) f))
        | inr k ↦ in_shared z o.other ps j k o.key_is o.apart
      ]
    ])
    (λ z i.
    let o = shared_other z ps i in
    in_shared z o.other _ (put_keeps is_before p z ps (shared_there z ps i)) (put_keeps is_before p o.other ps o.there) o.key_is o.apart)

-- a pair whose key r has
pub put_shared : (p r : Pair) (ps : List Pair) → IsRising is_before ps → In r ps → r.key ≡ p.key → (r ≡ p → ⊥)
    → shared_pairs (put is_before p ps) ≡ put is_before p (put is_before r (shared_pairs ps))
put_shared p r ps s there e n =
    let o = before-strict in
    let more : IsRising is_before (put is_before p ps) = rising_put o p ps s in
    rising_same o (shared_pairs (put is_before p ps)) (put is_before p (put is_before r (shared_pairs ps))) (shared_rises _ more)
    (rising_put o p _ (rising_put o r _ (shared_rises ps s)))
    (λ z i.
    let w = shared_other z _ i in
    elim (in_put is_before p z ps (shared_there z _ i)) [
      | inl f ↦ let P : Pair → Type 0 = λ x. In x (put is_before p (put is_before r (shared_pairs ps))) in subst P (sym f) (put_in o p _)
      | inr j ↦ put_keeps is_before p z _ (elim (one_or_two o r z) [
        | inl f ↦ let P : Pair → Type 0 = λ x. In x (put is_before r (shared_pairs ps)) in subst P f (put_in o r _)
        | inr f ↦ put_keeps is_before r z _ (elim (in_put is_before p w.other ps w.there) [
          | inl g ↦ in_shared z r ps j there (e ∙ sym (ap (λ (x : Pair). x.key) g) ∙ w.key_is) (not_one o r z f)
          | inr k ↦ in_shared z w.other ps j k w.key_is w.apart
        ])
      ])
    ])
    (λ z i. elim (in_put is_before p z _ i) [
      | inl f ↦ let P : Pair → Type 0 = λ x. In x (shared_pairs (put is_before p ps)) in
          subst P (sym f) (in_shared p r _ (put_in o p ps) (put_keeps is_before p r ps there) e n)
      | inr j ↦ elim (in_put is_before r z _ j) [
        | inl f ↦ let P : Pair → Type 0 = λ x. In x (shared_pairs (put is_before p ps)) in
            subst P (sym f) (in_shared r p _ (put_keeps is_before p r ps there) (put_in o p ps) (sym e) (λ g. n (sym g)))
        | inr k ↦ let w = shared_other z ps k in
            in_shared z w.other _ (put_keeps is_before p z ps (shared_there z ps k)) (put_keeps is_before p w.other ps w.there) w.key_is w.apart
      ]
    ])

-- a pair that isn't shared
pub without_unshared : (p : Pair) (ps : List Pair) → IsRising is_before ps → (In p (shared_pairs ps) → ⊥)
    → shared_pairs (without is_before p ps) ≡ shared_pairs ps
without_unshared p ps r n =
    let o = before-strict in
    let less : IsRising is_before (without is_before p ps) = rising_without is_before p ps r in
    rising_same o (shared_pairs (without is_before p ps)) (shared_pairs ps) (shared_rises _ less) (shared_rises ps r)
    (λ z i.
    let w = shared_other z _ i in
    in_shared z w.other ps (in_without is_before p z ps (shared_there z _ i)) (in_without is_before p w.other ps w.there) w.key_is w.apart)
    (λ z i.
    let w = shared_other z ps i in
    let z_there = shared_there z ps i in
    let z_not : z ≡ p → ⊥ = λ e. let P : Pair → Type 0 = λ x. In x (shared_pairs ps) in n (subst P e i) in
    let w_not : w.other ≡ p → ⊥ = λ e. let P : Pair → Type 0 = λ x. In x (shared_pairs ps) in
    n (subst P e (in_shared w.other z ps w.there z_there (sym w.key_is) (λ g. w.apart (sym g)))) in
    in_shared z w.other _ (without_keeps o p z ps z_there z_not) (without_keeps o p w.other ps w.there w_not) w.key_is w.apart)

-- what is left of the shared pairs is shared without p
fewer : (p : Pair) (ps : List Pair) → IsRising is_before ps → (z : Pair) → In z (shared_pairs (without is_before p ps))
    → In z (without is_before p (shared_pairs ps))
fewer p ps r z i =
    let w = shared_other z _ i in
    let there = shared_there z _ i in
    without_keeps before-strict p z _ (in_shared z w.other ps (in_without is_before p z ps there) (in_without is_before p w.other ps w.there) w.key_is w.apart)
    (without_leaves before-strict p z ps r there)

-- a shared pair, where each other with its key has one more beside it
pub without_more : (p : Pair) (ps : List Pair) → IsRising is_before ps → NoOnly p.key (without is_before p (shared_pairs ps))
    → shared_pairs (without is_before p ps) ≡ without is_before p (shared_pairs ps)
without_more p ps r n =
    let o = before-strict in
    let less : IsRising is_before (without is_before p ps) = rising_without is_before p ps r in
    rising_same o (shared_pairs (without is_before p ps)) (without is_before p (shared_pairs ps)) (shared_rises _ less)
    (rising_without is_before p _ (shared_rises ps r))
    (fewer p ps r)
    (λ z i.
    let s = in_without is_before p z _ i in
    let z_not = without_leaves o p z _ (shared_rises ps r) i in
    let w = shared_other z ps s in
    let z_in = without_keeps o p z ps (shared_there z ps s) z_not in
    elim (one_or_two o w.other p) [
      | inl e ↦
          let m = n.others z i (sym w.key_is ∙ ap (λ (x : Pair). x.key) e) in
          let m_in = shared_there m.other ps (in_without is_before p m.other _ m.there) in
          in_shared z m.other _ z_in (without_keeps o p m.other ps m_in (without_leaves o p m.other _ (shared_rises ps r) m.there)) m.key_is m.apart
      | inr e ↦ in_shared z w.other _ z_in (without_keeps o p w.other ps w.there (not_one o w.other p e)) w.key_is w.apart
    ])

-- a shared pair whose key two have
pub without_two :
    (p a b : Pair) (ps : List Pair) → IsRising is_before ps → In p (shared_pairs ps) → a.key ≡ p.key → b.key ≡ p.key
    → ((z : Pair) → In z (shared_pairs ps) → z.key ≡ p.key → (z ≡ a) ⊎ (z ≡ b))
    → shared_pairs (without is_before p ps) ≡ without is_before b (without is_before a (shared_pairs ps))
without_two p a b ps r here first second only =
    let o = before-strict in
    let less : IsRising is_before (without is_before p ps) = rising_without is_before p ps r in
    let whole : IsRising is_before (shared_pairs ps) = shared_rises ps r in
    let inner : IsRising is_before (without is_before a (shared_pairs ps)) = rising_without is_before a _ whole in
    let kept = λ (z : Pair) (i : In z (shared_pairs (without is_before p ps))). fewer p ps r z i in
    let never = λ (z : Pair) (i : In z (shared_pairs (without is_before p ps))) (k : z.key ≡ p.key).
    let w = shared_other z _ i in
    let w_in = in_shared w.other z _ w.there (shared_there z _ i) (sym w.key_is) (λ g. w.apart (sym g)) in
    let z_not = without_leaves o p z _ whole (kept z i) in
    let w_not = without_leaves o p w.other _ whole (kept w.other w_in) in
    three_of_two p z w.other a b (λ e. z_not (sym e)) (λ e. w_not (sym e)) (λ e. w.apart (sym e)) (only p here refl)
    (only z (in_without is_before p z _ (kept z i)) k) (only w.other (in_without is_before p w.other _ (kept w.other w_in)) (w.key_is ∙ k)) in
    rising_same o (shared_pairs (without is_before p ps)) (without is_before b (without is_before a (shared_pairs ps))) (shared_rises _ less)
    (rising_without is_before b _ inner)
    (λ z i.
    let s = in_without is_before p z _ (kept z i) in
    let not_a : z ≡ a → ⊥ = λ e. never z i (ap (λ (x : Pair). x.key) e ∙ first) in
    let not_b : z ≡ b → ⊥ = λ e. never z i (ap (λ (x : Pair). x.key) e ∙ second) in
    without_keeps o b z _ (without_keeps o a z _ s not_a) not_b)
    (λ z i.
    let j = in_without is_before b z _ i in
    let s = in_without is_before a z _ j in
    let not_a = without_leaves o a z _ whole j in
    let not_b = without_leaves o b z _ inner i in
    let other_key : z.key ≡ p.key → ⊥ = λ k. elim (only z s k) [ inl e ↦ not_a e | inr e ↦ not_b e ] in
    let w = shared_other z ps s in
    let z_not : z ≡ p → ⊥ = λ e. other_key (ap (λ (x : Pair). x.key) e) in
    let w_not : w.other ≡ p → ⊥ = λ e. other_key (sym w.key_is ∙ ap (λ (x : Pair). x.key) e) in
    in_shared z w.other _ (without_keeps o p z ps (shared_there z ps s) z_not) (without_keeps o p w.other ps w.there w_not) w.key_is w.apart)
