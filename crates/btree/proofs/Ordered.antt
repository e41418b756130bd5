-- Changes that stand in the order of their pairs.
use Rattle.std.proofs.Common.{◌≡◌, ℕ, zero, suc, ◌+◌, ◌<◌, ◌≤◌, Bool, true, false, not, List, [], ◌∷◌, ◌++◌, ◌-◌, ◌⊎◌, length, take, get_or, length-append, add-one, refl, sym, ap, ◌∙◌, subst, inl, inr, arith}
use Rattle.std.proofs.lemmas.Bool.{cases_Bool, both_ways, not_from_false, not-true, not-false}
use Rattle.std.proofs.lemmas.List.{get_or_default, get_or-take, length-take}
use Rattle.keybytes.specs.declared.pair.Pair.{Pair}
use Rattle.tree_nodes.specs.Lists.{In, front_count}
use Rattle.tree_nodes.specs.Order.{is_before}
use Rattle.tree_nodes.proofs.Fronts.{front_count-le-length, front_fails, front_passes}
use Rattle.tree_nodes.proofs.Strict.{before-strict}
use Rattle.btree.specs.declared.change.Change.{Change}
use Rattle.btree.specs.declared.change.Steps.{Steps}
use Rattle.btree.specs.Changes.{not_behind, AreInOrder, count_lower, Made, Walked, IsShare}
use Rattle.btree.specs.Marks.{Mark}
use Rattle.btree.proofs.MarkFacts.{le_lt}

-- a front of changes that are in order
pub in_more : {X : Type 0} (x : X) (m n : ℕ) (xs : List X) → m ≤ n → In x (take m xs) → In x (take n xs)
in_more x zero n xs h i = absurd i
in_more x (suc m) zero xs h i = absurd (omega arith)
in_more x (suc m) (suc n) [] h i = absurd i
in_more x (suc m) (suc n) (y ∷ xs) h i = elim i [ inl e ↦ inl e | inr k ↦ inr (in_more x m n xs (omega arith) k) ]

pub order_take : (m n : ℕ) (cs : List Change) → m ≤ n → AreInOrder (take n cs) → AreInOrder (take m cs)
order_take zero n cs h r = tt
order_take (suc m) zero cs h r = absurd (omega arith)
order_take (suc m) (suc n) [] h r = tt
order_take (suc m) (suc n) (c ∷ cs) h r = ((λ d i. r.0 d (in_more d m n cs (omega arith) i)), order_take m n cs (omega arith) r.1)

-- what is left of them
pub order_rest : (n k : ℕ) (made rest : List Change) → length made + k ≡ n → AreInOrder (take n (made ++ rest)) → AreInOrder (take k rest)
order_rest n k [] rest h r = order_take k n rest (omega arith) r
order_rest zero k (c ∷ made) rest h r = absurd (omega arith)
order_rest (suc n) k (c ∷ made) rest h r = order_rest n k made rest (omega arith) r.1

-- those that are made are among the first
pub in_front : (c : Change) (n : ℕ) (made rest : List Change) → length made ≤ n → In c made → In c (take n (made ++ rest))
in_front c n [] rest h i = absurd i
in_front c zero (d ∷ made) rest h i = absurd (omega arith)
in_front c (suc n) (d ∷ made) rest h i = elim i [ inl e ↦ inl e | inr k ↦ inr (in_front c n made rest (omega arith) k) ]

-- none of them is before the first
pub none_before_first : (n : ℕ) (cs : List Change) (d c : Change) → AreInOrder (take n cs) → In c (take n cs) → is_before c.pair (get_or cs 0 d).pair ≡ false
none_before_first zero cs d c r i = absurd i
none_before_first (suc n) [] d c r i = absurd i
none_before_first (suc n) (b ∷ cs) d c r i = elim i [
  | inl e ↦ rw e (before-strict.not_itself b.pair)
  | inr k ↦ not-true _ (r.0 c k)
]

-- one more
pub order_one : (cs : List Change) → AreInOrder (take 1 cs)
order_one [] = tt
order_one (c ∷ cs) = ((λ d i. absurd i), tt)

not_behind-onward : (a b c : Pair) → is_before b a ≡ false → is_before c b ≡ false → is_before c a ≡ false
not_behind-onward a b c p q = elim (cases_Bool (is_before c a)) [
  | inl e ↦ absurd (both_ways _ q (subst (λ x. is_before c x ≡ true) refl (lt_both e)))
  | inr e ↦ e
] where
  lt_both : is_before c a ≡ true → is_before c b ≡ true
  lt_both e = elim (cases_Bool (is_before a b)) [
    | inl f ↦ before-strict.onward c a b e f
    | inr f ↦ subst (λ x. is_before c x ≡ true) (before-strict.tied a b f p) e
  ]

onward_pairs : (a b c : Change) → not_behind a b ≡ true → not_behind b c ≡ true → not_behind a c ≡ true
onward_pairs a b c p q = not_from_false _ (not_behind-onward a.pair b.pair c.pair (not-true _ p) (not-true _ q))

get_in : (n : ℕ) (cs : List Change) (d : Change) → n < length cs → In (get_or cs n d) (take (suc n) cs)
get_in n [] d h = absurd (omega arith)
get_in zero (c ∷ cs) d h = inl refl
get_in (suc n) (c ∷ cs) d h = inr (get_in n cs d (omega arith))

in_last : (x : Change) (n : ℕ) (cs : List Change) (d : Change) → In x (take (suc n) cs) → n < length cs → In x (take n cs) ⊎ (x ≡ get_or cs n d)
in_last x n [] d i h = absurd (omega arith)
in_last x zero (c ∷ cs) d i h = elim i [ inl e ↦ inr e | inr k ↦ absurd k ]
in_last x (suc n) (c ∷ cs) d i h = elim i [
  | inl e ↦ inl (inl e)
  | inr k ↦ elim (in_last x n cs d k (omega arith)) [ inl s ↦ inl (inr s) | inr s ↦ inr s ]
]

order_suc :
    (n : ℕ) (cs : List Change) (d : Change) → suc n < length cs → AreInOrder (take (suc n) cs) → not_behind (get_or cs n d) (get_or cs (suc n) d) ≡ true
    → AreInOrder (take (suc (suc n)) cs)
order_suc n [] d h r e = absurd (omega arith)
order_suc zero (a ∷ []) d h r e = absurd (omega arith)
order_suc zero (a ∷ b ∷ cs) d h r e = ((λ x i. elim i [ inl is ↦ rw is e | inr k ↦ absurd k ]), ((λ x i. absurd i), tt))
order_suc (suc n) (a ∷ cs) d h r e = (
  λ x i. elim (in_last x (suc n) cs d i (omega arith)) [
    | inl k ↦ r.0 x k
    | inr is ↦ onward_pairs a (get_or cs n d) x (r.0 (get_or cs n d) (get_in n cs d (omega arith))) (rw is e)
  ],
  order_suc n cs d (omega arith) r.1 e,
)

-- the next is in order, unless it is before the last of them
pub order_more :
    (n : ℕ) (cs : List Change) (last next : Change) → 0 < n → n < length cs → last ≡ get_or cs (n - 1) last → next ≡ get_or cs n next
    → is_before next.pair last.pair ≡ false → AreInOrder (take n cs) → AreInOrder (take (n + 1) cs)
order_more zero cs last next some h is_last is_next e r = absurd (omega arith)
order_more (suc n) cs last next some h is_last is_next e r =
    let back : suc n - 1 ≡ n = omega arith in
    let other : get_or cs n next ≡ last = get_or_default cs n next last (omega arith) ∙ sym (is_last ∙ ap (λ (k : ℕ). get_or cs k last) back) in
    let up : not_behind (get_or cs n next) (get_or cs (suc n) next) ≡ true = not_from_false _ (rw (other, ← is_next) e) in
    rw add-one (order_suc n cs next h r up)

-- ---- those that stand before a pair

down : (q : Pair) (x y : Change) → not_behind x y ≡ true → is_before y.pair q ≡ true → is_before x.pair q ≡ true
down q x y l k = le_lt x.pair y.pair q (not-true _ l) k

pub count_lower-le : (n : ℕ) (cs : List Change) (q : Pair) → count_lower q (take n cs) ≤ length (take n cs)
count_lower-le n cs q = front_count-le-length (λ c. is_before c.pair q) (take n cs)

pub lower_more :
    (n : ℕ) (cs : List Change) (q : Pair) (m : ℕ) (c : Change) → AreInOrder (take n cs) → n ≤ length cs → m < n → c ≡ get_or cs m c → is_before c.pair q ≡ true
    → m + 1 ≤ count_lower q (take n cs)
lower_more n cs q m c r l h is e =
    let here : get_or (take n cs) m c ≡ c = get_or-take n cs m c h ∙ sym is in
    let passes : is_before (get_or (take n cs) m c).pair q ≡ true = ap (λ (x : Change). is_before x.pair q) here ∙ e in
    let more : m < count_lower q (take n cs) = front_passes not_behind (λ x. is_before x.pair q) (down q) (take n cs) m c r (omega (arith, length-take n cs)) passes in
    omega arith

pub lower_end :
    (n : ℕ) (cs : List Change) (q : Pair) (m : ℕ) (c : Change) → n ≤ length cs → m < n → c ≡ get_or cs m c → is_before c.pair q ≡ false
    → count_lower q (take n cs) ≤ m
lower_end n cs q m c l h is e =
    let here : get_or (take n cs) m c ≡ c = get_or-take n cs m c h ∙ sym is in
    front_fails (λ x. is_before x.pair q) (take n cs) m c (omega (arith, length-take n cs)) (ap (λ (x : Change). is_before x.pair q) here ∙ e)

front_all : (q : Pair) (cs : List Change) (c : Change) → In c (take (count_lower q cs) cs) → is_before c.pair q ≡ true
front_all q [] c i = absurd i
front_all q (b ∷ cs) c i = elim (cases_Bool (is_before b.pair q)) [
  | inl e ↦ elim (rw e at i) [ inl is ↦ rw is e | inr k ↦ front_all q cs c k ]
  | inr e ↦ absurd (rw e at i)
]

take_twice : (c : Change) (k n : ℕ) (cs : List Change) → k ≤ n → In c (take k cs) → In c (take k (take n cs))
take_twice c zero n cs h i = absurd i
take_twice c (suc k) zero cs h i = absurd (omega arith)
take_twice c (suc k) (suc n) [] h i = absurd i
take_twice c (suc k) (suc n) (b ∷ cs) h i = elim i [ inl e ↦ inl e | inr j ↦ inr (take_twice c k n cs (omega arith) j) ]

-- those that are counted do
pub lower_each : (n k : ℕ) (cs : List Change) (q : Pair) (c : Change) → k ≡ count_lower q (take n cs) → k ≤ n → In c (take k cs) → is_before c.pair q ≡ true
lower_each n k cs q c e h i =
    let P : ℕ → Type 0 = λ m. In c (take m (take n cs)) in
    front_all q (take n cs) c (subst P e (take_twice c k n cs h i))

-- the front ends at one that fails
pub front_stops : {X : Type 0} (test : X → Bool) (xs : List X) (d : X) (at : ℕ) → at ≡ front_count test xs → at < length xs → test (get_or xs at d) ≡ false
front_stops test xs d at e h =
    let P : ℕ → Type 0 = λ m. test (get_or xs m d) ≡ false in
    subst P (sym e) (stops test xs d (omega (arith, e))) where
      stops : {X : Type 0} (test : X → Bool) (xs : List X) (d : X) → front_count test xs < length xs → test (get_or xs (front_count test xs) d) ≡ false
      stops test [] d h = absurd (omega arith)
      stops test (x ∷ xs) d h = elim (cases_Bool (test x)) [
        | inl e ↦ let k : front_count test xs < length xs = omega (arith, rw e at h) in rw e (stops test xs d k)
        | inr e ↦ rw e e
      ]

-- ---- what is left of changes that are in order

pub rest_walked :
    {n count : ℕ} {old new : List Mark} {queue rest : List Change} {steps : Steps} (k : ℕ) → Walked n old new queue rest steps → AreInOrder (take count queue)
    → steps.taken + k ≡ count → AreInOrder (take k rest)
rest_walked {n} {count} {old} {new} {queue} {rest} {steps} k w r h =
    let P : List Change → Type 0 = λ cs. AreInOrder (take count cs) in
    order_rest count k w.made rest (omega (arith, w.taken, h)) (subst P w.queue_is r)

pub rest_made :
    {count : ℕ} {old new : List Pair} {queue rest : List Change} (j k : ℕ) → Made old new queue rest → AreInOrder (take count queue)
    → length rest + j ≡ length queue → j + k ≡ count → AreInOrder (take k rest)
rest_made {count} {old} {new} {queue} {rest} j k w r e h =
    let P : List Change → Type 0 = λ cs. AreInOrder (take count cs) in
    let many : length w.made + length rest ≡ length queue = sym (ap length w.queue_is ∙ length-append w.made rest) in
    order_rest count k w.made rest (omega (arith, many, e, h)) (subst P w.queue_is r)

-- ---- the changes up to a separator

pub share_to :
    (ss : List Pair) (queue : List Change) (count place given : ℕ) (first : Change) (s : Pair) → AreInOrder (take count queue) → 0 < count
    → count ≤ length queue → first ≡ get_or queue 0 first → place ≡ front_count (λ t. not (is_before first.pair t)) ss → place < length ss
    → s ≡ get_or ss place s → given ≡ count_lower s (take count queue) → IsShare ss queue count (record { place = place; count = given })
share_to ss queue count place given first s order some within is place_is there at_place is_given =
    let stop : not (is_before first.pair (get_or ss place s)) ≡ false = front_stops (λ t. not (is_before first.pair t)) ss s place place_is there in
    let up : is_before first.pair s ≡ true = ap (is_before first.pair) at_place ∙ not-false _ stop in
    let least : 0 + 1 ≤ count_lower s (take count queue) = lower_more count queue s 0 first order within some is up in
    let few : given ≤ count = omega (arith, is_given, count_lower-le count queue s, length-take count queue) in
    record {
      some = omega (arith, least, is_given);
      few = few;
      place = λ d. place_is ∙ ap (λ (x : Change). front_count (λ t. not (is_before x.pair t)) ss) (is ∙ get_or_default queue 0 first d (omega (arith, some, within)));
      before = λ x i d h. ap (is_before x.pair) (get_or_default ss place d s h ∙ sym at_place) ∙ lower_each count given queue s x is_given few i;
    }
