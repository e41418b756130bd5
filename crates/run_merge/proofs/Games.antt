-- The ways in a tree of games, and what a change of one head leaves as it is.
use Rattle.std.proofs.Common.{false, ◌≡◌, ◌≢◌, ℕ, zero, suc, ◌+◌, ◌-◌, ◌*◌, ◌/◌, ◌^◌, ◌≤◌}
use Rattle.std.proofs.Common.{◌<◌, List, length, get_or, set, refl, sym, ap, ◌∙◌, subst, arith, inl, inr}
use Rattle.std.specs.Prelude.{Option, None, Some, IsSome}
use Rattle.std.proofs.lemmas.Bool.{cases_eq, cases_lt, false≢true}
use Rattle.std.proofs.lemmas.List.{get_or-set_other, length-set, get_or_past, get_or_default}
use Rattle.std.proofs.lemmas.Nat.{pow-add, pow_below}
use Rattle.std.proofs.Math.Nat.{mul-le-mul_right, mul_assoc}
use Rattle.run_merge.specs.Leading.{is_ahead, compares_of, MayLead}
use Rattle.run_merge.specs.Tournaments.{IsWinner, up, IsAbove, HasLeaves, IsPlayed, IsWon}
use Rattle.keybytes.specs.declared.pair.Pair.{Pair}
use Rattle.run_merge.proofs.Order.{leads_itself, leads_chain}

-- one level more
pub up_half : (k node : ℕ) → up k node / 2 ≡ up (suc k) node
up_half zero node = refl
up_half (suc k) node = up_half k (node / 2)

-- above 0 there is no other node
pub up_none : (k : ℕ) → up k 0 ≡ 0
up_none zero = refl
up_none (suc k) = up_none k

-- no node with a number is above the root
pub none_above_root : (n node : ℕ) → 0 < n → node ≡ 1 → IsAbove n node → ⊥
none_above_root n node some e (k, is) = omega (arith, some, is, ap (λ m. up (suc k) m) e, up_none k)

-- a node above this one is the next one up, or above that
pub above_next : (n node : ℕ) → n ≢ node / 2 → IsAbove n node → IsAbove n (node / 2)
above_next n node ne (zero, is) = absurd (ne is)
above_next n node ne (suc k, is) = (k, is)

-- a node is above the two below it
pub above_left : (n node : ℕ) → 2 * n ≡ node → IsAbove n node
above_left n node e = (0, let h : n ≡ node / 2 = omega (arith, e) in h)

-- and above the one to the right
pub above_right : (n node : ℕ) → 2 * n + 1 ≡ node → IsAbove n node
above_right n node e = (0, let h : n ≡ node / 2 = omega (arith, e) in h)

-- a node that names a head lies on the way from its leaf to the root
pub way : (heads : List (Option Pair)) (nodes : List ℕ) (leaf : ℕ) → IsWon heads nodes → leaf < length heads
    → (fuel n : ℕ) → 0 < n → n < 2 * length heads → 2 * length heads ≤ n + fuel → get_or nodes n 0 ≡ leaf → (k : ℕ) × (n ≡ up k (length heads + leaf))
way heads nodes leaf won inside zero n some lt far is = absurd (omega (arith, lt, far))
way heads nodes leaf won inside (suc fuel) n some lt far is =
    elim (cases_lt n (length heads)) [
      | inl low ↦ elim (won.played n some low).one [
        | inl e ↦
            let down = way heads nodes leaf won inside fuel (2 * n) (omega (arith, some)) (omega (arith, low)) (omega (arith, some, far)) (sym e ∙ is) in
            let half : n ≡ 2 * n / 2 = omega arith in
            (suc down.0, half ∙ (ap (λ m. m / 2) down.1 ∙ up_half down.0 (length heads + leaf)))
        | inr e ↦
            let down = way heads nodes leaf won inside fuel (2 * n + 1) (omega (arith, some)) (omega (arith, low)) (omega (arith, some, far)) (sym e ∙ is) in
            let half : n ≡ (2 * n + 1) / 2 = omega arith in
            (suc down.0, half ∙ (ap (λ m. m / 2) down.1 ∙ up_half down.0 (length heads + leaf)))
      ]
      | inr high ↦
          let place : length heads + (n - length heads) ≡ n = omega (arith, high) in
          let names : get_or nodes n 0 ≡ n - length heads =
          subst (λ (i : ℕ). get_or nodes i 0 ≡ n - length heads) place (won.tree.leaves (n - length heads) (omega (arith, high, lt))) in
          (0, omega (arith, high, names, is))
    ]

-- a node that is not above a leaf names another head, and so do the two below it
unnamed : (heads : List (Option Pair)) (nodes : List ℕ) (leaf : ℕ) → IsWon heads nodes → leaf < length heads → (n c : ℕ) → 0 < c → c < 2 * length heads
    → (IsAbove n (length heads + leaf) → ⊥) → n ≡ c / 2 → get_or nodes c 0 ≢ leaf
unnamed heads nodes leaf won inside n c some lt apart half is =
    let found = way heads nodes leaf won inside (2 * length heads) c some lt (omega arith) is in
    apart (found.0, half ∙ (ap (λ m. m / 2) found.1 ∙ up_half found.0 (length heads + leaf)))

-- nor does the node itself name the leaf, unless it is above it
unnamed_here : (heads : List (Option Pair)) (nodes : List ℕ) (leaf : ℕ) → IsWon heads nodes → leaf < length heads → (n : ℕ) → 0 < n → n < length heads
    → (IsAbove n (length heads + leaf) → ⊥) → (found : (k : ℕ) × (n ≡ up k (length heads + leaf))) → ⊥
unnamed_here heads nodes leaf won inside n some lt apart (zero, is) = omega (arith, lt, is)
unnamed_here heads nodes leaf won inside n some lt apart (suc k, is) = apart (k, is)

-- another head is of no matter between two others
leads_still : (heads : List (Option Pair)) (leaf : ℕ) (head : Option Pair) (i j : ℕ) → i ≢ leaf → j ≢ leaf → MayLead heads i j
    → MayLead (set heads leaf head) i j
leads_still heads leaf head i j ne nf h = rw (get_or-set_other heads leaf i head None ne, get_or-set_other heads leaf j head None nf) h

-- another head leaves what is not above its leaf as it was
pub still_played : (heads : List (Option Pair)) (nodes : List ℕ) (leaf : ℕ) (head : Option Pair) → IsWon heads nodes → leaf < length heads
    → (n : ℕ) → 0 < n → n < length heads → (IsAbove n (length heads + leaf) → ⊥) → IsPlayed (set heads leaf head) nodes n
still_played heads nodes leaf head won inside n some lt apart =
    let was = won.played n some lt in
    let here : get_or nodes n 0 ≢ leaf =
    λ is. unnamed_here heads nodes leaf won inside n some lt apart
    (way heads nodes leaf won inside (2 * length heads) n some (omega (arith, lt)) (omega arith) is) in
    let left : get_or nodes (2 * n) 0 ≢ leaf = unnamed heads nodes leaf won inside n (2 * n) (omega (arith, some)) (omega (arith, lt)) apart (omega arith) in
    let right : get_or nodes (2 * n + 1) 0 ≢ leaf =
    unnamed heads nodes leaf won inside n (2 * n + 1) (omega (arith, some)) (omega (arith, lt)) apart (omega arith) in
    record {
      one = was.one;
      leads_left = leads_still heads leaf head (get_or nodes n 0) (get_or nodes (2 * n) 0) here left was.leads_left;
      leads_right = leads_still heads leaf head (get_or nodes n 0) (get_or nodes (2 * n + 1) 0) here right was.leads_right;
    }

-- another head leaves the leaves as they were
pub still_leaves : (heads : List (Option Pair)) (nodes : List ℕ) (leaf : ℕ) (head : Option Pair) → HasLeaves heads nodes → HasLeaves (set heads leaf head) nodes
still_leaves heads nodes leaf head tree =
    let same : length (set heads leaf head) ≡ length heads = length-set heads leaf head in
    record {
      long = tree.long ∙ ap (λ m. 2 * m) (sym same);
      inside = λ n lt. rw same (tree.inside n lt);
      leaves = λ k lt. rw same (tree.leaves k (rw same at lt));
    }

-- the head that the root names may lead each that a node names
root_leads : (heads : List (Option Pair)) (nodes : List ℕ) → IsWon heads nodes → (fuel n : ℕ) → 0 < n → n ≤ fuel → n < 2 * length heads
    → MayLead heads (get_or nodes 1 0) (get_or nodes n 0)
root_leads heads nodes won zero n some le lt = absurd (omega (arith, some, le))
root_leads heads nodes won (suc fuel) n some le lt =
    elim (cases_lt 1 n) [
      | inr one ↦
          let e : 1 ≡ n = omega (arith, some, one) in
          subst (λ (i : ℕ). MayLead heads (get_or nodes 1 0) (get_or nodes i 0)) e (leads_itself heads (get_or nodes 1 0))
      | inl more ↦
          let h = n / 2 in
          let positive : 0 < h = omega (arith, more) in
          let low : h < length heads = omega (arith, lt) in
          let up' = root_leads heads nodes won fuel h positive (omega (arith, le, more)) (omega (arith, low)) in
          let game = won.played h positive low in
          elim (cases_eq n (2 * h)) [
            | inl e ↦ subst (λ (i : ℕ). MayLead heads (get_or nodes 1 0) (get_or nodes i 0)) (sym e)
                (leads_chain heads (get_or nodes 1 0) (get_or nodes h 0) (get_or nodes (2 * h) 0) up' game.leads_left)
            | inr ne ↦
                let e : n ≡ 2 * h + 1 = omega (arith, ne) in
                subst (λ (i : ℕ). MayLead heads (get_or nodes 1 0) (get_or nodes i 0)) (sym e)
                (leads_chain heads (get_or nodes 1 0) (get_or nodes h 0) (get_or nodes (2 * h + 1) 0) up' game.leads_right)
          ]
    ]

-- the head that the root names may lead every other
pub first_leads : (heads : List (Option Pair)) (nodes : List ℕ) → IsWon heads nodes → (other : ℕ) → MayLead heads (get_or nodes 1 0) other
first_leads heads nodes won other =
    elim (cases_lt other (length heads)) [
      | inl lt ↦ subst (λ (i : ℕ). MayLead heads (get_or nodes 1 0) i) (won.tree.leaves other lt)
          (root_leads heads nodes won (length heads + other) (length heads + other) (omega (arith, lt)) (omega arith) (omega (arith, lt)))
      | inr past ↦ rw (get_or_past heads other None past) refl
    ]

-- what two heads that were read say of the game between them
pub left_wins : (heads : List (Option Pair)) (left right : ℕ) (x y : Option Pair) → left < length heads → right < length heads
    → x ≡ get_or heads left x → y ≡ get_or heads right y → is_ahead y x ≡ false → IsWinner heads left left right
left_wins heads left right x y l r is-x is-y h =
    let at-x : get_or heads left None ≡ x = get_or_default heads left None x l ∙ sym is-x in
    let at-y : get_or heads right None ≡ y = get_or_default heads right None y r ∙ sym is-y in
    record { one = inl refl; leads_left = leads_itself heads left; leads_right = rw (at-x, at-y) h }

-- and where the right one wins
pub right_wins : (heads : List (Option Pair)) (left right : ℕ) (x y : Option Pair) → left < length heads → right < length heads
    → x ≡ get_or heads left x → y ≡ get_or heads right y → is_ahead x y ≡ false → IsWinner heads right left right
right_wins heads left right x y l r is-x is-y h =
    let at-x : get_or heads left None ≡ x = get_or_default heads left None x l ∙ sym is-x in
    let at-y : get_or heads right None ≡ y = get_or_default heads right None y r ∙ sym is-y in
    record { one = inr refl; leads_left = rw (at-x, at-y) h; leads_right = leads_itself heads right }

-- a game more on the way down
pub all_more : (heads : List (Option Pair)) (old new : List ℕ) (node next : ℕ) → next + 1 ≡ node → 0 < next
    → ((n : ℕ) → 0 < n → node ≤ n → n < length heads → IsPlayed heads old n)
    → IsPlayed heads new next
    → ((n : ℕ) → 0 < n → (n ≡ next → ⊥) → (2 * n ≡ next → ⊥) → (2 * n + 1 ≡ next → ⊥) → IsPlayed heads old n → IsPlayed heads new n)
    → (n : ℕ) → 0 < n → next ≤ n → n < length heads → IsPlayed heads new n
all_more heads old new node next is positive done here kept n some le lt =
    elim (cases_eq n next) [
      | inl e ↦ subst (λ (i : ℕ). IsPlayed heads new i) (sym e) here
      | inr ne ↦ kept n some ne (λ e. let bad : ⊥ = omega (arith, e, le, some) in bad) (λ e. let bad : ⊥ = omega (arith, e, le) in bad)
          (done n some (omega (arith, is, le, ne)) lt)
    ]

-- a number is below two to that power
pub below_power : (k : ℕ) → k < 2 ^ k
below_power zero = omega arith
below_power (suc k) =
    let e : suc k ≡ k + 1 = omega arith in
    rw e (omega (arith, below_power k, pow-add 2 k 1))

-- a level up, and at most one comparison more
pub way_up : (node made more room : ℕ) → more ≤ 1 → node * 2 ^ made ≤ room → node / 2 * 2 ^ (made + more) ≤ room
way_up node made more room small le =
    elim (cases_lt more 1) [
      | inl less ↦
          let e : made + more ≡ made = omega (arith, less) in
          let half : node / 2 ≤ node = omega arith in
          rw e (omega (arith, mul-le-mul_right (2 ^ made) half, le))
      | inr last ↦
          let e : made + more ≡ made + 1 = omega (arith, small, last) in
          let half : node / 2 * 2 ≤ node = omega arith in
          let double : 2 ^ (made + 1) ≡ 2 * 2 ^ made = omega (arith, pow-add 2 made 1) in
          let turn : node / 2 * (2 * 2 ^ made) ≡ node / 2 * 2 * 2 ^ made = sym (mul_assoc (node / 2) 2 (2 ^ made)) in
          rw (e, double) (omega (arith, turn, mul-le-mul_right (2 ^ made) half, le))
    ]

-- a level up, and one comparison more
pub way_wide : (node made more room : ℕ) → more ≡ 1 → room < (node + 1) * 2 ^ made → room < (node / 2 + 1) * 2 ^ (made + more)
way_wide node made more room one lt =
    let e : made + more ≡ made + 1 = omega (arith, one) in
    let half : node + 1 ≤ (node / 2 + 1) * 2 = omega arith in
    let double : 2 ^ (made + 1) ≡ 2 * 2 ^ made = omega (arith, pow-add 2 made 1) in
    let turn : (node / 2 + 1) * (2 * 2 ^ made) ≡ (node / 2 + 1) * 2 * 2 ^ made = sym (mul_assoc (node / 2 + 1) 2 (2 ^ made)) in
    rw (e, double) (omega (arith, turn, mul-le-mul_right (2 ^ made) half, lt))

-- and at the root
pub root_wide : (node made room : ℕ) → node ≡ 1 → room < (node + 1) * 2 ^ made → room < 2 * 2 ^ made
root_wide node made room is lt = subst (λ (n : ℕ). room < (n + 1) * 2 ^ made) is lt

-- what a count that these comparisons were added to tells
pub wide_since : (count leaf made old new : ℕ) → count + leaf < 2 * 2 ^ made → new ≡ old + made → count < 2 * 2 ^ (new - old)
wide_since count leaf made old new lt is =
    let e : new - old ≡ made = omega (arith, is) in
    rw e (omega (arith, lt))

-- a game takes at most one comparison
pub compares_few : (one other : Option Pair) → compares_of one other ≤ 1
compares_few None other = omega arith
compares_few (Some pair) None = omega arith
compares_few (Some pair) (Some other) = omega arith

-- nor does what tells their number
pub made_few : (one other : Option Pair) (made : ℕ) → made ≡ compares_of one other → made ≤ 1
made_few one other made is = omega (arith, is, compares_few one other)

-- and one where both runs have a pair
pub compares_one : (one other : Option Pair) → IsSome one → IsSome other → compares_of one other ≡ 1
compares_one None other some some-other = absurd (false≢true some)
compares_one (Some pair) None some some-other = absurd (false≢true some-other)
compares_one (Some pair) (Some other) some some-other = refl

-- what two heads that were read say of the comparisons
pub compares_read : (heads : List (Option Pair)) (left right made : ℕ) (x y : Option Pair) → left < length heads → right < length heads
    → x ≡ get_or heads left x → y ≡ get_or heads right y → made ≡ compares_of x y
    → made ≡ compares_of (get_or heads left None) (get_or heads right None)
compares_read heads left right made x y l r is-x is-y h =
    let at-x : get_or heads left None ≡ x = get_or_default heads left None x l ∙ sym is-x in
    let at-y : get_or heads right None ≡ y = get_or_default heads right None y r ∙ sym is-y in
    rw (at-x, at-y) h

-- all games are counted
pub all_counted : (node made count : ℕ) → (0 < count → 0 < node) → node ≤ 1 → made + node ≡ count → made ≡ count - 1
all_counted node made zero some low is = omega (arith, is)
all_counted node made (suc count) some low is =
    let more : 0 < node = some (omega arith) in
    omega (arith, low, is, more)

-- games on a way are few
pub few_made : (node made room : ℕ) → 0 < node → node * 2 ^ made ≤ room → 2 ^ made ≤ room
few_made node made room some le =
    let once : 1 ≤ node = omega (arith, some) in
    omega (arith, mul-le-mul_right (2 ^ made) once, le)

-- no more comparisons than the least number of levels
pub within : (node made leaf count d : ℕ) → 0 < node → node * 2 ^ made ≤ count + leaf → leaf < count → count ≤ 2 ^ d → made ≤ d
within node made leaf count d some le lt fits =
    let low = few_made node made (count + leaf) some le in
    elim (cases_lt d made) [
      | inr done ↦ done
      | inl more ↦ absurd (elim (cases_lt (d + 1) made) [
        | inl far ↦ omega (arith, pow_below (d + 1) made far, pow-add 2 d 1, low, lt, fits)
        | inr same ↦
            let e : made ≡ d + 1 = omega (arith, more, same) in
            omega (arith, ap (λ (i : ℕ). 2 ^ i) e, pow-add 2 d 1, low, lt, fits)
      ])
    ]
