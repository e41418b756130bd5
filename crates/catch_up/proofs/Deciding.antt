-- What changes do to a pair is decided by the last one of it, so that changes of other pairs may stand anywhere between.
use Rattle.std.proofs.Common.{◌≡◌, ℕ, Bool, true, false, cond, List, [], ◌∷◌, refl, sym, ap, ◌∙◌, inl, inr}
use Rattle.std.specs.Prelude.{◌||◌, ◌&&◌, not, filter}
use Rattle.std.specs.declared.cmp.Ordering.{Ordering}
use Rattle.std.specs.declared.cmp.Ordering.TheVariants.{Less, Equal, Greater}
use Rattle.std.specs.Ordering.{nat_cmp, eq_by_cmp, is_eq, is_lt, ordering_reverse}
use Rattle.std.specs.List.Sorted.{ties, IsStableBy, IsStableByKey}
use Rattle.std.specs.FinSet.{FinSet}
use Rattle.std.specs.FinMap.{contains_key}
use Rattle.std.proofs.lemmas.Bool.{cases_Bool, cond-true, cond-false, false≢true, false_from_ne_true}
use Rattle.std.proofs.lemmas.Cmp.{nat_cmp_total, tied_itself}
use Rattle.keybytes.specs.Pairs.{pair_cmp}
use Rattle.keybytes.specs.declared.pair.Pair.{Pair}
use Rattle.keybytes.proofs.PairSets.{pairs_total, tied_pairs, same_members, contains-insert, contains-remove}
use Rattle.btree.specs.declared.change.Change.{Change}
use Rattle.btree.specs.Changes.{changed, changed_by}

-- the order of two changes' pairs
abbrev pub before : Change → Change → Bool
before a b = is_lt (pair_cmp a.pair b.pair)

-- a change of that pair
abbrev pub probe : Pair → Change
probe pair = record { puts_in = false; pair = pair }

-- whether the last of the elements that pass puts the pair in; whether it was there, where none passes
abbrev pub decided : {X : Type 0} → (X → Bool) → (X → Bool) → List X → Bool → Bool
decided passes there [] was = was
decided passes there (x ∷ xs) was = decided passes there xs (cond (passes x) (there x) was)

-- those that don't pass decide nothing
pub decided_filter :
    {X : Type 0} (passes there : X → Bool) (xs : List X) (was : Bool)
    → decided passes there (filter passes xs) was ≡ decided passes there xs was
decided_filter passes there [] was = refl
decided_filter passes there (x ∷ xs) was =
    elim (cases_Bool (passes x)) [
      | inl sees ↦
          ap (λ ys. decided passes there ys was) (cond-true (passes x) (x ∷ filter passes xs) (filter passes xs) sees)
          ∙ decided_filter passes there xs (cond (passes x) (there x) was)
      | inr other ↦
          ap (λ ys. decided passes there ys was) (cond-false (passes x) (x ∷ filter passes xs) (filter passes xs) other)
          ∙ decided_filter passes there xs was
          ∙ sym (ap (λ b. decided passes there xs b) (cond-false (passes x) (there x) was other))
    ]

-- pairs tie just where they are equal
tie_is : (o r : Ordering) → r ≡ ordering_reverse o → (not (is_lt o) && not (is_lt r)) ≡ is_eq o
tie_is Less r e = refl
tie_is Equal r e = ap (λ x. not (is_lt x)) e
tie_is Greater r e = ap (λ x. not (is_lt x)) e

tie_here : (q : Pair) (e : Change) → ties before (probe q) e ≡ eq_by_cmp pair_cmp q e.pair
tie_here q e = tie_is (pair_cmp q e.pair) (pair_cmp e.pair q) (pairs_total.antisymm e.pair q)

or_is : (x b : Bool) → (x || b) ≡ cond x true b
or_is true b = refl
or_is false b = refl

and_is : (x b : Bool) → (not x && b) ≡ cond x false b
and_is true b = refl
and_is false b = refl

-- one change
one_by : (put : Bool) (p q : Pair) (s : FinSet pair_cmp)
    → contains_key (changed_by (record { puts_in = put; pair = p }) s) q ≡ cond (eq_by_cmp pair_cmp q p) put (contains_key s q)
one_by false p q s = contains-remove s p q ∙ and_is (eq_by_cmp pair_cmp q p) (contains_key s q)
one_by true p q s = contains-insert s p q ∙ or_is (eq_by_cmp pair_cmp q p) (contains_key s q)

one : (e : Change) (q : Pair) (s : FinSet pair_cmp)
    → contains_key (changed_by e s) q ≡ cond (ties before (probe q) e) e.puts_in (contains_key s q)
one e q s = one_by e.puts_in e.pair q s ∙ ap (λ x. cond x e.puts_in (contains_key s q)) (sym (tie_here q e))

-- whether a pair is there once all are made
pub member_after : (es : List Change) (q : Pair) (s : FinSet pair_cmp)
    → contains_key (changed es s) q ≡ decided (ties before (probe q)) (λ e. e.puts_in) es (contains_key s q)
member_after [] q s = refl
member_after (e ∷ es) q s =
    member_after es q (changed_by e s) ∙ ap (λ b. decided (ties before (probe q)) (λ x. x.puts_in) es b) (one e q s)

-- changes that stand otherwise, but for those of one pair
pub same_when_stable : (es fs : List Change) → IsStableBy before es fs → (s : FinSet pair_cmp) → changed fs s ≡ changed es s
same_when_stable es fs stable s =
    same_members (changed fs s) (changed es s) (λ q.
    let passes : Change → Bool = ties before (probe q) in
    let there : Change → Bool = λ e. e.puts_in in
    let was : Bool = contains_key s q in
    member_after fs q s
    ∙ sym (decided_filter passes there fs was)
    ∙ ap (λ xs. decided passes there xs was) (stable (probe q))
    ∙ decided_filter passes there es was
    ∙ sym (member_after es q s))

-- a filter finds all that it lets through among what a wider one lets through
filter_wider :
    {X : Type 0} (passes wider : X → Bool) → ((x : X) → passes x ≡ true → wider x ≡ true) → (xs : List X)
    → filter passes (filter wider xs) ≡ filter passes xs
filter_wider passes wider is_wider [] = refl
filter_wider passes wider is_wider (x ∷ xs) =
    let rest = filter_wider passes wider is_wider xs in
    elim (cases_Bool (wider x)) [
      | inl stays ↦
          ap (filter passes) (cond-true (wider x) (x ∷ filter wider xs) (filter wider xs) stays)
          ∙ ap (λ ys. cond (passes x) (x ∷ ys) ys) rest
      | inr goes ↦
          let out = false_from_ne_true (passes x) (λ sees. false≢true (sym goes ∙ is_wider x sees)) in
          ap (filter passes) (cond-false (wider x) (x ∷ filter wider xs) (filter wider xs) goes)
          ∙ rest
          ∙ sym (cond-false (passes x) (x ∷ filter passes xs) (filter passes xs) out)
    ]

-- the order of two changes' numbers
abbrev numbered_before : (List ℕ → ℕ) → Change → Change → Bool
numbered_before number a b = is_lt (nat_cmp (number a.pair.key) (number b.pair.key))

-- changes of one pair have one number
one_number : (number : List ℕ → ℕ) (a b : Change) → ties before a b ≡ true → ties (numbered_before number) a b ≡ true
one_number number a b tie =
    let n = number a.pair.key in
    let same = tied_pairs a.pair b.pair (sym (tie_here a.pair b) ∙ tie) in
    ap (λ (p : Pair). not (is_lt (nat_cmp n (number p.key))) && not (is_lt (nat_cmp (number p.key) n))) (sym same)
    ∙ ap (λ o. not (is_lt o) && not (is_lt o)) (tied_itself nat_cmp_total n)

-- changes that stand otherwise, but for those whose keys have one number
pub same_by_number :
    (number : List ℕ → ℕ) (es fs : List Change) → IsStableByKey (λ e. number e.pair.key) nat_cmp es fs
    → (s : FinSet pair_cmp) → changed fs s ≡ changed es s
same_by_number number es fs stable s =
    same_when_stable es fs
    (λ e.
    let passes : Change → Bool = ties before e in
    let wider : Change → Bool = ties (numbered_before number) e in
    sym (filter_wider passes wider (one_number number e) fs)
    ∙ ap (filter passes) (stable e)
    ∙ filter_wider passes wider (one_number number e) es)
    s
