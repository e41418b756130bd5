-- Sets of pairs: their order, their members, and the one list in order that has them.
use Rattle.std.proofs.Common.{◌≡◌, ℕ, Bool, true, false, cond, List, [], ◌∷◌, Option, Some, None, refl, sym, ap, ◌∙◌, inl, inr}
use Rattle.std.specs.Prelude.{◌||◌, ◌&&◌, not, filter_map, map, is_some, T}
use Rattle.std.specs.declared.cmp.Ordering.{Ordering}
use Rattle.std.specs.declared.cmp.Ordering.TheVariants.{Less, Equal, Greater}
use Rattle.std.specs.Ordering.{nat_cmp, eq_by_cmp, is_eq}
use Rattle.std.specs.Cmp.{IsTotalOrder}
use Rattle.std.specs.Cmp.Lexicographic.{slice_cmp}
use Rattle.std.specs.List.{list_any, cons_option}
use Rattle.std.specs.FinSet.{FinSet}
use Rattle.std.specs.FinMap.{FinMap, get, insert, remove, contains_key, contains_key-keys, keys, entries, entries_sorted, get-entries, get-insert, get-remove}
use Rattle.std.specs.FinMap.{get-from_entries, same_map, IsAntisymmetric, slice_cmp-IsAntisymmetric, nat_cmp-IsAntisymmetric}
use Rattle.std.specs.FinMap.Entries.{find, is_sorted, is_some-find, same_entries}
use Rattle.std.proofs.lemmas.Cmp.{then_total, on_total, nat_list_cmp_total, tied_itself}
use Rattle.std.proofs.lemmas.Map.Lookups.{exact_pairs, exact_unsigned}
use Rattle.std.proofs.lemmas.Bool.{cases_Bool, false≢true, false_from_ne_true}
use Rattle.keybytes.specs.declared.rid.Rid.{Rid}
use Rattle.keybytes.specs.declared.pair.Pair.{Pair}
use Rattle.keybytes.specs.Rids.{rid_cmp, rid_cmp-total, same_rid}
use Rattle.keybytes.specs.Pairs.{pair_cmp, set_of, with_pair, without_pair}
use Rattle.keybytes.proofs.SameRids.{same_rid-true, same_rid-refl}

pub pairs_total : IsTotalOrder pair_cmp
pairs_total = then_total (on_total (λ p. p.key) nat_list_cmp_total) (on_total (λ p. p.rid) rid_cmp-total)

exact_rids : (a b : Rid) → rid_cmp a b ≡ Equal → a ≡ b
exact_rids a b h =
    ap (λ (p : ℕ × ℕ). record { page = p.0; slot = p.1 }) (exact_pairs nat_cmp nat_cmp exact_unsigned exact_unsigned (a.page, a.slot) (b.page, b.slot) h)

-- only equal pairs tie
pub exact_of_pairs : IsAntisymmetric pair_cmp
exact_of_pairs a b h =
    ap (λ (p : List ℕ × Rid). record { key = p.0; rid = p.1 })
    (exact_pairs (slice_cmp nat_cmp) rid_cmp (slice_cmp-IsAntisymmetric nat_cmp-IsAntisymmetric) exact_rids (a.key, a.rid) (b.key, b.rid) h)

is_eq-true : (o : Ordering) → is_eq o ≡ true → o ≡ Equal
is_eq-true Less e = absurd (false≢true e)
is_eq-true Equal e = refl
is_eq-true Greater e = absurd (false≢true e)

pub tied_pairs : (a b : Pair) → eq_by_cmp pair_cmp a b ≡ true → a ≡ b
tied_pairs a b e = exact_of_pairs a b (is_eq-true (pair_cmp a b) e)

pub itself : (q : Pair) → eq_by_cmp pair_cmp q q ≡ true
itself q = ap is_eq (tied_itself pairs_total q)

pub apart : (p q : Pair) → (p.rid ≡ q.rid → ⊥) → eq_by_cmp pair_cmp p q ≡ false
apart p q other = false_from_ne_true (eq_by_cmp pair_cmp p q) (λ e. other (ap (λ (x : Pair). x.rid) (tied_pairs p q e)))

-- whether the pair is in the list
abbrev pub is_in : Pair → List Pair → Bool
is_in q pairs = list_any (eq_by_cmp pair_cmp q) pairs

abbrev pub marked : List Pair → List (Pair × Unit {0})
marked pairs = map (λ p. (p, tt)) pairs

unmarked : (pairs : List Pair) → map (λ (e : Pair × Unit {0}). e.0) (marked pairs) ≡ pairs
unmarked [] = refl
unmarked (p ∷ pairs) = ap (λ ps. p ∷ ps) (unmarked pairs)

same_mark : (a b : Option (Unit {0})) → is_some a ≡ is_some b → a ≡ b
same_mark None None e = refl
same_mark None (Some u) e = absurd (false≢true e)
same_mark (Some u) None e = absurd (false≢true (sym e))
same_mark (Some u) (Some v) e = refl

found_mark : (q : Pair) (pairs : List Pair) → is_some (find pair_cmp q (marked pairs)) ≡ is_in q pairs
found_mark q pairs = is_some-find pair_cmp q (marked pairs) ∙ ap (λ ps. is_in q ps) (unmarked pairs)

same_found : (ps qs : List Pair) → ((q : Pair) → is_in q ps ≡ is_in q qs) → (q : Pair) → find pair_cmp q (marked ps) ≡ find pair_cmp q (marked qs)
same_found ps qs same q = same_mark (find pair_cmp q (marked ps)) (find pair_cmp q (marked qs)) (found_mark q ps ∙ same q ∙ sym (found_mark q qs))

-- two sets with the same members are the same
pub same_members : (m n : FinSet pair_cmp) → ((q : Pair) → contains_key m q ≡ contains_key n q) → m ≡ n
same_members m n same = same_map pairs_total exact_of_pairs m n (λ q. same_mark (get m q) (get n q) (same q))

some_or : (b : Bool) (x : Option (Unit {0})) → is_some (cond b (Some tt) x) ≡ (b || is_some x)
some_or true x = refl
some_or false x = refl

none_or : (b : Bool) (x : Option (Unit {0})) → is_some (cond b None x) ≡ (not b && is_some x)
none_or true x = refl
none_or false x = refl

pub contains-insert : (m : FinSet pair_cmp) (p q : Pair) → contains_key (insert m p tt) q ≡ (eq_by_cmp pair_cmp q p || contains_key m q)
contains-insert m p q = ap is_some (get-insert pairs_total m p tt q) ∙ some_or (eq_by_cmp pair_cmp q p) (get m q)

pub contains-remove : (m : FinSet pair_cmp) (p q : Pair) → contains_key (remove m p) q ≡ (not (eq_by_cmp pair_cmp q p) && contains_key m q)
contains-remove m p q = ap is_some (get-remove pairs_total m p q) ∙ none_or (eq_by_cmp pair_cmp q p) (get m q)

pub contains-set_of : (ps : List Pair) (q : Pair) → contains_key (set_of ps) q ≡ is_in q ps
contains-set_of ps q = ap is_some (get-from_entries pairs_total (marked ps) q) ∙ found_mark q ps

-- what is among a set's pairs in order is among those that it was made of
pub in_set : (q : Pair) (ps : List Pair) → is_in q (keys (set_of ps)) ≡ is_in q ps
in_set q ps = sym (contains_key-keys (set_of ps) q) ∙ contains-set_of ps q

-- a set has the members of its list
pub set_of-keys : (s : FinSet pair_cmp) → set_of (keys s) ≡ s
set_of-keys s = same_members (set_of (keys s)) s (λ q. contains-set_of (keys s) q ∙ sym (contains_key-keys s q))

-- two lists with the same members make the same set
pub same_sets : (ps qs : List Pair) → ((q : Pair) → is_in q ps ≡ is_in q qs) → set_of ps ≡ set_of qs
same_sets ps qs same = same_members (set_of ps) (set_of qs) (λ q. contains-set_of ps q ∙ same q ∙ sym (contains-set_of qs q))

-- a list in order is the items of the set with its members
pub items_are : (ps qs : List Pair) → T (is_sorted pair_cmp (marked ps)) → ((q : Pair) → is_in q ps ≡ is_in q qs) → ps ≡ keys (set_of qs)
items_are ps qs sorted same =
    let m : FinMap pair_cmp (Unit {0}) = set_of qs in
    let entries_are : marked ps ≡ entries m =
    same_entries pair_cmp pairs_total exact_of_pairs (marked ps) (entries m) sorted (entries_sorted m) (λ q.
    same_found ps qs same q ∙ sym (get-from_entries pairs_total (marked qs) q) ∙ get-entries m q) in
    sym (unmarked ps) ∙ ap (λ (es : List (Pair × Unit {0})). map (λ e. e.0) es) entries_are

-- whether that is the pair, if there is one
abbrev pub is_pair : Option Pair → Pair → Bool
is_pair None q = false
is_pair (Some p) q = eq_by_cmp pair_cmp q p

-- a RID's own pair
abbrev pub IsOwn : Rid → Option Pair → Type 0
IsOwn rid o = (p : Pair) → o ≡ Some p → p.rid ≡ rid

is_in-cons : (o : Option Pair) (ps : List Pair) (q : Pair) → is_in q (cons_option o ps) ≡ (is_pair o q || is_in q ps)
is_in-cons None ps q = refl
is_in-cons (Some p) ps q = refl

-- the pair of another RID is another
pub not_here : (rid : Rid) (o : Option Pair) (q : Pair) → IsOwn rid o → (q.rid ≡ rid → ⊥) → is_pair o q ≡ false
not_here rid None q own other = refl
not_here rid (Some p) q own other = apart q p (λ e. other (e ∙ own p refl))

or_absorbs : (x a : Bool) → (x || (a && x)) ≡ x
or_absorbs true a = refl
or_absorbs false true = refl
or_absorbs false false = refl

-- of the pairs at RIDs, those of its own RID count
pub gathered :
    (f : Rid → Option Pair) → ((rid : Rid) → IsOwn rid (f rid)) → (q : Pair) (rids : List Rid)
    → is_in q (filter_map f rids) ≡ (list_any (λ r. same_rid r q.rid) rids && is_pair (f q.rid) q)
gathered f own q [] = refl
gathered f own q (r ∷ rs) =
    let rest : is_in q (filter_map f rs) ≡ (list_any (λ x. same_rid x q.rid) rs && is_pair (f q.rid) q) = gathered f own q rs in
    elim (cases_Bool (same_rid r q.rid)) [
      | inl here ↦
          is_in-cons (f r) (filter_map f rs) q
          ∙ ap (λ x. is_pair (f x) q || is_in q (filter_map f rs)) (same_rid-true r q.rid here)
          ∙ ap (λ x. is_pair (f q.rid) q || x) rest
          ∙ or_absorbs (is_pair (f q.rid) q) (list_any (λ x. same_rid x q.rid) rs)
          ∙ sym (ap (λ x. (x || list_any (λ y. same_rid y q.rid) rs) && is_pair (f q.rid) q) here)
      | inr other ↦
          is_in-cons (f r) (filter_map f rs) q
          ∙ ap (λ x. x || is_in q (filter_map f rs)) (not_here r (f r) q (own r) (λ e. false≢true (sym other ∙ ap (λ x. same_rid r x) e ∙ same_rid-refl r)))
          ∙ rest
          ∙ sym (ap (λ x. (x || list_any (λ y. same_rid y q.rid) rs) && is_pair (f q.rid) q) other)
    ]

and_only : (a x : Bool) → (x ≡ true → a ≡ true) → (a && x) ≡ x
and_only true x h = refl
and_only false true h = h refl
and_only false false h = refl

-- the same, where its RID is among them
pub all_gathered :
    (f : Rid → Option Pair) → ((rid : Rid) → IsOwn rid (f rid)) → (q : Pair) (rids : List Rid)
    → (is_pair (f q.rid) q ≡ true → list_any (λ r. same_rid r q.rid) rids ≡ true)
    → is_in q (filter_map f rids) ≡ is_pair (f q.rid) q
all_gathered f own q rids listed = gathered f own q rids ∙ and_only (list_any (λ r. same_rid r q.rid) rids) (is_pair (f q.rid) q) listed

contains-without : (m : FinSet pair_cmp) (o : Option Pair) (q : Pair) → contains_key (without_pair o m) q ≡ (not (is_pair o q) && contains_key m q)
contains-without m None q = refl
contains-without m (Some p) q = contains-remove m p q

contains-with : (m : FinSet pair_cmp) (o : Option Pair) (q : Pair) → contains_key (with_pair o m) q ≡ (is_pair o q || contains_key m q)
contains-with m None q = refl
contains-with m (Some p) q = contains-insert m p q

no_longer : (x b : Bool) → (x || (not b && b)) ≡ x
no_longer true true = refl
no_longer true false = refl
no_longer false true = refl
no_longer false false = refl

-- a set in which the pair of one RID gives way to another is the one that has the new pair there and is elsewhere as before
pub pair_gives_way :
    (rid : Rid) (old new : Option Pair) (m n : FinSet pair_cmp) → IsOwn rid old → IsOwn rid new
    → ((q : Pair) → q.rid ≡ rid → contains_key m q ≡ is_pair old q) → ((q : Pair) → q.rid ≡ rid → contains_key n q ≡ is_pair new q)
    → ((q : Pair) → (q.rid ≡ rid → ⊥) → contains_key n q ≡ contains_key m q) → n ≡ with_pair new (without_pair old m)
pair_gives_way rid old new m n own_old own_new was is elsewhere =
    same_members n (with_pair new (without_pair old m)) (λ q.
    let now : contains_key (with_pair new (without_pair old m)) q ≡ (is_pair new q || (not (is_pair old q) && contains_key m q)) =
    contains-with (without_pair old m) new q ∙ ap (λ x. is_pair new q || x) (contains-without m old q) in
    elim (cases_Bool (same_rid q.rid rid)) [
      | inl here ↦
          let at : q.rid ≡ rid = same_rid-true q.rid rid here in
          is q at ∙ sym (now ∙ ap (λ x. is_pair new q || (not (is_pair old q) && x)) (was q at) ∙ no_longer (is_pair new q) (is_pair old q))
      | inr there ↦
          let other : q.rid ≡ rid → ⊥ = λ e. false≢true (sym there ∙ ap (λ x. same_rid x rid) e ∙ same_rid-refl rid) in
          elsewhere q other
          ∙ sym (now ∙ ap (λ x. x || (not (is_pair old q) && contains_key m q)) (not_here rid new q own_new other)
          ∙ ap (λ x. not x && contains_key m q) (not_here rid old q own_old other))
    ])
