-- The pairs of one key, and those of the keys in a range, among pairs that rise.
use Rattle.std.proofs.Common.{◌≡◌, ℕ, Bool, true, false, List, [], ◌∷◌, ◌++◌, map, Option, None, Some, refl, sym, ap, ◌∙◌, subst, inl, inr}
use Rattle.std.specs.Prelude.{not, ◌==◌, ◌&&◌, if◌then◌else◌}
use Rattle.std.specs.List.{filter, take_while, slice_get}
use Rattle.std.specs.declared.cmp.Ordering.{Ordering}
use Rattle.std.specs.declared.cmp.Ordering.TheVariants.{Less, Equal, Greater}
use Rattle.std.specs.Ordering.{nat_cmp, is_lt, is_eq, ordering_then, ordering_reverse, ordering_index}
use Rattle.std.specs.Cmp.Lexicographic.{slice_cmp, nat_list_cmp_total}
use Rattle.std.specs.FinMap.{slice_cmp-IsAntisymmetric, nat_cmp-IsAntisymmetric}
use Rattle.std.proofs.lemmas.Bool.{cases_Bool, both_ways, false≢true, true≢false}
use Rattle.std.proofs.lemmas.List.Sums.{take_while-cons}
use Rattle.keybytes.specs.declared.pair.Pair.{Pair}
use Rattle.keybytes.specs.declared.rid.Rid.{Rid}
use Rattle.keybytes.specs.Rids.{rid_cmp}
use Rattle.tree_nodes.specs.Lists.{In, IsRising}
use Rattle.tree_nodes.specs.Order.{is_before}
use Rattle.tree_nodes.proofs.Strict.{before-strict, pair_same, least_number, then_least}
use Rattle.tree_nodes.proofs.Places.{one_way}
use Rattle.btree.specs.From.{from}
use Rattle.btree.specs.TreeValue.{is_key, is_less, rids_of, pairs_between}

-- the least pair of a key
abbrev pub first_of : List ℕ → Pair
first_of key = record { key = key; rid = record { page = 0; slot = 0 } }

-- the RIDs of the pairs at the front that have the key
abbrev pub leading : List ℕ → List Pair → List Rid
leading key [] = []
leading key (p ∷ ps) = if is_key key p then p.rid ∷ leading key ps else []

then_first : (r s : Ordering) → is_lt s ≡ false → is_lt (ordering_then r s) ≡ is_lt r
then_first Less s h = refl
then_first Equal s h = h
then_first Greater s h = refl

-- a pair is before the least one of a key where its key is less
before_first : (p : Pair) (key : List ℕ) → is_before p (first_of key) ≡ is_less p.key key
unfolding is_before
before_first p key =
    then_first (slice_cmp nat_cmp p.key key) (rid_cmp p.rid (record { page = 0; slot = 0 }))
    (then_least _ _ (least_number p.rid.page) (least_number p.rid.slot))

greater : (o : Ordering) → is_lt o ≡ false → is_eq o ≡ false → is_lt (ordering_reverse o) ≡ true
greater Less e f = absurd (true≢false e)
greater Equal e f = absurd (true≢false f)
greater Greater e f = refl

then_less : (r s : Ordering) → is_lt r ≡ true → is_lt (ordering_then r s) ≡ true
then_less Less s e = refl
then_less Equal s e = absurd (false≢true e)
then_less Greater s e = absurd (false≢true e)

-- a pair of a greater key is behind each of the key
behind_key : (p : Pair) (key : List ℕ) (rid : Rid) → is_less p.key key ≡ false → is_key key p ≡ false → is_before (record { key = key; rid = rid }) p ≡ true
unfolding is_before
behind_key p key rid e f =
    then_less (slice_cmp nat_cmp key p.key) (rid_cmp rid p.rid) (ap is_lt (nat_list_cmp_total.antisymm key p.key) ∙ greater (slice_cmp nat_cmp p.key key) e f)

equal : (o : Ordering) → is_eq o ≡ true → o ≡ Equal
equal Less e = absurd (false≢true e)
equal Equal e = refl
equal Greater e = absurd (false≢true e)

key_is : (p : Pair) (key : List ℕ) → is_key key p ≡ true → p.key ≡ key
key_is p key e = slice_cmp-IsAntisymmetric nat_cmp-IsAntisymmetric p.key key (equal (slice_cmp nat_cmp p.key key) e)

less_apart : (o : Ordering) → is_lt o ≡ true → is_eq o ≡ false
less_apart Less e = refl
less_apart Equal e = absurd (false≢true e)
less_apart Greater e = absurd (false≢true e)

filter_none : (test : Pair → Bool) (ps : List Pair) → ((p : Pair) → In p ps → test p ≡ false) → filter test ps ≡ []
filter_none test [] h = refl
filter_none test (p ∷ ps) h = rw (h p (inl refl)) (filter_none test ps (λ q i. h q (inr i)))

-- what is behind a pair that isn't before another isn't either
not_before : (p q r : Pair) → is_before p q ≡ true → is_before p r ≡ false → is_before q r ≡ false
not_before p q r up stop = elim (cases_Bool (is_before q r)) [
  | inl e ↦ absurd (both_ways _ stop (before-strict.onward p q r up e))
  | inr e ↦ e
]

-- no pair behind one of a greater key has the key
past : (key : List ℕ) (p q : Pair) → is_less p.key key ≡ false → is_key key p ≡ false → is_before p q ≡ true → is_key key q ≡ false
past key p q e f up = elim (cases_Bool (is_key key q)) [
  | inl same ↦
      let there : record { key = key; rid = q.rid } ≡ q = pair_same _ q (sym (key_is q key same)) refl in
      let back : is_before q p ≡ true = subst (λ t. is_before t p ≡ true) there (behind_key p key q.rid e f) in
      absurd (both_ways _ (one_way before-strict p q up) back)
  | inr other ↦ other
]

leading_rest : (key : List ℕ) (ps : List Pair) → IsRising is_before ps → ((p : Pair) → In p ps → is_less p.key key ≡ false) → leading key ps ≡ rids_of key ps
leading_rest key [] r h = refl
leading_rest key (p ∷ ps) r h = elim (cases_Bool (is_key key p)) [
  | inl e ↦ rw e (ap (λ rids. p.rid ∷ rids) (leading_rest key ps r.1 (λ q i. h q (inr i))))
  | inr e ↦ rw e (sym (ap (map (λ q. q.rid)) (filter_none (is_key key) ps (λ q i. past key p q (h p (inl refl)) e (r.0 q i)))))
]

-- none of the pairs from the least of a key on has a less key
from_key :
    (key : List ℕ) (p : Pair) (ps : List Pair) → IsRising is_before (p ∷ ps) → is_before p (first_of key) ≡ false → (q : Pair) → In q (p ∷ ps)
    → is_less q.key key ≡ false
from_key key p ps r stop q h = elim h [
  | inl is ↦ ap (λ t. is_less t.key key) is ∙ sym (before_first p key) ∙ stop
  | inr i ↦ sym (before_first q key) ∙ not_before p q (first_of key) (r.0 q i) stop
]

-- the RIDs of a key
pub leading_is : (key : List ℕ) (ps : List Pair) → IsRising is_before ps → leading key (from (first_of key) ps) ≡ rids_of key ps
leading_is key [] r = refl
leading_is key (p ∷ ps) r = elim (cases_Bool (is_before p (first_of key))) [
  | inl e ↦ rw (e, less_apart (slice_cmp nat_cmp p.key key) (sym (before_first p key) ∙ e)) (leading_is key ps r.1)
  | inr e ↦ rw e (leading_rest key (p ∷ ps) r (from_key key p ps r e))
]

-- what a comparison tells of the key
pub key_other : (o : Ordering) → not (ordering_index o == 1) ≡ true → is_eq o ≡ false
key_other Less e = refl
key_other Equal e = absurd (false≢true e)
key_other Greater e = refl

pub key_same : (o : Ordering) → not (ordering_index o == 1) ≡ false → is_eq o ≡ true
key_same Less e = absurd (true≢false e)
key_same Equal e = refl
key_same Greater e = absurd (true≢false e)

-- the least of them: the first pair from the least of the key on has it, if the key has one
pub least_none :
    (key : List ℕ) (ps left : List Pair) → IsRising is_before ps → left ≡ from (first_of key) ps → left ≡ [] → None ≡ slice_get (rids_of key ps) 0
least_none key ps left r is empty = ap (λ rids. slice_get rids 0) (ap (leading key) (sym empty ∙ is) ∙ leading_is key ps r)

pub least_other :
    (key : List ℕ) (p : Pair) (ps left rest : List Pair) → IsRising is_before ps → left ≡ from (first_of key) ps → left ≡ p ∷ rest → is_key key p ≡ false
    → None ≡ slice_get (rids_of key ps) 0
least_other key p ps left rest r is first other =
    let none : leading key (p ∷ rest) ≡ [] = rw other refl in
    ap (λ rids. slice_get rids 0) (sym none ∙ (ap (leading key) (sym first ∙ is) ∙ leading_is key ps r))

pub least_there :
    (key : List ℕ) (p : Pair) (ps left rest : List Pair) → IsRising is_before ps → left ≡ from (first_of key) ps → left ≡ p ∷ rest → is_key key p ≡ true
    → Some p.rid ≡ slice_get (rids_of key ps) 0
least_there key p ps left rest r is first same =
    let there : leading key (p ∷ rest) ≡ p.rid ∷ leading key rest = rw same refl in
    ap (λ rids. slice_get rids 0) (sym there ∙ (ap (leading key) (sym first ∙ is) ∙ leading_is key ps r))

between_rest : (lo hi : List ℕ) (ps : List Pair) → IsRising is_before ps → ((p : Pair) → In p ps → is_less p.key lo ≡ false)
    → take_while (λ p. is_less p.key hi) ps ≡ pairs_between lo hi ps
between_rest lo hi [] r h = refl
between_rest lo hi (p ∷ ps) r h = elim (cases_Bool (is_less p.key hi)) [
  | inl e ↦
      take_while-cons (λ q. is_less q.key hi) p ps
      ∙ rw (e, h p (inl refl)) (ap (λ qs. p ∷ qs) (between_rest lo hi ps r.1 (λ q i. h q (inr i))))
  | inr e ↦
      let none : (q : Pair) → In q ps → (not (is_less q.key lo) && is_less q.key hi) ≡ false =
      λ q i. rw (sym (before_first q hi) ∙ not_before p q (first_of hi) (r.0 q i) (before_first p hi ∙ e), h q (inr i)) refl in
      take_while-cons (λ q. is_less q.key hi) p ps
      ∙ rw (e, h p (inl refl)) (sym (filter_none (λ q. not (is_less q.key lo) && is_less q.key hi) ps none))
]

-- the pairs of the keys in a range
pub between_is : (lo hi : List ℕ) (ps : List Pair) → IsRising is_before ps → take_while (λ p. is_less p.key hi) (from (first_of lo) ps) ≡ pairs_between lo hi ps
between_is lo hi [] r = refl
between_is lo hi (p ∷ ps) r = elim (cases_Bool (is_before p (first_of lo))) [
  | inl e ↦ rw (e, sym (before_first p lo) ∙ e) (between_is lo hi ps r.1)
  | inr e ↦ rw e (between_rest lo hi (p ∷ ps) r (from_key lo p ps r e))
]

-- ---- a walk over rising pairs for a key, which ends at the first one that isn't less

abbrev pub met_at : Ordering → Rid → Option Rid → Option Rid
met_at Less rid rest = rest
met_at Equal rid rest = Some rid
met_at Greater rid rest = None

abbrev pub met : List ℕ → List Pair → Option Rid
met key [] = None
met key (p ∷ ps) = met_at (slice_cmp nat_cmp p.key key) p.rid (met key ps)

-- it finds the least RID that has the key
pub met_is : (key : List ℕ) (ps : List Pair) → IsRising is_before ps → met key ps ≡ slice_get (rids_of key ps) 0
met_is key [] r = refl
met_is key (p ∷ ps) r = by_order (met_is key ps r.1) (slice_cmp nat_cmp p.key key) refl where
  by_order : met key ps ≡ slice_get (rids_of key ps) 0 → (o : Ordering) → slice_cmp nat_cmp p.key key ≡ o → met key (p ∷ ps) ≡ slice_get (rids_of key (p ∷ ps)) 0
  by_order rest Less is = rw is rest
  by_order rest Equal is = rw is refl
  by_order rest Greater is =
      rw is (sym (ap (λ (qs : List Pair). slice_get (map (λ q. q.rid) qs) 0)
      (filter_none (is_key key) ps (λ q i. past key p q (ap is_lt is) (ap is_eq is) (r.0 q i)))))

-- what it meets next
pub met_equal :
    (key : List ℕ) (p : Pair) (ps left rest : List Pair) (o : Ordering) → IsRising is_before ps → met key left ≡ met key ps → left ≡ p ∷ rest
    → o ≡ slice_cmp nat_cmp p.key key → o ≡ Equal → Some p.rid ≡ slice_get (rids_of key ps) 0
met_equal key p ps left rest o r was first is same =
    let here : met key (p ∷ rest) ≡ Some p.rid = rw (sym is ∙ same) refl in sym here ∙ ap (met key) (sym first) ∙ was ∙ met_is key ps r

pub met_greater :
    (key : List ℕ) (p : Pair) (ps left rest : List Pair) (o : Ordering) → IsRising is_before ps → met key left ≡ met key ps → left ≡ p ∷ rest
    → o ≡ slice_cmp nat_cmp p.key key → o ≡ Greater → None ≡ slice_get (rids_of key ps) 0
met_greater key p ps left rest o r was first is above =
    let here : met key (p ∷ rest) ≡ None = rw (sym is ∙ above) refl in sym here ∙ ap (met key) (sym first) ∙ was ∙ met_is key ps r

pub met_less :
    (key : List ℕ) (p : Pair) (ps left rest : List Pair) (o : Ordering) → met key left ≡ met key ps → left ≡ p ∷ rest → o ≡ slice_cmp nat_cmp p.key key
    → o ≡ Less → met key rest ≡ met key ps
met_less key p ps left rest o was first is below =
    let here : met key (p ∷ rest) ≡ met key rest = rw (sym is ∙ below) refl in sym here ∙ ap (met key) (sym first) ∙ was

pub met_end :
    (key : List ℕ) (ps left : List Pair) → IsRising is_before ps → met key left ≡ met key ps → left ≡ [] → None ≡ slice_get (rids_of key ps) 0
met_end key ps left r was empty = ap (met key) (sym empty) ∙ was ∙ met_is key ps r

lt_is : (o : Ordering) → is_lt o ≡ true → o ≡ Less
lt_is Less e = refl
lt_is Equal e = absurd (false≢true e)
lt_is Greater e = absurd (false≢true e)

-- it may begin at a key that has only lesser ones below it than this one
pub met_from :
    (key front : List ℕ) (ps : List Pair) → ((xs : List ℕ) → is_less xs front ≡ true → is_less xs key ≡ true) → met key (from (first_of front) ps) ≡ met key ps
met_from key front [] below = refl
met_from key front (p ∷ ps) below = elim (cases_Bool (is_before p (first_of front))) [
  | inl e ↦
      let less : slice_cmp nat_cmp p.key key ≡ Less = lt_is (slice_cmp nat_cmp p.key key) (below p.key (sym (before_first p front) ∙ e)) in
      rw (e, less) (met_from key front ps below)
  | inr e ↦ rw e refl
]

then_longer : (o r s : Ordering) → (is_lt r ≡ true → is_lt s ≡ true) → is_lt (ordering_then o r) ≡ true → is_lt (ordering_then o s) ≡ true
then_longer Less r s f e = refl
then_longer Equal r s f e = f e
then_longer Greater r s f e = absurd (false≢true e)

-- what is less than the front of a key is less than the key
pub less_longer : (xs ys zs : List ℕ) → is_less xs ys ≡ true → is_less xs (ys ++ zs) ≡ true
less_longer [] [] zs e = absurd (false≢true e)
less_longer [] (y ∷ ys) zs e = refl
less_longer (x ∷ xs) [] zs e = absurd (false≢true e)
less_longer (x ∷ xs) (y ∷ ys) zs e =
    then_longer (nat_cmp x y) (slice_cmp nat_cmp xs ys) (slice_cmp nat_cmp xs (ys ++ zs)) (less_longer xs ys zs) e
