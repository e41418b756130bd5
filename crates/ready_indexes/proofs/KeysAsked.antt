-- What the pairs and the guards of a unique index say of a key.
use Rattle.std.proofs.Common.{◌≡◌, ◌≢◌, ℕ, Bool, true, false, ◌||◌, List, [], ◌∷◌, filter_map, Option, None, Some, refl, sym, ap, ◌∙◌, subst, inl, inr}
use Rattle.std.specs.List.{slice_get, find}
use Rattle.std.specs.Option.{option_map}
use Rattle.std.specs.Str.{bytes_eq}
use Rattle.std.proofs.lemmas.Bool.{cases_Bool, false_from_ne_true, false≢true, cond-true, cond-false}
use Rattle.std.proofs.lemmas.Option.{same_Some}
use Rattle.std.proofs.lemmas.Slice.Eq.{bytes_eq-Decides}
use Rattle.keybytes.specs.Faults.{first_cause}
use Rattle.keybytes.specs.Keys.{KeySpecValue, key_there}
use Rattle.keybytes.specs.declared.cell.Cell.{Cell}
use Rattle.keybytes.specs.declared.fault.Fault.{Fault}
use Rattle.keybytes.specs.declared.fault.Fault.TheVariants.{Duplicate}
use Rattle.keybytes.specs.declared.pair.Pair.{Pair}
use Rattle.keybytes.specs.declared.rid.Rid.{Rid}
use Rattle.keybytes.specs.Pairs.{pair_cmp}
use Rattle.std.specs.Ordering.{eq_by_cmp}
use Rattle.keybytes.proofs.PairSets.{is_in, is_pair, in_set, itself, tied_pairs}
use Rattle.heap_table.proofs.TablePairs.{all_listed, row_written}
use Rattle.heap_log.specs.Standing.{live_at}
use Rattle.heap_log.specs.declared.record.LogRec.{LogRec}
use Rattle.heap_table.specs.TablePairs.{pairs_at_rest, pair_at, written_rids}
use Rattle.btree.specs.TreeValue.{is_key, rids_of}
use Rattle.btree.proofs.OneKey.{key_same, has_same}
use Rattle.key_guards.specs.KeyRefusals.{rid_with, other_guard, duplicate_refusal, guarded_refusal, new_key_refusal, next_key_refusal}
use Rattle.key_guards.specs.UniqueKeys.{has_key, is_its_key, KeysAreUnique}
use Rattle.ready_indexes.specs.KeyCauses.{found_for}
use Rattle.std.specs.Prelude.{Result, Ok, Err, MatchResult, OnOk, IfErr}
use Rattle.key_guards.proofs.Refusals.{find_passes, no_rid_with}

is_same : (key : List ℕ) (pair : Pair) → is_key key pair ≡ bytes_eq pair.key key
is_same key pair = elim (cases_Bool (is_key key pair)) [
  | inl here ↦ here ∙ sym ((bytes_eq-Decides pair.key key).1 (key_same key pair here))
  | inr there ↦
      there ∙ sym (false_from_ne_true (bytes_eq pair.key key) (λ same.
      false≢true (sym there ∙ has_same key pair ((bytes_eq-Decides pair.key key).0 same))))
]

-- the first RID with a key is that of the first pair with it
pub first_with : (key : List ℕ) (pairs : List Pair) → slice_get (rids_of key pairs) 0 ≡ option_map (λ pair. pair.rid) (find (λ pair. bytes_eq pair.key key) pairs)
first_with key [] = refl
first_with key (p ∷ pairs) = elim (cases_Bool (is_key key p)) [
  | inl here ↦ let same : bytes_eq p.key key ≡ true = sym (is_same key p) ∙ here in rw (here, same) refl
  | inr there ↦ let other : bytes_eq p.key key ≡ false = sym (is_same key p) ∙ there in rw (there, other) (first_with key pairs)
]

or-true : (t : Bool) → (t || true) ≡ true
or-true true = refl
or-true false = refl

found_in : (p : Pair → Bool) (pairs : List Pair) (q : Pair) → find p pairs ≡ Some q → is_in q pairs ≡ true
found_in p [] q found = absurd (cc)
found_in p (x ∷ pairs) q found = elim (cases_Bool (p x)) [
  | inl hit ↦
      let same : x ≡ q = same_Some x q (sym (cond-true (p x) (Some x) (find p pairs) hit) ∙ found) in
      ap (λ y. eq_by_cmp pair_cmp q y || is_in q pairs) same ∙ ap (λ t. t || is_in q pairs) (itself q)
  | inr miss ↦
      ap (λ t. eq_by_cmp pair_cmp q x || t) (found_in p pairs q (sym (cond-false (p x) (Some x) (find p pairs) miss) ∙ found))
      ∙ or-true (eq_by_cmp pair_cmp q x)
]

mapped : (o : Option Pair) (rid : Rid) → option_map (λ pair. pair.rid) o ≡ Some rid → (pair : Pair) × (o ≡ Some pair) × (pair.rid ≡ rid)
mapped None rid is = absurd (cc)
mapped (Some pair) rid is = (pair, refl, same_Some pair.rid rid is)

-- the row at a RID that is found with a key has it
pub row_with : (spec : KeySpecValue) (log : List LogRec) (key : List ℕ) (rid : Rid) → rid_with spec log key ≡ Some rid → has_key spec key (live_at log rid) ≡ true
row_with spec log key rid found =
    let it = mapped (find (λ pair. bytes_eq pair.key key) (pairs_at_rest spec log)) rid found in
    let q : Pair = it.0 in
    let passes : bytes_eq q.key key ≡ true = find_passes (λ pair. bytes_eq pair.key key) (pairs_at_rest spec log) q it.1 in
    let there : is_pair (pair_at spec log q.rid) q ≡ true =
    sym (all_listed spec log (written_rids log) (row_written log) q) ∙ sym (in_set q (filter_map (pair_at spec log) (written_rids log)))
    ∙ found_in (λ pair. bytes_eq pair.key key) (pairs_at_rest spec log) q it.1 in
    subst (λ r. has_key spec key (live_at log r) ≡ true) it.2 (at q passes (key_there spec (live_at log q.rid)) there) where
      at : (q : Pair) → bytes_eq q.key key ≡ true → (own : Option (List ℕ)) → is_pair (option_map (λ bytes. record { key = bytes; rid = q.rid }) own) q ≡ true
          → is_its_key key own ≡ true
      at q passes None there = absurd (false≢true there)
      at q passes (Some own) there =
          let same : q ≡ record { key = own; rid = q.rid } = tied_pairs q _ there in
          ap (λ (p : Pair). bytes_eq p.key key) (sym same) ∙ passes

-- what the tree answers is the row that has the key
pub found_row : (spec : KeySpecValue) (pairs : List Pair) (log : List LogRec) (key : List ℕ) (rid : Option Rid) → pairs ≡ pairs_at_rest spec log
    → rid ≡ slice_get (rids_of key pairs) 0 → rid ≡ rid_with spec log key
found_row spec pairs log key rid are found_is =
    found_is ∙ ap (λ ps. slice_get (rids_of key ps) 0) are ∙ first_with key (pairs_at_rest spec log)

module _ (number : ℕ) (spec : KeySpecValue) (log : List LogRec) (txn : ℕ) (rid : Rid) where
  -- why that key may not be put at the RID, if it is one
  abbrev cause : Option (List ℕ) → Option Fault
  cause new = next_key_refusal number spec log txn (key_there spec (live_at log rid)) new

  -- the RID has the key already
  pub keeps_key : (new : Option (List ℕ)) → found_for (rid_with spec log) new ≡ Some rid → cause new ≡ None
  keeps_key None found = refl
  keeps_key (Some key) found = cond-true (has_key spec key (live_at log rid)) None (new_key_refusal number spec log txn key) (row_with spec log key rid found)

  gives_key : (key : List ℕ) → has_key spec key (live_at log rid) ≡ false → cause (Some key) ≡ new_key_refusal number spec log txn key
  gives_key key has_not = cond-false (has_key spec key (live_at log rid)) None (new_key_refusal number spec log txn key) has_not

  -- another has it
  pub other_has : (new : Option (List ℕ)) (other : Rid) → KeysAreUnique spec log → found_for (rid_with spec log) new ≡ Some other → other ≢ rid
      → cause new ≡ Some (Duplicate number other)
  other_has None other unique found apart = absurd (cc)
  other_has (Some key) other unique found apart =
      gives_key key (false_from_ne_true (has_key spec key (live_at log rid))
      (λ has. apart (unique.one key other rid (row_with spec log key other found) has)))
      ∙ ap (λ o. first_cause (duplicate_refusal number o) (guarded_refusal number (other_guard spec log txn key))) found

  -- none has it
  pub none_has : (new : Option (List ℕ)) → found_for (rid_with spec log) new ≡ None → cause new ≡ guarded_refusal number (found_for (other_guard spec log txn) new)
  none_has None none = refl
  none_has (Some key) none =
      gives_key key (no_rid_with spec log key none rid)
      ∙ ap (λ o. first_cause (duplicate_refusal number o) (guarded_refusal number (other_guard spec log txn key))) none

-- what a check of one cause tells of the same cause otherwise told
module _ {T : Type 0} (r : Result T Fault) (told cause : Option Fault) (same : cause ≡ told) (is : MatchResult r (λ _. told ≡ None) (λ fault. told ≡ Some fault)) where
  pub told_free : OnOk r (cause ≡ None)
  told_free = by_result r is where
    by_result : (x : Result T Fault) → MatchResult x (λ _. told ≡ None) (λ fault. told ≡ Some fault) → OnOk x (cause ≡ None)
    by_result (Ok v) none = same ∙ none
    by_result (Err fault) some = tt

  pub told_cause : IfErr r (λ fault. cause ≡ Some fault)
  told_cause = by_result r is where
    by_result : (x : Result T Fault) → MatchResult x (λ _. told ≡ None) (λ fault. told ≡ Some fault) → IfErr x (λ fault. cause ≡ Some fault)
    by_result (Ok v) none = tt
    by_result (Err fault) some = same ∙ some

-- a fault of the first cause is one of both, and so is one of the second where the first doesn't stand
pub first_fault : (first second : Option Fault) (fault : Fault) → first ≡ Some fault → first_cause first second ≡ Some fault
first_fault first second fault is = ap (λ o. first_cause o second) is

pub second_fault : (first second : Option Fault) (fault : Fault) → first ≡ None → second ≡ Some fault → first_cause first second ≡ Some fault
second_fault first second fault none is = ap (λ o. first_cause o second) none ∙ is
