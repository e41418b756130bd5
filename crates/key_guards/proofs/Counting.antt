-- What a change of the map does to the counts.
use Rattle.std.proofs.Common.{◌≡◌, ◌≢◌, ℕ, Bool, true, false, List, Option, Some, None, BTreeMap, refl, subst, sym, ap, ◌∙◌, inl, inr}
use Rattle.std.specs.BTreeMap.{get, UpdatesBy, WritesThrough}
use Rattle.std.specs.Cmp.Lexicographic.{slice_cmp}
use Rattle.std.specs.Option.{unwrap_or}
use Rattle.std.specs.Prelude.{IsSome, is_some}
use Rattle.std.specs.Ordering.{nat_cmp, is_eq}
use Rattle.std.proofs.lemmas.Bool.{cases_Bool, false≢true}
use Rattle.std.proofs.lemmas.Map.Text.{is_eq-slice_cmp}
use Rattle.std.proofs.lemmas.Slice.Eq.{bytes_eq-Decides}
use Rattle.key_guards.specs.KeyCounts.{count_of, CountsOnly}

abbrev pub SetsCount : BTreeMap (List ℕ) ℕ → BTreeMap (List ℕ) ℕ → List ℕ → Option ℕ → Type 0
SetsCount old new key w = UpdatesBy (slice_cmp nat_cmp) (slice_cmp nat_cmp key) old new w

same_key : (key q : List ℕ) → is_eq (slice_cmp nat_cmp key q) ≡ true → key ≡ q
same_key key q e = (bytes_eq-Decides key q).0 (sym (is_eq-slice_cmp key q) ∙ e)

other_key : (key q : List ℕ) → q ≢ key → is_eq (slice_cmp nat_cmp key q) ≡ false
other_key key q apart = elim (cases_Bool (is_eq (slice_cmp nat_cmp key q))) [
  | inr differs ↦ differs
  | inl same ↦ absurd (apart (sym (same_key key q same)))
]

pub counts_only : (old new : BTreeMap (List ℕ) ℕ) (key : List ℕ) (w : Option ℕ) (count : ℕ) → SetsCount old new key w → unwrap_or w 0 ≡ count
    → CountsOnly old.entries new.entries key count
counts_only old new key w count updates is = record {
  this_key = ap (λ o. unwrap_or o 0) updates.1 ∙ is;
  other_keys = λ q apart. ap (λ o. unwrap_or o 0) (updates.2 q (other_key key q apart));
}

-- where a key that is not there comes in with none, all counts stay
pub noted_counts : (old new : BTreeMap (List ℕ) ℕ) (key : List ℕ) → get (slice_cmp nat_cmp) old key ≡ None → SetsCount old new key (Some 0)
    → (q : List ℕ) → count_of new.entries q ≡ count_of old.entries q
noted_counts old new key absent updates q = elim (cases_Bool (is_eq (slice_cmp nat_cmp key q))) [
  | inr differs ↦ ap (λ o. unwrap_or o 0) (updates.2 q differs)
  | inl same ↦
      ap (count_of new.entries) (sym (same_key key q same))
      ∙ ap (λ o. unwrap_or o 0) updates.1
      ∙ sym (ap (λ o. unwrap_or o 0) absent)
      ∙ ap (count_of old.entries) (same_key key q same)
]

-- a count that is written where the key is noted
pub written_count : (old new : BTreeMap (List ℕ) ℕ) (key : List ℕ) (was count : ℕ) → Some was ≡ get (slice_cmp nat_cmp) old key
    → WritesThrough (slice_cmp nat_cmp) (slice_cmp nat_cmp key) old count new → CountsOnly old.entries new.entries key count
written_count old new key was count there writes = counts_only old new key (Some count) count (writes.3 (subst IsSome there refl)) refl

-- what is there is the count
pub count_there : (old : BTreeMap (List ℕ) ℕ) (key : List ℕ) (was : ℕ) → Some was ≡ get (slice_cmp nat_cmp) old key → was ≡ count_of old.entries key
count_there old key was there = ap (λ o. unwrap_or o 0) there

not_some : (b : Bool) (o : Option ℕ) → b ≡ false → b ≡ is_some o → o ≡ None
not_some b None miss is = refl
not_some b (Some x) miss is = absurd (false≢true (sym miss ∙ is))

pub absent_by : (old : BTreeMap (List ℕ) ℕ) (key copy : List ℕ) (found : Bool) → found ≡ false → found ≡ is_some (get (slice_cmp nat_cmp) old key) → copy ≡ key
    → get (slice_cmp nat_cmp) old copy ≡ None
absent_by old key copy found miss is same = ap (get (slice_cmp nat_cmp) old) same ∙ not_some found (get (slice_cmp nat_cmp) old key) miss is
