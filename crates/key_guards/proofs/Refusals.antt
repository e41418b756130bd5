-- What it means that a write is refused, or not, for the sake of a unique index.
use Rattle.std.proofs.Common.{◌≡◌, ◌≢◌, ℕ, ◌+◌, Bool, true, false, List, [], ◌∷◌, length, Option, Some, None, refl, sym, ap, subst, ◌∙◌, arith, inl, inr}
use Rattle.std.specs.Prelude.{◌&&◌, not, ◌==◌}
use Rattle.std.specs.List.{find}
use Rattle.std.specs.Option.{option_map}
use Rattle.std.proofs.lemmas.Slice.Eq.{bytes_eq-Decides}
use Rattle.std.proofs.lemmas.Option.{same_Some}
use Rattle.std.proofs.lemmas.Bool.{cases_Bool, cond-true, cond-false, false≢true, and_parts, and_from, not-true, not_from_false, eq-eqb, ne_eqb}
use Rattle.keybytes.specs.Faults.{first_cause}
use Rattle.keybytes.specs.Keys.{KeySpecValue, key_there}
use Rattle.keybytes.specs.declared.cell.Cell.{Cell}
use Rattle.keybytes.specs.declared.rid.Rid.{Rid}
use Rattle.heap_log.specs.declared.record.LogRec.{LogRec}
use Rattle.heap_log.specs.Standing.{record_at, undone, is_write_of, stands_of, last_below, row_at, live_at, standing_before, txn_of, IsWrite}
use Rattle.heap_log.proofs.Last.{last_below_some, last_below_none}
use Rattle.heap_log.proofs.Numbers.{write_of}
use Rattle.heap_log.proofs.Records.{txn_of-write}
use Rattle.heap_table.specs.Holders.{committed}
use Rattle.heap_table.proofs.Small.{some_or_none}
use Rattle.heap_table.specs.TablePairs.{pair_at, written_rids, pairs_at_rest}
use Rattle.heap_table.proofs.TablePairs.{all_listed, row_written}
use Rattle.std.specs.Prelude.{filter_map}
use Rattle.std.specs.Str.{bytes_eq}
use Rattle.std.specs.Ordering.{eq_by_cmp, is_eq}
use Rattle.std.proofs.lemmas.Cmp.{tied_itself}
use Rattle.std.proofs.lemmas.Bool.{or_cases}
use Rattle.keybytes.specs.Pairs.{pair_cmp, pair_with}
use Rattle.keybytes.specs.declared.pair.Pair.{Pair}
use Rattle.keybytes.proofs.PairSets.{pairs_total, is_in, is_pair, in_set, tied_pairs}
use Rattle.key_guards.specs.UniqueKeys.{HaveOwnKeys, KeysAreUnique, is_its_key, has_key, KeysStayUnique, GuardsKey, GivesKey, MayGive, WritesAreHeld}
use Rattle.key_guards.specs.KeyRefusals.{rid_with, took_key, took_from, other_guard, duplicate_refusal, guarded_refusal, new_key_refusal, next_key_refusal, key_refusal}
use Rattle.key_guards.proofs.OneGuard.{one_guard}

-- what is found passes; where none is, none of the list passes
pub find_passes : {X : Type 0} (p : X → Bool) (xs : List X) (x : X) → find p xs ≡ Some x → p x ≡ true
find_passes p [] x e = absurd (cc)
find_passes p (y ∷ xs) x e = elim (cases_Bool (p y)) [
  | inl hit ↦ let same : y ≡ x = same_Some y x (sym (cond-true (p y) (Some y) (find p xs) hit) ∙ e) in ap p (sym same) ∙ hit
  | inr miss ↦ find_passes p xs x (sym (cond-false (p y) (Some y) (find p xs) miss) ∙ e)
]

-- where nothing of the list is found, nothing of it passes
found_none : (p : Pair → Bool) (pairs : List Pair) (q : Pair) → find p pairs ≡ None → is_in q pairs ≡ true → p q ≡ false
found_none p [] q none there = absurd (false≢true there)
found_none p (x ∷ pairs) q none there = elim (cases_Bool (p x)) [
  | inl hit ↦ absurd (some_none x (sym (cond-true (p x) (Some x) (find p pairs) hit) ∙ none))
  | inr miss ↦ elim (or_cases (eq_by_cmp pair_cmp q x) (is_in q pairs) there) [
    | inl here ↦ ap p (tied_pairs q x here) ∙ miss
    | inr rest ↦ found_none p pairs q (sym (cond-false (p x) (Some x) (find p pairs) miss) ∙ none) rest
  ]
] where
  some_none : (x : Pair) → Some x ≡ None → ⊥
  some_none x f = cc

none_mapped : (o : Option Pair) → option_map (λ pair. pair.rid) o ≡ None → o ≡ None
none_mapped None e = refl
none_mapped (Some x) e = absurd (cc)

-- who has a key has a pair with it among those at rest
pair_at_rest : (spec : KeySpecValue) (log : List LogRec) (rid : Rid) (key : List ℕ) → key_there spec (live_at log rid) ≡ Some key
    → is_in (record { key = key; rid = rid }) (pairs_at_rest spec log) ≡ true
pair_at_rest spec log rid key has =
    let q : Pair = record { key = key; rid = rid } in
    in_set q (filter_map (pair_at spec log) (written_rids log))
    ∙ all_listed spec log (written_rids log) (row_written log) q
    ∙ ap (λ (k : Option (List ℕ)). is_pair (option_map (λ bytes. record { key = bytes; rid = rid }) k) q) has
    ∙ ap is_eq (tied_itself pairs_total q)

-- where no two pairs have one key, no two rows have
pub rows_have_own_keys : (spec : KeySpecValue) (log : List LogRec) → HaveOwnKeys (pairs_at_rest spec log) → KeysAreUnique spec log
rows_have_own_keys spec log own = record { one = λ key p q. at key p q (key_there spec (live_at log p)) (key_there spec (live_at log q)) refl refl }
  where
    at :
        (key : List ℕ) (p q : Rid) (one other : Option (List ℕ)) → key_there spec (live_at log p) ≡ one → key_there spec (live_at log q) ≡ other
        → is_its_key key one ≡ true → is_its_key key other ≡ true → p ≡ q
    at key p q None other live_p live_q has_p has_q = absurd (false≢true has_p)
    at key p q (Some one) None live_p live_q has_p has_q = absurd (false≢true has_q)
    at key p q (Some one) (Some other) live_p live_q has_p has_q =
        let same : one ≡ other = (bytes_eq-Decides one key).0 has_p ∙ sym ((bytes_eq-Decides other key).0 has_q) in
        ap (λ (x : Pair). x.rid) (own.one (record { key = one; rid = p }) (record { key = other; rid = q })
        (pair_at_rest spec log p one live_p) (pair_at_rest spec log q other live_q) same)

-- where no RID is found, no row has the key
pub no_rid_with : (spec : KeySpecValue) (log : List LogRec) (key : List ℕ) → rid_with spec log key ≡ None → (rid : Rid)
    → has_key spec key (live_at log rid) ≡ false
no_rid_with spec log key none rid = at (key_there spec (live_at log rid)) refl
  where
    at : (own : Option (List ℕ)) → key_there spec (live_at log rid) ≡ own → is_its_key key own ≡ false
    at None live = refl
    at (Some own) live =
        found_none (λ pair. bytes_eq pair.key key) (pairs_at_rest spec log) (record { key = own; rid = rid })
        (none_mapped (find (λ pair. bytes_eq pair.key key) (pairs_at_rest spec log)) none) (pair_at_rest spec log rid own live)

-- a number that passes is that of a guard's write, and the other way round
pub guards_by : (spec : KeySpecValue) (log : List LogRec) (key : List ℕ) (n : ℕ) → took_key spec log key n ≡ true → GuardsKey spec log (txn_of (record_at log n)) key
guards_by spec log key n e =
    let t : ℕ = txn_of (record_at log n) in
    let had : Bool = has_key spec key (row_at log (standing_before log n)) in
    let has : Bool = has_key spec key (row_at log (Some n)) in
    let both = and_parts (stands_of log t n && not (committed log t)) (had && not has) e in
    let live = and_parts (stands_of log t n) (not (committed log t)) both.0 in
    let took = and_parts had (not has) both.1 in
    record { uncommitted = not-true (committed log t) live.1; number = n; stands = live.0; had = took.0; took = not-true has took.1 }

-- a write that took a key stands
pub took_stands : (spec : KeySpecValue) (log : List LogRec) (key : List ℕ) (n : ℕ) → took_key spec log key n ≡ true → stands_of log (txn_of (record_at log n)) n ≡ true
unfolding guards_by
took_stands spec log key n e = (guards_by spec log key n e).stands

pub took_by : (spec : KeySpecValue) (log : List LogRec) (txn : ℕ) (key : List ℕ) (g : GuardsKey spec log txn key) → (txn_of (record_at log g.number) ≡ txn) × (took_key spec log key g.number ≡ true)
took_by spec log txn key g =
    let n : ℕ = g.number in
    let is : txn_of (record_at log n) ≡ txn = txn_of-write txn (record_at log n) (and_parts (is_write_of txn (record_at log n)) (not (undone log n)) g.stands).0 in
    let t : ℕ = txn_of (record_at log n) in
    let had : Bool = has_key spec key (row_at log (standing_before log n)) in
    let has : Bool = has_key spec key (row_at log (Some n)) in (
      is,
      and_from (stands_of log t n && not (committed log t)) (had && not has)
          (and_from (stands_of log t n) (not (committed log t)) (ap (λ u. stands_of log u n) is ∙ g.stands) (not_from_false (committed log t) (ap (committed log) is ∙ g.uncommitted)))
          (and_from had (not has) g.had (not_from_false has g.took)),
    )

-- where no other guard is found, there is none
pub no_other_guard : (spec : KeySpecValue) (log : List LogRec) (txn : ℕ) (key : List ℕ) → other_guard spec log txn key ≡ None → (other : ℕ) → other ≢ txn → GuardsKey spec log other key → ⊥
no_other_guard spec log txn key none other apart g = at (last_below (took_from spec log txn key) (length log + 1)) refl none
  where
    number : ℕ
    number = g.number

    at : (o : Option ℕ) → last_below (took_from spec log txn key) (length log + 1) ≡ o → option_map (λ n. txn_of (record_at log n)) o ≡ None → ⊥
    at None e f =
        let took = took_by spec log other key g in
        let w : IsWrite log g.number = write_of log other g.number (and_parts (is_write_of other (record_at log g.number)) (not (undone log g.number)) g.stands).0 in
        let other_one : not (txn_of (record_at log g.number) == txn) ≡ true = not_from_false (txn_of (record_at log g.number) == txn) (ne_eqb (txn_of (record_at log g.number)) txn (λ is. apart (sym took.0 ∙ is))) in
        false≢true (sym (last_below_none (took_from spec log txn key) (length log + 1) e g.number (omega (arith, w.high)))
        ∙ and_from (not (txn_of (record_at log g.number) == txn)) (took_key spec log key g.number) other_one took.1)
    at (Some n) e f = cc

-- a guard that is found guards the key, and is another transaction
pub record IsOtherGuard (spec : KeySpecValue) (log : List LogRec) (txn : ℕ) (key : List ℕ) (other : ℕ) : Type 0 where
  pub apart : other ≢ txn
  pub guards : GuardsKey spec log other key

pub other_guard_is : (spec : KeySpecValue) (log : List LogRec) (txn : ℕ) (key : List ℕ) (other : ℕ) → other_guard spec log txn key ≡ Some other → IsOtherGuard spec log txn key other
other_guard_is spec log txn key other is = at (last_below (took_from spec log txn key) (length log + 1)) refl is
  where
    at : (o : Option ℕ) → last_below (took_from spec log txn key) (length log + 1) ≡ o → option_map (λ n. txn_of (record_at log n)) o ≡ Some other → IsOtherGuard spec log txn key other
    at None e f = absurd (cc)
    at (Some n) e f =
        let t : ℕ = txn_of (record_at log n) in
        let same : t ≡ other = same_Some t other f in
        let both = and_parts (not (t == txn)) (took_key spec log key n) (last_below_some (took_from spec log txn key) (length log + 1) n e).passes in
        let P : ℕ → Type 0 = λ u. GuardsKey spec log u key in
        record {
          apart = λ is. false≢true (sym (not-true (t == txn) both.0) ∙ eq-eqb t txn (same ∙ is));
          guards = subst P same (guards_by spec log key n both.1);
        }

-- whichever way a guard is found, it is the one that the refusal names
pub other_guard_found : (spec : KeySpecValue) (log : List LogRec) (txn : ℕ) (key : List ℕ) (other : ℕ) → KeysStayUnique spec log → WritesAreHeld log → other ≢ txn → GuardsKey spec log other key → other_guard spec log txn key ≡ Some other
other_guard_found spec log txn key other h held apart g = elim (some_or_none (other_guard spec log txn key)) [
  | inl none ↦ absurd (no_other_guard spec log txn key none other apart g)
  | inr some ↦
      let is : IsOtherGuard spec log txn key some.0 = other_guard_is spec log txn key some.0 some.1 in
      some.1 ∙ ap Some (one_guard spec log h held key some.0 other is.guards g)
]

-- a write that is not refused may be made
pub may_give : (index : ℕ) (spec : KeySpecValue) (log : List LogRec) (txn : ℕ) (rid : Rid) (row : Option (List Cell))
    → key_refusal index spec log txn (live_at log rid) row ≡ None → MayGive spec log txn rid row
may_give index spec log txn rid row e = record {
  unshared = λ key other gives apart. no_rid_with spec log key (both_none _ _ (asked key (key_there spec row) gives.has gives.new e)).0 other;
  unguarded = λ key other gives apart g.
      no_other_guard spec log txn key (both_none _ _ (asked key (key_there spec row) gives.has gives.new e)).1 other apart g;
} where
  asked : (key : List ℕ) (new : Option (List ℕ)) → is_its_key key new ≡ true → has_key spec key (live_at log rid) ≡ false
      → next_key_refusal index spec log txn (key_there spec (live_at log rid)) new ≡ None → new_key_refusal index spec log txn key ≡ None
  asked key None has is_new f = absurd (false≢true has)
  asked key (Some own) has is_new f =
      let is : own ≡ key = (bytes_eq-Decides own key).0 has in
      let new : is_its_key own (key_there spec (live_at log rid)) ≡ false = ap (λ k. is_its_key k (key_there spec (live_at log rid))) is ∙ is_new in
      ap (new_key_refusal index spec log txn) (sym is)
      ∙ sym (cond-false (is_its_key own (key_there spec (live_at log rid))) None (new_key_refusal index spec log txn own) new) ∙ f

  both_none : (o : Option Rid) (g : Option ℕ) → first_cause (duplicate_refusal index o) (guarded_refusal index g) ≡ None → (o ≡ None) × (g ≡ None)
  both_none None None f = (refl, refl)
  both_none None (Some u) f = absurd (cc)
  both_none (Some r) g f = absurd (cc)
