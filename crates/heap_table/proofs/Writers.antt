-- Who wrote what, in a log and in one with a record more.
use Rattle.std.proofs.Common.{◌≡◌, inl, inr, ℕ, zero, suc, max, Bool, true, false, List, [], ◌∷◌, ◌++◌, get_or, Option, Some, None, refl, sym, ap, ◌∙◌}
use Rattle.std.proofs.Math.Bool.{or-false}
use Rattle.std.specs.Prelude.{◌||◌}
use Rattle.std.specs.List.{slice_get}
use Rattle.std.proofs.lemmas.Bool.{cases_Bool, false≢true, and_from, and_parts}
use Rattle.std.proofs.lemmas.Option.{slice_get-get_or, slice_get_within, get_or_from_slice_get}
use Rattle.std.proofs.lemmas.List.Folds.{list_any_at, list_any-append, Any-from_list_any}
use Rattle.keybytes.specs.declared.rid.Rid.{Rid}
use Rattle.heap_log.specs.declared.record.LogRec.{LogRec}
use Rattle.heap_log.specs.Standing.{record_at, is_write_of, is_write_at}
use Rattle.heap_table.specs.Holders.{writes, wrote, is_commit_of, committed, before_first, size_written, greatest_written}
use Rattle.std.proofs.Math.Nat.{max_comm}
use Rattle.heap_table.proofs.Small.{max_turned}

-- a number of a write of the transaction at the RID
pub record HasWrite (log : List LogRec) (txn : ℕ) (rid : Rid) : Type 0 where
  pub number : ℕ
  pub by : is_write_of txn (record_at log number) ≡ true
  pub there : is_write_at rid (record_at log number) ≡ true

pub wrote_some : (log : List LogRec) (txn : ℕ) (rid : Rid) → wrote log txn rid ≡ true → HasWrite log txn rid
wrote_some log txn rid e =
    let found = Any-from_list_any (writes txn rid) log e in
    let x : LogRec = found.1 in
    let at : record_at log (suc found.0) ≡ Some x = slice_get-get_or log found.0 x found.2 ∙ ap Some found.3 in
    let both = and_parts (is_write_of txn (Some x)) (is_write_at rid (Some x)) found.4 in
    record { number = suc found.0; by = ap (is_write_of txn) at ∙ both.0; there = ap (is_write_at rid) at ∙ both.1 }

wrote_by : (log : List LogRec) (txn : ℕ) (rid : Rid) (k : ℕ) (o : Option LogRec) → slice_get log k ≡ o → is_write_of txn o ≡ true → is_write_at rid o ≡ true
    → wrote log txn rid ≡ true
wrote_by log txn rid k None is by there = absurd (false≢true by)
wrote_by log txn rid k (Some r) is by there =
    let here : get_or log k r ≡ r = get_or_from_slice_get log k r r is in
    list_any_at (writes txn rid) log k r (slice_get_within log k r is)
    (ap (writes txn rid) here ∙ and_from (is_write_of txn (Some r)) (is_write_at rid (Some r)) by there)

pub wrote_from : (log : List LogRec) (txn : ℕ) (rid : Rid) (n : ℕ) → is_write_of txn (record_at log n) ≡ true → is_write_at rid (record_at log n) ≡ true
    → wrote log txn rid ≡ true
wrote_from log txn rid zero by there = absurd (false≢true by)
wrote_from log txn rid (suc i) by there = wrote_by log txn rid i (slice_get log i) refl by there

pub wrote-added : (log : List LogRec) (rec : LogRec) (txn : ℕ) (rid : Rid) → wrote (log ++ rec ∷ []) txn rid ≡ (wrote log txn rid || writes txn rid rec)
wrote-added log rec txn rid =
    list_any-append (writes txn rid) log (rec ∷ []) ∙ ap (λ (b : Bool). wrote log txn rid || b) (or-false (writes txn rid rec))

pub committed-added : (log : List LogRec) (rec : LogRec) (txn : ℕ) → committed (log ++ rec ∷ []) txn ≡ (committed log txn || is_commit_of txn rec)
committed-added log rec txn =
    list_any-append (is_commit_of txn) log (rec ∷ []) ∙ ap (λ (b : Bool). committed log txn || b) (or-false (is_commit_of txn rec))

pub greatest_written-added : (txn : ℕ) (rid : Rid) (log : List LogRec) (rec : LogRec)
    → greatest_written txn rid (log ++ rec ∷ []) ≡ max (greatest_written txn rid log) (size_written txn rid rec)
greatest_written-added txn rid [] rec = max_comm (size_written txn rid rec) 0
greatest_written-added txn rid (first ∷ log) rec =
    ap (max (size_written txn rid first)) (greatest_written-added txn rid log rec)
    ∙ max_turned (size_written txn rid first) (greatest_written txn rid log) (size_written txn rid rec)

-- the log before a first write that is there already
pub before_first_kept : (txn : ℕ) (rid : Rid) (log more : List LogRec) → wrote log txn rid ≡ true
    → before_first txn rid (log ++ more) ≡ before_first txn rid log
before_first_kept txn rid [] more e = absurd (false≢true e)
before_first_kept txn rid (rec ∷ log) more e = elim (cases_Bool (writes txn rid rec)) [
  | inl is ↦ rw is refl
  | inr is ↦
      let rest : wrote log txn rid ≡ true = sym (ap (λ (b : Bool). b || wrote log txn rid) is) ∙ e in
      rw is (ap (λ (l : List LogRec). rec ∷ l) (before_first_kept txn rid log more rest))
]

-- the log before the first write, where that comes next
pub before_first_next : (txn : ℕ) (rid : Rid) (log : List LogRec) (rec : LogRec) → wrote log txn rid ≡ false → writes txn rid rec ≡ true
    → before_first txn rid (log ++ rec ∷ []) ≡ log
before_first_next txn rid [] rec none is = rw is refl
before_first_next txn rid (first ∷ log) rec none is = elim (cases_Bool (writes txn rid first)) [
  | inl e ↦ absurd (false≢true (sym none ∙ ap (λ (b : Bool). b || wrote log txn rid) e))
  | inr e ↦
      let rest : wrote log txn rid ≡ false = sym (ap (λ (b : Bool). b || wrote log txn rid) e) ∙ none in
      rw e (ap (λ (l : List LogRec). first ∷ l) (before_first_next txn rid log rec rest is))
]

-- nothing was written where no write is
pub greatest_none : (txn : ℕ) (rid : Rid) (log : List LogRec) → wrote log txn rid ≡ false → greatest_written txn rid log ≡ 0
greatest_none txn rid [] none = refl
greatest_none txn rid (rec ∷ log) none = elim (cases_Bool (writes txn rid rec)) [
  | inl e ↦ absurd (false≢true (sym none ∙ ap (λ (b : Bool). b || wrote log txn rid) e))
  | inr e ↦
      let rest : wrote log txn rid ≡ false = sym (ap (λ (b : Bool). b || wrote log txn rid) e) ∙ none in
      let here : size_written txn rid rec ≡ 0 = rw e refl in
      rw (here, greatest_none txn rid log rest) refl
]
