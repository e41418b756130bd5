-- Loads that ran: what is in order, and the spools that are back.
use Rattle.std.proofs.Common.{◌≡◌, ℕ, zero, suc, ◌-◌, ◌*◌, ◌<◌, List, [], ◌∷◌, All, length, map, Option, Some, None, refl, sym, ap, ◌∙◌, subst, arith}
use Rattle.std.specs.Prelude.{IfSome}
use Rattle.std.specs.List.{AllZip, slice_get}
use Rattle.std.proofs.lemmas.List.{length-map, nil_from_length}
use Rattle.std.proofs.lemmas.List.Elements.{All-head, All-tail}
use Rattle.std.proofs.lemmas.Option.{same_Some}
use Rattle.keybytes.specs.Faults.{first_cause}
use Rattle.keybytes.specs.declared.fault.Fault.{Fault}
use Rattle.keybytes.specs.declared.fault.Fault.TheVariants.{Memory}
use Rattle.spool_ledger.specs.Accounts.{Stake}
use Rattle.page_workers.specs.SpoolValue.{SpoolValue, ended_spool, stakes_of}
use Rattle.index_load.specs.Columns.{column}
use Rattle.index_load.specs.IndexLoad.{HasRun, IndexLoadValue, without_spools}
use Rattle.index_load.proofs.Columns.{every_map}
use Rattle.index_load.proofs.ColumnsApart.{by_columns}
use Rattle.index_load.proofs.SpoolPlaces.{column_many}
use Rattle.building.specs.BuildingValue.{WorkValue}
use Rattle.building.specs.IndexLoads.{AreDone, AreHome, first_fault_of, load_at}
use Rattle.page_workers.proofs.Places.{all_at, all_from, at_map, below, there_is}
use Rattle.building.proofs.Stakes.{as_many}

-- two lists whose elements belong together, place by place
zip_at :
    {A B : Type 0} (R : A → B → Type 0) (xs : List A) (ys : List B) → AllZip R xs ys → (i : ℕ) (y : B) → slice_get ys i ≡ Some y
    → (x : A) × (slice_get xs i ≡ Some x) × R x y
zip_at R [] [] both i y at = absurd (cc)
zip_at R [] (z ∷ zs) both i y at = absurd both
zip_at R (x ∷ xs) [] both i y at = absurd both
zip_at R (x ∷ xs) (z ∷ zs) both zero y at = (x, refl, subst (R x) (same_Some z y at) both.0)
zip_at R (x ∷ xs) (z ∷ zs) both (suc i) y at = zip_at R xs zs both.1 i y at

pub zip_long : {A B : Type 0} (R : A → B → Type 0) (xs : List A) (ys : List B) → AllZip R xs ys → length xs ≡ length ys
zip_long R [] [] both = refl
zip_long R [] (z ∷ zs) both = absurd both
zip_long R (x ∷ xs) [] both = absurd both
zip_long R (x ∷ xs) (z ∷ zs) both = ap suc (zip_long R xs zs both.1)

-- neither is a cause
no_cause : (one other : Option Fault) → first_cause one other ≡ None → (one ≡ None) × (other ≡ None)
no_cause None other none = (refl, none)
no_cause (Some fault) other none = absurd (cc)

-- no load was refused
none_refused : (loads : List IndexLoadValue) → first_fault_of loads ≡ None → (i : ℕ) (load : IndexLoadValue) → slice_get loads i ≡ Some load → load.fault ≡ None
none_refused [] none i load at = absurd (cc)
none_refused (l ∷ ls) none zero load at = ap (λ (x : IndexLoadValue). x.fault) (sym (same_Some l load at)) ∙ (no_cause l.fault (first_fault_of ls) none).0
none_refused (l ∷ ls) none (suc i) load at = none_refused ls (no_cause l.fault (first_fault_of ls) none).1 i load at

-- the first that was refused was so for want of memory
this_wants :
    (one other : Option Fault) (fault : Fault) → IfSome one (λ f. f ≡ Memory) → (other ≡ Some fault → fault ≡ Memory) → first_cause one other ≡ Some fault
    → fault ≡ Memory
this_wants None other fault memory rest is = rest is
this_wants (Some f) other fault memory rest is = sym (same_Some f fault is) ∙ memory

pub first_wants :
    (loads : List IndexLoadValue) → All (λ load. IfSome load.fault (λ fault. fault ≡ Memory)) loads → (fault : Fault) → first_fault_of loads ≡ Some fault → fault ≡ Memory
first_wants [] all fault is = absurd (cc)
first_wants (l ∷ ls) all fault is =
    this_wants l.fault (first_fault_of ls) fault (All-head (λ (load : IndexLoadValue). IfSome load.fault (λ f. f ≡ Memory)) l ls all)
    (first_wants ls (All-tail (λ (load : IndexLoadValue). IfSome load.fault (λ f. f ≡ Memory)) l ls all) fault) is

-- whether the loads have their spools or not
pub same_faults : (loads : List IndexLoadValue) → first_fault_of (map without_spools loads) ≡ first_fault_of loads
same_faults [] = refl
same_faults (l ∷ ls) = ap (first_cause l.fault) (same_faults ls)

-- loads that ran have as many spools
pub own_ran :
    (workers : ℕ) (old new : List IndexLoadValue) → AllZip HasRun old new → All (λ load. length load.spools ≡ workers) old → All (λ load. length load.spools ≡ workers) new
own_ran workers old new ran own = all_from (λ (load : IndexLoadValue). length load.spools ≡ workers) new (λ i load at.
    let one = zip_at HasRun old new ran i load at in
    as_many load.spools one.0.spools one.2.stakes ∙ all_at (λ (load : IndexLoadValue). length load.spools ≡ workers) old i one.0 own one.1)

-- lists with the same columns, if there is one
same_columns : {X : Type 0} (n : ℕ) (xs ys : List X) → (n ≡ 0 → xs ≡ ys) → ((j : ℕ) → j < n → column j n xs ≡ column j n ys) → xs ≡ ys
same_columns zero xs ys none each = none refl
same_columns (suc m) xs ys none each = by_columns m xs ys each

module _
    (work : WorkValue) (workers : ℕ) (spools : List SpoolValue) (all : length spools ≡ workers * length work.specs) (before after : List IndexLoadValue)
    (lent : (i : ℕ) → i < length work.specs → slice_get before i ≡ Some (load_at work spools i)) (many : length before ≡ length work.specs)
    (ran : AllZip HasRun before after) where
  abbrev n : ℕ
  n = length work.specs

  pub as_long : length after ≡ n
  as_long = sym (zip_long HasRun before after ran) ∙ many

  its_run : (i : ℕ) (load : IndexLoadValue) → slice_get after i ≡ Some load → (i < n) × HasRun (load_at work spools i) load
  its_run i load at =
      let less : i < n = omega (arith, below after i load at, as_long) in
      let one = zip_at HasRun before after ran i load at in
      (less, subst (λ (l : IndexLoadValue). HasRun l load) (same_Some one.0 (load_at work spools i) (sym one.1 ∙ lent i less)) one.2)

  pub all_want : All (λ load. IfSome load.fault (λ fault. fault ≡ Memory)) after
  all_want = all_from (λ (load : IndexLoadValue). IfSome load.fault (λ fault. fault ≡ Memory)) after (λ i load at. (its_run i load at).1.memory refl)

  -- those that weren't refused are done
  pub all_done : first_fault_of after ≡ None → AreDone work spools (map without_spools after)
  all_done none = record {
    many = length-map after without_spools ∙ as_long;
    each = λ index load at.
        let x = at_map without_spools after index load at in
        let done = (its_run index x.0 x.1).1.done refl refl (none_refused after none index x.0 x.1) in
        record { built = done.0; there = ap (λ (l : IndexLoadValue). l.built) (sym x.2) ∙ done.1; its = done.2 };
  }

  module _
      (new : List SpoolValue) (back : (i : ℕ) (load : IndexLoadValue) → slice_get after i ≡ Some load → column i (length after) new ≡ load.spools)
      (put : length new ≡ workers * length after) where
    its_column : (i : ℕ) (load : IndexLoadValue) → slice_get after i ≡ Some load → column i n new ≡ load.spools
    its_column i load at = ap (λ m. column i m new) (sym as_long) ∙ back i load at

    -- without an index there is no spool
    none_new : n ≡ 0 → new ≡ []
    none_new zero_many = nil_from_length new (put ∙ ap (λ m. workers * m) (as_long ∙ zero_many) ∙ omega arith)

    none_old : n ≡ 0 → spools ≡ []
    none_old zero_many = nil_from_length spools (all ∙ ap (λ m. workers * m) zero_many ∙ omega arith)

    its_load : (j : ℕ) → j < n → (load : IndexLoadValue) × (slice_get after j ≡ Some load)
    its_load j less = there_is after j (omega (arith, less, as_long))

    pub stakes_back : stakes_of new ≡ stakes_of spools
    stakes_back =
        let stake : SpoolValue → Option Stake = λ s. s.stake in
        same_columns n (stakes_of new) (stakes_of spools) (λ e. ap stakes_of (none_new e ∙ sym (none_old e))) (λ j less.
        let it = its_load j less in
        every_map stake (n - 1) j new ∙ ap stakes_of (its_column j it.0 it.1) ∙ (its_run j it.0 it.1).1.stakes ∙ sym (every_map stake (n - 1) j spools))

    pub ended_back : first_fault_of after ≡ None → new ≡ map ended_spool spools
    ended_back none =
        same_columns n new (map ended_spool spools) (λ e. none_new e ∙ ap (map ended_spool) (sym (none_old e))) (λ j less.
        let it = its_load j less in
        its_column j it.0 it.1 ∙ ((its_run j it.0 it.1).1.done refl refl (none_refused after none j it.0 it.1)).3 ∙ sym (every_map ended_spool (n - 1) j spools))

-- before they ran each had a spool of each worker
pub own_lent :
    (work : WorkValue) (workers : ℕ) (spools : List SpoolValue) → length spools ≡ workers * length work.specs → (loads : List IndexLoadValue)
    → ((i : ℕ) → i < length work.specs → slice_get loads i ≡ Some (load_at work spools i)) → length loads ≡ length work.specs
    → All (λ load. length load.spools ≡ workers) loads
own_lent work workers spools all loads lent many = all_from (λ (load : IndexLoadValue). length load.spools ≡ workers) loads (λ i load at.
    let less : i < length work.specs = omega (arith, below loads i load at, many) in
    ap (λ (l : IndexLoadValue). length l.spools) (same_Some load (load_at work spools i) (sym at ∙ lent i less)) ∙ column_many (length work.specs) workers i spools less all)

-- what the loads of a work leave that went on and came back
module _
    (work : WorkValue) (workers : ℕ) (spools : List SpoolValue) (all : length spools ≡ workers * length work.specs) (before after : List IndexLoadValue)
    (lent : (i : ℕ) → i < length work.specs → slice_get before i ≡ Some (load_at work spools i)) (many : length before ≡ length work.specs)
    (ran : AllZip HasRun before after) (loads : List IndexLoadValue) (fault : Option Fault) (new : List SpoolValue) (home : AreHome workers after loads fault new) where
  pub loads_many : length loads ≡ length work.specs
  loads_many = ap length home.left ∙ length-map after without_spools ∙ as_long work workers spools all before after lent many ran

  pub loads_done : fault ≡ None → AreDone work spools loads
  loads_done none = subst (AreDone work spools) (sym home.left) (all_done work workers spools all before after lent many ran (sym home.first ∙ none))

  pub spools_ended : fault ≡ None → new ≡ map ended_spool spools
  spools_ended none = ended_back work workers spools all before after lent many ran new home.back home.many (sym home.first ∙ none)

  pub same_stakes : stakes_of new ≡ stakes_of spools
  same_stakes = stakes_back work workers spools all before after lent many ran new home.back home.many

  pub memory_alone : (f : Fault) → fault ≡ Some f → f ≡ Memory
  memory_alone f is = first_wants after (all_want work workers spools all before after lent many ran) f (sym home.first ∙ is)
