-- What holds of the first index and of the others holds of all of them.
use Rattle.std.proofs.Common.{◌≡◌, ◌+◌, ◌∷◌, ℕ, true, false, List, [], ◌++◌, length, take, drop, Option, None, refl, sym, ap, ◌∙◌, subst, Bool, if◌then◌else◌}
use Rattle.std.specs.List.{All}
use Rattle.std.proofs.Math.Seq.{take-append_seam}
use Rattle.std.proofs.lemmas.Bool.{cond-true}
use Rattle.std.proofs.lemmas.List.Elements.{All-nil, All-cons, All-head, All-map, All-tail, All-weaker}
use Rattle.keybytes.proofs.FirstCause.{both_none}
use Rattle.keybytes.specs.Faults.{first_cause}
use Rattle.keybytes.specs.Keys.{KeySpecValue}
use Rattle.keybytes.specs.declared.cell.Cell.{Cell}
use Rattle.keybytes.specs.declared.fault.Fault.{Fault}
use Rattle.keybytes.specs.declared.kind.Kind.{Kind}
use Rattle.keybytes.specs.declared.pair.Pair.{Pair}
use Rattle.heap_log.specs.declared.record.LogRec.{LogRec}
use Rattle.heap_table.proofs.TablePairs.{pairs_kept}
use Rattle.heap_table.specs.HeapState.{HeapState}
use Rattle.heap_table.specs.TablePairs.{pairs_at_rest}
use Rattle.heap_table.specs.declared.ready.Ready.{Ready}
use Rattle.key_guards.specs.KeyRefusals.{key_refusal}
use Rattle.ready_indexes.specs.Following.{GuardedIndex, AllFollow, Follows, GoesOn, HasGuards, LetsIn, AreLetIn, MayFollow, indexes_of}
use Rattle.ready_indexes.specs.Indexes.{ReadyValue, FollowTable, index_now, ready_now}
use Rattle.ready_indexes.specs.KeyCauses.{keys_refusal}

module _ {X : Type 0} (P : X → Type 0) (x : X) (xs all : List X) (is : all ≡ x ∷ xs) where
  pub first_of : All P all → P x
  first_of holds = All-head P x xs (subst (All P) is holds)

  pub rest_of : All P all → All P xs
  rest_of holds = All-tail P x xs (subst (All P) is holds)

-- nothing is wanted of none
pub none_of : {X : Type 0} (P : X → Type 0) (all : List X) → all ≡ [] → All P all
none_of P all none = subst (All P) (sym none) (All-nil P)

-- the same of a change that they all let in
pub first_lets_in : (log : List LogRec) (ready : Ready) (it : GuardedIndex) (rest all : List GuardedIndex) → all ≡ it ∷ rest
    → AreLetIn log (indexes_of all) ready → LetsIn log ready it.index.spec
first_lets_in log ready it rest all is = first_of (λ (index : ReadyValue). LetsIn log ready index.spec) it.index (indexes_of rest) (indexes_of all) (ap indexes_of is)

pub rest_lets_in : (log : List LogRec) (ready : Ready) (it : GuardedIndex) (rest all : List GuardedIndex) → all ≡ it ∷ rest
    → AreLetIn log (indexes_of all) ready → AreLetIn log (indexes_of rest) ready
rest_lets_in log ready it rest all is = rest_of (λ (index : ReadyValue). LetsIn log ready index.spec) it.index (indexes_of rest) (indexes_of all) (ap indexes_of is)

-- an index that follows the table has the pairs of its rows
pub has_its_pairs : (kinds : List Kind) (log : List LogRec) (it : GuardedIndex) (spec : KeySpecValue) → Follows kinds log it → it.index.spec ≡ spec
    → it.index ≡ index_now log spec
has_its_pairs kinds log it spec follows same =
    ap (λ pairs. record { spec = it.index.spec; pairs = pairs }) follows.pairs ∙ ap (index_now log) same

-- so do the first one and the others
pub all_now : (kinds : List Kind) (log : List LogRec) (old it : GuardedIndex) (olds rest all : List GuardedIndex) → all ≡ old ∷ olds → Follows kinds log it
    → it.index.spec ≡ old.index.spec → indexes_of rest ≡ ready_now log (indexes_of olds) → indexes_of (it ∷ rest) ≡ ready_now log (indexes_of all)
all_now kinds log old it olds rest all is follows same others =
    ap (λ index. index ∷ indexes_of rest) (has_its_pairs kinds log it old.index.spec follows same)
    ∙ ap (λ more. index_now log old.index.spec ∷ more) others ∙ sym (ap (λ xs. ready_now log (indexes_of xs)) is)

-- the ready indexes have the pairs of the rows that stand
pub table_follows : (kinds : List Kind) (log : List LogRec) (indexes : List GuardedIndex) → AllFollow kinds log indexes → FollowTable log (indexes_of indexes)
table_follows kinds log indexes all =
    All-map (λ (index : ReadyValue). index.pairs ≡ pairs_at_rest index.spec log) (λ (it : GuardedIndex). it.index) indexes
    (All-weaker (Follows kinds log) (λ (it : GuardedIndex). it.index.pairs ≡ pairs_at_rest it.index.spec log) (λ it follows. follows.pairs) indexes all)

-- after a record that changes no row too, if their guards do
pub follows_on : (kinds : List Kind) (old : List LogRec) (added : LogRec) (new : List LogRec) (it now : GuardedIndex) → GoesOn old added new → now.index ≡ it.index
    → (HasGuards old it.index.spec it.guards → HasGuards (old ++ added ∷ []) it.index.spec now.guards) → Follows kinds old it → Follows kinds new now
follows_on kinds old added new it now goes same guards follows = record {
  columns = ap (λ (index : ReadyValue). index.spec.kinds) same ∙ follows.columns;
  pairs = ap (λ (index : ReadyValue). index.pairs) same ∙ follows.pairs ∙ sym (pairs_kept it.index.spec old new goes.rows.live)
      ∙ ap (λ (index : ReadyValue). pairs_at_rest index.spec new) (sym same);
  guarded = subst (λ (index : ReadyValue). HasGuards new index.spec now.guards) (sym same)
      (subst (λ log. HasGuards log it.index.spec now.guards) (sym goes.log) (guards follows.guarded));
}

-- and where only its guards change, and go on following the log
pub still_follows : (kinds : List Kind) (log : List LogRec) (it now : GuardedIndex) → now.index ≡ it.index
    → (HasGuards log it.index.spec it.guards → HasGuards log now.index.spec now.guards) → Follows kinds log it → Follows kinds log now
still_follows kinds log it now same guards follows = record {
  columns = ap (λ (index : ReadyValue). index.spec.kinds) same ∙ follows.columns;
  pairs = ap (λ (index : ReadyValue). index.pairs) same ∙ follows.pairs ∙ ap (λ (index : ReadyValue). pairs_at_rest index.spec log) (sym same);
  guarded = guards follows.guarded;
}

-- one that becomes ready may follow the table at once
pub follows_new : (heap : HeapState) (spec : KeySpecValue) (pairs : List Pair) (it : GuardedIndex) → it.index ≡ record { spec = spec; pairs = pairs }
    → MayFollow heap spec pairs → HasGuards heap.log spec it.guards → Follows heap.schema heap.log it
follows_new heap spec pairs it is may has = record {
  columns = ap (λ (index : ReadyValue). index.spec.kinds) is ∙ may.columns;
  pairs = ap (λ (index : ReadyValue). index.pairs) is ∙ may.pairs_are ∙ ap (λ (index : ReadyValue). pairs_at_rest index.spec heap.log) (sym is);
  guarded = subst (λ (index : ReadyValue). HasGuards heap.log index.spec it.guards) (sym is) has;
}

-- a change that no index refuses is let in
pub let_in_from : (number : ℕ) (log : List LogRec) (ready : List ReadyValue) (change : Ready)
    → keys_refusal number ready log change.txn change.old change.new ≡ None → AreLetIn log ready change
let_in_from number log [] change free = All-nil _
let_in_from number log (index ∷ ready) change free =
    let parts = both_none _ (keys_refusal (number + 1) ready log change.txn change.old change.new) free in
    All-cons (λ (i : ReadyValue). LetsIn log change i.spec) index ready (λ unique.
    (number, sym (cond-true index.spec.unique (key_refusal number index.spec log change.txn change.old change.new) None unique) ∙ parts.0))
    (let_in_from (number + 1) log ready change parts.1)

pub let_in_by : (log : List LogRec) (ready : List ReadyValue) (change : Ready) (txn : ℕ) (old new : Option (List Cell)) → change.txn ≡ txn → change.old ≡ old
    → change.new ≡ new → keys_refusal 0 ready log txn old new ≡ None → AreLetIn log ready change
let_in_by log ready change txn old new by was is free =
    let_in_from 0 log ready change (ap (λ t. keys_refusal 0 ready log t change.old change.new) by ∙ ap (λ o. keys_refusal 0 ready log txn o change.new) was
    ∙ ap (keys_refusal 0 ready log txn old) is ∙ free)

-- none refuses a change that leaves no row
pub no_row_is_let_in : (number : ℕ) (ready : List ReadyValue) (log : List LogRec) (txn : ℕ) (old : Option (List Cell))
    → keys_refusal number ready log txn old None ≡ None
no_row_is_let_in number [] log txn old = refl
no_row_is_let_in number (index ∷ ready) log txn old =
    by_test (keys_refusal (number + 1) ready log txn old None) (no_row_is_let_in (number + 1) ready log txn old) index.spec.unique where
      by_test : (rest : Option Fault) → rest ≡ None → (t : Bool) → first_cause (if t then None else None) rest ≡ None
      by_test rest none true = none
      by_test rest none false = none

-- a slice of indexes that are as many as before is the vector's whole contents
pub whole_slice : (len : ℕ) (new old : List GuardedIndex) → length new ≡ len → take len (new ++ drop (length new) old) ≡ new
whole_slice len new old same = ap (λ n. take n (new ++ drop (length new) old)) (sym same) ∙ take-append_seam new (drop (length new) old)

-- so what holds of the slice holds of these
pub whole_holds : (P : List GuardedIndex → Type 0) (len : ℕ) (new old : List GuardedIndex) → length new ≡ len → P new → P (take len (new ++ drop (length new) old))
whole_holds P len new old same holds = subst P (sym (whole_slice len new old same)) holds
