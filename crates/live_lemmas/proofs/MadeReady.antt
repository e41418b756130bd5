-- The accepted indexes of a build: what makes them ready, and why guards may be begun for them.
use Rattle.std.proofs.Common.{◌≡◌, ℕ, zero, suc, ◌<◌, arith, Bool, true, false, List, [], ◌∷◌, length, map, Some, None, refl, sym, ap, ap₂, ◌∙◌, subst, inl, inr}
use Rattle.std.specs.List.{All, list_any, slice_get}
use Rattle.std.proofs.lemmas.Bool.{cond-true, cond-false, or_cases, or_left, or_right, and_from, lt-ltb}
use Rattle.std.proofs.lemmas.List.Elements.{All-cons, All-nil}
use Rattle.std.proofs.lemmas.Option.{same_Some}
use Rattle.keybytes.specs.Keys.{KeySpecValue}
use Rattle.keybytes.specs.declared.fault.Fault.TheVariants.{Busy}
use Rattle.keybytes.specs.declared.pair.Pair.{Pair}
use Rattle.keybytes.proofs.PairSets.{is_in, tied_pairs}
use Rattle.heap_table.specs.HeapState.{HeapState, busy_txns}
use Rattle.heap_table.specs.Sound.{HoldsFollowLog}
use Rattle.heap_table.specs.TablePairs.{pairs_at_rest}
use Rattle.key_guards.specs.UniqueKeys.{HaveOwnKeys}
use Rattle.tree_nodes.specs.Lists.{In}
use Rattle.unique_verdict.specs.Verdicts.{IsUnique, IsVerdict, accepts}
use Rattle.unique_verdict.specs.declared.verdict.Verdict.{Verdict}
use Rattle.unique_verdict.specs.declared.verdict.Verdict.TheVariants.{Unique, Shared}
use Rattle.building.specs.BuildingValue.{IndexValue}
use Rattle.live_lemmas.specs.CatchingUp.{built_pairs, ready_of}
use Rattle.building.specs.Verdicts.{its_verdict}
use Rattle.ready_indexes.specs.Following.{MayFollow}
use Rattle.build_events.specs.CoreState.{BuildState}
use Rattle.ready_indexes.specs.Indexes.{ReadyValue, index_now}
use Rattle.build_events.specs.BuildSteps.{busy_refusal, cause_if}
use Rattle.build_events.specs.Verdicts.{accepted, verdict_on}
use Rattle.build_events.proofs.Verdicts.{verdict_is_right, accepted_more, accepted_same}

-- an accepted index comes before those that the others make ready
module _
    (specs rest : List KeySpecValue) (indexes others : List IndexValue) (spec : KeySpecValue) (index : IndexValue) (is : specs ≡ spec ∷ rest)
    (are : indexes ≡ index ∷ others) where
  abbrev it : ReadyValue
  it = record { spec = spec; pairs = built_pairs index.built }

  pub ready_more : accepts (its_verdict index) ≡ true → ready_of specs indexes ≡ record { spec = spec; pairs = built_pairs index.built } ∷ ready_of rest others
  ready_more takes = ap₂ ready_of is are ∙ cond-true (accepts (its_verdict index)) (it ∷ ready_of rest others) (ready_of rest others) takes

  -- a refused one leaves these as they are
  pub ready_same : accepts (its_verdict index) ≡ false → ready_of specs indexes ≡ ready_of rest others
  ready_same drops = ap₂ ready_of is are ∙ cond-false (accepts (its_verdict index)) (it ∷ ready_of rest others) (ready_of rest others) drops

-- pairs of which no two have one key, as guards ask for them
in_of : (p : Pair) (ps : List Pair) → is_in p ps ≡ true → In p ps
in_of p [] e = absurd (cc)
in_of p (q ∷ ps) e = elim (or_cases _ (is_in p ps) e) [
  | inl same ↦ inl (tied_pairs p q same)
  | inr later ↦ inr (in_of p ps later)
]

own_keys : (ps : List Pair) → IsUnique ps → HaveOwnKeys ps
own_keys ps unique = record { one = λ p q i j same. unique.alone p q (in_of p ps i) (in_of q ps j) same }

unique_of : (ps : List Pair) (verdict : Verdict) → IsVerdict ps verdict → accepts verdict ≡ true → IsUnique ps
unique_of ps Unique is takes = is
unique_of ps (Shared key first second) is takes = absurd (cc)

-- where no writer is open beside a unique index, the accepted ones may follow the table
pub may_follow :
    (heap : HeapState) (specs : List KeySpecValue) → HoldsFollowLog heap
    → ((k : ℕ) (spec : KeySpecValue) → slice_get specs k ≡ Some spec → spec.kinds ≡ heap.schema)
    → ((k : ℕ) (spec : KeySpecValue) → slice_get specs k ≡ Some spec → spec.unique ≡ true → busy_txns heap ≡ [])
    → All (λ (it : ReadyValue). MayFollow heap it.spec it.pairs) (map (index_now heap.log) (accepted heap.log specs))
may_follow heap [] holds columns free = All-nil _
may_follow heap (spec ∷ specs) holds columns free =
    by_verdict (accepts (verdict_on heap.log spec)) refl
    (may_follow heap specs holds (λ k s at. columns (suc k) s at) (λ k s at. free (suc k) s at)) where
      May : List ReadyValue → Type 0
      May ready = All (λ (it : ReadyValue). MayFollow heap it.spec it.pairs) ready

      made : List KeySpecValue → List ReadyValue
      made = map (index_now heap.log)

      by_verdict : (b : Bool) → accepts (verdict_on heap.log spec) ≡ b → May (made (accepted heap.log specs)) → May (made (accepted heap.log (spec ∷ specs)))
      by_verdict true takes rest =
          let first : MayFollow heap spec (pairs_at_rest spec heap.log) = record {
            columns = columns 0 spec refl;
            pairs_are = refl;
            holds = holds;
            guarded = λ unique. (free 0 spec refl unique, own_keys _ (unique_of _ _ (verdict_is_right heap.log spec unique) takes));
          } in
          subst (λ (ss : List KeySpecValue). May (made ss)) (sym (accepted_more heap.log spec specs takes))
          (All-cons (λ (it : ReadyValue). MayFollow heap it.spec it.pairs) (index_now heap.log spec) (made (accepted heap.log specs)) first rest)
      by_verdict false drops rest = subst (λ (ss : List KeySpecValue). May (made ss)) (sym (accepted_same heap.log spec specs drops)) rest

any_unique :
    (specs : List KeySpecValue) (k : ℕ) (spec : KeySpecValue) → slice_get specs k ≡ Some spec → spec.unique ≡ true
    → list_any (λ (s : KeySpecValue). s.unique) specs ≡ true
any_unique [] k spec at unique = absurd (cc)
any_unique (x ∷ specs) zero spec at unique = or_left x.unique _ (ap (λ (s : KeySpecValue). s.unique) (same_Some x spec at) ∙ unique)
any_unique (x ∷ specs) (suc k) spec at unique = or_right x.unique _ (any_unique specs k spec at unique)

-- a switch of a build with a unique index found none of these
pub no_writers :
    {X : Type 0} (b : BuildState) (txns : List X) (k : ℕ) (spec : KeySpecValue) → busy_refusal b (length txns) ≡ None → slice_get b.specs k ≡ Some spec
    → spec.unique ≡ true → txns ≡ []
no_writers b [] k spec free at unique = refl
no_writers b (txn ∷ txns) k spec free at unique =
    let many : ℕ = suc (length txns) in
    let waits = and_from _ _ (any_unique b.specs k spec at unique) (lt-ltb 0 many (let more : 0 < many = omega arith in more)) in
    let bad : Some (Busy many) ≡ None = sym (ap (λ (test : Bool). cause_if test (Busy many)) waits) ∙ free in
    absurd (cc)
