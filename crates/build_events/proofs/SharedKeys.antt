-- The keys that refused indexes are told to share.
use Rattle.std.proofs.Common.{◌≡◌, ℕ, Bool, true, false, if◌then◌else◌, List, [], ◌∷◌, map, refl, sym, subst, inl, inr, ◌+◌, length, Option, None, Some}
use Rattle.std.specs.List.{All}
use Rattle.std.proofs.lemmas.List.Elements.{All-head, All-tail}
use Rattle.keybytes.specs.Keys.{KeySpecValue, IsKeyOf}
use Rattle.keybytes.specs.Pairs.{HaveKeysOf}
use Rattle.keybytes.specs.declared.pair.Pair.{Pair}
use Rattle.heap_log.specs.declared.record.LogRec.{LogRec}
use Rattle.heap_log.specs.declared.outcome.Outcome.{Outcome}
use Rattle.heap_table.specs.TablePairs.{pairs_at_rest}
use Rattle.tree_nodes.specs.Lists.{In}
use Rattle.unique_verdict.proofs.SharedFacts.{shared_there}
use Rattle.unique_verdict.specs.Shared.{shared_pairs}
use Rattle.unique_verdict.specs.Verdicts.{first_shared}
use Rattle.unique_verdict.specs.declared.verdict.Verdict.TheVariants.{Unique}
use Rattle.build_events.specs.Verdicts.{HasKeyOf, HaveSharedKeys, verdict_on, outcome, outcomes, next_number}
use Rattle.build_events.specs.BuildSteps.{AreKeyed, OnBuild, Switches, after_switch_in, verdicts_on}
use Rattle.build_events.specs.CoreState.{BuildState, CoreState, idle}
use Rattle.ready_indexes.specs.Indexes.{IsIndex}

has_key_in : (spec : KeySpecValue) (p : Pair) (pairs : List Pair) → In p pairs → HaveKeysOf spec pairs → IsKeyOf spec p.key
has_key_in spec p [] there keys = absurd there
has_key_in spec p (q ∷ pairs) (inl is) keys = subst (λ (x : Pair). IsKeyOf spec x.key) (sym is) (All-head (λ (x : Pair). IsKeyOf spec x.key) q pairs keys)
has_key_in spec p (q ∷ pairs) (inr rest) keys = has_key_in spec p pairs rest (All-tail (λ (x : Pair). IsKeyOf spec x.key) q pairs keys)

first_key : (spec : KeySpecValue) (pairs : List Pair) (number : ℕ) → HaveKeysOf spec pairs → HasKeyOf spec (outcome number (first_shared (shared_pairs pairs)))
first_key spec pairs number keys = by_shared (shared_pairs pairs) refl where
  by_shared : (now : List Pair) → now ≡ shared_pairs pairs → HasKeyOf spec (outcome number (first_shared now))
  by_shared [] is = tt
  by_shared (only ∷ []) is = tt
  by_shared (first ∷ second ∷ rest) is =
      let P : List Pair → Type 0 = λ ps. In first ps in
      has_key_in spec first pairs (shared_there first pairs (subst P is (inl refl))) keys

pub own_key : (log : List LogRec) (spec : KeySpecValue) (number : ℕ) → HaveKeysOf spec (pairs_at_rest spec log) → HasKeyOf spec (outcome number (verdict_on log spec))
own_key log spec number keys = by_test spec.unique where
  by_test : (t : Bool) → HasKeyOf spec (outcome number (if t then first_shared (shared_pairs (pairs_at_rest spec log)) else Unique))
  by_test true = first_key spec (pairs_at_rest spec log) number keys
  by_test false = tt

-- they are keys of their indexes
pub shared_keys :
    (log : List LogRec) (number : ℕ) (specs : List KeySpecValue) → AreKeyed log specs → HaveSharedKeys specs (outcomes number (map (verdict_on log) specs))
shared_keys log number [] keyed = tt
shared_keys log number (spec ∷ specs) keyed =
    let Keyed : KeySpecValue → Type 0 = λ s. IsIndex s (pairs_at_rest s log) in (
      own_key log spec number (All-head Keyed spec specs keyed).keys,
      shared_keys log (next_number number (verdict_on log spec)) specs (All-tail Keyed spec specs keyed),
    )

-- so are those that a switch tells
pub shared_told : (s : CoreState) (told : ℕ × List Outcome) (new : CoreState) → Switches s told new → OnBuild s.live.build (λ b. HaveSharedKeys b.specs told.1)
shared_told s told new switched = of_build s.live.build switched where
  Switched : BuildState → Type 0
  Switched b = (told.0 ≡ length s.live.heap.log + 1) × (told.1 ≡ verdicts_on s.live b) × (new ≡ record s { live = after_switch_in s.live b; work = idle })
      × AreKeyed s.live.heap.log b.specs

  of_build : (o : Option BuildState) → OnBuild o Switched → OnBuild o (λ b. HaveSharedKeys b.specs told.1)
  of_build None never = never
  of_build (Some b) done = subst (HaveSharedKeys b.specs) (sym done.1) (shared_keys s.live.heap.log (length s.live.ready) b.specs done.3)
