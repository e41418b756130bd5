-- What is told of a switch is right for the log that ends with it.
use Rattle.std.proofs.Common.{◌≡◌, Bool, cond, List, [], ◌∷◌, ◌++◌, length, map, drop, Option, Some, None, refl, sym, ap, ap₂, subst, ◌∙◌}
use Rattle.std.specs.Prelude.{IfSome, if◌then◌else◌}
use Rattle.std.proofs.Math.Seq.{drop-append_seam}
use Rattle.keybytes.specs.Keys.{KeySpecValue}
use Rattle.keybytes.specs.declared.pair.Pair.{Pair}
use Rattle.heap_log.proofs.Growing.{live_kept}
use Rattle.heap_log.specs.declared.outcome.Outcome.{Outcome}
use Rattle.heap_log.specs.declared.record.LogRec.{LogRec}
use Rattle.heap_log.specs.declared.record.LogRec.TheVariants.{Switch}
use Rattle.heap_table.proofs.TablePairs.{pairs_kept}
use Rattle.heap_table.specs.TablePairs.{pairs_at_rest}
use Rattle.unique_verdict.specs.Shared.{shared_pairs}
use Rattle.unique_verdict.specs.Verdicts.{accepts, first_shared}
use Rattle.unique_verdict.specs.declared.verdict.Verdict.TheVariants.{Unique}
use Rattle.build_events.proofs.SharedKeys.{shared_keys}
use Rattle.build_events.specs.BuildSteps.{AreKeyed}
use Rattle.build_events.specs.Verdicts.{HaveSharedKeys, accepted, outcomes, verdict_on}
use Rattle.ready_indexes.specs.Indexes.{ReadyValue, index_now}
use Rattle.crew.specs.MadeReady.{HasMadeReady}
use Rattle.crew.specs.Reports.{ArePairsAtRest, IsReport}

-- what maps do one after the other
mapped : {X Y Z : Type 0} (f : X → Y) (g : Y → Z) (h : X → Z) → ((x : X) → g (f x) ≡ h x) → (xs : List X) → map g (map f xs) ≡ map h xs
mapped f g h each [] = refl
mapped f g h each (x ∷ xs) = ap₂ ◌∷◌ (each x) (mapped f g h each xs)

module _ (log : List LogRec) (said : List Outcome) where
  -- the log that ends with the switch
  abbrev after : List LogRec
  after = log ++ Switch said ∷ []

  same_pairs : (spec : KeySpecValue) → pairs_at_rest spec after ≡ pairs_at_rest spec log
  same_pairs spec = pairs_kept spec log after (λ rid. live_kept log (Switch said) rid refl)

  same_verdict : (spec : KeySpecValue) → verdict_on after spec ≡ verdict_on log spec
  same_verdict spec = ap (λ (pairs : List Pair). if spec.unique then first_shared (shared_pairs pairs) else Unique) (same_pairs spec)

  same_verdicts : (specs : List KeySpecValue) → map (verdict_on after) specs ≡ map (verdict_on log) specs
  same_verdicts [] = refl
  same_verdicts (spec ∷ specs) = ap₂ ◌∷◌ (same_verdict spec) (same_verdicts specs)

  same_accepted : (specs : List KeySpecValue) → accepted after specs ≡ accepted log specs
  same_accepted [] = refl
  same_accepted (spec ∷ specs) =
      ap₂ (λ (b : Bool) (rest : List KeySpecValue). cond b (spec ∷ rest) rest) (ap accepts (same_verdict spec)) (same_accepted specs)

  -- the indexes that it made ready have the pairs at rest
  at_rest_are :
      (ready all : List ReadyValue) (specs : List KeySpecValue) → all ≡ ready ++ map (index_now log) (accepted log specs)
      → ArePairsAtRest specs after (map (λ (it : ReadyValue). it.pairs) (drop (length ready) all))
  at_rest_are ready all specs are =
      ap (λ (its : List ReadyValue). map (λ (it : ReadyValue). it.pairs) (drop (length ready) its)) are
      ∙ ap (map (λ (it : ReadyValue). it.pairs)) (drop-append_seam ready (map (index_now log) (accepted log specs)))
      ∙ mapped (index_now log) (λ (it : ReadyValue). it.pairs) (λ (spec : KeySpecValue). pairs_at_rest spec after) (λ spec. sym (same_pairs spec)) (accepted log specs)
      ∙ ap (map (λ (spec : KeySpecValue). pairs_at_rest spec after)) (sym (same_accepted specs))

  -- so have copies of them, where there are any
  copies_are :
      (ready all : List ReadyValue) (specs : List KeySpecValue) → all ≡ ready ++ map (index_now log) (accepted log specs)
      → (pairs : Option (List (List Pair))) → IfSome pairs (λ lists. lists ≡ map (λ (it : ReadyValue). it.pairs) (drop (length ready) all))
      → IfSome pairs (ArePairsAtRest specs after)
  copies_are ready all specs are None copies = tt
  copies_are ready all specs are (Some lists) copies = copies ∙ at_rest_are ready all specs are

  pub is_report :
      (opening : List LogRec) (ready all : List ReadyValue) (specs : List KeySpecValue) (pairs : Option (List (List Pair)))
      → HasMadeReady opening log (length ready) → said ≡ outcomes (length ready) (map (verdict_on log) specs) → AreKeyed log specs
      → all ≡ ready ++ map (index_now log) (accepted log specs)
      → IfSome pairs (λ lists. lists ≡ map (λ (it : ReadyValue). it.pairs) (drop (length ready) all))
      → IsReport opening specs after said pairs
  is_report opening ready all specs pairs had is keyed are copies = record {
    earlier = had.since;
    switched = ap (λ (l : List LogRec). l ++ Switch said ∷ []) had.goes_on;
    right = is ∙ ap₂ outcomes had.counted (sym (same_verdicts specs));
    keyed = subst (HaveSharedKeys specs) (sym is) (shared_keys log (length ready) specs keyed);
    at_rest = copies_are ready all specs are pairs copies;
  }
