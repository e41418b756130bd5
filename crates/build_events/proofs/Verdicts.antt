-- The verdicts on the indexes of a build, and which of them are accepted.
use Rattle.std.proofs.Common.{◌≡◌, true, false, List, ◌∷◌, refl, sym, ap, ◌∙◌, subst}
use Rattle.std.specs.FinMap.{keys}
use Rattle.std.specs.FinSet.{FinSet}
use Rattle.std.proofs.lemmas.Bool.{cond-true, cond-false}
use Rattle.keybytes.proofs.PairSets.{set_of-keys}
use Rattle.keybytes.specs.Keys.{KeySpecValue}
use Rattle.keybytes.specs.Pairs.{AreOrdered, pair_cmp, set_of}
use Rattle.keybytes.specs.declared.pair.Pair.{Pair}
use Rattle.heap_log.specs.declared.record.LogRec.{LogRec}
use Rattle.heap_table.specs.TablePairs.{index_pairs, pairs_at_rest}
use Rattle.unique_verdict.specs.Shared.{shared_pairs}
use Rattle.unique_verdict.specs.Verdicts.{IsVerdict, accepts, first_shared}
use Rattle.unique_verdict.specs.declared.verdict.Verdict.TheVariants.{Unique}
use Rattle.unique_verdict.proofs.VerdictFacts.{verdict_right}
use Rattle.build_events.specs.Verdicts.{accepted, verdict_on}

-- an accepted one comes before the others, and a refused one leaves them as they are
pub accepted_more : (log : List LogRec) (spec : KeySpecValue) (specs : List KeySpecValue) → accepts (verdict_on log spec) ≡ true → accepted log (spec ∷ specs) ≡ spec ∷ accepted log specs
accepted_more log spec specs takes = cond-true (accepts (verdict_on log spec)) (spec ∷ accepted log specs) (accepted log specs) takes

pub accepted_same : (log : List LogRec) (spec : KeySpecValue) (specs : List KeySpecValue) → accepts (verdict_on log spec) ≡ false → accepted log (spec ∷ specs) ≡ accepted log specs
accepted_same log spec specs drops = cond-false (accepts (verdict_on log spec)) (spec ∷ accepted log specs) (accepted log specs) drops

-- a set in order is ordered
pub set_ordered : (s : FinSet pair_cmp) (pairs : List Pair) → pairs ≡ keys s → AreOrdered pairs
set_ordered s pairs is = is ∙ ap keys (sym (set_of-keys s)) ∙ ap (λ ps. keys (set_of ps)) (sym is)

-- the verdict on a unique index is right for the pairs at rest
pub verdict_is_right : (log : List LogRec) (spec : KeySpecValue) → spec.unique ≡ true → IsVerdict (pairs_at_rest spec log) (verdict_on log spec)
verdict_is_right log spec unique =
    let pairs : List Pair = pairs_at_rest spec log in
    let ordered : AreOrdered pairs = set_ordered (index_pairs spec log) pairs refl in
    subst (IsVerdict pairs) (sym (cond-true spec.unique (first_shared (shared_pairs pairs)) Unique unique)) (verdict_right pairs ordered)
