-- Rows that are passed over.
use Rattle.std.proofs.Common.{◌≢◌, ℕ, List, ◌++◌, ap, ◌∙◌, append_assoc}
use Rattle.std.proofs.lemmas.List.Elements.{All-append}
use Rattle.heap_log.specs.declared.record.LogRec.{LogRec}
use Rattle.heap_log.specs.declared.record.LogRec.TheVariants.{Commit}
use Rattle.race.specs.Rows.{HasPassedOver}

-- of what was written first and then nothing was committed
pub passed_both : (old mid new : List LogRec) → HasPassedOver old mid → HasPassedOver mid new → HasPassedOver old new
passed_both old mid new first then = (
  first.0 ++ then.0,
  All-append (λ (rec : LogRec). (txn : ℕ) → rec ≢ Commit txn) first.0 then.0 first.1 then.1,
  then.2 ∙ ap (λ (log : List LogRec). log ++ then.0) first.2 ∙ append_assoc old first.0 then.0,
)
