-- The turns of a build's indexes, each with the end of its side-file's ring.
use Rattle.std.specs.Prelude.{◌≡◌, ℕ, List, length, Result, Ok, Err, IsOk, IfOk, IfErr}
use Rattle.std.specs.List.{All, sum_by}
use Rattle.keybytes.specs.declared.fault.Fault.{Fault}
use Rattle.keybytes.specs.declared.fault.Fault.TheVariants.{Memory}
use Rattle.building.specs.declared.batch_turns.IndexTurn.{IndexTurn}
use Rattle.building.specs.Batches.{IndexBatch, IsApplied, end_after, entries_of}

-- a turn applied all that waited for its index, so many entries
pub record HasTaken (old new : IndexTurn) (count : ℕ) : Type 0 where
  pub batch : IndexBatch
  pub applied : IsApplied batch
  pub counted : count ≡ length (entries_of batch)
  pub index_is : batch.index ≡ old.work
  pub end_is : batch.end ≡ old.end
  pub new_is : batch.new ≡ new.work
  pub new_end_is : end_after batch ≡ new.end

-- it did, or wanted memory
pub record HasTurned (old new : IndexTurn) : Type 0 where
  pub ring : new.end.ring ≡ old.end.ring
  pub taken : IfOk new.told (HasTaken old new)
  pub memory : IfErr new.told (λ fault. fault ≡ Memory)

-- how many entries a turn applied
abbrev pub told_count : Result ℕ Fault → ℕ
told_count (Ok count) = count
told_count (Err fault) = 0

-- each of the turns applied its entries, so many together
pub record HaveTotal (count : ℕ) (turns : List IndexTurn) : Type 0 where
  pub each : All (λ turn. IsOk turn.told) turns
  pub summed : count ≡ sum_by (λ turn. told_count turn.told) turns
