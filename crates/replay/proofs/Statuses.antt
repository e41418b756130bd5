-- The numbers of exit statuses.
use denote.Enum.Declared.{tag_of}
use Rattle.std.proofs.Common.{◌≡◌, ◌⊎◌, ℕ, Result, Ok, Err, ap, inl, inr, refl, ◌∙◌}
use Rattle.std.specs.Prelude.{IfOk, MatchResult}
use Rattle.replay.specs.Sessions.{number_of}
use Rattle.replay.specs.contracts.status.Status.{the_type}
use Rattle.replay.specs.declared.output_failed.OutputFailed.{OutputFailed}
use Rattle.replay.specs.declared.status.Status.{Status}
use Rattle.replay.specs.declared.status.Status.TheVariants.{Done, IndexRefused, Failed}

-- a status as a number is the number that contracts give it
pub numbered : (status : Status) → tag_of the_type status ≡ number_of status
numbered Done = refl
numbered IndexRefused = refl
numbered Failed = refl

-- what was approved is 0, and 2 where it couldn't be said
pub approved : (said : Result Status OutputFailed) (number : ℕ) → IfOk said (λ status. status ≡ Done)
    → MatchResult said (λ status. number ≡ number_of status) (λ _. number ≡ 2) → (number ≡ 0) ⊎ (number ≡ 2)
approved (Ok status) number done told = inl (told ∙ ap number_of done)
approved (Err failed) number done told = inr told
