-- The lowest worker that has something left.
use Rattle.std.proofs.Common.{ℕ, ◌<◌, length, Option, Some, None}
use Rattle.std.specs.Prelude.{MatchOption}
use Rattle.building.specs.BuildingValue.{BuildingValue}
use Rattle.building.specs.Rings.{AreSealed, FirstAreSealed, IsUnsealed, all_sent}
use Rattle.live_lemmas.specs.Builds.{LiveValue}
use Rattle.live_lemmas.specs.Switching.{HaveAll, IsLowestUnsealed}

pub lowest_told :
    (live : LiveValue) (building : BuildingValue) (o : Option ℕ)
    → MatchOption o (AreSealed (all_sent live.pages) building.workers)
    (λ k. (k < length building.workers) × FirstAreSealed k (all_sent live.pages) building.workers × IsUnsealed k (all_sent live.pages) building.workers)
    → MatchOption o (HaveAll live building) (IsLowestUnsealed live building)
lowest_told live building None all = all
lowest_told live building (Some k) it = record { there = it.0; lower = it.1; unsealed = it.2 }
