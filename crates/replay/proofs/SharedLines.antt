-- The lines that tell of refused indexes.
use Rattle.std.proofs.Common.{◌≡◌, ◌⊎◌, List, [], Option, Some, None, inl, inr, subst, sym}
use Rattle.std.specs.Prelude.{IfSome, IsSomeAnd, Vec}
use Rattle.std.specs.declared.alloc.Global.{Global}
use Rattle.keybytes.specs.Keys.{KeySpecValue}
use Rattle.heap_log.specs.declared.outcome.Outcome.{Outcome}
use Rattle.build_events.specs.CoreState.{BuildState}
use Rattle.build_events.specs.BuildSteps.{OnBuild}
use Rattle.build_events.specs.Verdicts.{HaveSharedKeys}
use Rattle.replay.specs.Listings.{ListsShared}
use Rattle.replay.specs.declared.shared_line.SharedLine.{SharedLine}

-- the specifications are copies of the build's, if there are any
abbrev pub AreCopies : Option BuildState → Option (Vec KeySpecValue Global) → Type 0
AreCopies build copies = IfSome copies (λ specs. OnBuild build (λ b. specs.items ≡ b.specs))

-- they make keys of the indexes that are refused, as those of the build do
pub copies_make_keys :
    (build : Option BuildState) (copies : Option (Vec KeySpecValue Global)) (verdicts : List Outcome) → AreCopies build copies
    → OnBuild build (λ b. HaveSharedKeys b.specs verdicts) → IfSome copies (λ specs. HaveSharedKeys specs.items verdicts)
copies_make_keys build None verdicts same keys = tt
copies_make_keys None (Some specs) verdicts same keys = absurd same
copies_make_keys (Some b) (Some specs) verdicts same keys = subst (λ ss. HaveSharedKeys ss verdicts) (sym same) keys

-- lines of the copies are lines of the build
pub lines_of_build :
    (build : Option BuildState) (copies : Option (Vec KeySpecValue Global)) (verdicts : List Outcome) (lines : List SharedLine) → AreCopies build copies
    → IsSomeAnd copies (λ specs. ListsShared 0 specs.items verdicts lines) ⊎ (lines ≡ [])
    → OnBuild build (λ b. ListsShared 0 b.specs verdicts lines) ⊎ (lines ≡ [])
lines_of_build build None verdicts lines same (inl lists) = absurd lists
lines_of_build None (Some specs) verdicts lines same (inl lists) = absurd same
lines_of_build (Some b) (Some specs) verdicts lines same (inl lists) = inl (subst (λ ss. ListsShared 0 ss verdicts lines) same lists)
lines_of_build build copies verdicts lines same (inr none) = inr none
