-- What a switch decides, with the specifications that were copied before.
use Rattle.std.proofs.Common.{◌≡◌, ℕ, zero, suc, List, [], ◌∷◌, Option, Some, None, subst, sym}
use Rattle.std.specs.Prelude.{IfSome}
use Rattle.std.specs.List.{slice_get}
use Rattle.keybytes.specs.Keys.{KeySpecValue, IsKeyOf}
use Rattle.keybytes.specs.declared.rid.Rid.{Rid}
use Rattle.heap_log.specs.declared.outcome.Outcome.{Outcome}
use Rattle.heap_log.specs.declared.outcome.Outcome.TheVariants.{Shared}
use Rattle.build_events.specs.BuildSteps.{OnBuild}
use Rattle.build_events.specs.CoreState.{BuildState}
use Rattle.build_events.specs.Verdicts.{HasKeyOf, HaveSharedKeys}

pub shared_of_copies :
    (build : Option BuildState) (specs : List KeySpecValue) (verdicts : List Outcome) → IfSome build (λ b. specs ≡ b.specs)
    → OnBuild build (λ b. HaveSharedKeys b.specs verdicts) → HaveSharedKeys specs verdicts
shared_of_copies None specs verdicts copied keys = absurd keys
shared_of_copies (Some b) specs verdicts copied keys = subst (λ (ss : List KeySpecValue). HaveSharedKeys ss verdicts) (sym copied) keys

pub copies_of_build :
    (build : Option BuildState) (specs : List KeySpecValue) (verdicts : List Outcome) → IfSome build (λ b. specs ≡ b.specs)
    → OnBuild build (λ b. HaveSharedKeys b.specs verdicts) → OnBuild build (λ b. specs ≡ b.specs)
copies_of_build None specs verdicts copied keys = absurd keys
copies_of_build (Some b) specs verdicts copied keys = copied

-- where an index was refused for a key, this is one of its specification
pub shared_key :
    (specs : List KeySpecValue) (verdicts : List Outcome) (index : ℕ) (spec : KeySpecValue) (key : List ℕ) (first second : Rid)
    → HaveSharedKeys specs verdicts → slice_get specs index ≡ Some spec → slice_get verdicts index ≡ Some (Shared key first second) → IsKeyOf spec key
shared_key [] verdicts index spec key first second keys of_spec refused = absurd (let bad : None ≡ Some spec = of_spec in cc)
shared_key (s ∷ specs) [] index spec key first second keys of_spec refused = absurd keys
shared_key (s ∷ specs) (v ∷ verdicts) zero spec key first second keys of_spec refused =
    let same_spec : s ≡ spec = (let is : Some s ≡ Some spec = of_spec in cc) in
    let same_verdict : v ≡ Shared key first second = (let is : Some v ≡ Some (Shared key first second) = refused in cc) in
    subst (λ (it : KeySpecValue). HasKeyOf it (Shared key first second)) same_spec (subst (λ (o : Outcome). HasKeyOf s o) same_verdict keys.0)
shared_key (s ∷ specs) (v ∷ verdicts) (suc index) spec key first second keys of_spec refused =
    shared_key specs verdicts index spec key first second keys.1 of_spec refused

-- each index that was decided on has a specification
pub decided_spec :
    (specs : List KeySpecValue) (verdicts : List Outcome) (index : ℕ) (verdict : Outcome) → HaveSharedKeys specs verdicts → slice_get specs index ≡ None
    → slice_get verdicts index ≡ Some verdict → ⊥
decided_spec [] [] index verdict keys none some = let bad : None ≡ Some verdict = some in cc
decided_spec [] (v ∷ verdicts) index verdict keys none some = keys
decided_spec (s ∷ specs) [] index verdict keys none some = keys
decided_spec (s ∷ specs) (v ∷ verdicts) zero verdict keys none some = let bad : Some s ≡ None = none in cc
decided_spec (s ∷ specs) (v ∷ verdicts) (suc index) verdict keys none some = decided_spec specs verdicts index verdict keys.1 none some
