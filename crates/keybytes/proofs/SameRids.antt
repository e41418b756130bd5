-- RIDs that are the same.
use Rattle.std.proofs.Common.{◌≡◌, ℕ, true, refl, ap, ◌∙◌}
use Rattle.std.specs.Prelude.{◌==◌}
use Rattle.std.proofs.lemmas.Bool.{and_from, and_parts, eq-eqb, eqb-true}
use Rattle.keybytes.specs.Rids.{same_rid}
use Rattle.keybytes.specs.declared.rid.Rid.{Rid}

pub same_rid-true : (a b : Rid) → same_rid a b ≡ true → a ≡ b
same_rid-true a b e =
    let parts : (a.page == b.page ≡ true) × (a.slot == b.slot ≡ true) = and_parts (a.page == b.page) (a.slot == b.slot) e in
    let page : a.page ≡ b.page = eqb-true a.page b.page parts.0 in
    let slot : a.slot ≡ b.slot = eqb-true a.slot b.slot parts.1 in
    let make : ℕ → ℕ → Rid = λ p q. record { page = p; slot = q } in
    ap (λ p. make p a.slot) page ∙ ap (make b.page) slot

pub same_rid-refl : (rid : Rid) → same_rid rid rid ≡ true
same_rid-refl rid = and_from (rid.page == rid.page) (rid.slot == rid.slot) (eq-eqb rid.page rid.page refl) (eq-eqb rid.slot rid.slot refl)
