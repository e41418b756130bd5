-- Labels that are renamed in two steps.
use Rattle.std.proofs.Common.{◌≡◌, ℕ, List, Option, ap, ◌∙◌}
use Rattle.std.specs.Prelude.{cond}
use Rattle.std.specs.Str.{bytes_eq}
use Rattle.replay.specs.Labels.{NamesSame, Renames}
use Rattle.replay.specs.declared.labels.Labels.{Labels}

-- a label is renamed where each named the same before
pub renamed_behind : (old mid new : Labels) (label : List ℕ) (txn : Option ℕ) → NamesSame old mid → Renames mid label txn new → Renames old label txn new
renamed_behind old mid new label txn same renames =
    λ text. renames text ∙ ap (λ (before : Option ℕ). cond (bytes_eq label text) txn before) (same text)

-- and where each names the same from then on
pub renamed_before : (old mid new : Labels) (label : List ℕ) (txn : Option ℕ) → Renames old label txn mid → NamesSame mid new → Renames old label txn new
renamed_before old mid new label txn renames same = λ text. same text ∙ renames text
