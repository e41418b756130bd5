use Rattle.std.proofs.Common.{◌≡◌, nat_cmp, sym, ap, ap₂, ◌∙◌}
use Rattle.std.specs.Cmp.Lexicographic.{slice_cmp}
use Rattle.keybytes.specs.Cells.{cell_cmp}
use Rattle.keybytes.proofs.KeyLaws.{cell-same, cell-tied}
use Rattle.keybytes.proofs.cell.Cell.compare.Goals as goal

pub returns-in-Text-Text-clause-same : goal.returns-in-Text-Text-clause-same
returns-in-Text-Text-clause-same c =
    let order : c.cmp-in-Text-Text.result ≡ cell_cmp c.args.self.now c.args.other.now =
    c.cmp-in-Text-Text.ensures
    ∙ ap₂ (slice_cmp nat_cmp) (c.as_bytes.ensures.value ∙ c.as_str.ensures.bytes) (c.as_bytes-in-Text-Text.ensures.value ∙ c.as_str-in-Text-Text.ensures.bytes)
    ∙ sym (ap₂ cell_cmp c.in-Text-Text.is-0 c.in-Text-Text.is-1) in (
      λ tied. cell-same c.args.self.now c.args.other.now (sym order ∙ tied),
      λ same. order ∙ sym (ap (cell_cmp c.args.self.now) same) ∙ cell-tied c.args.self.now,
    )
