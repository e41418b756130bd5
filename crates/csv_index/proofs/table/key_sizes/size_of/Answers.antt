use Rattle.std.proofs.Common.{◌+◌, ◌==◌, ℕ, List, length, sym, ap, ◌∙◌}
use Rattle.std.specs.Prelude.{count_by}
use Rattle.csv_index.specs.Sizes.{counted, key_size}
use Rattle.csv_index.proofs.Sizing.{text_size}
use Rattle.csv_index.proofs.table.key_sizes.size_of.Goals as goal

pub returns-in-Text : goal.returns-in-Text
returns-in-Text c =
    let size : List ℕ → ℕ = λ bytes. length bytes + count_by (λ byte. byte == 0) bytes + 3 in
    let bytes = c.as_bytes.ensures.value ∙ c.as_str.ensures.bytes in
    c.size_of_text.ensures ∙ ap counted (ap size bytes ∙ (sym (text_size c.in-Text.text) ∙ ap key_size (sym c.in-Text.is)))
