use Rattle.std.proofs.Common.{◌≡◌, ℕ, ◌-◌, List, length, take, drop, ◌∙◌, sym, ap, arith}
use Rattle.std.proofs.lemmas.List.{take_rest}
use Rattle.keybytes.specs.Keys.{cell_key, BeginsWithTextKey}
use Rattle.keybytes.specs.declared.cell.Cell.{Cell}
use Rattle.keybytes.specs.declared.cell.Cell.TheVariants.{Text}
use Rattle.keybytes.proofs.KeyLaws.{length-cell_key}
use Rattle.keybytes.proofs.KeyReads.{TextFront, int_front, text_front, flag_front, read-number, read-flag}
use Rattle.keybytes.proofs.key_cell.read_cell.Goals as goal
use Rattle.keybytes.proofs.key_cell.read_cell.Goals.{in-Int, in-Text+in_ok-text-in-Text, in-Flag}

-- the text behind the tag
begun : (cell : Cell) (rest bytes : List ℕ) (front : TextFront cell rest bytes) → BeginsWithTextKey front.text rest (take (length bytes - 1) (drop 1 bytes))
begun cell rest bytes front = record { utf8 = front.utf8; front = take_rest bytes 1 ∙ front.behind }

pub overflow_add-result-in-Text : goal.overflow_add-result-in-Text
overflow_add-result-in-Text c =
    let begins = c.requires.2 in
    let front = text_front c.args.kind c.requires.0 c.requires.1 c.args.bytes.now c.in-Text.is begins c.if-bytes-eq-NULL.false in
    let len = c.in_ok-text-in-Text.ensures.len front.text c.requires.1 (begun _ _ _ front) in
    let same : length (cell_key c.requires.0) ≡ length (cell_key (Text front.text)) = ap (λ (cell : Cell). length (cell_key cell)) front.is_cell in
    omega (arith, len, length-cell_key c.requires.0 begins.valid)

pub returns-clause-cell : goal.returns-clause-cell
returns-clause-cell c cell rest begins =
    elim c.match-kind.branch [
      | in-Int w ↦
          ap (λ r. r.0) w.result-is
          ∙ read-number cell rest c.args.bytes.now (int_front c.args.kind cell rest _ w.in-Int.is begins c.if-bytes-eq-NULL.false) _ w.read_u64.ensures _
          w.cast_signed-number.ensures
      | in-Text+in_ok-text-in-Text w ↦
          let front = text_front c.args.kind cell rest c.args.bytes.now w.in-Text.is begins c.if-bytes-eq-NULL.false in
          ap (λ r. r.0) w.result-is ∙ ap Text (w.in_ok-text-in-Text.ensures.text front.text rest (begun _ _ _ front)) ∙ sym front.is_cell
      | in-Flag w ↦
          ap (λ r. r.0) w.result-is
          ∙ read-flag cell rest c.args.bytes.now (flag_front c.args.kind cell rest _ w.in-Flag.is begins c.if-bytes-eq-NULL.false)
    ]

pub returns-clause-len : goal.returns-clause-len
returns-clause-len c cell rest begins =
    elim c.match-kind.branch [
      | in-Int w ↦
          let front = int_front c.args.kind cell rest c.args.bytes.now w.in-Int.is begins c.if-bytes-eq-NULL.false in
          ap (λ r. r.1) w.result-is ∙ ap (λ (cell : Cell). length (cell_key cell)) (sym front.is_cell)
      | in-Text+in_ok-text-in-Text w ↦
          let front = text_front c.args.kind cell rest c.args.bytes.now w.in-Text.is begins c.if-bytes-eq-NULL.false in
          let len = w.in_ok-text-in-Text.ensures.len front.text rest (begun _ _ _ front) in
          let same : length (cell_key cell) ≡ length (cell_key (Text front.text)) = ap (λ (cell : Cell). length (cell_key cell)) front.is_cell in
          ap (λ r. r.1) w.result-is ∙ omega (arith, len)
      | in-Flag w ↦
          let front = flag_front c.args.kind cell rest c.args.bytes.now w.in-Flag.is begins c.if-bytes-eq-NULL.false in
          ap (λ r. r.1) w.result-is ∙ ap (λ (cell : Cell). length (cell_key cell)) (sym front.is_cell)
    ]
