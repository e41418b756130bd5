use Rattle.std.proofs.Common.{◌≡◌, ◌<◌, ◌∙◌, length, sym, true, false, arith}
use Rattle.csv_index.specs.Lines.{ends_line}
use Rattle.csv_index.proofs.Noting.{few_lines, line_ends, line_goes_on}
use Rattle.csv_index.proofs.table.line_counter.LineCounter.pass.Goals as goal
use Rattle.csv_index.proofs.table.line_counter.LineCounter.pass.Goals.{then-ends_line, else-ends_line}

pub invariant_of-self : goal.invariant_of-self
invariant_of-self c =
    let text = c.self.inside.text.now in
    let at = c.self.inside.at in
    let below : at < length text = rw (← c.self.view_is) at c.requires in
    let few = few_lines text at in
    elim c.if-ends_line.branch [
      | then-ends_line w ↦
          let ends : ends_line text at ≡ true = sym c.ends_line.ensures ∙ w.if-ends_line.true in
          let next = line_ends text at ends in
          rw w.self-inside-is (omega (arith, below), omega (arith, next, few, below, c.self.told, c.self.invariant.1, w.saturating_add-self-inside.ensures))
      | else-ends_line w ↦
          let goes_on : ends_line text at ≡ false = sym c.ends_line.ensures ∙ w.if-ends_line.false in
          let next = line_goes_on text at goes_on in
          rw w.self-inside-is (omega (arith, below), omega (arith, next, c.self.invariant.1))
    ]
