use Rattle.script.specs.Grammars.{HasRead}
use Rattle.script.proofs.reading.read_lines.Given as goal

abbrev pub invariant-loop-number : goal.invariant-loop-number
invariant-loop-number g l = HasRead g.D.Draft.grammar (g.D.Draft.has l.draft) l.text l.records l.number
