use Rattle.std.proofs.Common.{take}
use Rattle.std.specs.List.{AllZip}
use Rattle.script.specs.Fields.{texts}
use Rattle.script.proofs.fields.each.Given as goal

abbrev pub invariant-loop-field : goal.invariant-loop-field
invariant-loop-field g l = AllZip g.T.Spelled.spells (take l.field-index (texts l.fields)) l.values.items
