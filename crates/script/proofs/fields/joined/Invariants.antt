use Rattle.std.specs.List.{AllZip}
use Rattle.script.specs.Fields.{texts}
use Rattle.script.proofs.fields.joined.Given as goal

abbrev pub invariant-loop-part : goal.invariant-loop-part
invariant-loop-part g l = AllZip g.T.Spelled.spells (texts l.yielded) l.values.items
