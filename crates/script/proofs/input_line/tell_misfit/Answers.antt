use Rattle.std.proofs.Common.{arith}
use Rattle.std.specs.Prelude.{string_bytes}
use Rattle.csv.specs.Records.{fields_of}
use Rattle.script.specs.Misfits.{TellsMisfit}
use Rattle.script.specs.Shapes.{HasShape}
use Rattle.script.specs.declared.misfit.Misfit.TheVariants.{UnknownCommand}
use Rattle.script.proofs.Words.{of_found, word_alone}
use Rattle.script.proofs.input_line.tell_misfit.Goals as goal

pub returns-in-Ok-Some-UnknownCommand-clause-told : goal.returns-in-Ok-Some-UnknownCommand-clause-told
returns-in-Ok-Some-UnknownCommand-clause-told c =
    let fields = fields_of c.args.«record».now in
    let found = c.in-Ok-Some-UnknownCommand in
    let is = UnknownCommand found.text in
    let told = of_found (HasShape fields) (TellsMisfit fields) found.field-0 is (cc (found.field-0-is, found.field-0-0-is)) found.ensures in
    word_alone fields (string_bytes found.text) (omega (arith, c.len.ensures)) told.0 told.1 c.requires.text
