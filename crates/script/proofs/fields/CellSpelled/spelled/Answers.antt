use Rattle.std.proofs.Common.{lit<, sym}
use Rattle.std.proofs.lemmas.Str.Pattern.{strip_prefix_char}
use Rattle.script.proofs.FieldLemmas.{at_none, spells_none}
use Rattle.script.proofs.fields.CellSpelled.spelled.Goals as goal

pub returns-in-None-clause-refused : goal.returns-in-None-clause-refused
returns-in-None-clause-refused c =
    let text = c.args.text.now in
    let no_text =
    at_none _ c.strip_prefix.result (strip_prefix_char 61 text c.strip_prefix.result c.strip_prefix.ensures.cases (lit< tt)) c.in_default.not-Some in
    λ _. spells_none text c.in_default-text.not-text (sym c.in-None.ensures) no_text c.in_default-text.not-true c.in_default-text.not-false
