use Rattle.std.proofs.Common.{◌≢◌, ◌^◌, get_or, ◌∙◌}
use Rattle.std.proofs.lemmas.Str.Parse.{parse_plain}
use Rattle.script.specs.Fields.{number_below}
use Rattle.script.proofs.FieldLemmas.{digits, not_plus, parsed, same_number}
use Rattle.script.proofs.fields.slot.Goals as goal

pub returns : goal.returns
unfolding lib.Utf8.encode
returns c =
    let text = c.args.text.now in
    let plain : get_or text 0 0 ≢ 43 = not_plus text c.if-starts_with.ensures.cases in
    c.ok.ensures.value
    ∙ parsed (λ n. n) (2 ^ 16) text c.parse.result (parse_plain digits 16 text c.parse.result c.parse.ensures.value.0 plain)
    ∙ same_number (number_below (2 ^ 16) text)
