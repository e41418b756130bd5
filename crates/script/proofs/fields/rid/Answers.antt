use Rattle.std.proofs.Common.{Some, None, inl, inr, lit<, refl, sym, ◌∙◌}
use Rattle.std.proofs.lemmas.Str.Pattern.{split_parts}
use Rattle.script.proofs.RidPoints.{no_point, no_rid}
use Rattle.script.proofs.fields.rid.Goals as goal

pub returns-in_default-clause-refused : goal.returns-in_default-clause-refused
returns-in_default-clause-refused c =
    let parts = split_parts 46 c.args.text.now (Some (c.in-Some.page_text, c.in-Some.slot_text)) c.in-Some.ensures.cases (lit< tt) in
    (refl, no_rid c.args.text.now c.in-Some.page_text.now c.in-Some.slot_text.now parts.0 parts.1 (inr (sym c.slot.ensures ∙ c.in_default.is-1)))

pub returns-in_default-2-clause-refused : goal.returns-in_default-2-clause-refused
returns-in_default-2-clause-refused c =
    let parts = split_parts 46 c.args.text.now (Some (c.in-Some.page_text, c.in-Some.slot_text)) c.in-Some.ensures.cases (lit< tt) in
    (refl, no_rid c.args.text.now c.in-Some.page_text.now c.in-Some.slot_text.now parts.0 parts.1 (inl (sym c.number.ensures ∙ c.in_default.is-0)))

pub returns-in-None-clause-refused : goal.returns-in-None-clause-refused
returns-in-None-clause-refused c =
    (refl, no_point c.args.text.now (split_parts 46 c.args.text.now None c.in-None.ensures.cases (lit< tt)))
