use Rattle.std.proofs.Common.{◌≡◌, ℕ, [], List, Option, None, Some, get_or, map, sym, ◌∙◌, subst}
use Rattle.std.specs.Option.{option_to_list}
use Rattle.std.proofs.lemmas.Result.{IfErr-weaker, err_from_is_err_and}
use Rattle.keybytes.specs.Pairs.{pair_with}
use Rattle.keybytes.specs.declared.cell.Cell.{Cell}
use Rattle.heap_table.specs.Images.{Shows, image_slot}
use Rattle.heap_table.specs.Pages.{rid_at}
use Rattle.run_maker.specs.Making.{Holdings, TakesRowPart, spec_at}
use Rattle.run_maker.specs.Spooling.{Adds, MemoryOnlyIf}
use Rattle.run_maker.proofs.Parts.{first_none}
use Rattle.run_maker.proofs.Spoolings.{adds_none}
use Rattle.run_maker.proofs.images.add_slot.Goals as goal

pub returns-in_default-clause-added : goal.returns-in_default-clause-added
returns-in_default-clause-added g c = λ row shows i lt.
    let none : row ≡ None = sym (c.in_ok-row.ensures.row row shows) ∙ c.in_default.is in
    let runs = get_or (map g.S.Spool.runs c.args.spools.now) i [] in
    let begun = get_or c.args.begun.now i [] in
    subst (λ (r : Option (List Cell)). Adds (option_to_list (pair_with (spec_at c.args.specs.now i) (rid_at c.args.image.now.page c.args.slot) r)) runs begun runs begun)
    (sym none) (adds_none runs begun)

pub returns-in_err-row-clause-part : goal.returns-in_err-row-clause-part
returns-in_err-row-clause-part g c =
    let p = err_from_is_err_and c.from_residual.result c.from_residual.ensures.1 in
    let held : Holdings = record { runs = map g.S.Spool.runs c.args.spools.now; begun = c.args.begun.now } in
    rw p.1 (λ memory row shows i lt.
    first_none i (option_to_list (pair_with (spec_at c.args.specs.now i) (rid_at c.args.image.now.page c.args.slot) row)) held)

pub returns-clause-part : goal.returns-clause-part
returns-clause-part g c =
    let slot = c.args.slot in
    let start : Holdings = record { runs = map g.S.Spool.runs c.args.spools.now; begun = c.args.begun.now } in
    let end : Holdings = record { runs = map g.S.Spool.runs c.add_row.new.spools; begun = c.add_row.new.begun } in
    let Part : ℕ → Option (List Cell) → Type 0 = λ page row. TakesRowPart c.args.specs.now (rid_at page slot) row start end in
    IfErr-weaker c.add_row.result (MemoryOnlyIf (Part c.page.result (Some c.in-Some.row)))
    (MemoryOnlyIf ((row : Option (List Cell)) → Shows c.args.schema.now (image_slot c.args.image.now slot) row → Part c.args.image.now.page row))
    (λ fault part memory row shows.
    let own : row ≡ Some c.in-Some.row = sym (c.in_ok-row.ensures.row row shows) ∙ c.in-Some.is in
    subst (Part c.args.image.now.page) (sym own) (subst (λ (page : ℕ). Part page (Some c.in-Some.row)) c.page.ensures (part memory)))
    c.add_row.ensures.part
