use Rattle.std.proofs.Common.{sym, ◌∙◌, arith}
use Rattle.slotted_page.proofs.Images.{entry_of_image, entry_row, entry_held, entry_free, entry_within}
use Rattle.slotted_page.proofs.image.entry_in.Goals as goal

pub overflow_mul-at : goal.overflow_mul-at
overflow_mul-at c = omega (arith, entry_within c.requires.format c.requires.there)

pub overflow_add-at : goal.overflow_add-at
overflow_add-at c = omega (arith, entry_within c.requires.format c.requires.there)

pub overflow_add-at-2 : goal.overflow_add-at-2
overflow_add-at-2 c = omega (arith, entry_within c.requires.format c.requires.there)

pub overflow_add-at-3 : goal.overflow_add-at-3
overflow_add-at-3 c = omega (arith, entry_within c.requires.format c.requires.there)

pub overflow_add-at-4 : goal.overflow_add-at-4
overflow_add-at-4 c = omega (arith, entry_within c.requires.format c.requires.there)

pub number_in-offset-requires : goal.number_in-offset-requires
number_in-offset-requires c = omega (arith, entry_within c.requires.format c.requires.there)

pub number_in-length-requires : goal.number_in-length-requires
number_in-length-requires c = omega (arith, entry_within c.requires.format c.requires.there)

pub number_in-reserve-requires : goal.number_in-reserve-requires
number_in-reserve-requires c = omega (arith, entry_within c.requires.format c.requires.there)

pub returns-then-offset-ne0 : goal.returns-then-offset-ne0
returns-then-offset-ne0 c =
    let o = c.number_in-offset in let l = c.number_in-length in let r = c.number_in-reserve in
    sym (entry_row o.result l.result r.result c.if-offset-ne0.true)
    ∙ entry_of_image c.args.image.now c.args.slot o.result l.result r.result c.requires.there o.ensures l.ensures r.ensures

pub returns-then-length : goal.returns-then-length
returns-then-length c =
    let o = c.number_in-offset in let l = c.number_in-length in let r = c.number_in-reserve in
    sym (entry_held o.result l.result r.result c.if-offset-ne0.false c.if-length.true)
    ∙ entry_of_image c.args.image.now c.args.slot o.result l.result r.result c.requires.there o.ensures l.ensures r.ensures

pub returns-else-length : goal.returns-else-length
returns-else-length c =
    let o = c.number_in-offset in let l = c.number_in-length in let r = c.number_in-reserve in
    sym (entry_free o.result l.result r.result c.if-offset-ne0.false c.if-length.false)
    ∙ entry_of_image c.args.image.now c.args.slot o.result l.result r.result c.requires.there o.ensures l.ensures r.ensures
