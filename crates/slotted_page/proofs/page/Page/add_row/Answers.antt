use Rattle.std.proofs.Common.{◌≡◌, ◌++◌, ◌∷◌, [], List, length, ap, sym, ◌∙◌, refl}
use Rattle.slotted_page.specs.Slot.{Slot, put, row}
use Rattle.slotted_page.specs.Image.{slots_in}
use Rattle.slotted_page.proofs.PageFields.{page_facts}
use Rattle.slotted_page.proofs.PageValues.{put_push}
use Rattle.slotted_page.proofs.page.Page.add_row.Goals as goal

pub returns-then-self-slots : goal.returns-then-self-slots
returns-then-self-slots c =
    let f = page_facts c.self.invariant c.self.view_is in
    let slots = c.args.self.now.slots in
    let added = row c.args.bytes.now (length c.args.bytes.now) in
    let e : slots_in c.add_row.new.image ≡ put slots (length slots) added =
    c.add_row.ensures.slots ∙ ap (λ (xs : List Slot). xs ++ added ∷ []) f.slots_are ∙ sym (put_push slots (length slots) added refl) in
    cc (e, f.limit_is)

pub returns-else-self-slots : goal.returns-else-self-slots
returns-else-self-slots c =
    let f = page_facts c.self.invariant c.self.view_is in
    let slots = c.args.self.now.slots in
    let added = row c.args.bytes.now (length c.args.bytes.now) in
    let e : slots_in c.add_row.new.image ≡ put slots (length slots) added =
    c.add_row.ensures.slots ∙ ap (λ (xs : List Slot). xs ++ added ∷ []) f.slots_are ∙ sym (put_push slots (length slots) added refl) in
    cc (e, f.limit_is)
