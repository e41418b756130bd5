use Rattle.std.proofs.Common.{◌≡◌, ◌∙◌, [], ap, sym, subst}
use Rattle.slotted_page.specs.Image.{KeepsFormat, slots_in}
use Rattle.slotted_page.specs.Page.{PageValue}
use Rattle.heap_table.proofs.Showing.{empty_readable}
use Rattle.heap_table.proofs.page_image.PageImage.new.Goals as goal

pub invariant_of-result : goal.invariant_of-result
invariant_of-result c =
    let same : c.in_ok-new.field-0.value ≡ c.copy_to.new.target = c.in_ok-new.ensures.ok in
    let none : slots_in c.in_ok-new.field-0.value ≡ [] =
    ap slots_in same ∙ (c.copy_to.ensures.slots ∙ ap (λ (p : PageValue). p.slots) c.in_ok-page.ensures.empty) in (
      subst KeepsFormat (sym same) c.copy_to.ensures.format,
      empty_readable (record { page = 0; slots = slots_in c.in_ok-new.field-0.value; schema = c.of_one.result }) none,
    )
