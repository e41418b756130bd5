use Rattle.std.proofs.Common.{length, get_or, ap, sym, ◌∙◌, arith, List, set}
use Rattle.std.proofs.lemmas.List.{length-set}
use Rattle.slotted_page.specs.Slot.{Slot, free, row, reserve_of, is_free, total_reserve}
use Rattle.slotted_page.proofs.PageValues.{put_is_set, same_total}
use Rattle.slotted_page.proofs.PageFields.{page_facts, same_lowest}
use Rattle.slotted_page.proofs.page.Page.fill_held.Goals as goal

pub store-requires-clause-there : goal.store-requires-clause-there
store-requires-clause-there c =
    let f = page_facts c.self.invariant c.self.view_is in
    omega (arith, f.slots_long, c.requires.there)

pub store-requires-clause-is_held : goal.store-requires-clause-is_held
store-requires-clause-is_held c =
    let f = page_facts c.self.invariant c.self.view_is in
    ap (λ (slots : List Slot). get_or slots c.args.slot free) f.slots_are ∙ c.requires.is_held

pub returns : goal.returns
returns c =
    let f = page_facts c.self.invariant c.self.view_is in
    let e = put_is_set c.args.self.now.slots c.args.slot (row c.args.bytes.now c.args.reserve) c.requires.there in
    let r = c.store.ensures.slots in
    cc (e, f.slots_are, f.limit_is, r)

pub invariant_of-self : goal.invariant_of-self
invariant_of-self c =
    let f = page_facts c.self.invariant c.self.view_is in
    let page = c.args.self.now in
    let r = row c.args.bytes.now c.args.reserve in
    let slots = c.store.ensures.slots ∙ ap (λ (slots : List Slot). set slots c.args.slot r) f.slots_are in
    record {
      format = c.store.ensures.format;
      counted = omega (arith, ap length slots, length-set page.slots c.args.slot r, f.slots_long, f.keeps.counted);
      limited = f.keeps.limited;
      total = ap total_reserve slots ∙ same_total page.slots c.args.slot r c.requires.there (ap reserve_of c.requires.is_held) ∙ f.total_is;
      lowest =
          same_lowest f c.store.new.image c.args.slot r c.requires.there (slots ∙ sym (put_is_set page.slots c.args.slot r c.requires.there))
          (sym (ap is_free c.requires.is_held));
    }
