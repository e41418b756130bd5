use Rattle.std.proofs.Common.{◌≡◌, ◌-◌, ◌<◌, List, length, get_or, set, sym, ap, ◌∙◌, arith}
use Rattle.slotted_page.specs.Slot.{Slot, free, held, row}
use Rattle.slotted_page.specs.Entry.{slot_of}
use Rattle.slotted_page.specs.Image.{number_at, image_entries, slots_in}
use Rattle.slotted_page.specs.declared.entry.Entry.TheVariants.{Free}
use Rattle.slotted_page.proofs.Images.{slots_count, entries_count, slot_of_image}
use Rattle.slotted_page.proofs.Layouts.{Stores, laid_format, laid_at, laid_store, slots_store, slots_laid, format_laid, held_entry, lengths_held}
use Rattle.slotted_page.proofs.area.store.Goals as goal

pub make_room-requires-clause-fits : goal.make_room-requires-clause-fits
make_room-requires-clause-fits c =
    let image = c.args.image.now in
    let es = image_entries image in
    let f = laid_format c.requires.format in
    let e = held_entry image (get_or es c.args.slot Free) c.args.reserve (sym (slot_of_image image c.args.slot c.requires.there) ∙ c.requires.is_held) in
    let n = slots_count image in
    let lt : c.args.slot < length es = omega (arith, entries_count image, n, c.requires.there) in
    omega (arith, lengths_held (number_at image 4) es c.args.slot c.args.reserve f.placed lt e, f.room, c.requires.reserved, n)

pub returns : goal.returns
returns c =
    let room = c.make_room.ensures in
    let image = c.make_room.new.image in
    let bytes = c.args.bytes.now in
    let n = c.image_slots-count.ensures ∙ ap length room.slots in
    let k : Stores image c.write_at.new.image c.write_head.new.image c.write_entry.new.image c.image_slots-count.result c.args.slot
    (c.make_room.result - length bytes) c.args.reserve bytes =
    record {
      wrote = c.write_at.ensures;
      head = c.write_head.ensures;
      entry = c.write_entry.ensures;
      some = c.requires.size.0;
      size = c.requires.size.1;
      reserved = c.requires.reserved;
      above = omega (arith, room.room, n);
      there = omega (arith, c.requires.there, n);
    } in
    let f = laid_at room.format c.image_slots-count.result c.make_room.result c.image_slots-count.ensures room.floor in
    let lt : c.args.slot < length (slots_in image) = omega (arith, ap length room.slots, c.requires.there) in
    let was : slot_of image (get_or (image_entries image) c.args.slot Free) ≡ held c.args.reserve =
    sym (slot_of_image image c.args.slot lt) ∙ ap (λ (slots : List Slot). get_or slots c.args.slot free) room.slots ∙ c.requires.is_held in
    let next = laid_store f k (omega (arith, room.room)) was in
    record {
      format = format_laid next;
      slots = slots_laid next ∙ slots_store f k (omega (arith, room.room))
          ∙ ap (λ (slots : List Slot). set slots c.args.slot (row bytes c.args.reserve)) room.slots;
    }
