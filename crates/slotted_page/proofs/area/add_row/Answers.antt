use Rattle.std.proofs.Common.{◌≡◌, ◌+◌, ◌-◌, ◌≤◌, ◌++◌, ◌∷◌, [], List, length, ap, ◌∙◌, arith}
use Rattle.std.specs.List.{sum_by}
use Rattle.slotted_page.specs.Slot.{Slot, row, total_reserve}
use Rattle.slotted_page.specs.Page.{taken_bytes}
use Rattle.slotted_page.specs.Entry.{entry_reserve}
use Rattle.slotted_page.specs.Image.{number_at, image_entries}
use Rattle.slotted_page.proofs.Layouts.{Adds, laid_format, laid_at, laid_add, slots_add, slots_laid, format_laid, lengths_le, total_entries}
use Rattle.slotted_page.proofs.area.add_row.Goals as goal

pub make_room-requires-clause-fits : goal.make_room-requires-clause-fits
make_room-requires-clause-fits c =
    let image = c.args.image.now in
    let f = laid_format c.requires.format in
    omega (arith, lengths_le (number_at image 4) (image_entries image) f.placed, total_entries image (image_entries image), c.requires.room)

pub returns : goal.returns
returns c =
    let room = c.make_room.ensures in
    let image = c.make_room.new.image in
    let bytes = c.args.bytes.now in
    let count = c.image_slots-count.result in
    let n = c.image_slots-count.ensures ∙ ap length room.slots in
    let k : Adds image c.write_at.new.image c.write_entry.new.image c.write_head.new.image count (c.make_room.result - length bytes) bytes =
    record {
      wrote = c.write_at.ensures;
      entry = c.write_entry.ensures;
      head = c.write_head.ensures;
      some = c.requires.size.0;
      size = c.requires.size.1;
      above = omega (arith, room.room, n);
    } in
    let f = laid_at room.format count c.make_room.result c.image_slots-count.ensures room.floor in
    let rule : taken_bytes (count + 1) (sum_by entry_reserve (image_entries image) + length bytes) ≤ 4096 =
    omega (arith, c.requires.room, n, ap total_reserve room.slots, total_entries image (image_entries image)) in
    let end : (c.make_room.result - length bytes) + length bytes ≡ c.make_room.result = omega (arith, room.room) in
    let next = laid_add f k end rule in
    record {
      format = format_laid next;
      slots = slots_laid next ∙ slots_add f k end ∙ ap (λ (slots : List Slot). slots ++ row bytes (length bytes) ∷ []) room.slots;
    }
