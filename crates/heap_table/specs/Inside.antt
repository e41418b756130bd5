-- What callers see of the fields of a table and of a copy.
use Rattle.slotted_page.specs.Image.{slots_in}
use Rattle.heap_table.specs.HeapValue.{HeapValue}
use Rattle.heap_table.specs.Images.{ImageValue}
use Rattle.heap_table.specs.declared.heap.Heap.TheInside.{Inside}
use Rattle.heap_table.specs.declared.page_image.PageImage.TheInside.{Inside as ImageInside}

-- all but the pages, which the log tells
abbrev pub heap_value : Inside → HeapValue
heap_value h = record {
  state = record {
    schema = h.schema;
    slot_limit = h.slot_limit;
    page_limit = h.page_limit;
    log = h.log.records;
    active = h.open_txns.items;
    begun = h.begun;
    fenced = h.fenced;
    visits = h.visits;
  };
  room = h.log.room;
  places = h.log.places;
}

-- the slots that the bytes tell
abbrev pub image_value : ImageInside → ImageValue
image_value image = record { page = image.page; slots = slots_in image.bytes.value; schema = image.schema }
