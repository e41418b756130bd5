use Rattle.std.proofs.Common.{◌∙◌, refl, sym}
use Rattle.std.proofs.lemmas.List.{length-map}
use Rattle.side_file.specs.Ends.{PutEnd}
use Rattle.side_file.specs.SideFileValue.{SideFileValue}
use Rattle.side_file.specs.declared.entry.Entry.{Entry}
use Rattle.side_file.specs.Ends.{TakeEnd}
use Rattle.page_workers.specs.IntakeValue.{IntakeValue}
use Rattle.page_workers.specs.declared.copied.Copied.{Copied}
use Rattle.table_scan.specs.SideFiles.{put_ends}
use Rattle.page_workers.proofs.Places.{as_long}
use Rattle.live_table.proofs.parts.Parts.new.Goals as goal

pub invariant_of-result : goal.invariant_of-result
invariant_of-result c =
    let rings = c.in-Ok.rings in
    let same = c.in-Ok.ensures.rings in
    let long = as_long (λ (end : PutEnd Copied). end.ring) (λ (worker : IntakeValue). worker.end.ring) rings.0.items rings.1.items same in
    let entries = c.in-Ok-entry_rings.rings in
    let same_entries = c.in-Ok-entry_rings.ensures.rings in
    let eight = length-map entries.0.items (λ (side : SideFileValue). side.end) ∙ c.in-Ok-entry_rings.ensures.eight in
    let as_many = as_long (λ (end : PutEnd Entry). end.ring) (λ (end : TakeEnd Entry). end.ring) (put_ends entries.0.items) entries.1.items same_entries in (
      record { pages_are = refl; sides_are = refl; sixteen = c.in-Ok.ensures.sixteen; eight = eight },
      record { intakes_are = sym same; sides_are = sym same_entries; sixteen = sym long ∙ c.in-Ok.ensures.sixteen; eight = sym as_many ∙ eight },
      c.in-Ok.ensures.unused,
      c.in-Ok.ensures.no_copies,
      c.in-Ok-entry_rings.ensures.no_entries,
    )
