use Rattle.std.proofs.Common.{◌≡◌, ◌++◌, List}
use Rattle.std.specs.List.{AllZip, All}
use Rattle.chunk_list.specs.Left.{queue_items_left}
use Rattle.keybytes.specs.Keys.{IsKeyOf}
use Rattle.side_file.specs.declared.entry.Entry.{Entry}
use Rattle.replay.specs.Listings.{ListsEntry}
use Rattle.replay.proofs.listing.entry_lines.Given as goal

abbrev pub invariant-loop-entry : goal.invariant-loop-entry
invariant-loop-entry l =
    (goal.iterator-loop-entry).can_next l.entry-iterator ×
    (goal.iterator-loop-entry).is_finite l.entry-iterator ×
    All (λ (entry : Entry). IsKeyOf l.spec entry.key) (queue_items_left l.entry-iterator) ×
    ((done : List Entry) × (queue_items_left l.fn.entries ≡ done ++ queue_items_left l.entry-iterator) × AllZip (ListsEntry l.spec) done l.lines.items)
