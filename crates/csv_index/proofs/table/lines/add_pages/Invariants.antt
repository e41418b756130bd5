use Rattle.std.proofs.Common.{◌≡◌, ◌+◌, ◌-◌, map, vec_len}
use Rattle.std.specs.Vec.{vec_items}
use Rattle.keybytes.specs.declared.rid.Rid.{Rid}
use Rattle.csv_index.specs.Lines.{line_of}
use Rattle.csv_index.proofs.table.lines.add_pages.Given as goal

abbrev pub invariant-loop-alloc : goal.invariant-loop-alloc
invariant-loop-alloc l = (rid : Rid) → line_of (map vec_items l.pages.items) rid ≡ line_of (map vec_items l.fn.pages.items) rid

abbrev pub decreases-loop-alloc : goal.decreases-loop-alloc
decreases-loop-alloc l = l.page + 1 - vec_len l.pages
