use Rattle.std.proofs.Common.{◌≡◌, ◌∷◌, [], map, take}
use Rattle.csv.specs.Records.{fields_of}
use Rattle.csv_index.specs.Printed.{Prints, fields_at, header_fields}
use Rattle.csv_index.proofs.listing.print_each.Given as goal

-- the rows before this place are printed
abbrev pub invariant-loop-rid : goal.invariant-loop-rid
invariant-loop-rid g l = record {
  prints : Prints g.W.Write.contents l.fn.printer.writer l.printer.writer
      (header_fields l.facts.asked.now.columns.items ∷ map (fields_at l.fn.live.state.heap.log l.facts.lines.now) (take l.rid-index l.rids));
  fields : fields_of l.printer.fields ≡ [];
  same : l.live.state.heap.log ≡ l.fn.live.state.heap.log;
}
