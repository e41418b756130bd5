use Rattle.std.proofs.Common.{List, ◌<◌, arith, ap, get_or, inl, inr, length, subst}
use Rattle.csv.specs.Records.{field_at, fields_of}
use Rattle.keybytes.specs.declared.kind.Kind.TheVariants.{Int}
use Rattle.csv_index.specs.Cells.{IsNoCell}
use Rattle.csv_index.specs.Fillings.{IsCellAt, field_or_empty}
use Rattle.csv_index.specs.declared.table.source.Source.{Source}
use Rattle.csv_index.proofs.Taken.{same_or, zip_more}
use Rattle.csv_index.proofs.table.filling.read_row.Goals as goal

pub loop-place-preserved : goal.loop-place-preserved
loop-place-preserved c =
    let fields = fields_of c.args.«record».now in
    let place = c.loop-place.place in
    let all = c.deref-source-items.ensures.value in
    let source : Source = record { at = 0; kind = Int } in
    let one = subst (λ (sources : List Source). IsCellAt fields (get_or sources place source) c.in-Ok.cell) all c.in-Ok.ensures.read in
    zip_more (IsCellAt fields) c.args.layout.now.sources.items c.loop-place.cells.items c.push.new.self.items place source c.in-Ok.cell
    (omega (arith, ap length all)) c.in_ok-push-in-Ok.ensures.items c.loop-place.invariant one

pub returns-in-Err-clause-refused : goal.returns-in-Err-clause-refused
returns-in-Err-clause-refused c = λ of_record.
    let fields = fields_of c.args.«record».now in
    let place = c.loop-place.place in
    let all = c.deref-source-items.ensures.value in
    let none : Source = record { at = 0; kind = Int } in
    let sources : List Source = c.args.layout.now.sources.items in
    let source : Source = get_or sources place none in
    let inside : place < length sources = omega (arith, ap length all) in
    elim c.in-Err.ensures.refused [
      | inl memory ↦ absurd (of_record memory)
      | inr no_cell ↦ inr (
        place,
        source,
        inside,
        same_or sources place source none inside,
        subst (λ (sources : List Source). IsNoCell (get_or sources place none).kind (field_or_empty (field_at fields (get_or sources place none).at))) all no_cell,
      )
    ]
