use Rattle.std.proofs.Common.{List, refl, sym, ap, subst, ◌∙◌}
use Rattle.std.proofs.lemmas.List.{with_items_is}
use Rattle.heap_table.specs.HeapState.{HeapState}
use Rattle.keybytes.specs.declared.cell.Cell.{Cell}
use Rattle.csv_index.specs.Sizes.{AddsRow}
use Rattle.csv_index.specs.declared.table.key_sizes.KeySizes.{KeySizes}
use Rattle.csv_index.proofs.Taken.{kept_self}
use Rattle.csv_index.proofs.table.filling.put.Goals as goal

pub returns : goal.returns
returns c =
    let row = c.args.row in
    let was = c.args.filled.now in
    let written = c.in-Ok.ensures.inserted.1 in
    let sizes : List KeySizes = c.add_sizes.new.sizes in
    let slice : List KeySizes = c.as_mut_slice.result.now in
    let same = with_items_is was.sizes sizes (c.add_sizes.auto.sizes ∙ c.as_mut_slice.ensures.len) in
    let adds = subst (λ (before : List KeySizes). AddsRow c.cells.result.now before sizes) c.as_mut_slice.ensures.value c.add_sizes.ensures in
    let adds_row = subst (λ (cells : List Cell). AddsRow cells was.sizes.items sizes) c.cells.ensures.cells adds in
    record {
      place = c.in-Ok.rid;
      put = record { between = was.heap.state; kept = kept_self was.heap.state.log; goes = written.1; put = c.in-Ok.ensures.rows };
      open_txns = ap (λ (s : HeapState). s.active) written.2;
      noted = c.in_ok-note-in-Ok.ensures;
      sized = subst (AddsRow row was.sizes.items) (sym same) adds_row;
      counted = refl;
      left_out = refl;
    }
