use Rattle.std.proofs.Common.{refl, ◌∙◌, arith}
use Rattle.std.proofs.lemmas.List.{length-set}
use Rattle.sfbuild_c.proofs.ColumnLists.{column_more, no_column_flag, no_column_short, no_columns}
use Rattle.sfbuild_c.proofs.index_bytes.read_columns.Goals as goal

pub loop-place-init : goal.loop-place-init
loop-place-init c = record { places = refl; read = refl }

pub returns-in_err-column-clause-found : goal.returns-in_err-column-clause-found
returns-in_err-column-clause-found c =
    rw c.from_residual.ensures
    (λ others more len e.
    no_columns c.loop-place.columns others c.args.bytes.now c.loop-place.rest.now more c.loop-place.place c.args.count (omega arith)
    (omega (arith, c.loop-place.invariant.places)) c.loop-place.invariant.read (no_column_short c.loop-place.rest.now c.in_err-column.ensures) len e)

pub returns-in_err-read_flag-clause-found : goal.returns-in_err-read_flag-clause-found
returns-in_err-read_flag-clause-found c =
    rw c.from_residual-in_err-read_flag.ensures
    (λ others more len e.
    no_columns c.loop-place.columns others c.args.bytes.now c.loop-place.rest.now more c.loop-place.place c.args.count (omega arith)
    (omega (arith, c.loop-place.invariant.places)) c.loop-place.invariant.read
    (no_column_flag c.loop-place.rest.now c.in_ok-column.behind.now c.in_ok-column.column c.in_ok-column.flag c.in_ok-column.ensures c.in_err-read_flag.ensures)
    len e)

pub loop-place-preserved : goal.loop-place-preserved
loop-place-preserved c = record {
  places = length-set c.loop-place.columns c.loop-place.place _ ∙ c.loop-place.invariant.places;
  read = column_more c.loop-place.columns c.args.bytes.now c.loop-place.rest.now c.in_ok-column.behind.now c.loop-place.place c.in_ok-column.column
      c.in_ok-column.flag c.in_ok-read_flag.field-0 (omega (arith, c.loop-place.invariant.places)) c.loop-place.invariant.read c.in_ok-column.ensures
      c.in_ok-read_flag.ensures;
}
