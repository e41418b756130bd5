use Rattle.std.proofs.Common.{take, sym, ap, ◌∙◌, arith}
use Rattle.keybytes.specs.Keys.{are_key_columns}
use Rattle.sfbuild_c.proofs.IndexLists.{none_key}
use Rattle.sfbuild_c.proofs.index_bytes.read_index.Goals as goal

pub returns-then-not-are_key_columns-clause-found : goal.returns-then-not-are_key_columns-clause-found
returns-then-not-are_key_columns-clause-found c =
    none_key c.args.schema.now c.args.bytes.now c.in_ok-flag.body.now c.in_ok-columns.rest.now c.in_ok-columns.columns c.in_ok-flag.flag
    c.in_ok-flag.count c.in_ok-flag.ensures c.in_ok-columns.ensures.found (omega (arith, c.in_ok-columns.ensures.places))
    (ap (λ kinds. are_key_columns kinds (take c.in_ok-flag.count c.in_ok-columns.columns)) (sym c.kinds.ensures.kinds) ∙ sym c.if-not-are_key_columns.ensures)
