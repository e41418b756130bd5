use Rattle.std.proofs.Common.{◌≡◌, rules, List, ℕ, arith, get_or, inr, refl, subst}
use Rattle.csv.specs.Records.{fields_of}
use Rattle.csv_index.specs.Headers.{IsNotFound, IsSourceOf, StandsAlone}
use Rattle.csv_index.specs.declared.table.column.Column.{Column}
use Rattle.csv_index.proofs.Taken.{zip_more}
use Rattle.csv_index.proofs.table.header.sources.Goals as goal

pub loop-column-preserved : goal.loop-column-preserved
loop-column-preserved c =
    let header = fields_of c.args.header.now in
    let columns : List Column = c.args.columns.now in
    let column : Column = c.column-item.result in
    let is : get_or columns c.loop-column.column-index column ≡ column = search rules in
    let at = subst (λ (name : List ℕ). StandsAlone header name c.in-Ok.at) c.as_str.ensures.value c.in-Ok.ensures.found in
    zip_more (IsSourceOf header) columns c.loop-column.sources.items c.push.new.self.items c.loop-column.column-index column _ (omega arith)
    c.in_ok-push.ensures.items c.loop-column.invariant (rw is (record { place = at; kind = refl }))

pub returns-in-Err-clause-refused : goal.returns-in-Err-clause-refused
returns-in-Err-clause-refused c =
    let header = fields_of c.args.header.now in
    let column : Column = c.column-item.result in
    let is : get_or c.args.columns.now c.loop-column.column-index column ≡ column = search rules in
    let why = subst (λ (name : List ℕ). IsNotFound header name c.in-Err.failure) c.as_str.ensures.value c.in-Err.ensures.refused in
    inr (c.loop-column.column-index, column, omega arith, is, why)
