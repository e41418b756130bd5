use Rattle.std.proofs.Common.{◌+◌, List, ℕ, inl, length, subst}
use Rattle.csv.specs.Records.{fields_of}
use Rattle.csv_index.specs.Headers.{IsAbsent, IsFirstFrom}
use Rattle.csv_index.proofs.Found.{missing, stands_alone}
use Rattle.csv_index.proofs.table.header.place.Goals as goal

pub returns-in_default-clause-refused : goal.returns-in_default-clause-refused
returns-in_default-clause-refused c =
    let header = fields_of c.args.header.now in
    let absent = subst (λ (name : List ℕ). IsAbsent header name 0 (length header)) c.as_bytes.ensures.value c.in_default.ensures.first in
    inl (c.refused.ensures, missing header c.args.name.now absent)

pub returns-in-None-clause-found : goal.returns-in-None-clause-found
returns-in-None-clause-found c =
    let header = fields_of c.args.header.now in
    let place : ℕ = c.in-Some.place in
    let first = subst (λ (name : List ℕ). IsFirstFrom header name 0 place) c.as_bytes.ensures.value c.in-Some.ensures.first in
    let absent = subst (λ (name : List ℕ). IsAbsent header name (place + 1) (length header)) c.as_bytes-2.ensures.value c.in-None.ensures.first in
    stands_alone header c.args.name.now place first absent
