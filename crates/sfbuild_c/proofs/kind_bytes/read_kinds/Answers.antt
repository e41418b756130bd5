use Rattle.std.proofs.Common.{◌≡◌, ◌≤◌, length, sym, ap, ◌∙◌, arith, take_all}
use Rattle.std.specs.Prelude.{map}
use Rattle.std.proofs.lemmas.List.{length-map, length-take-le}
use Rattle.std.proofs.lemmas.Grind.{common_steps}
use Rattle.sfbuild_c.specs.KindBytes.{kind_byte}
use Rattle.sfbuild_c.proofs.KindLists.{kind_more, no_table, read_ok, read_refused}
use Rattle.sfbuild_c.proofs.kind_bytes.read_kinds.Goals as goal

pub loop-byte-init : goal.loop-byte-init
loop-byte-init c = grind (arith, common_steps)

pub push_reserved-requires : goal.push_reserved-requires
push_reserved-requires c =
    let read : length c.loop-byte.kinds.items ≡ c.loop-byte.byte-index =
    sym (length-map c.loop-byte.kinds.items kind_byte)
    ∙ (ap length c.loop-byte.invariant.read ∙ length-take-le c.loop-byte.byte-index c.args.bytes.now (omega arith)) in
    grind (arith, common_steps, read)

pub unreachable-requires : goal.unreachable-requires
unreachable-requires c = no_table c.args.bytes.now c.loop-byte.byte-index c.loop-byte-test.true c.in-None.ensures c.requires

pub loop-byte-preserved : goal.loop-byte-preserved
loop-byte-preserved c = record {
  read =
      let more = kind_more c.loop-byte.kinds.items c.args.bytes.now c.loop-byte.byte-index c.in-Some.kind c.loop-byte-test.true in
      ap (map kind_byte) c.push_reserved.ensures.items ∙ more c.loop-byte.invariant.read c.in-Some.ensures;
  room = grind (arith, common_steps);
}

pub returns-clause-ok : goal.returns-clause-ok
returns-clause-ok c =
    let bytes = c.args.bytes.now in
    let end : length bytes ≤ c.loop-byte.byte-index = omega arith in
    let read = c.loop-byte.invariant.read ∙ take_all c.loop-byte.byte-index bytes end in
    read_ok bytes c.loop-byte.kinds.items c.new.result read c.new.ensures.ok c.new.ensures.accepted

pub returns-clause-memory : goal.returns-clause-memory
returns-clause-memory c =
    let bytes = c.args.bytes.now in
    let end : length bytes ≤ c.loop-byte.byte-index = omega arith in
    let read = c.loop-byte.invariant.read ∙ take_all c.loop-byte.byte-index bytes end in
    read_refused bytes c.loop-byte.kinds.items c.new.result c.requires read c.new.ensures.refused
