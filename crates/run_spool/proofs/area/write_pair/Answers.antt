use Rattle.std.proofs.Common.{arith}
use Rattle.run_spool.proofs.Stores.{pair_written}
use Rattle.run_spool.proofs.area.write_pair.Goals as goal

pub returns-clause-bytes : goal.returns-clause-bytes
returns-clause-bytes c =
    pair_written c.args.pair.now c.args.at c.args.bytes.now c.write_at.new.bytes c.write_at-2.new.bytes c.write_at-3.new.bytes
    c.write_u16.new.buf c.bytes-key.result.now c.rid_to_bytes.result (omega (arith, c.told-bytes, c.requires)) c.bytes-key.ensures.bytes
    c.write_u16.ensures c.rid_to_bytes.ensures c.write_at.ensures c.write_at-2.ensures c.write_at-3.ensures
