use Rattle.std.proofs.Common.{◌∙◌, ap, map, arith}
use Rattle.std.proofs.lemmas.List.{take_at}
use Rattle.page_workers.specs.SpoolValue.{spool_value}
use Rattle.index_load.proofs.SpoolsSeen.{ended_values}
use Rattle.page_workers.proofs.Places.{as_long}
use Rattle.index_load.proofs.ending.end_spools.Goals as goal

pub returns-clause-left : goal.returns-clause-left
returns-clause-left g c =
    let spool = g.S.Spool in
    let ended = c.end_all.ensures in
    let stakes = ended.stakes ∙ ap (map spool.stake) c.as_mut_slice.ensures.value in
    let long = as_long spool.stake spool.stake c.end_all.new.spools c.args.spools.now.items stakes in
    ap (map (spool_value spool.runs spool.open_run spool.stake)) (take_at c.end_all.new.spools _ c.args.spools.now.len (omega (arith, long, c.args.spools.now.ok)))
    ∙ ended_values spool.runs spool.open_run spool.stake c.args.spools.now.items c.end_all.new.spools ended.runs ended.open_runs stakes
