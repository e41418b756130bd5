use Rattle.std.proofs.Common.{[], ◌∷◌}
use Rattle.std.proofs.lemmas.Result.{IfErr-weaker, err_from_is_err_and, on_ok_weaker}
use Rattle.build_events.specs.declared.event.Event.TheVariants.{Digest}
use Rattle.kept_table.specs.Pieces.{StopsWork}
use Rattle.kept_table.specs.Shapes.{StopsCopy}
use Rattle.kept_table.proofs.DuePieces.{copies, stops_at_digest, stops_at_scan}
use Rattle.kept_table.proofs.Shapes.{keeps_worker_scan}
use Rattle.kept_table.proofs.advancing.copy_page.Goals as goal

pub returns-in_err-scan-clause-refused : goal.returns-in_err-scan-clause-refused
returns-in_err-scan-clause-refused g c =
    let told = err_from_is_err_and c.from_residual.result c.from_residual.ensures.1 in
    rw (told.1, told.2) (stops_at_scan c.args.range c.args.worker c.args.counted.now c.scan.new.counted _ c.in_err-scan.ensures.refused)

pub digest-requires : goal.digest-requires
digest-requires g c =
    keeps_worker_scan c.args.counted.now c.scan.new.counted c.args.range c.args.worker c.in_ok-scan.ensures.done c.requires.worker

pub returns-clause-done : goal.returns-clause-done
returns-clause-done g c =
    on_ok_weaker c.digest.result
    (copies c.args.range c.args.worker c.args.counted.now c.scan.new.counted c.digest.new.counted c.in_ok-scan.ensures.done) c.digest.ensures.done

pub returns-clause-refused : goal.returns-clause-refused
returns-clause-refused g c =
    IfErr-weaker c.digest.result (λ fault. StopsWork (Digest c.args.worker ∷ []) c.scan.new.counted fault c.digest.new.counted)
    (λ fault. StopsCopy c.args.range c.args.worker c.args.counted.now fault c.digest.new.counted)
    (λ fault stops. stops_at_digest c.args.range c.args.worker c.args.counted.now c.scan.new.counted c.digest.new.counted fault c.in_ok-scan.ensures.done stops)
    c.digest.ensures.refused
