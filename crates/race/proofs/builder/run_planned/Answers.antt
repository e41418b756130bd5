use denote.Param.{param}
use denote.Param.Send.{param_sync, sendable}
use denote.Signature.{named_lft}
use Rattle.race.proofs.Crosses.{watching_sync}
use Rattle.race.proofs.builder.run_planned.Lts as lts
use Rattle.race.proofs.builder.run_planned.Goals as goal

pub build-ends-requires-sync-G : goal.build-ends-requires-sync-G
build-ends-requires-sync-G g c = λ κs known.
    let shared = watching_sync (param 0 g.row.T) (param 1 g.row.R) (param 2 g.row.V) g.T.Opened g.T.Named g.T.TableRings
    (search (c.type_bounds.sync-R, sendable) depth 10) (search (c.type_bounds.send-V, sendable) depth 10) (named_lft 9 8 tt κs) in
    param_sync 2
    (lts.arg-1-2 g.row.T g.row.R g.row.V g.T.laws g.R.laws g.V.laws g.T.Opened g.T.Opened-dict g.T.Named g.T.Named-dict g.T.TableRings g.T.TableRings-dict
    g.R.Threads g.R.Threads-dict g.R.Wait g.R.Wait-dict g.V.Watch g.V.Watch-dict g.V.Destruct-dict κs)
    (record { shared = shared.shared })
