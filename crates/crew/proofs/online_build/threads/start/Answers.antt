use mathlib.Core.List.{[], ◌∷◌}
use mir.Syntax.{named}
use denote.Param.{param}
use denote.Ref.{ShrRef}
use denote.Param.Send.{IsSend, param_send, sendable, shr_send}
use denote.Struct.Tuple.{TupleAt}
use Rattle.std.proofs.Crossing.{crosses}
use Rattle.std.specs.contracts.alloc.Global as Global
use Rattle.page_workers.proofs.worker.Worker.TheSendSync as worker
use Rattle.page_workers.specs.contracts.worker.Worker as Worker
use Rattle.crew.proofs.Crosses.{captured_send, table_sync}
use Rattle.crew.proofs.online_build.range_queue.RangeQueue.TheSendSync as queue
use Rattle.crew.proofs.online_build.threads.start.Lts as lts
use Rattle.crew.proofs.online_build.threads.start.Goals as goal
use Rattle.crew.specs.contracts.online_build.range_queue.RangeQueue as RangeQueue
use Rattle.crew.specs.contracts.table.Table as Table

-- `search` doesn't see what the closure has taken, so the list of it is written out.
pub spawn_with-requires-send-F : goal.spawn_with-requires-send-F
spawn_with-requires-send-F g c = λ κs known.
    let s : IsSend (TupleAt [] (ShrRef (named 6) κs.1.1.1.1.1.1.0 (param 3 g.row.R)
    ∷ Global.the_row
    ∷ ShrRef (named 7) κs.1.1.1.1.1.1.1.0 (Table.the_row (param 1 g.row.T) g.T.Opened g.T.Named g.T.TableRings)
    ∷ ShrRef (named 8) κs.1.1.1.1.1.1.1.1.0 RangeQueue.the_row
    ∷ ShrRef (named 9) κs.1.1.1.1.1.1.1.1.1.0 (param 2 g.row.G)
    ∷ Worker.the_row (param 0 g.row.S) g.S.Spool
    ∷ [])) = captured_send []
    (ShrRef (named 6) κs.1.1.1.1.1.1.0 (param 3 g.row.R)
    ∷ Global.the_row
    ∷ ShrRef (named 7) κs.1.1.1.1.1.1.1.0 (Table.the_row (param 1 g.row.T) g.T.Opened g.T.Named g.T.TableRings)
    ∷ ShrRef (named 8) κs.1.1.1.1.1.1.1.1.0 RangeQueue.the_row
    ∷ ShrRef (named 9) κs.1.1.1.1.1.1.1.1.1.0 (param 2 g.row.G)
    ∷ Worker.the_row (param 0 g.row.S) g.S.Spool
    ∷ []) (
      search (c.type_bounds.sync-R, sendable) depth 10,
      (
        search (sendable, crosses) depth 10,
        (
          shr_send _ _ _ (table_sync (param 1 g.row.T) g.T.Opened g.T.Named g.T.TableRings),
          (
            search (queue.the_sync, sendable) depth 10,
            (
              search (c.type_bounds.sync-G, sendable) depth 10,
              (
                search (worker.the_send, c.type_bounds.send-S, sendable) depth 20,
                tt,
              ),
            ),
          ),
        ),
      ),
    ) in
    param_send 2
    (lts.arg-3-2 g.row.S g.row.T g.row.G g.row.R g.S.laws g.T.laws g.G.laws g.R.laws g.S.Spool g.S.Spool-dict g.T.Opened g.T.Opened-dict g.T.Named g.T.Named-dict g.T.TableRings
    g.T.TableRings-dict g.G.Gate g.G.Gate-dict g.R.Threads g.R.Threads-dict g.R.Wait g.R.Wait-dict g.S.Destruct-dict κs)
    (record { owned = s.owned; leaving = s.leaving })
