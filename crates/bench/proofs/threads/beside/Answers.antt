use mathlib.Core.List.{[], ◌∷◌}
use denote.Builtin as builtin
use mir.Syntax.{named}
use denote.Param.{param}
use denote.Ref.{ShrRef}
use denote.Param.Send.{IsSend, param_send, sendable, shr_send}
use denote.Struct.Tuple.{TupleAt}
use Rattle.std.proofs.Crossing.{crosses}
use Rattle.std.specs.contracts.alloc.Global as Global
use Rattle.crew.proofs.Crosses.{captured_send, table_sync}
use Rattle.crew.specs.contracts.table.Table as Table
use Rattle.bench.proofs.course.Course.TheSendSync as course
use Rattle.bench.proofs.options.Options.TheSendSync as options
use Rattle.bench.proofs.threads.beside.Lts as lts
use Rattle.bench.proofs.threads.beside.Goals as goal
use Rattle.bench.specs.contracts.course.Course as Course
use Rattle.bench.specs.contracts.options.Options as Options

-- `search` doesn't see what the closure has taken, so the list of it is written out.
pub join-requires-send-F : goal.join-requires-send-F
join-requires-send-F g c = λ κs known.
    let s : IsSend (TupleAt [] (ShrRef (named 6) κs.1.1.1.1.1.1.0 (param 1 g.row.R)
    ∷ Global.the_row
    ∷ ShrRef (named 7) κs.1.1.1.1.1.1.1.0 (Table.the_row (param 0 g.row.T) g.T.Opened g.T.Named g.T.TableRings)
    ∷ ShrRef (named 8) κs.1.1.1.1.1.1.1.1.0 Options.the_row
    ∷ ShrRef (named 9) κs.1.1.1.1.1.1.1.1.1.0 Course.the_row
    ∷ builtin.u16
    ∷ [])) = captured_send [] (ShrRef (named 6) κs.1.1.1.1.1.1.0 (param 1 g.row.R)
    ∷ Global.the_row
    ∷ ShrRef (named 7) κs.1.1.1.1.1.1.1.0 (Table.the_row (param 0 g.row.T) g.T.Opened g.T.Named g.T.TableRings)
    ∷ ShrRef (named 8) κs.1.1.1.1.1.1.1.1.0 Options.the_row
    ∷ ShrRef (named 9) κs.1.1.1.1.1.1.1.1.1.0 Course.the_row
    ∷ builtin.u16
    ∷ []) (
      search (c.type_bounds.sync-R, sendable) depth 10,
      (
        search (sendable, crosses) depth 10,
        (
          shr_send _ _ _ (table_sync (param 0 g.row.T) g.T.Opened g.T.Named g.T.TableRings),
          (
            search (options.the_sync, sendable) depth 10,
            (search (course.the_sync, sendable) depth 10, (search (sendable) depth 10, tt)),
          ),
        ),
      ),
    ) in
    param_send 1
    (lts.arg-0-1 g.row.T g.row.R g.T.laws g.R.laws g.T.Opened g.T.Opened-dict g.T.Named g.T.Named-dict g.T.TableRings g.T.TableRings-dict
    g.R.Threads g.R.Threads-dict g.R.Wait g.R.Wait-dict g.R.Clock g.R.Clock-dict κs)
    (record { owned = s.owned; leaving = s.leaving })
