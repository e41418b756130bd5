use mathlib.Core.List.{[], ◌∷◌}
use denote.Builtin as builtin
use mir.Syntax.{named}
use denote.Param.{param}
use denote.Ref.{ShrRef}
use denote.Param.Send.{IsSync, param_sync, sendable, shr_sync}
use denote.Struct.Tuple.{TupleAt}
use Rattle.std.proofs.Crossing.{crosses}
use Rattle.std.specs.contracts.alloc.Global as Global
use Rattle.crew.proofs.Crosses.{table_sync}
use Rattle.crew.specs.contracts.table.Table as Table
use Rattle.bench.proofs.Crosses.{captured_sync}
use Rattle.bench.proofs.course.Course.TheSendSync as course
use Rattle.bench.proofs.options.Options.TheSendSync as options
use Rattle.bench.proofs.sessions.by_sessions.Lts as lts
use Rattle.bench.proofs.sessions.by_sessions.Goals as goal
use Rattle.bench.specs.contracts.course.Course as Course
use Rattle.bench.specs.contracts.options.Options as Options

-- `search` doesn't see what the closure has taken, so the list of it is written out.
pub map_indices-told-requires-sync-F : goal.map_indices-told-requires-sync-F
map_indices-told-requires-sync-F g c = λ κs known.
    let s : IsSync (TupleAt [] (ShrRef (named 6) κs.1.1.1.1.1.1.0 (param 1 g.row.R)
    ∷ Global.the_row
    ∷ ShrRef (named 7) κs.1.1.1.1.1.1.1.0 (Table.the_row (param 0 g.row.T) g.T.Opened g.T.Named g.T.TableRings)
    ∷ ShrRef (named 8) κs.1.1.1.1.1.1.1.1.0 Options.the_row
    ∷ ShrRef (named 9) κs.1.1.1.1.1.1.1.1.1.0 Course.the_row
    ∷ builtin.u16
    ∷ [])) = captured_sync [] (ShrRef (named 6) κs.1.1.1.1.1.1.0 (param 1 g.row.R)
    ∷ Global.the_row
    ∷ ShrRef (named 7) κs.1.1.1.1.1.1.1.0 (Table.the_row (param 0 g.row.T) g.T.Opened g.T.Named g.T.TableRings)
    ∷ ShrRef (named 8) κs.1.1.1.1.1.1.1.1.0 Options.the_row
    ∷ ShrRef (named 9) κs.1.1.1.1.1.1.1.1.1.0 Course.the_row
    ∷ builtin.u16
    ∷ []) (
      search (c.type_bounds.sync-R, sendable) depth 10,
      (
        search (sendable, crosses) depth 10,
        (
          shr_sync _ _ _ (table_sync (param 0 g.row.T) g.T.Opened g.T.Named g.T.TableRings),
          (
            search (options.the_sync, sendable) depth 10,
            (search (course.the_sync, sendable) depth 10, (search (sendable) depth 10, tt)),
          ),
        ),
      ),
    ) in
    param_sync 3
    (lts.arg-0-3 g.row.T g.row.R g.T.laws g.R.laws g.T.Opened g.T.Opened-dict g.T.Named g.T.Named-dict g.T.TableRings g.T.TableRings-dict
    g.R.Threads g.R.Threads-dict g.R.Wait g.R.Wait-dict g.R.Clock g.R.Clock-dict κs)
    (record { shared = s.shared })
