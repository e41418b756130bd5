use mathlib.Core.List.{[], ◌∷◌}
use denote.Builtin as builtin
use denote.Param.{param}
use mir.Syntax.{named}
use denote.Ref.{ShrRef}
use denote.Param.Send.{IsSend, param_send, sendable}
use denote.Struct.Tuple.{TupleAt}
use Rattle.index_load.specs.contracts.index_load.IndexLoad as IndexLoad
use Rattle.index_load.proofs.Crosses.{load_send}
use Rattle.crew.proofs.Crosses.{captured_send}
use Rattle.crew.proofs.online_build.loading.start.Lts as lts
use Rattle.crew.proofs.online_build.loading.start.Goals as goal

-- `search` doesn't see what the closure has taken, so the list of it is written out.
pub spawn_with-requires-send-F : goal.spawn_with-requires-send-F
spawn_with-requires-send-F g c = λ κs known.
    let s : IsSend (TupleAt [] (ShrRef (named 6) κs.1.1.1.1.1.1.0 (param 1 g.row.R) ∷ builtin.bool ∷ IndexLoad.the_row (param 0 g.row.S) g.S.Spool ∷ [])) =
    captured_send [] (ShrRef (named 6) κs.1.1.1.1.1.1.0 (param 1 g.row.R) ∷ builtin.bool ∷ IndexLoad.the_row (param 0 g.row.S) g.S.Spool ∷ [])
    (search (c.type_bounds.sync-R, sendable) depth 10, (search (sendable) depth 10, (load_send (param 0 g.row.S) g.S.Spool c.type_bounds.send-S, tt))) in
    param_send 2
    (lts.arg-3-2 g.row.S g.row.R g.S.laws g.R.laws g.S.Spool g.S.Spool-dict g.R.Threads g.R.Threads-dict g.R.Wait g.R.Wait-dict g.S.Destruct-dict κs)
    (record { owned = s.owned; leaving = s.leaving })

pub spawn_with-requires-send-T : goal.spawn_with-requires-send-T
spawn_with-requires-send-T g c = λ κs known.
    let s = load_send (param 0 g.row.S) g.S.Spool c.type_bounds.send-S in
    param_send 3
    (lts.arg-3-3 g.row.S g.row.R g.S.laws g.R.laws g.S.Spool g.S.Spool-dict g.R.Threads g.R.Threads-dict g.R.Wait g.R.Wait-dict g.S.Destruct-dict κs)
    (record { owned = s.owned; leaving = s.leaving })
