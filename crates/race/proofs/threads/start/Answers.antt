use mathlib.Core.List.{[], ◌∷◌}
use Rattle.std.proofs.Common.{rules, ◌≡◌, ◌++◌, sym, ap, subst, ◌∙◌}
use Rattle.std.specs.List.{AllZip}
use mir.Syntax.{named}
use denote.Param.{param}
use denote.Ref.{ShrRef}
use denote.Param.Send.{IsSend, param_send, sendable, shr_send}
use denote.Struct.Tuple.{TupleAt}
use Rattle.std.proofs.Crossing.{crosses}
use Rattle.std.specs.contracts.alloc.Global as Global
use Rattle.crew.proofs.Crosses.{captured_send, table_sync}
use Rattle.crew.specs.contracts.table.Table as Table
use Rattle.race.proofs.session_script.SessionScript.TheSendSync as script
use Rattle.race.proofs.threads.start.Lts as lts
use Rattle.race.proofs.threads.start.Goals as goal
use Rattle.race.specs.Sessions.{HasRun}
use Rattle.race.specs.contracts.session_script.SessionScript as SessionScript

-- `search` doesn't see what the closure has taken, so the list of it is written out.
pub spawn_with-requires-send-F : goal.spawn_with-requires-send-F
spawn_with-requires-send-F g c = λ κs known.
    let s : IsSend (TupleAt [] (ShrRef (named 6) κs.1.1.1.1.1.1.0 (param 1 g.row.R)
    ∷ Global.the_row
    ∷ ShrRef (named 7) κs.1.1.1.1.1.1.1.0 (Table.the_row (param 0 g.row.T) g.T.Opened g.T.Named g.T.TableRings)
    ∷ SessionScript.the_row
    ∷ [])) = captured_send []
    (ShrRef (named 6) κs.1.1.1.1.1.1.0 (param 1 g.row.R)
    ∷ Global.the_row
    ∷ ShrRef (named 7) κs.1.1.1.1.1.1.1.0 (Table.the_row (param 0 g.row.T) g.T.Opened g.T.Named g.T.TableRings)
    ∷ SessionScript.the_row
    ∷ []) (
      search (c.type_bounds.sync-R, sendable) depth 10,
      (
        search (sendable, crosses) depth 10,
        (
          shr_send _ _ _ (table_sync (param 0 g.row.T) g.T.Opened g.T.Named g.T.TableRings),
          (search (script.the_send, sendable) depth 20, tt),
        ),
      ),
    ) in
    param_send 2
    (lts.arg-3-2 g.row.T g.row.R g.T.laws g.R.laws g.T.Opened g.T.Opened-dict g.T.Named g.T.Named-dict g.T.TableRings
    g.T.TableRings-dict g.R.Threads g.R.Threads-dict g.R.Wait g.R.Wait-dict κs)
    (record { owned = s.owned; leaving = s.leaving })

pub returns-in-Err-clause-all : goal.returns-in-Err-clause-all
returns-in-Err-clause-all g c =
    let script = c.remove-script.result in
    let split : c.loop-alloc.scripts.items ≡ script ∷ c.remove-script.new.self.items = search rules in
    let alone : c.push_reserved-in-Err.new.self.items ≡ c.spawn_with-in-Err.result ∷ [] = c.push_reserved-in-Err.ensures.items ∙ ap (λ l. l ++ c.spawn_with-in-Err.result ∷ []) c.loop-alloc.invariant.none in
    let ran : HasRun g.T.Opened.opening script c.spawn_with-in-Err.result = search rules in (
      c.loop-alloc.scripts.items,
      c.loop-alloc.invariant.all,
      subst (λ l. AllZip (HasRun g.T.Opened.opening) l c.run_here.new.ended.items) (sym split)
          (c.run_here.ensures.ran (script ∷ []) (subst (AllZip (HasRun g.T.Opened.opening) (script ∷ [])) (sym alone) (ran, tt))),
    )
