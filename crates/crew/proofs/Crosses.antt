-- Threads may share a table, and a session may go to another thread.
use denote.RattleType.{RattleType}
use denote.Ref.{NamedLft}
use mathlib.Core.List.{List, [], ◌∷◌}
use mir.Syntax.{Sym}
use denote.Param.Send.{AllSend, IsSend, IsSync, sendable, view_send}
use denote.Param.SendFields.{FieldsHave, as_row_send, declared_send, declared_sync}
use denote.Struct.Field.{row_field}
use denote.Struct.Tuple.{TupleAt, parts, type_at}
use Rattle.std.proofs.Crossing.{crosses}
use Rattle.log_prefixes.proofs.known.Known.TheSendSync as known
use Rattle.log_prefixes.proofs.keeper.Keeper.TheSendSync as keeper
use Rattle.crew.proofs.locked.credit.Credit.TheSendSync as credit
use Rattle.crew.proofs.progress.Progress.TheSendSync as progress
use Rattle.log_prefixes.specs.declared.named.Named as named
use Rattle.page_workers.specs.declared.table_rings.TableRings as table
use Rattle.live_table.proofs.Crosses.{live_send}
use Rattle.crew.specs.declared.table.opened.Opened as opened
use Rattle.crew.specs.contracts.locked.Locked as Locked
use Rattle.crew.specs.contracts.locked.Locked.TheInside as Inside
use Rattle.crew.specs.contracts.table.Table as Table
use Rattle.crew.specs.contracts.session.Session as Session
use Rattle.crew.specs.contracts.online_build.turns.Applying as Applying

module _ (T : RattleType) (o : opened.Ghosts T.Denot) (n : named.Ghosts T.Denot) (t : table.Ghosts T.Denot) where
  locked_send : IsSend (Locked.the_row T o n t)
  locked_send = view_send (Inside.the_row T o n t) _ _ _ _ (declared_send (Inside.the_type T o n t) (
    search (live_send, sendable) depth 20,
    (
      search (keeper.the_send, sendable) depth 20,
      (
        search (progress.the_send, sendable) depth 20,
        (search (credit.the_send, sendable) depth 20, (search (sendable) depth 20, tt)),
      ),
    ),
  ))

  pub table_sync : IsSync (Table.the_row T o n t)
  table_sync = search (locked_send, sendable, crosses) depth 20

  -- who applies a batch tells of it from several threads
  pub applying_sync : (κ : NamedLft) → IsSync (Applying.the_row κ T o n t)
  applying_sync κ = declared_sync (Applying.the_type κ T o n t) (search (table_sync, sendable) depth 20, tt)

  pub session_send : (κ : NamedLft) → IsSend (Session.the_row κ T o n t)
  session_send κ = search (table_sync, known.the_send, sendable) depth 20

parts_have : (Ts : List RattleType) → AllSend Ts → FieldsHave IsSend (parts Ts)
parts_have [] s = tt
parts_have (T ∷ Ts) s = (as_row_send (row_field T) s.0, parts_have Ts s.1)

-- What a closure has taken may cross threads with it.
pub captured_send : (ν : Sym) (Ts : List RattleType) → AllSend Ts → IsSend (TupleAt ν Ts)
captured_send ν Ts s = declared_send (type_at ν Ts) (parts_have Ts s)
