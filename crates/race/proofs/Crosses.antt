-- Threads may share the gate of a build that somebody watches.
use denote.RattleType.{RattleType}
use denote.Ref.{NamedLft}
use denote.Param.Send.{IsSend, IsSync, sendable}
use denote.Param.SendFields.{declared_sync}
use Rattle.std.proofs.Crossing.{crosses}
use Rattle.log_prefixes.specs.declared.named.Named as named
use Rattle.page_workers.specs.declared.table_rings.TableRings as table
use Rattle.crew.specs.declared.table.opened.Opened as opened
use Rattle.crew.proofs.Crosses.{table_sync}
use Rattle.race.specs.contracts.watching.Watching as Watching

module _ (T R W : RattleType) (o : opened.Ghosts T.Denot) (n : named.Ghosts T.Denot) (t : table.Ghosts T.Denot) where
  -- they share the runtime and the table, and its lock hands the one who watches from thread to thread
  pub watching_sync : IsSync R → IsSend W → (κ : NamedLft) → IsSync (Watching.the_row κ T R W o n t)
  watching_sync sync send κ =
      declared_sync (Watching.the_type κ T R W o n t) (
        search (sync, sendable) depth 20,
        (search (table_sync, sendable) depth 20, (search (send, sendable, crosses) depth 20, tt)),
      )
