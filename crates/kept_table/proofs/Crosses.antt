-- A table that is kept may go to another thread.
use denote.RattleType.{RattleType}
use denote.Param.Send.{IsSend, plain_send, recorded_send, sendable, struct_send, view_send}
use denote.Struct.Declared.{shape}
use Rattle.std.proofs.Crossing.{crosses, Vec-send}
use Rattle.std.proofs.option.Option.TheSendSync as option
use Rattle.keybytes.proofs.fault.Fault.TheSendSync as fault
use Rattle.keybytes.proofs.key_spec.KeySpec.TheSendSync as spec
use Rattle.heap_table.proofs.heap.Heap.TheSendSync as heap
use Rattle.btree.proofs.Crosses.{tree_send}
use Rattle.ready_indexes.proofs.Crosses.{ready_send}
use Rattle.side_file.proofs.entry_end.EntryEnd.TheSendSync as entry_end
use Rattle.side_file.proofs.side_file.SideFile.TheSendSync as side
use Rattle.run_spool.specs.declared.spool.Spool as spool
use Rattle.prefix_spool.proofs.either.SpoolOfKind.TheSendSync as spools
use Rattle.page_workers.proofs.intake.Intake.TheSendSync as intake
use Rattle.page_workers.proofs.page_putter.PagePutter.TheSendSync as putter
use Rattle.page_workers.proofs.worker.Worker.TheSendSync as worker
use Rattle.table_scan.proofs.table_scan.TableScan.TheSendSync as scan
use Rattle.leased_core.proofs.leases.Leases.TheSendSync as leases
use Rattle.kept_table.proofs.decided.Decided.TheSendSync as decided
use Rattle.kept_table.proofs.waits.Waits.TheSendSync as waits
use Rattle.page_workers.specs.contracts.intake.Intake as Intake
use Rattle.page_workers.specs.contracts.worker.Worker as Worker
use Rattle.building.specs.contracts.work.Work as Work
use Rattle.building.specs.contracts.unnamed_building.UnnamedBuilding as UnnamedBuilding
use Rattle.building.specs.contracts.unnamed_building.UnnamedBuilding.TheInside as Ends
use Rattle.live_table.specs.contracts.unnamed_live.UnnamedLive as UnnamedLive
use Rattle.builder_core.specs.contracts.unnamed_core.UnnamedCore as UnnamedCore
use Rattle.builder_core.specs.contracts.unnamed_core.UnnamedCore.TheInside as Halves
use Rattle.leased_core.specs.contracts.unnamed_leased.UnnamedLeased as UnnamedLeased
use Rattle.kept_table.specs.contracts.unnamed_counted.UnnamedCounted as UnnamedCounted
use Rattle.kept_table.specs.contracts.kept.Kept as Kept

-- the table, with its ready indexes
live_send : IsSend UnnamedLive.the_row
live_send = search (heap.the_send, ready_send, scan.the_send, putter.the_send, side.the_send, sendable, crosses) depth 20

-- what a build has made of its indexes
work_send : IsSend Work.the_row
work_send = search (spec.the_send, fault.the_send, tree_send, sendable, crosses) depth 60

-- its workers, the ends of its rings and its spools, where a spool may go to another thread
building_send : (S : RattleType) (g : spool.Ghosts S.Denot) → IsSend S → IsSend (UnnamedBuilding.the_row S g)
building_send S g s =
    view_send (Ends.the_row S g) _ _ _ _
    (recorded_send (Ends.the_field S g).row _ _ (Ends.the_type S g).to_one
    (struct_send (shape (Ends.the_type S g)) (
      Vec-send (Worker.the_row S g) (search (worker.the_send, s, sendable, crosses) depth 20),
      (
        Vec-send Intake.the_row intake.the_send,
        (
          Vec-send _ entry_end.the_send,
          (Vec-send S s, (plain_send _ _ _ _ _, (option.the_field_send Work.the_row work_send, tt))),
        ),
      ),
    )))

-- the core, of the table and its build
core_send : (S : RattleType) (g : spool.Ghosts S.Denot) → IsSend S → IsSend (UnnamedCore.the_row S g)
core_send S g s =
    view_send (Halves.the_row S g) _ _ _ _
    (recorded_send (Halves.the_field S g).row _ _ (Halves.the_type S g).to_one
    (struct_send (shape (Halves.the_type S g)) (live_send, (building_send S g s, tt))))

-- with the pool that its spools lease from, and the count of its pages
leased_send : IsSend UnnamedLeased.the_row
leased_send = search (core_send, spools.the_send, leases.the_send, sendable, crosses) depth 20

counted_send : IsSend UnnamedCounted.the_row
counted_send = search (leased_send, sendable) depth 20

pub kept_send : IsSend Kept.the_row
kept_send = search (counted_send, decided.the_send, waits.the_send, sendable) depth 20
