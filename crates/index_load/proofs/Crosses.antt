-- The load of an index may go to another thread.
use denote.RattleType.{RattleType}
use denote.Param.Send.{IsSend, plain_send, recorded_send, sendable, struct_send, view_send}
use denote.Struct.Declared.{shape}
use Rattle.std.proofs.Crossing.{crosses, Vec-send}
use Rattle.std.proofs.alloc.Global.TheSendSync as global
use Rattle.std.proofs.option.Option.TheSendSync as option
use Rattle.keybytes.proofs.fault.Fault.TheSendSync as fault
use Rattle.keybytes.specs.contracts.fault.Fault as Fault
use Rattle.btree.proofs.Crosses.{tree_send}
use Rattle.run_spool.specs.declared.spool.Spool as spool
use Rattle.unique_verdict.specs.contracts.tally.Tally as Tally
use Rattle.catch_up.specs.contracts.built.Built as Built
use Rattle.index_load.specs.contracts.index_load.IndexLoad as IndexLoad
use Rattle.index_load.specs.contracts.index_load.IndexLoad.TheInside as inside

tally_send : IsSend Tally.the_row
tally_send = search (tree_send, sendable, crosses) depth 20

built_send : IsSend Built.the_row
built_send = search (tree_send, tally_send, sendable, crosses) depth 20

pub load_send : (S : RattleType) (g : spool.Ghosts S.Denot) → IsSend S → IsSend (IndexLoad.the_row S g)
load_send S g s =
    view_send (inside.the_row S g) _ _ _ _
    (recorded_send (inside.the_field S g).row _ _ (inside.the_type S g).to_one
    (struct_send (shape (inside.the_type S g)) (
      global.the_field_send,
      (
        plain_send _ _ _ _ _,
        (plain_send _ _ _ _ _, (Vec-send S s, (option.the_field_send Built.the_row built_send, (option.the_field_send Fault.the_row fault.the_send, tt)))),
      ),
    )))
