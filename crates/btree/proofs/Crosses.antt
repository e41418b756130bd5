-- A tree may go to another thread.
use denote.Param.Send.{IsSend, sendable}
use denote.Model.Goals.{send, part_has, has_of}
use denote.Model.Local.{Parts, rows}
use denote.Model.Marks.{tied_send}
use Rattle.std.proofs.Crossing.{crosses}
use Rattle.keybytes.proofs.key_memory.KeyMemory.TheSendSync as memory
use Rattle.tree_nodes.proofs.leaf.Leaf.TheSendSync as leaf
use Rattle.tree_nodes.proofs.fan.Fan.TheSendSync as fan
use Rattle.btree.specs.contracts.node.Node as Node
use Rattle.btree.specs.contracts.node.Node.TheKnot as knot
use Rattle.btree.specs.contracts.spare.Spare as Spare
use Rattle.btree.specs.contracts.tree.Tree as Tree
use Rattle.btree.specs.declared.node.Node.TheDeep.{the_members, member-Node}

-- a node over nodes that may go to another thread
layer_send : (p : Parts knot.frame) → IsSend (rows knot.frame p member-Node) → IsSend (knot.view-Node p)
layer_send p s = search (fan.the_send, leaf.the_send, sendable) depth 20

step_send : (p : Parts knot.frame) → ((j : the_members) → IsSend (rows knot.frame p j)) → (i : the_members) → IsSend (rows knot.frame (knot.step p) i)
step_send p all member-Node = has_of knot.frame send (knot.step p) member-Node (part_has send (knot.view-Node p) (layer_send p (all member-Node)))

pub node_send : IsSend Node.the_row
node_send = tied_send knot.frame knot.step knot.sizes step_send member-Node

spare_send : IsSend (Spare.the_field).row
spare_send = search (node_send, fan.the_send, leaf.the_send, memory.the_send, sendable, crosses) depth 20

pub tree_send : IsSend Tree.the_row
tree_send = search (node_send, spare_send, sendable) depth 20
