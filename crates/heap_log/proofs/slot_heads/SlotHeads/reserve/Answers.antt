use Rattle.std.proofs.Common.{◌≡◌, ◌∙◌, ◌+◌, ◌-◌, ◌++◌, ℕ, List, length, map, take, replicate, ap, arith, vec_len}
use Rattle.heap_log.specs.declared.rid_head.RidHead.{RidHead}
use Rattle.heap_log.specs.declared.slot_heads.PackedHead.{PackedHead}
use Rattle.heap_log.specs.PageHeads.{no_head, unpacked}
use Rattle.heap_log.proofs.Paged.{made_padded}
use Rattle.heap_log.proofs.slot_heads.SlotHeads.reserve.Goals as goal

pub returns-in_ok-resize-clause-ok : goal.returns-in_ok-resize-clause-ok
returns-in_ok-resize-clause-ok c =
    let old = c.self.inside.kept in
    let count = c.args.slot + 1 in
    let none : PackedHead = record { last = 0; newest = 0 } in
    let len : vec_len old ≡ length old.items = omega (arith, old.ok) in
    ap (map unpacked) c.in_ok-resize.ensures.items
    ∙ ap (λ (n : ℕ). map unpacked (take count old.items ++ replicate (count - n) none)) len
    ∙ made_padded unpacked old.items count none (omega (arith, old.ok))
    ∙ ap (λ (heads : List RidHead). heads ++ replicate (count - length heads) no_head) c.self.view_is
