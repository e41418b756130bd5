use Rattle.std.proofs.Common.{◌∙◌, ap, map, set, List}
use Rattle.std.proofs.lemmas.List.{map-set}
use Rattle.heap_log.specs.declared.rid_head.RidHead.{RidHead}
use Rattle.heap_log.specs.PageHeads.{unpacked}
use Rattle.heap_log.proofs.slot_heads.SlotHeads.set.Goals as goal

pub returns : goal.returns
returns c =
    let kept = c.self.inside.kept.items in
    map-set unpacked kept c.args.slot c.packed.result ∙ ap (λ (head : RidHead). set (map unpacked kept) c.args.slot head) c.packed.ensures
    ∙ ap (λ (heads : List RidHead). set heads c.args.slot c.args.head) c.self.view_is
