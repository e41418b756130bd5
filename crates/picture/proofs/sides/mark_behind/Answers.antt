use Rattle.std.proofs.Common.{sym, subst}
use Rattle.std.specs.List.{All}
use Rattle.std.proofs.lemmas.List.Elements.{All-head, All-tail}
use Rattle.chunk_list.specs.Left.{queue_items_left}
use Rattle.keybytes.specs.Keys.{IsKeyOf}
use Rattle.side_file.specs.declared.entry.Entry.{Entry}
use Rattle.picture.proofs.sides.mark_behind.Goals as goal

pub loop-entry-init : goal.loop-entry-init
loop-entry-init c =
    let same = c.into_iter-entry-iterator.ensures.into_iter_gives in
    (tt, tt, subst (λ it. All (λ (entry : Entry). IsKeyOf c.args.spec.now entry.key) (queue_items_left it)) (sym same) c.requires)

pub mark_of-requires : goal.mark_of-requires
mark_of-requires c =
    let keyed = subst (All (λ (entry : Entry). IsKeyOf c.args.spec.now entry.key)) c.in-Some.ensures.steps c.loop-entry.invariant.2 in
    All-head (λ (entry : Entry). IsKeyOf c.args.spec.now entry.key) c.in-Some.entry.now (queue_items_left c.next.new.self) keyed

pub loop-entry-preserved : goal.loop-entry-preserved
loop-entry-preserved c =
    let keyed = subst (All (λ (entry : Entry). IsKeyOf c.args.spec.now entry.key)) c.in-Some.ensures.steps c.loop-entry.invariant.2 in
    (tt, tt, All-tail (λ (entry : Entry). IsKeyOf c.args.spec.now entry.key) c.in-Some.entry.now (queue_items_left c.next.new.self) keyed)
