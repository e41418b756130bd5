use Rattle.std.proofs.Common.{◌∙◌, ◌∷◌, [], ◌++◌, append_assoc, refl, sym, ap, subst, List}
use Rattle.std.specs.List.{All, AllZip}
use Rattle.std.proofs.lemmas.List.Elements.{All-head, All-tail}
use Rattle.chunk_list.specs.Left.{queue_items_left}
use Rattle.keybytes.specs.Keys.{IsKeyOf}
use Rattle.side_file.specs.declared.entry.Entry.{Entry}
use Rattle.script.proofs.Zips.{zip_push}
use Rattle.replay.specs.Listings.{ListsEntry}
use Rattle.replay.specs.declared.entry_line.EntryLine.{EntryLine}
use Rattle.replay.proofs.listing.entry_lines.Goals as goal

pub loop-entry-init : goal.loop-entry-init
loop-entry-init c =
    let same = c.into_iter-entry-iterator.ensures.into_iter_gives in (
      tt,
      tt,
      subst (λ it. All (λ (entry : Entry). IsKeyOf c.args.spec.now entry.key) (queue_items_left it)) (sym same) c.requires,
      ([], ap queue_items_left (sym same), subst (AllZip (ListsEntry c.args.spec.now) []) (sym c.new-lines.ensures.items) tt),
    )

pub cells-requires : goal.cells-requires
cells-requires c =
    let keyed = subst (All (λ (entry : Entry). IsKeyOf c.args.spec.now entry.key)) c.in-Some.ensures.steps c.loop-entry.invariant.2 in
    All-head (λ (entry : Entry). IsKeyOf c.args.spec.now entry.key) c.in-Some.entry.now (queue_items_left c.next.new.self) keyed

pub loop-entry-preserved : goal.loop-entry-preserved
loop-entry-preserved c =
    let entry : Entry = c.in-Some.entry.now in
    let rest : List Entry = queue_items_left c.next.new.self in
    let keyed = subst (All (λ (entry : Entry). IsKeyOf c.args.spec.now entry.key)) c.in-Some.ensures.steps c.loop-entry.invariant.2 in
    let before = c.loop-entry.invariant.3 in
    let line : EntryLine = record { op = entry.op; cells = c.in_ok-cells.cells; rid = entry.rid } in (
      tt,
      tt,
      All-tail (λ (entry : Entry). IsKeyOf c.args.spec.now entry.key) entry rest keyed,
      (
        before.0 ++ entry ∷ [],
        before.1 ∙ ap (λ xs. before.0 ++ xs) c.in-Some.ensures.steps ∙ sym (append_assoc before.0 (entry ∷ []) rest),
        subst (AllZip (ListsEntry c.args.spec.now) (before.0 ++ entry ∷ [])) (sym c.in_ok-push.ensures.items)
            (zip_push (ListsEntry c.args.spec.now) before.0 c.loop-entry.lines.items entry line before.2 (record { op = refl; key = c.in_ok-cells.ensures.columns; rid = refl })),
      ),
    )
