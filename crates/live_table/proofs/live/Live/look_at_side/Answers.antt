use Rattle.std.proofs.Common.{◌<◌, ◌≤◌, ◌∙◌, length, List, set, refl, sym, ap, subst, arith, Option}
use Rattle.std.specs.Prelude.{IfSome}
use Rattle.std.specs.List.{All, slice_get}
use Rattle.side_file.specs.Ends.{PutEnd, RingId}
use Rattle.side_file.specs.SideFileValue.{SideFileValue}
use Rattle.side_file.specs.declared.entry.Entry.{Entry}
use Rattle.table_scan.specs.SideFiles.{AreFedEntries, put_ends}
use Rattle.table_scan.proofs.Feeding.{fed_if_running}
use Rattle.table_scan.proofs.OwnEntries.{sent_at, sent_set}
use Rattle.page_workers.proofs.Places.{at_index, here_set, map_at}
use Rattle.table_scan.proofs.SideEnds.{sides_looked}
use Rattle.live_lemmas.proofs.SideEnds.{put_ends_stay, eight_sides, side_is_looked, sees_side}
use Rattle.live_table.proofs.live.Live.look_at_side.Goals as goal

pub look_at_side-requires-clause-ring : goal.look_at_side-requires-clause-ring
look_at_side-requires-clause-ring g c =
    let sides : List SideFileValue = c.self.inside.sides.items in
    let side : SideFileValue = c.index_mut.result.now in
    let many = eight_sides _ _ _ sides c.self.invariant.5 in
    let there = at_index sides c.args.index side c.index_mut.ensures.value (omega (arith, many, c.requires)) in
    ap (λ (rings : List RingId). slice_get rings c.args.index) (sym c.self.invariant.5.sides_are)
    ∙ map_at (λ (e : PutEnd Entry). e.ring) (put_ends sides) c.args.index side.end (map_at (λ (s : SideFileValue). s.end) sides c.args.index side there)

pub invariant_of-self : goal.invariant_of-self
invariant_of-self g c =
    let looks = c.look_at_side.ensures.looks in
    let sides = c.self.inside.sides.items in
    let many = eight_sides _ _ _ sides c.self.invariant.5 in
    let there = at_index sides c.args.index c.index_mut.result.now c.index_mut.ensures.value (omega (arith, many, c.requires)) in (
      c.self.invariant.0,
      c.self.invariant.1,
      sides_looked c.self.inside.heap.state.log c.self.inside.build sides c.args.index c.index_mut.result.now c.look_at_side.new.side there looks.fed looks.left looks.sent
          c.self.invariant.2,
      c.self.invariant.3,
      c.self.invariant.4,
      put_ends_stay _ _ _ sides c.args.index c.index_mut.result.now c.look_at_side.new.side c.self.invariant.5 c.index_mut.ensures.value looks.ring,
      sent_set c.self.inside.builds sides c.args.index c.look_at_side.new.side c.self.invariant.6
          (subst (All (λ (entry : Entry). entry.build ≤ c.self.inside.builds)) (sym looks.sent)
          (sent_at c.self.inside.builds sides c.args.index c.index_mut.result.now c.self.invariant.6 there)),
    )

pub returns-clause-looked : goal.returns-clause-looked
returns-clause-looked g c =
    let sides = c.self.inside.sides.items in
    let many = eight_sides _ _ _ sides c.self.invariant.5 in
    side_is_looked c.args.index c.look_at_side.result c.args.self.now _ c.args.building.now c.look_at_side.new.self sides c.index_mut.result.now c.look_at_side.new.side
    c.self.view_is refl c.index_mut.ensures.value (omega (arith, many, c.requires)) c.look_at_side.ensures.sees

pub returns-clause-sees : goal.returns-clause-sees
returns-clause-sees g c =
    let sides = c.self.inside.sides.items in
    let many = eight_sides _ _ _ sides c.self.invariant.5 in
    sees_side c.args.index c.look_at_side.result c.args.self.now _ c.args.building.now c.look_at_side.new.self sides c.index_mut.result.now c.look_at_side.new.side
    c.self.view_is refl c.index_mut.ensures.value (omega (arith, many, c.requires)) c.look_at_side.ensures.sees

pub returns-clause-fed : goal.returns-clause-fed
returns-clause-fed g c =
    let sides = c.self.inside.sides.items in
    let log = c.self.inside.heap.state.log in
    let build = c.self.inside.build in
    let looks = c.look_at_side.ensures.looks in
    let new = c.look_at_side.new.side in
    let many = eight_sides _ _ _ sides c.self.invariant.5 in
    let less : c.args.index < length sides = omega (arith, many, c.requires) in
    let there = at_index sides c.args.index c.index_mut.result.now c.index_mut.ensures.value less in
    let now = sides_looked log build sides c.args.index c.index_mut.result.now new there looks.fed looks.left looks.sent c.self.invariant.2 in
    let put = map_at (λ (s : SideFileValue). s.end) (set sides c.args.index new) c.args.index new (here_set sides c.args.index new less) in
    subst (λ (o : Option (PutEnd Entry)). IfSome build (λ b. IfSome (slice_get b.specs c.args.index) (λ spec. IfSome o (AreFedEntries log b c.args.index spec)))) (sym put)
    (fed_if_running log build c.args.index (set sides c.args.index new) new now (here_set sides c.args.index new less))
