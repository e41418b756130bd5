use Rattle.std.proofs.Common.{rules, ◌≡◌, ℕ, ◌<◌, ◌+◌, List, length, map, set, get_or, refl, sym, ap, ◌∙◌, subst, arith}
use Rattle.std.specs.List.{AllZip}
use Rattle.std.proofs.lemmas.List.{get_or-map, length-set, map-set}
use Rattle.side_file.specs.SideFileValue.{SideFileValue}
use Rattle.side_file.specs.declared.entry.Entry.{Entry}
use Rattle.side_file.specs.Ends.{PutEnd, PutEndLooked, TakeEnd}
use Rattle.page_workers.proofs.Places.{kept}
use Rattle.table_scan.specs.SideFiles.{taken_rings, put_ends}
use Rattle.table_scan.proofs.Emptied.{IsEmptied, AreEmptied, more_emptied, all_emptied, all_drained}
use Rattle.table_scan.proofs.LookedEnds.{all_unlooked, one_looked}
use Rattle.table_scan.proofs.SideEnds.{as_many, paired, rings_stay, taken_stay}
use Rattle.table_scan.proofs.side_files.empty_all.Goals as goal

pub loop-index-init : goal.loop-index-init
loop-index-init c = record {
  emptied = λ k side end less at there. absurd (omega (arith, less));
  room = refl;
  rings = refl;
  looked = all_unlooked (put_ends c.args.sides.now.items);
  other_rings = c.requires;
  many = search rules;
}

pub empty_side-requires : goal.empty_side-requires
empty_side-requires c =
    let sides = c.loop-index.sides.items in
    let ends = c.loop-index.ends.items in
    let many = as_many sides ends c.loop-index.invariant.other_rings in
    let less : c.loop-index.index < length sides = omega (arith, c.loop-index-test.true, c.loop-index.invariant.many) in
    paired (taken_rings ends) sides ends c.loop-index.index c.index_mut.result.now c.index_mut-in-loop-index.result.now
    c.loop-index.invariant.other_rings refl less (omega (arith, less, many)) c.index_mut.ensures.value c.index_mut-in-loop-index.ensures.value

pub loop-index-preserved : goal.loop-index-preserved
loop-index-preserved c =
    let sides = c.loop-index.sides.items in
    let ends = c.loop-index.ends.items in
    let index : ℕ = c.loop-index.index in
    let old : SideFileValue = c.index_mut.result.now in
    let side : SideFileValue = c.empty_side.new.side in
    let end = c.empty_side.new.end in
    let many = as_many sides ends c.loop-index.invariant.other_rings in
    let less : index < length sides = omega (arith, c.loop-index-test.true, c.loop-index.invariant.many) in
    let same = paired (taken_rings ends) sides ends index old c.index_mut-in-loop-index.result.now c.loop-index.invariant.other_rings refl less
    (omega (arith, less, many)) c.index_mut.ensures.value c.index_mut-in-loop-index.ensures.value in
    let emptied : IsEmptied side end = record { left = c.empty_side.ensures.left; fed = c.empty_side.ensures.fed; drained = c.empty_side.ensures.drained } in
    let drained : end ≡ _ = c.empty_side.ensures.drained in
    let ring_end = ap (λ (e : TakeEnd Entry). e.ring) drained ∙ c.empty_side.ensures.ring ∙ same in
    let at : old.end ≡ get_or (put_ends sides) index old.end =
    ap (λ (s : SideFileValue). s.end) c.index_mut.ensures.value ∙ sym (get_or-map (λ (s : SideFileValue). s.end) sides index old old.end less) in
    let stay = rings_stay sides _ index old side c.loop-index.invariant.other_rings c.index_mut.ensures.value c.empty_side.ensures.ring in
    record {
      emptied = more_emptied index sides ends side end c.loop-index.invariant.emptied emptied;
      room = kept (λ (s : SideFileValue). s.room) sides _ index side old c.loop-index.invariant.room
          (c.empty_side.ensures.room ∙ ap (λ (s : SideFileValue). s.room) c.index_mut.ensures.value);
      rings = rings_stay sides _ index old side c.loop-index.invariant.rings c.index_mut.ensures.value c.empty_side.ensures.ring;
      looked =
          subst (λ (es : List (PutEnd Entry)). AllZip PutEndLooked (put_ends c.args.sides.now.items) es) (sym (map-set (λ (s : SideFileValue). s.end) sides index side))
          (one_looked (put_ends c.args.sides.now.items) (put_ends sides) index old.end side.end c.loop-index.invariant.looked at c.empty_side.ensures.looked);
      other_rings = stay ∙ sym (taken_stay ends _ index c.index_mut-in-loop-index.result.now end refl c.index_mut-in-loop-index.ensures.value ring_end);
      many = length-set sides index side ∙ c.loop-index.invariant.many;
    }

pub returns-clause-left : goal.returns-clause-left
returns-clause-left c =
    let sides = c.loop-index.sides.items in
    let ends = c.loop-index.ends.items in
    let many = as_many sides ends c.loop-index.invariant.other_rings in
    let all : c.loop-index.index ≡ length sides = omega (arith, c.loop-index-test.false, c.loop-index.auto.index-end, c.loop-index.invariant.many) in
    all_emptied sides ends many (subst (λ (n : ℕ). AreEmptied n sides ends) all c.loop-index.invariant.emptied)

pub returns-clause-drained : goal.returns-clause-drained
returns-clause-drained c =
    let sides = c.loop-index.sides.items in
    let ends = c.loop-index.ends.items in
    let many = as_many sides ends c.loop-index.invariant.other_rings in
    let all : c.loop-index.index ≡ length sides = omega (arith, c.loop-index-test.false, c.loop-index.auto.index-end, c.loop-index.invariant.many) in
    all_drained sides ends many (subst (λ (n : ℕ). AreEmptied n sides ends) all c.loop-index.invariant.emptied)
