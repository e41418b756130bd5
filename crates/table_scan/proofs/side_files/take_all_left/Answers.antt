use Rattle.std.proofs.Common.{rules, ◌≡◌, ◌∙◌, ◌<◌, ℕ, length, vec_len, vec_capacity, refl, ap, subst, arith}
use Rattle.std.proofs.lemmas.List.{length-set}
use Rattle.side_file.specs.SideFileValue.{SideFileValue}
use Rattle.table_scan.proofs.Emptied.{AreTaken, all_taken, more_taken}
use Rattle.page_workers.proofs.Places.{kept}
use Rattle.table_scan.proofs.side_files.take_all_left.Goals as goal

pub loop-index-init : goal.loop-index-init
loop-index-init c = record {
  taken = λ fits k side less at. absurd (omega (arith, less));
  ends = refl;
  many = search rules;
  count = omega arith;
  room = refl;
}

pub loop-index-preserved : goal.loop-index-preserved
loop-index-preserved c =
    let before = c.loop-index.invariant in
    record {
      taken = λ fits.
          let less : vec_len c.loop-index.waste < vec_capacity c.loop-index.waste = omega (arith, fits, before.count, before.room, before.many, c.loop-index-test.true, c.loop-index.auto.index-end) in
          more_taken c.loop-index.index c.loop-index.sides.items c.take_left.new.side (before.taken fits) (c.take_left.ensures.left less);
      ends = kept (λ (s : SideFileValue). s.end) c.loop-index.sides.items _ c.loop-index.index c.take_left.new.side c.index_mut.result.now before.ends
          (c.take_left.ensures.end ∙ ap (λ (s : SideFileValue). s.end) c.index_mut.ensures.value);
      many = length-set c.loop-index.sides.items c.loop-index.index c.take_left.new.side ∙ before.many;
      count = omega (arith, before.count, c.take_left.ensures.count);
      room = c.take_left.ensures.room ∙ before.room;
    }

pub returns-clause-left : goal.returns-clause-left
returns-clause-left c = λ fits.
    let sides = c.loop-index.sides.items in
    let all : c.loop-index.index ≡ length sides = omega (arith, c.loop-index-test.false, c.loop-index.auto.index-end, c.loop-index.invariant.many) in
    all_taken sides (subst (λ (n : ℕ). AreTaken n sides) all (c.loop-index.invariant.taken fits))
