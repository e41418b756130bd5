use Rattle.std.proofs.Common.{rules, ◌≡◌, ◌∙◌, ℕ, length, refl, ap, subst, arith}
use Rattle.std.proofs.lemmas.List.{length-set}
use Rattle.side_file.specs.SideFileValue.{SideFileValue}
use Rattle.table_scan.proofs.Emptied.{AreForgotten, all_forgotten, more_forgotten}
use Rattle.page_workers.proofs.Places.{kept}
use Rattle.table_scan.proofs.side_files.reset_all.Goals as goal

pub loop-index-init : goal.loop-index-init
loop-index-init c = record { forgotten = λ k side less at. absurd (omega (arith, less)); ends = refl; room = refl; many = search rules }

pub loop-index-preserved : goal.loop-index-preserved
loop-index-preserved c = record {
  forgotten = more_forgotten c.loop-index.index c.loop-index.sides.items c.reset.new.self c.loop-index.invariant.forgotten
      (ap (λ (s : SideFileValue). s.left) c.reset.ensures.reset, ap (λ (s : SideFileValue). s.fed) c.reset.ensures.reset);
  ends = kept (λ (s : SideFileValue). s.end) c.loop-index.sides.items _ c.loop-index.index c.reset.new.self c.index_mut.result.now c.loop-index.invariant.ends
      (ap (λ (s : SideFileValue). s.end) c.reset.ensures.reset ∙ ap (λ (s : SideFileValue). s.end) c.index_mut.ensures.value);
  room = kept (λ (s : SideFileValue). s.room) c.loop-index.sides.items _ c.loop-index.index c.reset.new.self c.index_mut.result.now c.loop-index.invariant.room
      (ap (λ (s : SideFileValue). s.room) c.reset.ensures.reset ∙ ap (λ (s : SideFileValue). s.room) c.index_mut.ensures.value);
  many = length-set c.loop-index.sides.items c.loop-index.index c.reset.new.self ∙ c.loop-index.invariant.many;
}

pub returns-clause-left : goal.returns-clause-left
returns-clause-left c =
    let sides = c.loop-index.sides.items in
    let all : c.loop-index.index ≡ length sides = omega (arith, c.loop-index-test.false, c.loop-index.auto.index-end, c.loop-index.invariant.many) in
    all_forgotten sides (subst (λ (n : ℕ). AreForgotten n sides) all c.loop-index.invariant.forgotten)
