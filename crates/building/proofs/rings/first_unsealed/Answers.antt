use Rattle.std.proofs.Common.{◌∙◌, refl, arith}
use Rattle.side_file.specs.Ends.{PutEnd}
use Rattle.page_workers.specs.declared.copied.Copied.{Copied}
use Rattle.building.specs.Rings.{all_sent, unseen}
use Rattle.building.proofs.Looks.{at_looked, looked_again, first_looked, same_rings, same_sent, sealed_more}
use Rattle.table_scan.proofs.LookedEnds.{all_unlooked}
use Rattle.page_workers.proofs.Places.{as_long, below}
use Rattle.building.proofs.rings.first_unsealed.Goals as goal

pub loop-worker-init : goal.loop-worker-init
loop-worker-init g c = record {
  looked = record { puts = all_unlooked c.args.pages.now.items; same = refl };
  sealed = λ k sent worker less there at. absurd (omega (arith, less));
}

pub is_unsealed-requires-clause-rings : goal.is_unsealed-requires-clause-rings
is_unsealed-requires-clause-rings g c = same_rings c.args.pages.now.items c.loop-worker.pages.items c.loop-worker.invariant.looked.puts ∙ c.requires.rings

pub is_unsealed-requires-clause-there : goal.is_unsealed-requires-clause-there
is_unsealed-requires-clause-there g c =
    let long = as_long unseen unseen c.loop-worker.workers.items c.args.workers.now.items c.loop-worker.invariant.looked.same in
    omega (arith, long)

pub is_unsealed-requires-clause-few : goal.is_unsealed-requires-clause-few
is_unsealed-requires-clause-few g c =
    let long = as_long unseen unseen c.loop-worker.workers.items c.args.workers.now.items c.loop-worker.invariant.looked.same in
    let many = as_long (λ (end : PutEnd Copied). end.ring) (λ (end : PutEnd Copied). end.ring) c.loop-worker.pages.items c.args.pages.now.items
    (same_rings c.args.pages.now.items c.loop-worker.pages.items c.loop-worker.invariant.looked.puts) in
    let few = c.requires.few in
    omega (arith, long, many, few)

pub is_unsealed-requires-clause-at : goal.is_unsealed-requires-clause-at
is_unsealed-requires-clause-at g c = at_looked g.T.TableRings.pages c.args.workers.now.items c.loop-worker.workers.items c.loop-worker.invariant.looked.same c.requires.at

pub returns-then-is_unsealed-clause-looked : goal.returns-then-is_unsealed-clause-looked
returns-then-is_unsealed-clause-looked g c =
    looked_again c.args.pages.now.items c.args.workers.now.items c.loop-worker.pages.items c.loop-worker.workers.items c.is_unsealed.new.pages.items c.is_unsealed.new.workers.items
    c.loop-worker.invariant.looked c.is_unsealed.ensures.looked

pub returns-then-is_unsealed-clause-unsealed : goal.returns-then-is_unsealed-clause-unsealed
returns-then-is_unsealed-clause-unsealed g c =
    let looked = c.is_unsealed.ensures.looked in
    let long = as_long unseen unseen c.loop-worker.workers.items c.args.workers.now.items c.loop-worker.invariant.looked.same in
    let longer = as_long unseen unseen c.is_unsealed.new.workers.items c.loop-worker.workers.items looked.same in (
      omega (arith, long, longer),
      first_looked (all_sent c.loop-worker.pages.items) c.loop-worker.workers.items (all_sent c.is_unsealed.new.pages.items) c.is_unsealed.new.workers.items
          (same_sent c.loop-worker.pages.items c.is_unsealed.new.pages.items looked.puts) looked.same c.loop-worker.worker c.loop-worker.invariant.sealed,
      c.is_unsealed.ensures.unsealed c.if-is_unsealed.true,
    )

pub loop-worker-preserved : goal.loop-worker-preserved
loop-worker-preserved g c = record {
  looked = looked_again c.args.pages.now.items c.args.workers.now.items c.loop-worker.pages.items c.loop-worker.workers.items c.is_unsealed.new.pages.items c.is_unsealed.new.workers.items
      c.loop-worker.invariant.looked c.is_unsealed.ensures.looked;
  sealed = sealed_more c.loop-worker.worker (all_sent c.is_unsealed.new.pages.items) c.is_unsealed.new.workers.items
      (first_looked (all_sent c.loop-worker.pages.items) c.loop-worker.workers.items (all_sent c.is_unsealed.new.pages.items) c.is_unsealed.new.workers.items
      (same_sent c.loop-worker.pages.items c.is_unsealed.new.pages.items c.is_unsealed.ensures.looked.puts) c.is_unsealed.ensures.looked.same
      c.loop-worker.worker c.loop-worker.invariant.sealed)
      (c.is_unsealed.ensures.sealed c.if-is_unsealed.false);
}

pub returns-clause-unsealed : goal.returns-clause-unsealed
returns-clause-unsealed g c =
    let long = as_long unseen unseen c.loop-worker.workers.items c.args.workers.now.items c.loop-worker.invariant.looked.same in
    λ k sent worker there at.
    let less = below c.loop-worker.workers.items k worker at in
    c.loop-worker.invariant.sealed k sent worker (omega (arith, less, long, c.loop-worker-test.false)) there at
