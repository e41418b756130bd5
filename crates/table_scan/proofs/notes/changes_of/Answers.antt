use Rattle.std.proofs.Common.{length, ap, sym, subst, arith, length-append, ◌∷◌, []}
use Rattle.table_scan.specs.Noting.{AreChangesOf, IsChangeOf}
use Rattle.table_scan.proofs.Noting.{more_changes, no_changes}
use Rattle.table_scan.proofs.notes.changes_of.Goals as goal

pub loop-index-init : goal.loop-index-init
loop-index-init c = record {
  many = ap length c.in_ok-changes.ensures.items;
  are = subst (AreChangesOf c.args.build.now c.args.ready.now) (sym c.in_ok-changes.ensures.items) (no_changes c.args.build.now c.args.ready.now);
  room = omega (arith, c.in_ok-changes.ensures.capacity);
}

pub loop-index-preserved : goal.loop-index-preserved
loop-index-preserved c =
    let old = c.loop-index.changes.items in
    let change = c.in_ok-change_of.field-0 in
    let pushed = c.push_reserved.ensures.items in
    let more = length-append old (change ∷ []) in
    record {
      many = omega (arith, ap length pushed, more, c.loop-index.invariant.many);
      are = subst (AreChangesOf c.args.build.now c.args.ready.now) (sym pushed)
          (more_changes c.args.build.now c.args.ready.now old change c.loop-index.invariant.are
          (subst (λ i. IsChangeOf c.args.build.now i c.args.ready.now change) (sym c.loop-index.invariant.many) c.in_ok-change_of.ensures.ok));
      room = omega (arith, c.push_reserved.ensures.capacity, c.loop-index.invariant.room);
    }
