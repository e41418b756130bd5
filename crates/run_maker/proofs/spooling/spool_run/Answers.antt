use Rattle.std.proofs.Common.{rules, ◌≡◌, ◌∙◌, [], List, ap, sym, subst, inr}
use Rattle.std.specs.List.Sorted.{IsSorted}
use Rattle.std.proofs.lemmas.List.{nil_from_length}
use Rattle.keybytes.specs.Pairs.{pair_cmp}
use Rattle.keybytes.specs.declared.pair.Pair.{Pair}
use Rattle.run_spool.specs.Spools.{AreSorted, with_closed_run}
use Rattle.run_maker.proofs.FullSpools.{stops_at, stops_in_order, stops_within}
use Rattle.run_maker.proofs.Spoolings.{closed_sorted, moved_all, still_intact}
use Rattle.run_maker.proofs.spooling.spool_run.Goals as goal

pub returns-clause-sorted : goal.returns-clause-sorted
returns-clause-sorted g c = λ all.
    let run = g.S.Spool.open_run c.loop-pair.spool in
    let none : c.loop-pair.pairs.items ≡ [] = nil_from_length c.loop-pair.pairs.items (search (rules, c.in_default.ensures.cases)) in
    let sorted = c.put_in_order.new.pairs.items in
    let run_is : run ≡ sorted =
    moved_all run sorted c.reverse.new.self.items c.loop-pair.pairs.items none c.reverse.ensures.items c.loop-pair.invariant.moved in
    let closed = c.end_run.ensures.runs ∙ ap (λ (rs : List (List Pair)). with_closed_run rs run) c.loop-pair.invariant.runs in
    subst AreSorted (sym closed) (closed_sorted (g.S.Spool.runs c.args.spool.now) run (subst (IsSorted pair_cmp) (sym run_is) c.put_in_order.ensures.sorted)
    all)

pub returns-in-Err-clause-intact : goal.returns-in-Err-clause-intact
returns-in-Err-clause-intact g c =
    still_intact g.S.Spool.is_intact g.S.Spool.runs c.args.spool.now c.push.new.self (c.push.ensures.runs ∙ c.loop-pair.invariant.runs)
    (λ intact. c.push.ensures.intact (c.loop-pair.invariant.intact intact))

pub returns-clause-intact : goal.returns-clause-intact
returns-clause-intact g c = λ free.
    inr (c.end_run.ensures.intact (still_intact g.S.Spool.is_intact g.S.Spool.runs c.args.spool.now c.loop-pair.spool c.loop-pair.invariant.runs
    c.loop-pair.invariant.intact free))

pub returns-in-Err-clause-full : goal.returns-in-Err-clause-full
returns-in-Err-clause-full g c =
    let runs = g.S.Spool.runs in
    let open_run = g.S.Spool.open_run in
    record {
      pair = c.in-Some.pair;
      held = stops_at (runs c.args.spool.now) (runs c.push.new.self) c.args.pairs.now.items c.put_in_order.new.pairs.items c.reverse.new.self.items
          (open_run c.loop-pair.spool) (open_run c.push.new.self) c.loop-pair.pairs.items c.pop.new.self.items c.in-Some.pair
          (c.push.ensures.runs ∙ c.loop-pair.invariant.runs) c.in-Err.ensures.err c.put_in_order.ensures.permutation c.reverse.ensures.items
          c.loop-pair.invariant.moved c.in-Some.ensures.items;
      in_order = stops_in_order c.put_in_order.new.pairs.items c.reverse.new.self.items (open_run c.loop-pair.spool) (open_run c.push.new.self)
          c.loop-pair.pairs.items c.pop.new.self.items c.in-Some.pair c.in-Err.ensures.err c.put_in_order.ensures.sorted c.reverse.ensures.items
          c.loop-pair.invariant.moved c.in-Some.ensures.items;
      few = stops_within c.args.pairs.now.items c.put_in_order.new.pairs.items c.reverse.new.self.items (open_run c.loop-pair.spool)
          (open_run c.push.new.self) c.loop-pair.pairs.items c.pop.new.self.items c.in-Some.pair 4096 c.in-Err.ensures.err c.put_in_order.ensures.permutation
          c.reverse.ensures.items c.loop-pair.invariant.moved c.in-Some.ensures.items c.requires.few;
      full = c.in-Err.ensures.still;
    }
