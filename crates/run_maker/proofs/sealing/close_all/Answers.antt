use Rattle.std.proofs.Common.{◌≡◌, ◌<◌, ◌∙◌, ◌++◌, [], ℕ, List, length, get_or, map, sym, ap₂, subst, arith}
use Rattle.std.proofs.Math.Seq.{map-set_same}
use Rattle.std.proofs.lemmas.List.{get_or_default, length-map, length-set, map-set}
use Rattle.std.proofs.lemmas.List.Elements.{All-set}
use Rattle.std.proofs.lemmas.Result.{err_from_is_err_and}
use Rattle.keybytes.specs.declared.pair.Pair.{Pair}
use Rattle.run_spool.specs.Spools.{AreSorted, NoneFreed, all_pairs}
use Rattle.run_maker.specs.Spooling.{Spooled}
use Rattle.run_maker.specs.Making.{AreHeld}
use Rattle.run_maker.proofs.EachIndex.{read_at, holds_at, holds_after, ready_after, reached_more}
use Rattle.run_maker.specs.FullSpools.{WantsRun}
use Rattle.run_maker.proofs.FullSpools.{full_after, wants_begun}
use Rattle.run_maker.proofs.sealing.close_all.Goals as goal

pub close-requires-clause-open_run : goal.close-requires-clause-open_run
close-requires-clause-open_run g c =
    let inside : c.loop-i.i < length c.loop-i.spools =
    omega (arith, c.loop-i-test.true, c.loop-i.invariant.long_spools, c.loop-i.invariant.long_begun, c.requires.spools) in
    holds_at (λ (run : List Pair). run ≡ []) g.S.Spool.open_run c.loop-i.spools c.loop-i.i c.index-spools-i.result inside c.loop-i.invariant.ready.open_none

pub returns-in_err-close-clause-sorted : goal.returns-in_err-close-clause-sorted
returns-in_err-close-clause-sorted g c = λ all.
    let inside : c.loop-i.i < length c.loop-i.spools =
    omega (arith, c.loop-i-test.true, c.loop-i.invariant.long_spools, c.loop-i.invariant.long_begun, c.requires.spools) in
    let was = c.loop-i.invariant.sorted all in
    holds_after AreSorted g.S.Spool.runs c.loop-i.spools c.loop-i.i c.close.new.spool
    (c.close.ensures.sorted (holds_at AreSorted g.S.Spool.runs c.loop-i.spools c.loop-i.i c.index-spools-i.result inside was)) was

pub returns-in_err-close-clause-intact : goal.returns-in_err-close-clause-intact
returns-in_err-close-clause-intact g c = λ all.
    let inside : c.loop-i.i < length c.loop-i.spools =
    omega (arith, c.loop-i-test.true, c.loop-i.invariant.long_spools, c.loop-i.invariant.long_begun, c.requires.spools) in
    let was = c.loop-i.invariant.intact all in
    All-set (NoneFreed g.S.Spool.is_intact g.S.Spool.runs) c.loop-i.spools c.loop-i.i c.close.new.spool
    (c.close.ensures.intact (was c.loop-i.i c.index-spools-i.result inside)) was

pub returns-in_err-close-clause-stakes : goal.returns-in_err-close-clause-stakes
returns-in_err-close-clause-stakes g c =
    map-set_same g.S.Spool.stake c.loop-i.spools c.loop-i.i c.close.new.spool c.index-spools-i.result c.close.ensures.stake ∙ c.loop-i.invariant.stakes

pub returns-in_err-close-clause-full : goal.returns-in_err-close-clause-full
returns-in_err-close-clause-full g c =
    let inside : c.loop-i.i < length c.loop-i.spools =
    omega (arith, c.loop-i-test.true, c.loop-i.invariant.long_spools, c.loop-i.invariant.long_begun, c.requires.spools) in
    let p = err_from_is_err_and c.from_residual.result c.from_residual.ensures.1 in
    let runs = g.S.Spool.runs in
    let i = c.loop-i.i in
    let d = c.index-spools-i.result in
    let b = c.index-begun-i.result in
    let begun-at : get_or c.loop-i.begun i b ≡ get_or c.args.begun.now i [] =
    get_or_default c.loop-i.begun i b [] (omega (arith, c.loop-i-test.true, c.loop-i.invariant.long_begun)) ∙ c.loop-i.invariant.reached.same_begun i (omega arith) in
    let runs-at : runs (get_or c.loop-i.spools i d) ≡ get_or (map runs c.args.spools.now) i [] =
    sym (read_at runs c.loop-i.spools i d [] inside) ∙ c.loop-i.invariant.reached.same_runs i (omega arith) in
    let wants : WantsRun 1 (get_or (map runs c.args.spools.now) i []) (all_pairs (runs (get_or c.loop-i.spools i d)) ++ get_or c.loop-i.begun i b) (runs c.close.new.spool) =
    subst (λ (rs : List (List Pair)). WantsRun 1 rs (all_pairs (runs (get_or c.loop-i.spools i d)) ++ get_or c.loop-i.begun i b) (runs c.close.new.spool)) runs-at
    (wants_begun 1 (runs (get_or c.loop-i.spools i d)) (runs c.close.new.spool) (get_or c.loop-i.begun i b) c.in_err-close.ensures.runs c.in_err-close.ensures.some) in
    rw p.1 (full_after g.S.Spool.is_full runs g.S.Spool.open_run 1 (map runs c.args.spools.now) (AreHeld (record { runs = map runs c.args.spools.now; begun = c.args.begun.now }))
    (all_pairs (runs (get_or c.loop-i.spools i d)) ++ get_or c.loop-i.begun i b) c.loop-i.spools i c.close.new.spool inside
    (ap₂ (λ (rs : List (List Pair)) (ps : List Pair). all_pairs rs ++ ps) runs-at begun-at) c.in_err-close.ensures.full wants)

pub loop-i-preserved : goal.loop-i-preserved
loop-i-preserved g c =
    let i = c.loop-i.i in
    let spools = c.loop-i.spools in
    let begun = c.loop-i.begun in
    let was = c.loop-i.invariant in
    let d = c.index-spools-i.result in
    let b = c.index-begun-i.result in
    let in-spools : i < length spools = omega (arith, c.loop-i-test.true, was.long_spools, was.long_begun, c.requires.spools) in
    let in-begun : i < length begun = omega (arith, c.loop-i-test.true, was.long_begun) in
    let begun-at : get_or begun i b ≡ get_or begun i [] = get_or_default begun i b [] in-begun in
    let runs-at : get_or (map g.S.Spool.runs spools) i [] ≡ g.S.Spool.runs (get_or spools i d) = read_at g.S.Spool.runs spools i d [] in-spools in
    let Made : ℕ → List (List Pair) → List Pair → List (List Pair) → List Pair → Type 0 = λ j runs begun new left. Spooled begun runs new × (left ≡ []) in
    let spooled : Spooled (get_or begun i b) (g.S.Spool.runs (get_or spools i d)) (g.S.Spool.runs c.close.new.spool) = c.in_ok-close.ensures.spooled in
    let here : Spooled (get_or begun i []) (get_or (map g.S.Spool.runs spools) i []) (g.S.Spool.runs c.close.new.spool) =
    subst (λ (r : List (List Pair)). Spooled (get_or begun i []) r (g.S.Spool.runs c.close.new.spool)) (sym runs-at)
    (subst (λ (ps : List Pair). Spooled ps (g.S.Spool.runs (get_or spools i d)) (g.S.Spool.runs c.close.new.spool)) begun-at spooled) in
    record {
      reached = rw (map-set g.S.Spool.runs spools i c.close.new.spool)
          (reached_more Made i (record { runs = map g.S.Spool.runs c.args.spools.now; begun = c.args.begun.now }) (map g.S.Spool.runs spools) begun
          was.reached (omega (arith, in-spools, length-map spools g.S.Spool.runs)) in-begun (g.S.Spool.runs c.close.new.spool) c.close.new.self
          (here, c.in_ok-close.ensures.left));
      ready = ready_after g.S.Spool.runs g.S.Spool.open_run spools i c.close.new.spool c.in_ok-close.ensures.none_empty c.in_ok-close.ensures.open_run
          was.ready;
      sorted = λ all.
          holds_after AreSorted g.S.Spool.runs spools i c.close.new.spool
          (c.close.ensures.sorted (holds_at AreSorted g.S.Spool.runs spools i d in-spools (was.sorted all))) (was.sorted all);
      intact = λ all.
          All-set (NoneFreed g.S.Spool.is_intact g.S.Spool.runs) spools i c.close.new.spool (c.close.ensures.intact (was.intact all i d in-spools))
          (was.intact all);
      stakes = map-set_same g.S.Spool.stake spools i c.close.new.spool d c.close.ensures.stake ∙ was.stakes;
      long_spools = length-set spools i c.close.new.spool ∙ was.long_spools;
      long_begun = length-set begun i c.close.new.self ∙ was.long_begun;
    }

pub returns-clause-none_open : goal.returns-clause-none_open
returns-clause-none_open g c = λ k d lt.
    get_or_default c.loop-i.begun k d [] lt ∙ (c.loop-i.invariant.reached.done k
    (omega (arith, lt, c.loop-i-test.false, c.loop-i.auto.i-end, c.loop-i.invariant.long_begun))).1
