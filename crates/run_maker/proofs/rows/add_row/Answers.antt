use Rattle.std.proofs.Common.{◌≡◌, ◌<◌, ◌∙◌, ◌++◌, [], refl, ℕ, List, length, get_or, map, set, false, sym, ap, ap₂, subst, arith, Some, None}
use Rattle.std.specs.Option.{option_to_list}
use Rattle.std.proofs.Math.Seq.{map-set_same}
use Rattle.std.proofs.lemmas.List.{get_or_read, get_or_default, length-map, length-set, map-set, set-get_or}
use Rattle.std.proofs.lemmas.List.Elements.{All-set}
use Rattle.std.proofs.lemmas.Result.{err_from_is_err_and}
use Rattle.keybytes.specs.Keys.{KeySpecValue}
use Rattle.keybytes.specs.Pairs.{pair_with}
use Rattle.keybytes.specs.declared.pair.Pair.{Pair}
use Rattle.run_spool.specs.Spools.{AreSorted, NoneEmpty, NoneFreed, all_pairs}
use Rattle.run_maker.specs.Spooling.{Adds}
use Rattle.run_maker.specs.Making.{AreHeldWithRow, Holdings, spec_at}
use Rattle.run_maker.proofs.EachIndex.{read_at, holds_at, holds_after, ready_after, reached_none, reached_more}
use Rattle.run_maker.specs.FullSpools.{WantsRun}
use Rattle.run_maker.proofs.FullSpools.{full_after, wants_run}
use Rattle.run_maker.proofs.Parts.{reached_first}
use Rattle.run_maker.proofs.rows.add_row.Goals as goal

pub add_key-requires-clause-none_empty : goal.add_key-requires-clause-none_empty
add_key-requires-clause-none_empty g c =
    let inside : c.loop-i.i < length c.loop-i.spools = omega (arith, c.loop-i-test.true, c.loop-i.invariant.long_spools, c.requires.spools) in
    holds_at NoneEmpty g.S.Spool.runs c.loop-i.spools c.loop-i.i c.index-spools-i.result inside c.loop-i.invariant.ready.none_empty

pub add_key-requires-clause-open_run : goal.add_key-requires-clause-open_run
add_key-requires-clause-open_run g c =
    let inside : c.loop-i.i < length c.loop-i.spools = omega (arith, c.loop-i-test.true, c.loop-i.invariant.long_spools, c.requires.spools) in
    holds_at (λ (run : List Pair). run ≡ []) g.S.Spool.open_run c.loop-i.spools c.loop-i.i c.index-spools-i.result inside c.loop-i.invariant.ready.open_none

pub returns-in_err-add_key-clause-sorted : goal.returns-in_err-add_key-clause-sorted
returns-in_err-add_key-clause-sorted g c = λ all.
    let inside : c.loop-i.i < length c.loop-i.spools = omega (arith, c.loop-i-test.true, c.loop-i.invariant.long_spools, c.requires.spools) in
    let was = c.loop-i.invariant.sorted all in
    holds_after AreSorted g.S.Spool.runs c.loop-i.spools c.loop-i.i c.add_key.new.spool
    (c.add_key.ensures.sorted (holds_at AreSorted g.S.Spool.runs c.loop-i.spools c.loop-i.i c.index-spools-i.result inside was)) was

pub returns-in_err-add_key-clause-intact : goal.returns-in_err-add_key-clause-intact
returns-in_err-add_key-clause-intact g c = λ all.
    let inside : c.loop-i.i < length c.loop-i.spools = omega (arith, c.loop-i-test.true, c.loop-i.invariant.long_spools, c.requires.spools) in
    let was = c.loop-i.invariant.intact all in
    All-set (NoneFreed g.S.Spool.is_intact g.S.Spool.runs) c.loop-i.spools c.loop-i.i c.add_key.new.spool
    (c.add_key.ensures.intact (was c.loop-i.i c.index-spools-i.result inside)) was

pub returns-in_err-add_key-clause-stakes : goal.returns-in_err-add_key-clause-stakes
returns-in_err-add_key-clause-stakes g c =
    map-set_same g.S.Spool.stake c.loop-i.spools c.loop-i.i c.add_key.new.spool c.index-spools-i.result c.add_key.ensures.stake ∙ c.loop-i.invariant.stakes

pub returns-in_err-add_key-clause-full : goal.returns-in_err-add_key-clause-full
returns-in_err-add_key-clause-full g c =
    let i = c.loop-i.i in
    let spec = c.index-specs-i.result in
    let b = c.index-begun-i.result in
    let was = c.loop-i.invariant in
    let none : KeySpecValue = record { kinds = []; columns = []; unique = false; condition = None } in
    let inside : i < length c.loop-i.spools = omega (arith, c.loop-i-test.true, was.long_spools, c.requires.spools) in
    let in-begun : i < length c.loop-i.begun = omega (arith, c.loop-i-test.true, was.long_begun, c.requires.begun) in
    let spec-at : spec ≡ spec_at c.args.specs.now i = get_or_read c.args.specs.now i spec c.loop-i-test.true c.index-specs-i.is none in
    let begun-at : get_or c.loop-i.begun i b ≡ get_or c.args.begun.now i [] =
    get_or_default c.loop-i.begun i b [] in-begun ∙ was.reached.same_begun i (omega arith) in
    let runs = g.S.Spool.runs in
    let d = c.index-spools-i.result in
    let runs-at : runs (get_or c.loop-i.spools i d) ≡ get_or (map runs c.args.spools.now) i [] =
    sym (read_at runs c.loop-i.spools i d [] inside) ∙ was.reached.same_runs i (omega arith) in
    let its : KeySpecValue → List Pair = λ s. option_to_list (pair_with s c.args.rid (Some c.args.row.now)) in
    let held : (all_pairs (runs (get_or c.loop-i.spools i d)) ++ get_or c.loop-i.begun i b) ++ its spec
    ≡ (all_pairs (get_or (map runs c.args.spools.now) i []) ++ get_or c.args.begun.now i []) ++ its (spec_at c.args.specs.now i) =
    ap₂ (λ (rs : List (List Pair)) (ps : List Pair). (all_pairs rs ++ ps) ++ its spec) runs-at begun-at
    ∙ ap (λ (s : KeySpecValue). (all_pairs (get_or (map runs c.args.spools.now) i []) ++ get_or c.args.begun.now i []) ++ its s) spec-at in
    let p = err_from_is_err_and c.from_residual.result c.from_residual.ensures.1 in
    let before = get_or c.loop-i.begun i b in
    let held_runs = runs (get_or c.loop-i.spools i d) in
    rw (p.1, p.2) (λ no_page.
    let wants : WantsRun 4096 (get_or (map runs c.args.spools.now) i []) ((all_pairs held_runs ++ before) ++ its spec) (runs c.add_key.new.spool) =
    subst (λ (rs : List (List Pair)). WantsRun 4096 rs ((all_pairs held_runs ++ before) ++ its spec) (runs c.add_key.new.spool)) runs-at
    (wants_run 4096 held_runs (runs c.add_key.new.spool) before (its spec) c.in_err-add_key.ensures.runs (c.in_err-add_key.ensures.many no_page)) in
    full_after g.S.Spool.is_full runs g.S.Spool.open_run 4096 (map runs c.args.spools.now)
    (AreHeldWithRow c.args.specs.now c.args.rid (Some c.args.row.now) (record { runs = map runs c.args.spools.now; begun = c.args.begun.now }))
    ((all_pairs (runs (get_or c.loop-i.spools i d)) ++ get_or c.loop-i.begun i b) ++ its spec) c.loop-i.spools i c.add_key.new.spool inside held
    (c.in_err-add_key.ensures.full no_page) wants)

pub returns-in_err-add_key-clause-part : goal.returns-in_err-add_key-clause-part
returns-in_err-add_key-clause-part g c =
    let i = c.loop-i.i in
    let runs = g.S.Spool.runs in
    let e = c.in_err-add_key.ensures in
    let Its : ℕ → List Pair = λ j. option_to_list (pair_with (spec_at c.args.specs.now j) c.args.rid (Some c.args.row.now)) in
    let start : Holdings = record { runs = map runs c.args.spools.now; begun = c.args.begun.now } in
    let middle : Holdings = record { runs = map runs c.loop-i.spools; begun = c.loop-i.begun } in
    let p = err_from_is_err_and c.from_residual.result c.from_residual.ensures.1 in
    rw (p.1, p.2) (λ memory.
    let spools : set c.loop-i.spools i c.add_key.new.spool ≡ c.loop-i.spools =
    ap (set c.loop-i.spools i) (e.untouched memory) ∙ set-get_or c.loop-i.spools i c.index-spools-i.result in
    let begun : set c.loop-i.begun i c.add_key.new.begun ≡ c.loop-i.begun =
    ap (set c.loop-i.begun i) (e.unchanged memory) ∙ set-get_or c.loop-i.begun i c.index-begun-i.result in
    rw (spools, begun) (λ j less. reached_first Its i start middle c.loop-i.invariant.reached j))

pub loop-i-init : goal.loop-i-init
loop-i-init g c =
    let Made : ℕ → List (List Pair) → List Pair → List (List Pair) → List Pair → Type 0 =
    λ j. Adds (option_to_list (pair_with (spec_at c.args.specs.now j) c.args.rid (Some c.args.row.now))) in
    record {
      reached = reached_none Made (record { runs = map g.S.Spool.runs c.args.spools.now; begun = c.args.begun.now });
      ready = c.requires.ready;
      sorted = λ all. all;
      intact = λ all. all;
      stakes = refl;
      long_spools = refl;
      long_begun = refl;
    }

pub loop-i-preserved : goal.loop-i-preserved
loop-i-preserved g c =
    let i = c.loop-i.i in
    let spools = c.loop-i.spools in
    let was = c.loop-i.invariant in
    let d = c.index-spools-i.result in
    let b = c.index-begun-i.result in
    let spec = c.index-specs-i.result in
    let none : KeySpecValue = record { kinds = []; columns = []; unique = false; condition = None } in
    let in-spools : i < length spools = omega (arith, c.loop-i-test.true, was.long_spools, c.requires.spools) in
    let in-begun : i < length c.loop-i.begun = omega (arith, c.loop-i-test.true, was.long_begun, c.requires.begun) in
    let spec-at : spec ≡ spec_at c.args.specs.now i = get_or_read c.args.specs.now i spec c.loop-i-test.true c.index-specs-i.is none in
    let begun-at : get_or c.loop-i.begun i b ≡ get_or c.loop-i.begun i [] = get_or_default c.loop-i.begun i b [] in-begun in
    let runs-at : get_or (map g.S.Spool.runs spools) i [] ≡ g.S.Spool.runs (get_or spools i d) = read_at g.S.Spool.runs spools i d [] in-spools in
    let Made : ℕ → List (List Pair) → List Pair → List (List Pair) → List Pair → Type 0 =
    λ j. Adds (option_to_list (pair_with (spec_at c.args.specs.now j) c.args.rid (Some c.args.row.now))) in
    let here : Made i (get_or (map g.S.Spool.runs spools) i []) (get_or c.loop-i.begun i []) (g.S.Spool.runs c.add_key.new.spool) c.add_key.new.begun =
    let Added : KeySpecValue → List (List Pair) → List Pair → Type 0 =
    λ s runs begun. Adds (option_to_list (pair_with s c.args.rid (Some c.args.row.now))) runs begun (g.S.Spool.runs c.add_key.new.spool)
    c.add_key.new.begun in
    let added : Added spec (g.S.Spool.runs (get_or spools i d)) (get_or c.loop-i.begun i b) = c.in_ok-add_key.ensures.added in
    subst (λ (s : KeySpecValue). Added s (get_or (map g.S.Spool.runs spools) i []) (get_or c.loop-i.begun i [])) spec-at
    (subst (λ (r : List (List Pair)). Added spec r (get_or c.loop-i.begun i [])) (sym runs-at)
    (subst (λ (ps : List Pair). Added spec (g.S.Spool.runs (get_or spools i d)) ps) begun-at added)) in
    record {
      reached = rw (map-set g.S.Spool.runs spools i c.add_key.new.spool)
          (reached_more Made i (record { runs = map g.S.Spool.runs c.args.spools.now; begun = c.args.begun.now }) (map g.S.Spool.runs spools) c.loop-i.begun
          was.reached (omega (arith, in-spools, length-map spools g.S.Spool.runs)) in-begun (g.S.Spool.runs c.add_key.new.spool) c.add_key.new.begun here);
      ready = ready_after g.S.Spool.runs g.S.Spool.open_run spools i c.add_key.new.spool c.in_ok-add_key.ensures.none_empty c.in_ok-add_key.ensures.open_run
          was.ready;
      sorted = λ all.
          holds_after AreSorted g.S.Spool.runs spools i c.add_key.new.spool
          (c.add_key.ensures.sorted (holds_at AreSorted g.S.Spool.runs spools i d in-spools (was.sorted all))) (was.sorted all);
      intact = λ all.
          All-set (NoneFreed g.S.Spool.is_intact g.S.Spool.runs) spools i c.add_key.new.spool (c.add_key.ensures.intact (was.intact all i d in-spools))
          (was.intact all);
      stakes = map-set_same g.S.Spool.stake spools i c.add_key.new.spool d c.add_key.ensures.stake ∙ was.stakes;
      long_spools = length-set spools i c.add_key.new.spool ∙ was.long_spools;
      long_begun = length-set c.loop-i.begun i c.add_key.new.begun ∙ was.long_begun;
    }
