use Rattle.std.proofs.Common.{◌≡◌, ◌+◌, ◌<◌, ◌∙◌, refl, ap, sym, subst, arith, length, get_or, List, [], ◌∷◌, ◌++◌, map}
use Rattle.std.specs.Prelude.{Some, slice_get}
use Rattle.std.proofs.lemmas.List.{length_push}
use Rattle.keybytes.specs.declared.pair.Pair.{Pair}
use Rattle.run_merge.specs.Merging.{all_runs, head_of}
use Rattle.run_merge.specs.Places.{IsPlace}
use Rattle.run_merge.proofs.Numbers.{together}
use Rattle.run_merge.proofs.Places.{no_places, place_more}
use Rattle.run_merge.proofs.Steps.{no_seconds, second_more, start_none, start_same, start_more, start_ends, ways_same, ways_more, head_some, head_none}
use Rattle.run_merge.proofs.Steps.{none_done, none_done_more}
use Rattle.run_merge.proofs.lanes.Lanes.new.Goals as goal
use Rattle.run_merge.proofs.lanes.Lanes.new.Goals.{in-Some+in_ok-push+in_ok-read+in_ok-push-2+in_ok-push-3+in_ok-push-4, in_default}

pub place-place-requires : goal.place-place-requires
place-place-requires g c =
    omega (
      arith,
      c.loop-run-test.true,
      c.loop-run.invariant.end,
      ap (λ (rs : List (List (List Pair))). length (all_runs rs)) c.loop-run.invariant.runs,
      ap length (together g.S.Spool.runs c.loop-run.spools),
    )

pub loop-run-init : goal.loop-run-init
loop-run-init g c = record {
  runs = refl;
  open_runs = refl;
  stakes = refl;
  end = c.in_ok-count.ensures.count ∙ ap length (sym (together g.S.Spool.runs c.args.spools.now));
  seconds = rw (c.new-runs.ensures.items, c.new-seconds.ensures.items) (no_seconds (all_runs (map g.S.Spool.runs c.args.spools.now)));
  places = rw (c.new-runs.ensures.items, c.new-places.ensures.items) (no_places (map g.S.Spool.runs c.args.spools.now));
  start = rw (c.new-runs.ensures.items, c.new-heads.ensures.items) (start_none (all_runs (map g.S.Spool.runs c.args.spools.now)));
  ways = ap length c.new-runs.ensures.items;
  pairs = rw c.new-heads.ensures.items none_done;
}

pub loop-run-preserved : goal.loop-run-preserved
loop-run-preserved g c =
    let runs = all_runs (map g.S.Spool.runs c.args.spools.now) in
    let was = c.loop-run.invariant in
    let run = c.loop-run.run in
    let inside : run < length runs = omega (arith, c.loop-run-test.true, was.end) in
    let head : c.in_ok-pair.field-0 ≡ head_of (get_or runs run []) =
    c.in_ok-pair.ensures.pair ∙ ap (λ (rs : List (List (List Pair))). head_of (get_or (all_runs rs) run [])) was.runs in
    let here : IsPlace (map g.S.Spool.runs c.args.spools.now) run c.place-place.result =
    subst (λ (rs : List (List (List Pair))). IsPlace rs run c.place-place.result) was.runs c.place-place.ensures in
    elim c.match-branch-3.branch [
      | in-Some+in_ok-push+in_ok-read+in_ok-push-2+in_ok-push-3+in_ok-push-4 w ↦
          let first : Some w.in-Some.pair ≡ head_of (get_or runs run []) = sym w.in-Some.is ∙ head in
          let lanes = ap (λ v. v.items) w.runs-is ∙ w.in_ok-push-3.ensures.items in
          let places = ap (λ v. v.items) w.places-is ∙ w.in_ok-push-4.ensures.items in
          let seconds = ap (λ v. v.items) w.seconds-is ∙ w.in_ok-push-2.ensures.items in
          let kept = w.read-in-Some.ensures.runs ∙ c.read.ensures.runs ∙ was.runs in
          let second : w.in_ok-read.field-0 ≡ slice_get (get_or runs run []) 1 =
          w.in_ok-read.ensures.pair ∙ ap (λ (rs : List (List (List Pair))). slice_get (get_or (all_runs rs) run []) 1) (c.read.ensures.runs ∙ was.runs) in
          let heads = ap (λ v. v.items) w.heads-is ∙ w.in_ok-push.ensures.items ∙ ap (λ head. c.loop-run.heads.items ++ head ∷ []) w.new.ensures in
          record {
            runs = ap (λ spools. map g.S.Spool.runs spools) w.spools-is ∙ kept;
            open_runs = ap (λ spools. map g.S.Spool.open_run spools) w.spools-is ∙ w.read-in-Some.ensures.open_runs ∙ c.read.ensures.open_runs ∙ was.open_runs;
            stakes = ap (λ spools. map g.S.Spool.stake spools) w.spools-is ∙ w.read-in-Some.ensures.stakes ∙ c.read.ensures.stakes ∙ was.stakes;
            end = was.end;
            places = rw (lanes, places) (place_more (map g.S.Spool.runs c.args.spools.now) c.loop-run.runs.items c.loop-run.places.items run c.place-place.result
                was.places here);
            seconds = rw (lanes, seconds) (second_more runs c.loop-run.runs.items c.loop-run.seconds.items run w.in_ok-read.field-0 was.seconds second);
            start = rw (lanes, heads) (start_more runs c.loop-run.runs.items c.loop-run.heads.items run w.in-Some.pair was.start (sym first));
            ways = rw lanes
                (length_push c.loop-run.runs.items run
                ∙ (ap (λ n. n + 1) was.ways ∙ sym (ways_more runs run inside (head_some (get_or runs run []) w.in-Some.pair first))));
            pairs = rw heads (none_done_more c.loop-run.heads.items w.in-Some.pair was.pairs);
          }
      | in_default w ↦
          let none = head_none (get_or runs run []) (sym w.in_default.is ∙ head) in
          record {
            runs = ap (λ spools. map g.S.Spool.runs spools) w.spools-is ∙ c.read.ensures.runs ∙ was.runs;
            open_runs = ap (λ spools. map g.S.Spool.open_run spools) w.spools-is ∙ c.read.ensures.open_runs ∙ was.open_runs;
            stakes = ap (λ spools. map g.S.Spool.stake spools) w.spools-is ∙ c.read.ensures.stakes ∙ was.stakes;
            end = was.end;
            places = rw (w.runs-is, w.places-is) was.places;
            seconds = rw (w.runs-is, w.seconds-is) was.seconds;
            start = rw (w.runs-is, w.heads-is) (start_same runs c.loop-run.runs.items c.loop-run.heads.items run was.start none);
            ways = rw w.runs-is (was.ways ∙ sym (ways_same runs run inside none));
            pairs = rw w.heads-is was.pairs;
          }
    ]

pub returns-clause-merge : goal.returns-clause-merge
returns-clause-merge g c =
    let runs = all_runs (map g.S.Spool.runs c.args.spools.now) in
    let was = c.loop-run.invariant in
    let all : c.loop-run.run ≡ length runs = omega (arith, c.loop-run-test.false, was.end, c.loop-run.auto.run-end) in
    rw c.in_ok-new.ensures.heads (start_ends runs c.loop-run.runs.items c.loop-run.heads.items c.loop-run.run c.requires all was.start)

pub returns-clause-compares : goal.returns-clause-compares
returns-clause-compares g c =
    let was = c.loop-run.invariant in
    omega (arith, c.in_ok-new.ensures.counted was.pairs, was.start.long)
