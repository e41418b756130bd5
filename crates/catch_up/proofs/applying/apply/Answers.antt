use Rattle.std.proofs.Common.{rules, Result, Ok, Err, OnErr, ◌≡◌, List, length, take, length-take, arith}
use Rattle.std.proofs.lemmas.List.{nil_from_length}
use Rattle.side_file.specs.declared.entry.Entry.{Entry}
use Rattle.catch_up.proofs.Taking.{looked_taken, taken_waits, so_far_then}
use Rattle.catch_up.proofs.applying.apply.Goals as goal

-- what holds anyhow holds of an error
on_err : {X E P : Type 0} → (answer : Result X E) → P → OnErr answer P
on_err (Ok x) p = tt
on_err (Err e) p = p

pub returns-in_err-take_next : goal.returns-in_err-take_next
returns-in_err-take_next c =
    let so_far = c.loop.invariant.so_far in
    let waits = c.in_err-take_next.ensures.waits in
    record {
      entries = so_far.entries;
      taken = looked_taken so_far.entries c.args.end.now c.look.new.self c.take_next.new.end c.look.ensures.looked
          (taken_waits so_far.entries c.look.new.self c.loop.end c.take_next.new.end so_far.taken waits);
      applied = search rules;
      most = omega (arith, so_far.count, c.loop-test.true, c.min-count.ensures);
      count = search rules;
      all = search rules;
      short = on_err c.from_residual.result (omega (arith, so_far.count, c.loop-test.true, c.min-count.ensures));
      needed = on_err c.from_residual.result c.in_err-take_next.ensures.needed;
      memory = search rules;
    }

pub loop-preserved : goal.loop-preserved
loop-preserved c =
    let known : List Entry = c.loop.end.known in
    let done = c.in_ok-take_next.ensures in
    let one : length (take 1 known) ≡ 1 =
    omega (arith, length-take 1 known, c.loop-test.true, c.loop.invariant.rest, c.min-count.ensures, c.look.ensures.value) in
    record {
      so_far = so_far_then c.loop.counter 1 (take 1 known) c.args.built.now c.loop.built c.take_next.new.self c.look.new.self c.loop.end
          c.take_next.new.end c.loop.invariant.so_far one done.taken done.applied;
      rest = omega (arith, done.known, c.loop.invariant.rest);
    }

pub returns : goal.returns
returns c =
    let so_far = c.loop.invariant.so_far in
    record {
      entries = so_far.entries;
      taken = looked_taken so_far.entries c.args.end.now c.look.new.self c.loop.end c.look.ensures.looked so_far.taken;
      applied = so_far.applied;
      most = omega (arith, so_far.count, c.loop.auto, c.min-count.ensures);
      count = search rules;
      all = λ few. nil_from_length c.loop.end.known (
          omega (arith, few, so_far.count, c.loop.auto, c.loop-test.false, c.loop.invariant.rest, c.min-count.ensures, c.look.ensures.value)
          );
      short = search rules;
      needed = search rules;
      memory = search rules;
    }
