use Rattle.std.proofs.Common.{[], ◌∷◌, ◌++◌, subst}
use Rattle.script.specs.declared.input_record.InputRecord.{InputRecord}
use Rattle.shell.specs.Inputs.{Gives}
use Rattle.shell.proofs.Talking.{finishes_quit, gives_more, goes_more, none_more, quit_makes_none}
use Rattle.shell.proofs.run.await_table.Goals as goal

pub loop-preserved : goal.loop-preserved
loop-preserved g c =
    let told = c.loop.invariant.0 in
    let next = c.in-Some.next in
    let more = rw c.in-Some.is at c.in_ok-next.ensures.next in
    let comes = rw c.in-NoTable.is at c.in_ok-answered.ensures in (
      told ++ next.record ∷ [],
      gives_more c.args.input.now c.loop.input c.next.new.self told next c.loop.invariant.1 more,
      goes_more told next.record c.loop.invariant.2 comes.1,
      none_more told next.record c.loop.invariant.3 comes.0,
    )

pub returns-in-Made : goal.returns-in-Made
returns-in-Made g c =
    let told = c.loop.invariant.0 in
    let next = c.in-Some.next in
    let more = rw c.in-Some.is at c.in_ok-next.ensures.next in
    let comes = rw c.in-Made.is at c.in_ok-answered.ensures in
    record {
      before = told;
      table = comes.0;
      gives = subst (λ (one : InputRecord). Gives c.args.input.now (told ++ one ∷ []) c.next.new.self) comes.1
          (gives_more c.args.input.now c.loop.input c.next.new.self told next c.loop.invariant.1 more);
      goes = c.loop.invariant.2;
      none = c.loop.invariant.3;
      accepted = comes.2;
      empty = comes.3;
      limit = comes.4;
    }

pub returns-in-Quits : goal.returns-in-Quits
returns-in-Quits g c =
    let told = c.loop.invariant.0 in
    let next = c.in-Some.next in
    let more = rw c.in-Some.is at c.in_ok-next.ensures.next in
    let comes = rw c.in-Quits.is at c.in_ok-answered.ensures in (
      told ++ next.record ∷ [],
      finishes_quit c.args.input.now c.next.new.self told next.record
          (gives_more c.args.input.now c.loop.input c.next.new.self told next c.loop.invariant.1 more) c.loop.invariant.2 comes,
      none_more told next.record c.loop.invariant.3 (quit_makes_none next.record comes),
    )
