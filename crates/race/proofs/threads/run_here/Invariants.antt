use Rattle.std.proofs.Common.{◌≡◌, ◌≤◌, ◌+◌, ◌++◌, List, length, vec_len, vec_capacity}
use Rattle.std.specs.List.{AllZip}
use Rattle.std.specs.Vec.Iter.{into_iter_items}
use Rattle.race.specs.Sessions.{HasRun}
use Rattle.race.specs.declared.session_script.SessionScript.{SessionScript}
use Rattle.race.proofs.threads.run_here.Given as goal

abbrev pub invariant-loop-script : goal.invariant-loop-script
invariant-loop-script g l =
    (goal.iterator-loop-script g).can_next l.script-iterator ×
    (goal.iterator-loop-script g).is_finite l.script-iterator ×
    (vec_len l.ended + length (into_iter_items l.script-iterator) ≤ vec_capacity l.ended) ×
    (vec_len l.ended + length (into_iter_items l.script-iterator) ≡ vec_len l.initial.ended + vec_len l.fn.scripts) ×
    (done : List SessionScript) × (done ++ into_iter_items l.script-iterator ≡ l.fn.scripts.items) ×
    ((before : List SessionScript) → AllZip (HasRun g.T.Opened.opening) before l.initial.ended.items → AllZip (HasRun g.T.Opened.opening) (before ++ done) l.ended.items)
