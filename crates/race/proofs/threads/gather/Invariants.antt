use Rattle.std.proofs.Common.{◌≡◌, ◌≤◌, ◌+◌, ◌++◌, List, map, length, vec_len, vec_capacity}
use Rattle.std.specs.List.{AllZip}
use Rattle.std.specs.Vec.Iter.{into_iter_items}
use Rattle.race.specs.OneLog.{AreGathered}
use Rattle.race.specs.Sessions.{HasRun}
use Rattle.race.specs.declared.session_script.SessionScript.{SessionScript}
use Rattle.race.proofs.Gathering.{SomeLeftOver}
use Rattle.race.proofs.threads.gather.Given as goal

abbrev pub invariant-loop-handle : goal.invariant-loop-handle
invariant-loop-handle g l =
    (goal.iterator-loop-handle g).can_next l.handle-iterator ×
    (goal.iterator-loop-handle g).is_finite l.handle-iterator ×
    (vec_len l.gathered.lines + length (into_iter_items l.handle-iterator) ≡ vec_len l.fn.handles) ×
    (vec_len l.gathered.known ≡ vec_len l.gathered.lines) ×
    (vec_capacity l.gathered.lines ≡ vec_capacity l.initial.gathered.lines) ×
    (vec_capacity l.gathered.known ≡ vec_capacity l.initial.gathered.known) ×
    (done : List SessionScript) ×
    (done ++ map (λ handle. handle.promise.script.value) (into_iter_items l.handle-iterator) ≡ map (λ handle. handle.promise.script.value) l.fn.handles.items) ×
    AreGathered g.T.Opened.opening l.initial.gathered.receipts.items done l.gathered.lines.items l.gathered.known.items l.gathered.receipts.items

abbrev pub invariant-loop-one : goal.invariant-loop-one
invariant-loop-one g l =
    (goal.iterator-loop-one g).can_next l.one-iterator ×
    (goal.iterator-loop-one g).is_finite l.one-iterator ×
    (vec_len l.gathered.lines + length (into_iter_items l.one-iterator) ≤ vec_capacity l.gathered.lines) ×
    (vec_len l.gathered.known + length (into_iter_items l.one-iterator) ≤ vec_capacity l.gathered.known) ×
    ((rest : List SessionScript) → AllZip (HasRun g.T.Opened.opening) rest l.fn.ended.items
    → SomeLeftOver g.T.Opened.opening l.fn.gathered.receipts.items (map (λ handle. handle.promise.script.value) l.fn.handles.items ++ rest)
    (into_iter_items l.one-iterator) l.gathered.lines.items l.gathered.known.items l.gathered.receipts.items)
