use Rattle.std.proofs.Common.{◌≡◌, ◌≤◌, Bool, true, false, refl, subst, ap, ◌∙◌, arith}
use Rattle.std.specs.Prelude.{Option, None, Some, is_some, not}
use Rattle.side_file.specs.QueueValue.{QueueValue}
use Rattle.side_file.specs.declared.entry.Entry.{Entry}
use Rattle.side_file.proofs.PortionLemmas.{empty_room}
use Rattle.side_file.proofs.portion_queue.PortionQueue.is_empty.Goals as goal

none_of : (first : Option Entry) (b : Bool) → is_some first ≡ not b → b ≡ true → first ≡ None
none_of None b is t = refl
none_of (Some entry) b is t = let clash : true ≡ false = is ∙ ap not t in cc

pub returns-clause-room : goal.returns-clause-room
returns-clause-room c empty =
    subst (λ (q : QueueValue). 256 ≤ q.room) c.self.view_is
    (empty_room _ _ _ _ _ c.self.invariant (none_of _ _ c.is_none.ensures empty) _ (omega (arith, c.self.inside.next.ok.0)))
