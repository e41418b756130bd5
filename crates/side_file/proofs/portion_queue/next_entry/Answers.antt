use Rattle.std.proofs.lemmas.List.Elements.{All-same, All-drop}
use Rattle.side_file.specs.Portions.{HasSome}
use Rattle.side_file.proofs.portion_queue.next_entry.Goals as goal

pub returns-in-One-clause-some : goal.returns-in-One-clause-some
returns-in-One-clause-some c = All-same HasSome _ _ c.in-Some-pop_front.ensures.rest (All-drop HasSome 1 c.args.next.now.items c.requires)

pub returns-in-Many-clause-some : goal.returns-in-Many-clause-some
returns-in-Many-clause-some c = All-same HasSome _ _ c.in-Some-pop_front.ensures.rest (All-drop HasSome 1 c.args.next.now.items c.requires)
