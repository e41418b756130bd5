-- A key that comes in with none counts as before.
use Rattle.key_guards.proofs.Counting.{noted_counts, absent_by}
use Rattle.key_guards.proofs.key_counts.KeyCounts.note.Goals as goal

pub returns-clause-kept : goal.returns-clause-kept
returns-clause-kept c =
    noted_counts c.args.self.now.counts c.insert.new.self c.in_ok-copy.copy
    (absent_by c.args.self.now.counts c.args.key.now c.in_ok-copy.copy c.contains_key.result c.if-contains_key.false c.contains_key.ensures c.in_ok-copy.ensures.same)
    c.in_ok-insert.ensures.updates
