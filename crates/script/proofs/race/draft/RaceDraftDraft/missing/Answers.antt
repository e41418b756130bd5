use Rattle.script.proofs.RaceDrafted.{no_build, no_table, whole}
use Rattle.script.proofs.RaceGathered.{none_listed, some_listed}
use Rattle.script.proofs.race.draft.RaceDraftDraft.missing.Goals as goal

pub returns-then-is_none-clause-some : goal.returns-then-is_none-clause-some
returns-then-is_none-clause-some c = λ lines drafted.
    no_table _ lines (rw (← c.self.view_is) at drafted) (none_listed c.self.inside.table c.if-is_none.ensures)

pub returns-then-is_none-2-clause-some : goal.returns-then-is_none-2-clause-some
returns-then-is_none-2-clause-some c = λ lines drafted.
    no_build _ lines (rw (← c.self.view_is) at drafted) (none_listed c.self.inside.build c.if-is_none-2.ensures)

pub returns-clause-none : goal.returns-clause-none
returns-clause-none c = λ lines drafted.
    whole _ lines (rw (← c.self.view_is) at drafted) (some_listed c.self.inside.table c.if-is_none.ensures)
    (some_listed c.self.inside.build c.if-is_none-2.ensures) c.if-not-self.false
