use Rattle.std.proofs.Common.{◌≡◌, ◌-◌, length, drop}
use Rattle.slotted_page.specs.Slot.{rows_from}
use Rattle.slotted_page.specs.Rows.{rows_left}
use Rattle.slotted_page.proofs.rows.RowsIterator.next.Given as goal

abbrev pub invariant-loop-self : goal.invariant-loop-self
invariant-loop-self l = record {
  same : l.self.page ≡ l.initial.self.page;
  page : l.page ≡ l.self.page.now;
  rest : rows_from l.self.next (drop l.self.next l.page.slots) ≡ rows_left l.initial.self;
}

abbrev pub decreases-loop-self : goal.decreases-loop-self
decreases-loop-self l = length l.page.slots - l.self.next
