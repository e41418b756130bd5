use Rattle.std.proofs.Common.{IfSome, subst}
use Rattle.crew.specs.Credits.{LockedValue}
use Rattle.table_scan.specs.SideFiles.{EachEntryOnce}
use Rattle.crew.proofs.locked.Locked.laws.Goals as goal

pub returns-clause-entries : goal.returns-clause-entries
returns-clause-entries g c = subst (λ (l : LockedValue). IfSome l.state.build (λ b. EachEntryOnce l.state.heap.log b l.sides)) c.self.view_is c.laws.ensures.entries
