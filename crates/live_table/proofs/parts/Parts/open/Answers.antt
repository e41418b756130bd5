use Rattle.std.proofs.Common.{◌≡◌, [], sym, subst}
use Rattle.std.specs.List.{All}
use Rattle.table_scan.specs.SideFiles.{put_ends}
use Rattle.table_scan.proofs.OwnEntries.{nothing_sent}
use Rattle.live_lemmas.specs.Builds.{LiveValue}
use Rattle.live_table.proofs.parts.Parts.open.Goals as goal

pub returns-clause-no_copies : goal.returns-clause-no_copies
returns-clause-no_copies g c = subst (λ (l : LiveValue). All (λ end. end.sent ≡ []) l.pages) (sym c.with_ends.ensures) c.self.invariant.3

pub returns-clause-no_entries : goal.returns-clause-no_entries
returns-clause-no_entries g c = subst (λ (l : LiveValue). All (λ end. end.sent ≡ []) l.sides) (sym c.with_ends.ensures) c.self.invariant.4

pub with_ends-requires-clause-no_entries : goal.with_ends-requires-clause-no_entries
with_ends-requires-clause-no_entries g c = nothing_sent (put_ends c.self.inside.sides.items) c.self.invariant.4
