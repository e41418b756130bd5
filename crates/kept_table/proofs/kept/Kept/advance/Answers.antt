use Rattle.kept_table.specs.KeptTables.{KeptValue}
use Rattle.kept_table.specs.Pieces.{DoesPiece, FailsToAdvance, NotesWaits, WorksToTheEnd}
use Rattle.std.proofs.Common.{◌≡◌, true, false}
use Rattle.std.specs.Prelude.{IfErr, IfOk, IsSomeAnd, OnErr}
use Rattle.kept_table.proofs.Tables.{on_kept}
use Rattle.kept_table.proofs.kept.Kept.advance.Goals as goal

pub returns-clause-ready : goal.returns-clause-ready
returns-clause-ready c =
    on_kept (λ (k : KeptValue). IfOk c.advanced-table.result.1 (λ ready. ready ≡ true
    → IsSomeAnd c.advanced-table.new.decided (λ told. WorksToTheEnd c.args.most k.waited k.core told c.advanced-table.result.0.core))) c.args.self.now
    c.self.inside.table c.self.inside.decided c.self.inside.waited c.taken.result c.self.view_is c.taken.ensures c.advanced-table.ensures.ready

pub returns-clause-goes_on : goal.returns-clause-goes_on
returns-clause-goes_on c =
    on_kept (λ (k : KeptValue). IfOk c.advanced-table.result.1 (λ ready. ready ≡ false
    → DoesPiece c.args.most k.waited k.core c.advanced-table.result.0.core × (c.advanced-table.new.decided ≡ k.decided))) c.args.self.now
    c.self.inside.table c.self.inside.decided c.self.inside.waited c.taken.result c.self.view_is c.taken.ensures c.advanced-table.ensures.goes_on

pub returns-clause-waits : goal.returns-clause-waits
returns-clause-waits c =
    on_kept (λ (k : KeptValue). IfOk c.advanced-table.result.1 (λ ready. ready ≡ false
    → NotesWaits k.core k.waited c.advanced-table.result.0.core c.advanced-table.new.waited)) c.args.self.now
    c.self.inside.table c.self.inside.decided c.self.inside.waited c.taken.result c.self.view_is c.taken.ensures c.advanced-table.ensures.waits

pub returns-clause-refused : goal.returns-clause-refused
returns-clause-refused c =
    on_kept (λ (k : KeptValue). IfErr c.advanced-table.result.1 (λ fault.
    FailsToAdvance c.args.most k.waited k.core fault c.advanced-table.result.0.core c.advanced-table.new.waited)) c.args.self.now
    c.self.inside.table c.self.inside.decided c.self.inside.waited c.taken.result c.self.view_is c.taken.ensures c.advanced-table.ensures.refused

pub returns-clause-kept : goal.returns-clause-kept
returns-clause-kept c =
    on_kept (λ (k : KeptValue). OnErr c.advanced-table.result.1 (c.advanced-table.new.decided ≡ k.decided)) c.args.self.now
    c.self.inside.table c.self.inside.decided c.self.inside.waited c.taken.result c.self.view_is c.taken.ensures c.advanced-table.ensures.kept
