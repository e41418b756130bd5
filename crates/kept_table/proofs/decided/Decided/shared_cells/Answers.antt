use Rattle.std.proofs.Common.{Option, Some, ap, sym, subst, ◌∙◌}
use Rattle.std.specs.List.{slice_get}
use Rattle.keybytes.specs.Keys.{KeySpecValue}
use Rattle.heap_log.specs.declared.outcome.Outcome.{Outcome}
use Rattle.build_events.specs.Verdicts.{HaveSharedKeys}
use Rattle.kept_table.specs.Decisions.{AreSharedCells}
use Rattle.kept_table.specs.KeptTables.{DecidedValue}
use Rattle.kept_table.proofs.SharedRows.{row_refusal-HasKey}
use Rattle.kept_table.proofs.Switches.{decided_spec, shared_key}
use Rattle.kept_table.proofs.decided.Decided.shared_cells.Goals as goal

pub cells-requires : goal.cells-requires
cells-requires c =
    let keys = subst (λ (d : DecidedValue). HaveSharedKeys d.specs d.verdicts) c.self.view_is c.self.invariant in
    shared_key c.args.self.now.specs c.args.self.now.verdicts c.args.index c.in-Some.spec.now c.in-Some-Shared.key _ _ keys c.in-Some.ensures
    (c.in-Some-Shared.ensures ∙ ap Some c.in-Some-Shared.field-0-is)

pub unreachable-requires : goal.unreachable-requires
unreachable-requires c =
    let keys = subst (λ (d : DecidedValue). HaveSharedKeys d.specs d.verdicts) c.self.view_is c.self.invariant in
    decided_spec c.args.self.now.specs c.args.self.now.verdicts c.args.index c.in-Some-Shared.field-0.now keys c.in-None.ensures c.in-Some-Shared.ensures

pub returns-in_ok-cells-in-Some-clause-ok : goal.returns-in_ok-cells-in-Some-clause-ok
returns-in_ok-cells-in-Some-clause-ok c =
    let cells = c.in_ok-cells-in-Some.field-0.items in
    subst (λ (spec : Option KeySpecValue). AreSharedCells spec (slice_get c.args.self.now.verdicts c.args.index) cells) (sym c.in-Some.ensures)
    (subst (λ (verdict : Option Outcome). AreSharedCells (Some c.in-Some.spec.now) verdict cells) (sym (c.in-Some-Shared.ensures ∙ ap Some c.in-Some-Shared.field-0-is))
    c.in_ok-cells-in-Some.ensures.columns)

pub returns-in_ok-cells-in-Some-clause-row : goal.returns-in_ok-cells-in-Some-clause-row
returns-in_ok-cells-in-Some-clause-row c =
    row_refusal-HasKey c.in-Some.spec.now _ c.in_ok-cells-in-Some.field-0.items c.in_ok-cells-in-Some.ensures.columns c.columns-columns.ensures.key
