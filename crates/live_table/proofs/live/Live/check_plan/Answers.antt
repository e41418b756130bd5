use Rattle.std.proofs.Common.{rules, ◌≡◌, Bool, List, length, ap, sym, ◌∙◌, true, false}
use Rattle.std.specs.Prelude.{is_some}
use Rattle.std.specs.List.{list_all}
use Rattle.std.proofs.lemmas.Result.{err_from_is_err_and}
use Rattle.keybytes.specs.Keys.{KeySpecValue}
use Rattle.keybytes.specs.declared.kind.Kind.{Kind}
use Rattle.heap_table.specs.Pages.{pages_written}
use Rattle.live_lemmas.specs.Builds.{LiveValue, core_state}
use Rattle.build_events.specs.CoreState.{LiveState, SpoolsState}
use Rattle.scan_range.specs.Dealings.{dealing_refusal}
use Rattle.build_events.specs.BuildSteps.{counts_fit}
use Rattle.keybytes.specs.Schemas.{same_kinds}
use Rattle.build_events.specs.declared.plan.Plan.{Plan}
use Rattle.live_lemmas.proofs.Starts.{bad_column, bad_ranges, bad_spools, nothing_bad}
use Rattle.live_table.proofs.live.Live.check_plan.Given as given
use Rattle.live_table.proofs.live.Live.check_plan.Goals as goal
use Rattle.live_table.proofs.live.Live.check_plan.Goals.{After-schema, After-check}

-- whether the specifications are of the table's columns
same_columns :
    (given specs : List KeySpecValue) (kinds schema : List Kind) (are : Bool) → given ≡ specs → kinds ≡ schema
    → are ≡ list_all (λ spec. same_kinds spec.kinds kinds) given → list_all (λ spec. same_kinds spec.kinds schema) specs ≡ are
same_columns given specs kinds schema are same same_kinds_are is = rw (← same, ← same_kinds_are) (sym is)

-- no build runs, the counts fit, and the columns are the table's or not
record Counted (live : LiveState) (spools : SpoolsState) (plan : Plan) (are : Bool) : Type 0 where
  still : is_some live.build ≡ false
  counts : counts_fit live (length spools.left) plan ≡ true
  columns : list_all (λ spec. same_kinds spec.kinds live.heap.schema) plan.specs.items ≡ are

counted :
    (g : given.Over) (c : After-schema g) (are : Bool) → are ≡ list_all (λ spec. same_kinds spec.kinds c.schema.result.now) c.deref.result.now
    → Counted c.args.self.now.state (core_state c.args.self.now c.args.building.now).spools c.args.plan.now are
counted g c are is = record {
  still = search rules;
  counts = search rules;
  columns = same_columns c.deref.result.now c.args.plan.now.specs.items c.schema.result.now c.args.self.now.state.heap.schema are c.deref.ensures.value
      (c.schema.ensures ∙ ap (λ (l : LiveValue). l.state.heap.schema) c.self.view_is) is;
}

-- how the plan deals out the table's pages
dealt :
    (g : given.Over) (c : After-check g)
    → dealing_refusal (pages_written c.args.self.now.state.heap.log) c.args.plan.now.dealing ≡ dealing_refusal c.pages.result c.args.plan.now.dealing
dealt g c =
    ap (λ n. dealing_refusal n c.args.plan.now.dealing) (sym (c.pages.ensures.pages ∙ ap (λ (l : LiveValue). pages_written l.state.heap.log) c.self.view_is))

pub returns-then-not-are_of-clause-refused : goal.returns-then-not-are_of-clause-refused
returns-then-not-are_of-clause-refused g c =
    let f = counted g (goal.at.returns-then-not-are_of-clause-refused g c).After-schema false c.if-not-are_of.ensures.same in
    bad_column c.args.self.now.state (core_state c.args.self.now c.args.building.now).spools c.args.plan.now f.still f.counts f.columns

pub returns-in_err-check-clause-refused : goal.returns-in_err-check-clause-refused
returns-in_err-check-clause-refused g c =
    let f = counted g (goal.at.returns-in_err-check-clause-refused g c).After-schema true c.if-not-are_of.ensures.same in
    let cause = dealt g (goal.at.returns-in_err-check-clause-refused g c).After-check ∙ c.in_err-check.ensures in
    let told = err_from_is_err_and c.from_residual.result c.from_residual.ensures.1 in
    rw (told.1, told.2) (bad_ranges c.args.self.now.state (core_state c.args.self.now c.args.building.now).spools c.args.plan.now f.still f.counts f.columns _ cause)

pub returns-clause-accepted : goal.returns-clause-accepted
returns-clause-accepted g c =
    let f = counted g (goal.at.returns-clause-accepted g c).After-schema true c.if-not-are_of.ensures.same in
    let ranges = dealt g (goal.at.returns-clause-accepted g c).After-check ∙ c.in_ok-check.ensures in
    nothing_bad c.args.self.now.state (core_state c.args.self.now c.args.building.now).spools c.args.plan.now f.still f.counts f.columns ranges
    (sym {b = list_all (λ (is_empty : Bool). is_empty) (core_state c.args.self.now c.args.building.now).spools.left} c.if-not-are_left_empty.ensures)

pub returns-then-not-are_left_empty-clause-refused : goal.returns-then-not-are_left_empty-clause-refused
returns-then-not-are_left_empty-clause-refused g c =
    let f = counted g (goal.at.returns-then-not-are_left_empty-clause-refused g c).After-schema true c.if-not-are_of.ensures.same in
    let ranges = dealt g (goal.at.returns-then-not-are_left_empty-clause-refused g c).After-check ∙ c.in_ok-check.ensures in
    bad_spools c.args.self.now.state (core_state c.args.self.now c.args.building.now).spools c.args.plan.now f.still f.counts f.columns ranges
    (sym {b = list_all (λ (is_empty : Bool). is_empty) (core_state c.args.self.now c.args.building.now).spools.left} c.if-not-are_left_empty.ensures)
