use Rattle.std.proofs.Common.{List, [], ◌∙◌, ap, subst, sym}
use Rattle.heap_log.specs.declared.record.LogRec.{LogRec}
use Rattle.heap_table.specs.HeapState.{HeapState}
use Rattle.race.specs.Builds.{PlansBuild}
use Rattle.race.specs.Rows.{HasPutRows}
use Rattle.race.proofs.Whole.{whole_report}
use Rattle.race.proofs.running.run_race.Goals as goal

pub returns : goal.returns
returns g c =
    let script = c.args.script in
    let schema = c.schema.ensures ∙ ap (λ (state : HeapState). state.schema) c.in_ok-heap.ensures.empty in
    let plan = subst (λ schema. PlansBuild c.args.workers schema script.choice script.build c.plan_build-planned.result) schema c.plan_build-planned.ensures in
    let empty = ap (λ (state : HeapState). state.log) c.in_ok-heap.ensures.empty in
    let opening = ap (λ (state : HeapState). state.log) c.in_ok-parts.ensures in
    let put = subst (λ (log : List LogRec). HasPutRows script.rows.items log c.put_rows.new.heap.state.log) empty c.put_rows.ensures in
    let rows = subst (HasPutRows script.rows.items []) (sym opening) put in
    let ran = c.run_named.ensures in
    whole_report c.args.workers script c.in_ok-parts.parts.parts.heap.log c.plan_build-planned.result c.in_ok-sessions.sessions.items c.run_named.result
    c.in_ok-heap.ensures.accepted rows plan c.in_ok-sessions.ensures ran.pages ran.told
