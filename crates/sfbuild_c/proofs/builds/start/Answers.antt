use Rattle.std.proofs.Common.{false, refl, ap, sym, ◌∙◌}
use Rattle.scan_range.specs.declared.dealing.Dealing.TheVariants.{Even}
use Rattle.build_events.specs.declared.plan.Plan.{Plan}
use Rattle.kept_table.specs.KeptTables.{KeptValue}
use Rattle.sfbuild_c.proofs.Starting.{none_there, refuses, starts}
use Rattle.sfbuild_c.proofs.builds.start.Goals as goal

pub returns-clause-started : goal.returns-clause-started
returns-clause-started c =
    let of = c.schema.ensures.schema ∙ ap (λ (kept : KeptValue). kept.core.live.heap.schema) c.progress.ensures.unchanged in
    let plan : Plan = record { specs = c.in_ok-specs.specs; workers = c.args.workers; dealing = Even c.args.ranges; tries = 1; keep_pairs = false } in
    starts c.args.indexes.now c.args.workers c.args.ranges c.args.quota c.start.result plan c.schema.result c.schema.new.self c.args.table.now c.start.new.self
    (c.schema.ensures.unchanged ∙ c.progress.ensures.unchanged) of (record { specs = c.in_ok-specs.ensures.ok; workers_are = refl; dealing = refl })
    c.start.ensures.started c.start.ensures.accepted c.start.ensures.decided c.start.ensures.waited

pub returns-clause-refused : goal.returns-clause-refused
returns-clause-refused c =
    let of = c.schema.ensures.schema ∙ ap (λ (kept : KeptValue). kept.core.live.heap.schema) c.progress.ensures.unchanged in
    let plan : Plan = record { specs = c.in_ok-specs.specs; workers = c.args.workers; dealing = Even c.args.ranges; tries = 1; keep_pairs = false } in
    refuses c.args.indexes.now c.args.workers c.args.ranges c.args.quota c.start.result plan c.schema.result c.schema.new.self c.args.table.now c.start.new.self
    (c.schema.ensures.unchanged ∙ c.progress.ensures.unchanged) of (record { specs = c.in_ok-specs.ensures.ok; workers_are = refl; dealing = refl })
    (none_there c.args.table.now.core.live.build (sym c.progress.ensures.running ∙ c.if-progress.false)) c.start.ensures.refused c.start.ensures.unchanged
