use Rattle.std.specs.Vec.{vec_capacity}
use Rattle.std.proofs.Common.{false, ◌≡◌, ◌∙◌, ◌+◌, [], ℕ, List, length, Some, None, refl, ap, ap₂, sym, subst, arith}
use Rattle.std.specs.Prelude.{map, ◌*◌}
use Rattle.std.specs.List.{All, AllZip}
use Rattle.keybytes.specs.Keys.{KeySpecValue}
use Rattle.keybytes.specs.declared.kind.Kind.{Kind}
use Rattle.heap_table.specs.Pages.{pages_written}
use Rattle.scan_range.specs.Cuts.{CutsValue}
use Rattle.side_file.specs.Ends.{PutEndLooked, TakeEnd}
use Rattle.live_lemmas.specs.Builds.{LiveValue}
use Rattle.building.specs.BuildingValue.{BuildingValue, WorkValue, work_state, fresh}
use Rattle.table_scan.specs.TableBuilds.{build_over}
use Rattle.scan_range.specs.Dealings.{dealing_refusal, dealt_ends}
use Rattle.build_events.specs.CoreState.{BuildState, LiveState, WorkState, SpoolsState, CoreState, all_given}
use Rattle.page_workers.specs.SpoolValue.{SpoolValue}
use Rattle.building.specs.Holding.{all_spools, fresh_maker, spools_state}
use Rattle.building.specs.Equipped.{HasOwnSpools, HasRoomFor, IsFresh, IsNewMaker}
use Rattle.building.specs.Keeping.{AreWorkers}
use Rattle.page_workers.specs.WorkerValue.{WorkerValue}
use Rattle.run_maker.specs.Making.{MakerValue}
use Rattle.building.specs.declared.equipment.Equipment.{Equipment}
use Rattle.building.specs.Rings.{all_sent, all_free, AreOfBuilds}
use Rattle.page_workers.proofs.Places.{as_long}
use Rattle.table_scan.specs.SideFiles.{put_ends}
use Rattle.building.proofs.LeftBeside.{at_home}
use Rattle.building.proofs.Beginning.{all_first, all_fresh, as_many_fit, fresh_makers, left_empty, left_for, left_many, their_makers}
use Rattle.build_events.specs.BuildSteps.{started, fresh_work}
use Rattle.live_lemmas.proofs.Puts.{pages_started, builds_more}
use Rattle.table_scan.proofs.OwnEntries.{sent_looked, sent_more}
use Rattle.table_scan.proofs.SideKept.{sides_opened}
use Rattle.live_lemmas.proofs.Started.{build_on, build_is_on, started_follows, put_ends_started, started_works}
use Rattle.side_file.specs.Ends.{PutEnd}
use Rattle.side_file.specs.declared.entry.Entry.{Entry}
use Rattle.catch_up.specs.Built.{told_to}
use Rattle.live_lemmas.proofs.Unused.{unused_ends}
use Rattle.live_lemmas.proofs.Starts.{has_counts, fresh_is}
use Rattle.live_table.proofs.live.Live.start.Goals as goal

abbrev opened : ℕ → List KeySpecValue → ℕ → ℕ → CutsValue → BuildState
opened number specs workers records cuts = build_over number specs workers records cuts [] (map (λ spec. 0) specs)

-- copies of the plan's specifications are of the table's columns
own_columns :
    (specs copies : List KeySpecValue) (kinds own : List Kind) → copies ≡ specs → own ≡ kinds → All (λ (spec : KeySpecValue). spec.kinds ≡ kinds) specs
    → All (λ (spec : KeySpecValue). spec.kinds ≡ own) copies
own_columns specs copies kinds own same is columns = rw (same, is) columns

pub empty_rings-requires-clause-idle : goal.empty_rings-requires-clause-idle
empty_rings-requires-clause-idle g c =
    let plan = c.args.plan.now in
    let counts = has_counts c.args.self.now.state _ plan c.in_ok-check_plan.ensures.counts in
    c.laws.ensures.given (left_for c.args.building.now plan counts.lent counts.some counts.some_index)

pub empty_rings-requires-clause-pages : goal.empty_rings-requires-clause-pages
empty_rings-requires-clause-pages g c = c.self.invariant.5.pages_are

pub empty_rings-requires-clause-sides : goal.empty_rings-requires-clause-sides
empty_rings-requires-clause-sides g c = c.self.invariant.5.sides_are

pub begin-requires-clause-idle : goal.begin-requires-clause-idle
begin-requires-clause-idle g c =
    let plan = c.args.plan.now in
    let counts = has_counts c.args.self.now.state _ plan c.in_ok-check_plan.ensures.counts in
    let given = left_for c.args.building.now plan counts.lent counts.some counts.some_index in
    ap (λ (b : BuildingValue). b.workers) c.empty_rings.ensures.rest ∙ c.laws.ensures.workers (c.laws.ensures.given given)

pub begin-requires-clause-nothing_done : goal.begin-requires-clause-nothing_done
begin-requires-clause-nothing_done g c = subst (λ (w : WorkValue). w ≡ fresh w.build w.specs) (sym c.in_ok-work.ensures.ok) refl

pub begin-requires-clause-unused : goal.begin-requires-clause-unused
begin-requires-clause-unused g c =
    let inside = c.self.inside in
    let puts : List (PutEnd Entry) = put_ends c.empty_rings.new.sides.items in
    subst (λ (n : ℕ). All (λ (end : TakeEnd Entry). told_to n end.received ≡ []) c.empty_rings.new.self.sides)
    (sym (ap (λ (w : WorkValue). w.build) c.in_ok-work.ensures.ok))
    (subst (λ (ends : List (TakeEnd Entry)). All (λ end. told_to (inside.builds + 1) end.received ≡ []) ends) (sym c.empty_rings.ensures.drained)
    (unused_ends inside.builds puts (sent_looked inside.builds (put_ends inside.sides.items) puts c.empty_rings.ensures.looked c.self.invariant.6)))

pub begin-requires-clause-fresh : goal.begin-requires-clause-fresh
begin-requires-clause-fresh g c =
    let inside = c.self.inside in
    subst (λ (n : ℕ). All (IsFresh n) c.empty_rings.new.self.idle) (sym (ap (λ (w : WorkValue). w.build) c.in_ok-work.ensures.ok))
    (subst (All (IsFresh (inside.builds + 1))) (sym c.empty_rings.ensures.intakes)
    (all_fresh inside.builds c.empty_rings.new.pages.items (subst (AreOfBuilds inside.builds) (sym c.empty_rings.ensures.sent) c.self.invariant.4)))

pub begin-requires-clause-few : goal.begin-requires-clause-few
begin-requires-clause-few g c =
    let counts = has_counts c.args.self.now.state _ c.args.plan.now c.in_ok-check_plan.ensures.counts in
    omega (arith, counts.few, c.in_ok-equipment.ensures.many)

pub begin-requires-clause-home : goal.begin-requires-clause-home
begin-requires-clause-home g c =
    let now : BuildingValue = c.args.building.now in
    let plan = c.args.plan.now in
    let counts = has_counts c.args.self.now.state _ plan c.in_ok-check_plan.ensures.counts in
    let given = left_for now plan counts.lent counts.some counts.some_index in
    let none = c.laws.ensures.workers (c.laws.ensures.given given) in
    let spools : List SpoolValue = c.empty_rings.new.self.spools in
    let many = left_many now.given now.workers now.spools given none ∙ sym (ap (λ (b : BuildingValue). length b.spools) c.empty_rings.ensures.rest) in
    record {
      none = c.in_ok-home.ensures.items;
      room = as_many_fit c.spools_left.result _ (length spools) (vec_capacity c.in_ok-home.home) c.spools_left.ensures many c.in_ok-home.ensures.capacity;
    }

pub begin-requires-clause-makers : goal.begin-requires-clause-makers
begin-requires-clause-makers g c =
    subst (λ (specs : List KeySpecValue). All (λ (it : Equipment g.row.S.Denot). IsNewMaker specs it.maker) c.in_ok-equipment.equipment.items)
    (c.deref-2.ensures.value ∙ sym (ap (λ (w : WorkValue). w.specs) c.in_ok-work.ensures.ok))
    (fresh_makers (λ (it : Equipment g.row.S.Denot). it.maker) c.schema.result.now c.deref-2.result.now c.in_ok-equipment.equipment.items c.in_ok-equipment.ensures.makers)

pub begin-requires-clause-rooms : goal.begin-requires-clause-rooms
begin-requires-clause-rooms g c =
    subst (λ (n : ℕ). All (λ (it : Equipment g.row.S.Denot). HasRoomFor n it.spools) c.in_ok-equipment.equipment.items)
    (ap length c.deref-2.ensures.value ∙ sym (ap (λ (w : WorkValue). length w.specs) c.in_ok-work.ensures.ok)) c.in_ok-equipment.ensures.room

pub begin-requires-clause-many : goal.begin-requires-clause-many
begin-requires-clause-many g c =
    let now : BuildingValue = c.args.building.now in
    let plan = c.args.plan.now in
    let counts = has_counts c.args.self.now.state _ plan c.in_ok-check_plan.ensures.counts in
    let given = left_for now plan counts.lent counts.some counts.some_index in
    let none = c.laws.ensures.workers (c.laws.ensures.given given) in
    let own : c.in_ok-specs.specs.items ≡ plan.specs.items = c.in_ok-specs.ensures.same ∙ c.deref.ensures.value in
    let of_work : length c.in_ok-work.work.specs ≡ length plan.specs.items = ap (λ (w : WorkValue). length w.specs) c.in_ok-work.ensures.ok ∙ ap length own in
    ap (λ (b : BuildingValue). length b.spools) c.empty_rings.ensures.rest ∙ sym (left_many now.given now.workers now.spools given none) ∙ counts.lent
    ∙ ap₂ ◌*◌ (sym c.in_ok-equipment.ensures.many) (sym of_work)

pub begin-requires-clause-empty : goal.begin-requires-clause-empty
begin-requires-clause-empty g c =
    let now : BuildingValue = c.args.building.now in
    let plan = c.args.plan.now in
    let counts = has_counts c.args.self.now.state _ plan c.in_ok-check_plan.ensures.counts in
    let given = left_for now plan counts.lent counts.some counts.some_index in
    let none = c.laws.ensures.workers (c.laws.ensures.given given) in
    left_empty now c.empty_rings.new.self.spools (ap (λ (b : BuildingValue). b.spools) c.empty_rings.ensures.rest) given none c.in_ok-check_plan.ensures.empty

pub invariant_of-self : goal.invariant_of-self
invariant_of-self g c =
    let inside = c.self.inside in
    let heap = inside.heap.state in
    let plan = c.args.plan.now in
    let specs : List KeySpecValue = c.in_ok-specs-2.specs.items in
    let build : BuildState = c.in_ok-build.build in
    let same : specs ≡ plan.specs.items = c.in_ok-specs-2.ensures.same ∙ c.deref-3.ensures.value in
    let schema = ap (λ (l : LiveValue). l.state.heap.schema) c.self.view_is in
    let columns : All (λ (spec : KeySpecValue). spec.kinds ≡ heap.schema) specs =
    own_columns plan.specs.items specs c.args.self.now.state.heap.schema heap.schema same schema c.in_ok-check_plan.ensures.columns in
    let fit : dealing_refusal (pages_written heap.log) plan.dealing ≡ None =
    ap (λ (l : LiveValue). dealing_refusal (pages_written l.state.heap.log) plan.dealing) c.self.view_is ∙ c.in_ok-check_plan.ensures.ranges in
    let is : build ≡ build_on (inside.builds + 1) specs plan.workers heap.log plan.dealing =
    build_is_on heap.schema heap.log build (inside.builds + 1) specs plan.workers c.records-records.result c.pages-pages.result c.in_ok-cuts.cuts plan.dealing
    c.in_ok-build.ensures.ok c.records-records.ensures c.in_ok-cuts.ensures.ok c.pages-pages.ensures.pages in
    let counts = has_counts c.args.self.now.state _ plan c.in_ok-check_plan.ensures.counts in
    let sent = sent_looked inside.builds (put_ends inside.sides.items) (put_ends c.empty_rings.new.sides.items) c.empty_rings.ensures.looked c.self.invariant.6 in
    let before = subst (AreOfBuilds inside.builds) (sym c.empty_rings.ensures.sent) c.self.invariant.4 in (
      c.self.invariant.0,
      started_follows heap.schema heap.log build (inside.builds + 1) specs plan.workers c.records-records.result c.pages-pages.result c.in_ok-cuts.cuts plan.dealing
          c.in_ok-build.ensures.ok c.records-records.ensures c.in_ok-cuts.ensures.ok c.pages-pages.ensures.pages (omega (arith, counts.some_index, ap length same))
          (omega (arith, counts.few_indexes, ap length same)) columns c.pages-pages.ensures.limit fit counts.few,
      sides_opened heap.log build c.empty_rings.new.sides.items (ap (λ (b : BuildState). b.opened) is) (ap (λ (b : BuildState). b.pages) is) (ap (λ (b : BuildState). b.scans) is)
          (ap (λ (b : BuildState). b.fed) is ∙ ap (λ (ss : List KeySpecValue). map (λ spec. 0) ss) (sym (ap (λ (b : BuildState). b.specs) is))) c.empty_rings.ensures.left
          inside.builds (ap (λ (b : BuildState). b.number) is) sent,
      pages_started heap.schema heap.log inside.builds build (all_sent c.empty_rings.new.pages.items) (ap (λ (b : BuildState). b.number) is)
          (ap (λ (b : BuildState). b.scans) is) before,
      builds_more inside.builds (all_sent c.empty_rings.new.pages.items) before,
      put_ends_started g.T.TableRings.pages g.T.TableRings.sides inside.pages.items c.empty_rings.new.pages.items (put_ends inside.sides.items)
          (put_ends c.empty_rings.new.sides.items) c.self.invariant.5 c.empty_rings.ensures.page_rings c.empty_rings.ensures.side_rings,
      sent_more inside.builds (put_ends c.empty_rings.new.sides.items) sent,
    )

pub returns-clause-works : goal.returns-clause-works
returns-clause-works g c =
    let inside = c.self.inside in
    let heap = inside.heap.state in
    let new : BuildingValue = c.begin.new.self in
    let now : BuildingValue = c.args.building.now in
    let plan = c.args.plan.now in
    let counts = has_counts c.args.self.now.state _ plan c.in_ok-check_plan.ensures.counts in
    let own : c.in_ok-specs.specs.items ≡ plan.specs.items = c.in_ok-specs.ensures.same ∙ c.deref.ensures.value in
    let of_work : length c.in_ok-work.work.specs ≡ length plan.specs.items = ap (λ (w : WorkValue). length w.specs) c.in_ok-work.ensures.ok ∙ ap length own in
    let specs : List KeySpecValue = plan.specs.items in
    let columns : All (λ (spec : KeySpecValue). spec.kinds ≡ heap.schema) specs =
    own_columns specs specs c.args.self.now.state.heap.schema heap.schema refl (ap (λ (l : LiveValue). l.state.heap.schema) c.self.view_is)
    c.in_ok-check_plan.ensures.columns in
    let fit : dealing_refusal (pages_written heap.log) plan.dealing ≡ None =
    ap (λ (l : LiveValue). dealing_refusal (pages_written l.state.heap.log) plan.dealing) c.self.view_is ∙ c.in_ok-check_plan.ensures.ranges in
    let copies : c.in_ok-specs-2.specs.items ≡ specs = c.in_ok-specs-2.ensures.same ∙ c.deref-3.ensures.value in
    let build : c.in_ok-build.build ≡ opened (inside.builds + 1) specs plan.workers c.records-records.result c.in_ok-cuts.cuts =
    c.in_ok-build.ensures.ok ∙ ap (λ ss. opened (inside.builds + 1) ss plan.workers c.records-records.result c.in_ok-cuts.cuts) copies in
    let work : c.in_ok-work.work ≡ fresh (inside.builds + 1) specs = c.in_ok-work.ensures.ok ∙ ap (fresh (inside.builds + 1)) own in
    let maker : fresh_maker c.schema.result.now c.deref-2.result.now ≡ fresh_maker heap.schema specs =
    ap₂ fresh_maker c.schema.ensures (c.deref-2.ensures.value ∙ own) in
    let many = as_long (λ (w : WorkerValue). w.maker) (λ (it : Equipment g.row.S.Denot). it.maker) new.workers c.in_ok-equipment.equipment.items c.begin.ensures.makers
    ∙ c.in_ok-equipment.ensures.many in
    started_works _ new c.in_ok-build.build c.in_ok-work.work inside.builds specs plan.workers c.records-records.result c.in_ok-cuts.cuts refl
    (ap (λ (b : BuildingValue). b.work) c.begin.ensures.rest) (ap (λ (b : BuildingValue). b.given) c.begin.ensures.rest) build work
    (started_follows heap.schema heap.log c.in_ok-build.build (inside.builds + 1) specs plan.workers c.records-records.result c.pages-pages.result c.in_ok-cuts.cuts
    plan.dealing build c.records-records.ensures c.in_ok-cuts.ensures.ok c.pages-pages.ensures.pages counts.some_index counts.few_indexes columns
    c.pages-pages.ensures.limit fit counts.few)
    columns (subst (AreOfBuilds inside.builds) (sym c.empty_rings.ensures.sent) c.self.invariant.4) (c.begin.ensures.intakes ∙ c.empty_rings.ensures.intakes)
    (ap (λ (b : BuildingValue). b.sides) c.begin.ensures.rest ∙ c.empty_rings.ensures.drained) many
    (their_makers (λ (it : Equipment g.row.S.Denot). it.maker) (fresh_maker heap.schema specs) c.in_ok-equipment.equipment.items new.workers c.begin.ensures.makers
    (subst (λ (m : MakerValue). All (λ (it : Equipment g.row.S.Denot). it.maker ≡ m) c.in_ok-equipment.equipment.items) maker c.in_ok-equipment.ensures.makers))
    (subst (λ (w : WorkValue). All (HasOwnSpools w.specs) new.workers) work c.begin.ensures.own)
    (subst (λ (w : WorkValue). AreWorkers w.build w.specs false new.workers) work c.begin.ensures.workers) (ap (λ (b : BuildingValue). b.spools) c.begin.ensures.rest)

pub returns-clause-started : goal.returns-clause-started
returns-clause-started g c =
    let live : LiveState = c.args.self.now.state in
    let new : BuildingValue = c.begin.new.self in
    let inside = c.self.inside in
    let now : BuildingValue = c.args.building.now in
    let plan = c.args.plan.now in
    let counts = has_counts c.args.self.now.state _ plan c.in_ok-check_plan.ensures.counts in
    let given = left_for now plan counts.lent counts.some counts.some_index in
    let own : c.in_ok-specs.specs.items ≡ plan.specs.items = c.in_ok-specs.ensures.same ∙ c.deref.ensures.value in
    let of_work : length c.in_ok-work.work.specs ≡ length plan.specs.items = ap (λ (w : WorkValue). length w.specs) c.in_ok-work.ensures.ok ∙ ap length own in
    let specs : List KeySpecValue = plan.specs.items in
    let pages : c.pages-pages.result ≡ pages_written live.heap.log = c.pages-pages.ensures.pages ∙ ap (λ (l : LiveValue). pages_written l.state.heap.log) c.self.view_is in
    let log : c.records-records.result ≡ length live.heap.log = c.records-records.ensures ∙ ap (λ (l : LiveValue). length l.state.heap.log) c.self.view_is in
    let cuts_of : ℕ → CutsValue = λ n. record { pages = n; ends = dealt_ends n plan.dealing } in
    let build : c.in_ok-build.build ≡ started live plan =
    c.in_ok-build.ensures.ok
    ∙ ap (λ ss. opened (inside.builds + 1) ss plan.workers c.records-records.result c.in_ok-cuts.cuts) (c.in_ok-specs-2.ensures.same ∙ c.deref-3.ensures.value)
    ∙ ap (λ n. opened (n + 1) specs plan.workers c.records-records.result c.in_ok-cuts.cuts) (ap (λ (l : LiveValue). l.state.builds) c.self.view_is)
    ∙ ap (λ n. opened (live.builds + 1) specs plan.workers n c.in_ok-cuts.cuts) log
    ∙ ap (opened (live.builds + 1) specs plan.workers (length live.heap.log)) (c.in_ok-cuts.ensures.ok ∙ ap cuts_of pages) in
    let many = as_long (λ (w : WorkerValue). w.maker) (λ (it : Equipment g.row.S.Denot). it.maker) new.workers c.in_ok-equipment.equipment.items c.begin.ensures.makers
    ∙ c.in_ok-equipment.ensures.many in
    let first = all_first inside.builds c.empty_rings.new.pages.items new.workers new.idle (c.begin.ensures.intakes ∙ c.empty_rings.ensures.intakes) in
    let old_work : WorkState = work_state new.workers new.work in
    let work : old_work ≡ fresh_work plan =
    ap (work_state new.workers) (ap (λ (b : BuildingValue). b.work) c.begin.ensures.rest ∙ ap (λ (w : WorkValue). Some w) c.in_ok-work.ensures.ok)
    ∙ fresh_is plan c.in_ok-specs.specs.items (inside.builds + 1) new.workers many first own in
    let old_spools : SpoolsState = spools_state new.given (all_spools new.workers new.spools) in
    let none = c.laws.ensures.workers (c.laws.ensures.given given) in
    let home : all_spools new.workers new.spools ≡ all_spools now.workers now.spools =
    ap (all_spools new.workers) (ap (λ (b : BuildingValue). b.spools) c.begin.ensures.rest) ∙ c.begin.ensures.lent
    ∙ ap (λ (b : BuildingValue). b.spools) c.empty_rings.ensures.rest ∙ sym (at_home now.workers now.spools none) in
    let lent : old_spools ≡ all_given (spools_state now.given (all_spools now.workers now.spools)) =
    ap₂ spools_state (ap (λ (b : BuildingValue). b.given) c.begin.ensures.rest) home in
    let Whole : LiveState → BuildState → WorkState → SpoolsState → CoreState =
    λ l b w s. record { live = record l { builds = l.builds + 1; build = Some b }; work = w; spools = s } in (
      c.in_ok-check_plan.ensures.accepted,
      (
        pages,
        ap (λ (l : LiveValue). Whole l.state c.in_ok-build.build old_work old_spools) c.self.view_is
            ∙ ap (λ b. Whole live b old_work old_spools) build
            ∙ ap (λ w. Whole live (started live plan) w old_spools) work
            ∙ ap (Whole live (started live plan) (fresh_work plan)) lent,
      ),
    )

pub returns-clause-lendable : goal.returns-clause-lendable
returns-clause-lendable g c = record {
  work = c.in_ok-work.work;
  runs = ap (λ (b : BuildingValue). b.work) c.begin.ensures.rest;
  fine = ap (λ (w : WorkValue). w.spoiled) c.in_ok-work.ensures.ok;
  scans = ap (λ (w : WorkValue). w.handed) c.in_ok-work.ensures.ok;
}

pub returns-clause-kept : goal.returns-clause-kept
returns-clause-kept g c = λ works. returns-clause-works g c

pub returns-clause-pages : goal.returns-clause-pages
returns-clause-pages g c = c.empty_rings.ensures.free ∙ ap (λ (l : LiveValue). map all_free l.pages) c.self.view_is

pub returns-clause-sides : goal.returns-clause-sides
returns-clause-sides g c =
    subst (λ (l : LiveValue). AllZip PutEndLooked l.sides (put_ends c.empty_rings.new.sides.items)) c.self.view_is c.empty_rings.ensures.looked
