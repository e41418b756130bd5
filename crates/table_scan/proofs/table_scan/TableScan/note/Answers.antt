use Rattle.std.proofs.Common.{◌≡◌, ◌∙◌, ◌++◌, ◌∷◌, [], ◌<◌, ℕ, Bool, false, List, length, length-append, Some, None, refl, ap, sym, arith, subst}
use Rattle.std.specs.Prelude.{if◌then◌else◌}
use Rattle.keybytes.specs.declared.fault.Fault.TheVariants.{RangeDone}
use Rattle.scan_range.specs.Ranges.{RangesValue, AreRanges, next_of, is_done, after_advance, advance_refusal}
use Rattle.table_scan.specs.TableBuilds.{AreScansOf}
use Rattle.build_events.specs.CoreState.{BuildState}
use Rattle.build_events.specs.Ranges.{next_page}
use Rattle.table_scan.specs.contracts.table_scan.TableScan.{the_view}
use Rattle.build_events.specs.declared.scan.Scan.{Scan}
use Rattle.table_scan.specs.declared.table_scan.TableScan.TheInside.{Inside}
use Rattle.build_events.proofs.NextPages.{next_lies, next_page_is, others_stay}
use Rattle.table_scan.proofs.RangeScans.{one_copied}
use Rattle.table_scan.proofs.table_scan.TableScan.note.Goals as goal

module _ (inside : Inside) (b : BuildState) (range page : ℕ) (is : the_view inside ≡ b) (next : next_page b range ≡ Some page) where
  next_inside : next_page (the_view inside) range ≡ Some page
  next_inside = ap (λ (x : BuildState). next_page x range) is ∙ next

  there : range < length inside.ranges.ends
  there = (next_lies (the_view inside) range page next_inside).there

  -- the page is the range's own
  own : AreRanges inside.ranges → AreScansOf inside.ranges inside.workers inside.scans.items → (is_done inside.ranges range ≡ false) × (page ≡ next_of inside.ranges range)
  own are of = next_page_is (the_view inside) inside.ranges are refl of.passed range there page next_inside

  -- the scans with one more, for a worker
  more :
      (worker records : ℕ) → worker < b.workers → AreRanges inside.ranges → AreScansOf inside.ranges inside.workers inside.scans.items
      → AreScansOf (after_advance inside.ranges range) inside.workers (inside.scans.items ++ record { worker = worker; page = page; records = records } ∷ [])
  more worker records for are of =
      let at = own are of in
      let few : worker < inside.workers = subst (λ (x : BuildState). worker < x.workers) (sym is) for in
      subst (λ n. AreScansOf (after_advance inside.ranges range) inside.workers (inside.scans.items ++ record { worker = worker; page = n; records = records } ∷ [])) (sym at.1)
      (one_copied inside.ranges inside.workers inside.scans.items are of range worker records there at.0 few)

pub advance-requires : goal.advance-requires
advance-requires c = there c.self.inside c.args.self.now c.args.range c.args.page c.self.view_is c.requires.next

pub unreachable-requires : goal.unreachable-requires
unreachable-requires c =
    let at = own c.self.inside c.args.self.now c.args.range c.args.page c.self.view_is c.requires.next c.laws.ensures.kept c.self.invariant.0 in
    let none : advance_refusal c.self.inside.ranges c.args.range ≡ None = ap (λ (done : Bool). if done then Some RangeDone else None) at.0 in
    let bad : None ≡ Some c.in_default.field-0 = sym none ∙ c.in_default.ensures.refused in cc

pub push_reserved-requires : goal.push_reserved-requires
push_reserved-requires c =
    let last : Scan = record { worker = c.args.worker; page = c.args.page; records = c.args.records } in
    let all = more c.self.inside c.args.self.now c.args.range c.args.page c.self.view_is c.requires.next c.args.worker c.args.records c.requires.there c.laws.ensures.kept c.self.invariant.0 in
    omega (arith, all.within, length-append c.self.inside.scans.items (last ∷ []), c.self.invariant.1, c.self.inside.scans.ok)

pub invariant_of-self : goal.invariant_of-self
invariant_of-self c =
    let all = more c.self.inside c.args.self.now c.args.range c.args.page c.self.view_is c.requires.next c.args.worker c.args.records c.requires.there c.laws.ensures.kept c.self.invariant.0 in
    let gone = c.in-Ok.ensures.ok in (
      subst (λ (r : RangesValue). AreScansOf r c.self.inside.workers c.push_reserved.new.self.items) (sym gone)
          (subst (λ (scans : List Scan). AreScansOf (after_advance c.self.inside.ranges c.args.range) c.self.inside.workers scans) (sym c.push_reserved.ensures.items) all),
      omega (arith, ap (λ (r : RangesValue). r.pages) gone, c.self.invariant.1, c.push_reserved.ensures.capacity),
      c.self.invariant.2,
    )

pub returns-clause-others : goal.returns-clause-others
returns-clause-others c = λ other apart.
    let inside = c.self.inside in
    let b : BuildState = the_view inside in
    let last : Scan = record { worker = c.args.worker; page = c.args.page; records = c.args.records } in
    ap (λ (r : RangesValue). next_page (the_view (record inside { ranges = r; scans = c.push_reserved.new.self })) other) c.in-Ok.ensures.ok
    ∙ ap (λ (scans : List Scan). next_page (record b { scans = scans }) other) c.push_reserved.ensures.items
    ∙ others_stay b c.args.range other last c.laws.ensures.kept.cuts (next_inside inside c.args.self.now c.args.range c.args.page c.self.view_is c.requires.next) apart
    ∙ ap (λ (x : BuildState). next_page x other) c.self.view_is
