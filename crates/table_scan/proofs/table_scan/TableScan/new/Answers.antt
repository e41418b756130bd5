use Rattle.std.proofs.Common.{◌∙◌, List, length, ap, sym, subst, arith}
use Rattle.std.proofs.lemmas.List.{length-map}
use Rattle.keybytes.specs.Keys.{KeySpecValue}
use Rattle.scan_range.specs.Ranges.{RangesValue, at_start}
use Rattle.table_scan.specs.TableBuilds.{AreScansOf}
use Rattle.build_events.specs.declared.scan.Scan.{Scan}
use Rattle.table_scan.proofs.RangeScans.{none_copied}
use Rattle.table_scan.proofs.table_scan.TableScan.new.Goals as goal

pub invariant_of-result : goal.invariant_of-result
invariant_of-result c =
    let scans : List Scan = c.in_ok-with_capacity.field-0.items in
    let start = c.in_ok-new.ensures.ok in
    let fed = ap length c.in_ok-none_fed.ensures.ok ∙ length-map c.deref.result.now (λ (spec : KeySpecValue). 0) ∙ ap length c.deref.ensures.value in (
      subst (λ (r : RangesValue). AreScansOf r c.args.workers scans) (sym start)
          (subst (λ (xs : List Scan). AreScansOf (at_start c.args.cuts) c.args.workers xs) (sym c.in_ok-with_capacity.ensures.items) (none_copied c.args.cuts c.args.workers c.requires)),
      omega (arith, ap (λ (r : RangesValue). r.pages) start, c.pages-pages.ensures, c.in_ok-with_capacity.ensures.capacity),
      fed,
    )
