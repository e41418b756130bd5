use Rattle.std.proofs.Common.{◌≡◌, ℕ, Option, ◌∙◌, subst, sym}
use Rattle.build_events.specs.CoreState.{CoreState}
use Rattle.build_events.specs.Workers.{unloaded_index}
use Rattle.kept_table.specs.Shapes.{HasOpenRange}
use Rattle.kept_table.proofs.DuePieces.{not_copied, not_ordered, piece_of_copy, piece_of_ordering}
use Rattle.kept_table.proofs.Prepared.{page_in}
use Rattle.kept_table.proofs.advancing.prepare.Goals as goal

pub copy_page-requires-clause-page : goal.copy_page-requires-clause-page
copy_page-requires-clause-page g c =
    page_in c.args.counted.now c.in-Some-range.range
    (subst (λ (range : Option ℕ). HasOpenRange range c.args.counted.now) c.in-Some-range.is c.in-Some.ensures.range)

pub returns-in-Some-range-clause-done : goal.returns-in-Some-range-clause-done
returns-in-Some-range-clause-done g c = λ _.
    piece_of_copy c.in-Some-range.range c.in-Some.workers c.args.counted.now c.copy_page.new.counted
    (subst (λ (range : Option ℕ). HasOpenRange range c.args.counted.now) c.in-Some-range.is c.in-Some.ensures.range)
    c.in-Some.ensures.workers c.in_ok-copy_page.ensures.done

pub returns-in-Some-first_unloaded-clause-done : goal.returns-in-Some-first_unloaded-clause-done
returns-in-Some-first_unloaded-clause-done g c = λ _.
    let lowest = subst (λ (s : CoreState). c.first_unloaded.result ≡ unloaded_index s.work) c.core.ensures c.first_unloaded.ensures in
    piece_of_ordering c.in-Some-first_unloaded.index c.args.counted.now c.put_in_order.new.counted
    (subst (λ (range : Option ℕ). HasOpenRange range c.args.counted.now) c.in_default-range.is c.in-Some.ensures.range)
    (sym lowest ∙ c.in-Some-first_unloaded.is) c.in_ok-put_in_order.ensures.done

pub returns-in-Some-range-clause-due : goal.returns-in-Some-range-clause-due
returns-in-Some-range-clause-due g c = λ _.
    not_copied c.in-Some-range.range c.args.counted.now
    (subst (λ (range : Option ℕ). HasOpenRange range c.args.counted.now) c.in-Some-range.is c.in-Some.ensures.range)

pub returns-in-Some-first_unloaded-clause-due : goal.returns-in-Some-first_unloaded-clause-due
returns-in-Some-first_unloaded-clause-due g c = λ _.
    let lowest = subst (λ (s : CoreState). c.first_unloaded.result ≡ unloaded_index s.work) c.core.ensures c.first_unloaded.ensures in
    not_ordered c.in-Some-first_unloaded.index c.args.counted.now
    (subst (λ (range : Option ℕ). HasOpenRange range c.args.counted.now) c.in_default-range.is c.in-Some.ensures.range)
    (sym lowest ∙ c.in-Some-first_unloaded.is)
