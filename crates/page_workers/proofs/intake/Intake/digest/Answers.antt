use Rattle.std.proofs.Common.{◌≡◌, ◌∷◌, ◌∙◌, [], ℕ, true, false, List, get_or, length, map, refl, sym, ap, ap₂, arith}
use Rattle.std.proofs.lemmas.Result.{err_from_is_err_and}
use Rattle.rtrb.specs.Ring.{known_items}
use Rattle.keybytes.specs.declared.kind.Kind.{Kind}
use Rattle.std.proofs.lemmas.List.Sorted.{IsPermutation-refl}
use Rattle.run_maker.specs.Making.{AreHeldWithCopy, Holdings}
use Rattle.run_maker.proofs.FullSpools.{all_of, full_given}
use Rattle.run_maker.proofs.Spoolings.{no_runs}
use Rattle.page_workers.specs.Copies.{is_for}
use Rattle.page_workers.specs.Holding.{AreHeldWith}
use Rattle.page_workers.specs.Work.{next_images}
use Rattle.page_workers.specs.IntakeValue.{IntakeValue}
use Rattle.page_workers.proofs.Digests.{next_missing, next_other, next_tested}
use Rattle.page_workers.proofs.Holding.{takes_first, takes_none, takes_nothing, takes_one}
use Rattle.page_workers.proofs.ManyPairs.{for_decides}
use Rattle.page_workers.proofs.Received.{with_copy}
use Rattle.page_workers.proofs.intake.Intake.digest.Given as given
use Rattle.page_workers.proofs.intake.Intake.digest.Goals as goal
use Rattle.page_workers.proofs.intake.Intake.digest.Goals.{After-take_with}

-- the copy that it took is the image of its turn
one_image : (g : given.Over) (c : After-take_with g) → next_images 1 c.args.maker.now.schema c.args.self.now ≡ c.pop_known-copied.result.image ∷ []
one_image g c =
    next_tested c.args.maker.now.schema c.schema.result.now c.self.inside.build c.args.self.now c.pop_known-copied.result
    (known_items c.pop_known-copied.new.self) c.is_for.result
    (sym (ap (λ (w : IntakeValue). w.end.known) c.self.view_is) ∙ c.pop_known-copied.ensures.received.1)
    (ap (λ (w : IntakeValue). w.build) c.self.view_is) c.schema.ensures c.is_for.ensures c.if-not-is_for.false

pub take_with-requires-clause-schema : goal.take_with-requires-clause-schema
take_with-requires-clause-schema g c =
    let copied = c.pop_known-copied.result in
    let own : is_for c.self.inside.build c.schema.result.now copied ≡ true = sym c.is_for.ensures ∙ c.if-not-is_for.false in
    ((for_decides c.self.inside.build c.schema.result.now copied).0 own).columns ∙ c.schema.ensures

pub returns-then-seen-eq0-clause-holds : goal.returns-then-seen-eq0-clause-holds
returns-then-seen-eq0-clause-holds g c =
    let worker = c.args.self.now in
    let maker = c.args.maker.now in
    let none : length worker.end.known ≡ 0 =
    omega (arith, c.seen.ensures, c.if-seen-eq0.true, ap (λ (w : IntakeValue). length w.end.known) c.self.view_is) in
    takes_nothing maker.specs (next_images 1 maker.schema worker) (record { runs = map g.S.Spool.runs c.args.spools.now; begun = maker.begun })
    (next_missing maker.schema worker none)

pub returns-then-not-is_for-clause-holds : goal.returns-then-not-is_for-clause-holds
returns-then-not-is_for-clause-holds g c =
    let worker = c.args.self.now in
    let maker = c.args.maker.now in
    let copied = c.pop_known-copied.result in
    let build = ap (λ (w : IntakeValue). w.build) c.self.view_is in
    let other : is_for worker.build maker.schema copied ≡ false =
    ap₂ (λ (b : ℕ) (ks : List Kind). is_for b ks copied) (sym build) (sym c.schema.ensures) ∙ (sym c.is_for.ensures ∙ c.if-not-is_for.true) in
    takes_nothing maker.specs (next_images 1 maker.schema worker) (record { runs = map g.S.Spool.runs c.args.spools.now; begun = maker.begun })
    (next_other maker.schema worker copied (known_items c.pop_known-copied.new.self)
    (sym (ap (λ (w : IntakeValue). w.end.known) c.self.view_is) ∙ c.pop_known-copied.ensures.received.1) other)

pub returns-in_err-take_with-clause-full : goal.returns-in_err-take_with-clause-full
returns-in_err-take_with-clause-full g c =
    let worker = c.args.self.now in
    let maker = c.args.maker.now in
    let copied = c.pop_known-copied.result in
    let one = one_image g (goal.at.returns-in_err-take_with-clause-full g c).After-take_with in
    let p = err_from_is_err_and c.from_residual.result c.from_residual.ensures.1 in
    rw (p.1, p.2) (λ no_page.
    let held : Holdings = record { runs = map g.S.Spool.runs c.args.spools.now; begun = maker.begun } in
    full_given g.S.Spool.is_full g.S.Spool.runs g.S.Spool.open_run 4096 4096 held.runs held.runs c.take_with.new.spools (AreHeldWithCopy maker.specs copied.image held)
    (AreHeldWith maker.specs (next_images 1 maker.schema worker) held) (omega arith) (λ i less. no_runs (get_or held.runs i []) (get_or held.runs i []) refl)
    (λ i pairs less are. (pairs, with_copy maker.specs copied.image (next_images 1 maker.schema worker) held i pairs one are, all_of pairs pairs (IsPermutation-refl pairs)))
    (c.in_err-take_with.ensures.full no_page))

pub returns-then-self-clause-part : goal.returns-then-self-clause-part
returns-then-self-clause-part g c =
    let maker = c.args.maker.now in
    let held : Holdings = record { runs = map g.S.Spool.runs c.args.spools.now; begun = maker.begun } in
    λ memory. takes_none maker.specs (next_images 1 maker.schema c.args.self.now) held

pub returns-in_err-take_with-clause-part : goal.returns-in_err-take_with-clause-part
returns-in_err-take_with-clause-part g c =
    let worker = c.args.self.now in
    let maker = c.args.maker.now in
    let copied = c.pop_known-copied.result in
    let one = one_image g (goal.at.returns-in_err-take_with-clause-part g c).After-take_with in
    let old : Holdings = record { runs = map g.S.Spool.runs c.args.spools.now; begun = maker.begun } in
    let new : Holdings = record { runs = map g.S.Spool.runs c.take_with.new.spools; begun = c.take_with.new.self.begun } in
    let p = err_from_is_err_and c.from_residual.result c.from_residual.ensures.1 in
    rw (p.1, p.2) (λ memory.
    takes_first maker.specs copied.image (next_images 1 maker.schema worker) old new one (c.in_err-take_with.ensures.part memory))

pub returns-clause-holds : goal.returns-clause-holds
returns-clause-holds g c =
    let worker = c.args.self.now in
    let maker = c.args.maker.now in
    let old : Holdings = record { runs = map g.S.Spool.runs c.args.spools.now; begun = maker.begun } in
    let new : Holdings = record { runs = map g.S.Spool.runs c.take_with.new.spools; begun = c.take_with.new.self.begun } in
    let copied = c.pop_known-copied.result in
    let one = one_image g (goal.at.returns-clause-holds g c).After-take_with in
    takes_one maker.specs copied.image (next_images 1 maker.schema worker) old new one c.in_ok-take_with.ensures.taken
