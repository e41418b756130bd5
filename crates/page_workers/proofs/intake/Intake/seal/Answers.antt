use Rattle.std.proofs.Common.{rules, ◌≡◌, ◌+◌, ◌∙◌, [], ℕ, List, All, append-nil, length, length-append, map, refl, ap, sym, subst, arith, inl, inr}
use Rattle.std.proofs.lemmas.List.Elements.{All-append}
use Rattle.std.proofs.lemmas.Result.{err_from_is_err_and}
use Rattle.keybytes.specs.Keys.{KeySpecValue}
use Rattle.keybytes.specs.declared.kind.Kind.{Kind}
use Rattle.heap_table.specs.Images.{ImageValue, IsReadable}
use Rattle.run_maker.specs.Making.{AreHeld, Holdings, held_at}
use Rattle.run_maker.proofs.FullSpools.{full_given}
use Rattle.page_workers.specs.Holding.{AreHeldWith, TakesAll, TakesUpTo}
use Rattle.page_workers.specs.Turns.{AreHeldWithTaken}
use Rattle.page_workers.specs.Work.{after_digest, image_behind, next_images}
use Rattle.page_workers.specs.IntakeValue.{IntakeValue}
use Rattle.page_workers.proofs.Digests.{digest_more, images_more, next_few, stops_behind}
use Rattle.page_workers.proofs.Holding.{takes_more, takes_nothing, takes_sealed, takes_then}
use Rattle.page_workers.proofs.Received.{full_till, with_more}
use Rattle.page_workers.proofs.intake.Intake.seal.Goals as goal

pub loop-init : goal.loop-init
loop-init g c = record {
  taken = search rules;
  holds = takes_nothing c.args.maker.now.specs [] (record { runs = map g.S.Spool.runs c.args.spools.now; begun = c.args.maker.now.begun }) refl;
  ready = c.requires.ready;
  sorted = λ all. all;
  intact = λ all. all;
  stakes = refl;
  schema = refl;
  specs = refl;
  readable = search rules;
  images = refl;
}

pub returns-in_err-images-clause-failed : goal.returns-in_err-images-clause-failed
returns-in_err-images-clause-failed g c =
    let was = c.loop.invariant in
    let n = c.loop.counter in
    let p = err_from_is_err_and c.from_residual.result c.from_residual.ensures.1 in
    rw p.1 (inl (
      n,
      stops_behind n c.args.maker.now.schema c.loop.maker.schema c.args.self.now c.loop.self c.digest.new.self was.taken was.schema c.in_err-images.ensures.failed,
    ))

pub returns-in_err-seal_with-clause-failed : goal.returns-in_err-seal_with-clause-failed
returns-in_err-seal_with-clause-failed g c =
    let worker = c.args.self.now in
    let kinds = c.args.maker.now.schema in
    let all : c.loop.counter ≡ length worker.end.known = omega (arith, c.loop-test.false, c.loop.auto.counter-end, c.seen-end.ensures) in
    let p = err_from_is_err_and c.from_residual-in_err-seal_with.result c.from_residual-in_err-seal_with.ensures.1 in
    rw (p.1, p.2) (inr (c.in_err-seal_with.ensures.no_page, subst (λ (n : ℕ). c.loop.self ≡ after_digest n kinds worker) all c.loop.invariant.taken))

pub returns-in_err-images-clause-part : goal.returns-in_err-images-clause-part
returns-in_err-images-clause-part g c =
    let worker = c.args.self.now in
    let kinds = c.args.maker.now.schema in
    let specs = c.args.maker.now.specs in
    let was = c.loop.invariant in
    let n = c.loop.counter in
    let start : Holdings = record { runs = map g.S.Spool.runs c.args.spools.now; begun = c.args.maker.now.begun } in
    let middle : Holdings = record { runs = map g.S.Spool.runs c.loop.spools; begun = c.loop.maker.begun } in
    let end : Holdings = record { runs = map g.S.Spool.runs c.digest.new.spools; begun = c.digest.new.maker.begun } in
    let Part : List KeySpecValue → List Kind → IntakeValue → Type 0 = λ ss ks w. TakesUpTo ss [] (next_images 1 ks w) middle end in
    let p = err_from_is_err_and c.from_residual.result c.from_residual.ensures.1 in
    rw (p.1, p.2) (λ memory.
    let here : Part specs kinds (after_digest n kinds worker) =
    subst (λ (w : IntakeValue). Part specs kinds w) was.taken
    (subst (λ (ks : List Kind). Part specs ks c.loop.self) was.schema
    (subst (λ (ss : List KeySpecValue). Part ss c.loop.maker.schema c.loop.self) was.specs (c.in_err-images.ensures.part memory))) in (
      n,
      stops_behind n kinds c.loop.maker.schema worker c.loop.self c.digest.new.self was.taken was.schema c.in_err-images.ensures.failed,
      takes_then specs (next_images n kinds worker) (image_behind n kinds worker) start middle end was.holds here,
    ))

pub returns-in_err-images-clause-full : goal.returns-in_err-images-clause-full
returns-in_err-images-clause-full g c =
    let worker = c.args.self.now in
    let maker = c.args.maker.now in
    let was = c.loop.invariant in
    let n = c.loop.counter in
    let begun = c.loop.maker.begun in
    let start : Holdings = record { runs = map g.S.Spool.runs c.args.spools.now; begun = maker.begun } in
    let middle : Holdings = record { runs = map g.S.Spool.runs c.loop.spools; begun = begun } in
    let build = ap (λ (w : IntakeValue). w.build) was.taken in
    let end = ap (λ (w : IntakeValue). w.end) was.taken in
    let stops = stops_behind n maker.schema c.loop.maker.schema worker c.loop.self c.digest.new.self was.taken was.schema c.in_err-images.ensures.failed in
    let long : length c.digest.new.spools ≡ length maker.specs = omega (arith, c.digest.auto.spools, c.loop.auto.spools, c.requires.spools) in
    let p = err_from_is_err_and c.from_residual.result c.from_residual.ensures.1 in
    rw (p.1, p.2) (λ no_page.
    full_given g.S.Spool.is_full g.S.Spool.runs g.S.Spool.open_run 4096 1 start.runs middle.runs c.digest.new.spools
    (AreHeldWith c.loop.maker.specs (next_images 1 c.loop.maker.schema c.loop.self) middle)
    (AreHeldWithTaken maker.specs maker.schema worker c.digest.new.self start) (omega arith)
    (λ i less. full_till n maker.specs maker.schema worker start middle c.laws.ensures.specs was.readable was.holds i (omega (arith, less, long)))
    (λ i pairs less are.
    let same : AreHeldWith maker.specs (next_images 1 maker.schema c.loop.self) middle i pairs =
    subst (λ (ks : List Kind). AreHeldWith maker.specs (next_images 1 ks c.loop.self) middle i pairs) was.schema
    (subst (λ (ss : List KeySpecValue). AreHeldWith ss (next_images 1 c.loop.maker.schema c.loop.self) middle i pairs) was.specs are) in
    let all = with_more n 1 maker.specs maker.schema worker c.loop.self start middle c.laws.ensures.specs was.readable was.holds build end i
    (omega (arith, less, long)) pairs same in
    (all.0, (n + 1, ap (λ (w : IntakeValue). w.end) stops.left, all.1), all.2))
    (c.in_err-images.ensures.full no_page))

pub returns-in_err-seal_with-clause-full : goal.returns-in_err-seal_with-clause-full
returns-in_err-seal_with-clause-full g c =
    let worker = c.args.self.now in
    let maker = c.args.maker.now in
    let was = c.loop.invariant in
    let n = c.loop.counter in
    let begun = c.loop.maker.begun in
    let start : Holdings = record { runs = map g.S.Spool.runs c.args.spools.now; begun = maker.begun } in
    let middle : Holdings = record { runs = map g.S.Spool.runs c.loop.spools; begun = begun } in
    let build = ap (λ (w : IntakeValue). w.build) was.taken in
    let end = ap (λ (w : IntakeValue). w.end) was.taken in
    let long : length c.seal_with.new.spools ≡ length maker.specs = omega (arith, c.seal_with.auto.spools, c.loop.auto.spools, c.requires.spools) in
    let p = err_from_is_err_and c.from_residual-in_err-seal_with.result c.from_residual-in_err-seal_with.ensures.1 in
    rw (p.1, p.2) (λ no_page.
    full_given g.S.Spool.is_full g.S.Spool.runs g.S.Spool.open_run 1 1 start.runs middle.runs c.seal_with.new.spools (AreHeld middle)
    (AreHeldWithTaken maker.specs maker.schema worker c.loop.self start) (omega arith)
    (λ i less. full_till n maker.specs maker.schema worker start middle c.laws.ensures.specs was.readable was.holds i (omega (arith, less, long)))
    (λ i pairs less are.
    let none : AreHeldWith maker.specs (next_images 0 maker.schema c.loop.self) middle i pairs = ([], refl, are ∙ sym (append-nil (held_at i middle))) in
    let all = with_more n 0 maker.specs maker.schema worker c.loop.self start middle c.laws.ensures.specs was.readable was.holds build end i
    (omega (arith, less, long)) pairs none in
    let same : n + 0 ≡ n = omega arith in
    (all.0, (n, end, subst (λ (j : ℕ). AreHeldWith maker.specs (next_images j maker.schema worker) start i all.0) same all.1), all.2))
    c.in_err-seal_with.ensures.full)

pub overflow_add-images : goal.overflow_add-images
overflow_add-images g c =
    omega (arith, next_few c.loop.counter c.args.maker.now.schema c.args.self.now, next_few 1 c.loop.maker.schema c.loop.self, c.in_ok-images.ensures.count)

pub loop-preserved : goal.loop-preserved
loop-preserved g c =
    let worker = c.args.self.now in
    let n = c.loop.counter in
    let was = c.loop.invariant in
    let kinds = c.args.maker.now.schema in
    let specs = c.args.maker.now.specs in
    let start : Holdings = record { runs = map g.S.Spool.runs c.args.spools.now; begun = c.args.maker.now.begun } in
    let middle : Holdings = record { runs = map g.S.Spool.runs c.loop.spools; begun = c.loop.maker.begun } in
    let after : Holdings = record { runs = map g.S.Spool.runs c.digest.new.spools; begun = c.digest.new.maker.begun } in
    let build = ap (λ (w : IntakeValue). w.build) was.taken in
    let end = ap (λ (w : IntakeValue). w.end) was.taken in
    let images = images_more n 1 kinds worker c.loop.self build end in
    let one : TakesAll c.loop.maker.specs (next_images 1 kinds c.loop.self) middle after =
    subst (λ (ks : List Kind). TakesAll c.loop.maker.specs (next_images 1 ks c.loop.self) middle after) was.schema c.in_ok-images.ensures.holds in
    let then : TakesAll specs (next_images 1 kinds c.loop.self) middle after =
    subst (λ (ss : List KeySpecValue). TakesAll ss (next_images 1 kinds c.loop.self) middle after) was.specs one in
    record {
      taken = c.in_ok-images.ensures.taken
          ∙ (ap (λ (ks : List Kind). after_digest 1 ks c.loop.self) was.schema ∙ (ap (after_digest 1 kinds) was.taken ∙ digest_more n 1 kinds worker));
      holds = subst (λ (xs : List ImageValue). TakesAll specs xs start after) (sym images)
          (takes_more specs (next_images n kinds worker) (next_images 1 kinds c.loop.self) start middle after was.holds then);
      ready = c.in_ok-images.ensures.ready;
      sorted = λ all. c.digest.ensures.sorted (was.sorted all);
      intact = λ all. c.digest.ensures.intact (was.intact all);
      stakes = c.digest.ensures.stakes ∙ was.stakes;
      schema = c.digest.ensures.schema ∙ was.schema;
      specs = c.digest.ensures.specs ∙ was.specs;
      readable =
          let next = subst (λ (ks : List Kind). All IsReadable (next_images 1 ks c.loop.self)) was.schema c.in_ok-images.ensures.readable in
          subst (λ (xs : List ImageValue). All IsReadable xs) (sym images)
          (All-append IsReadable (next_images n kinds worker) (next_images 1 kinds c.loop.self) was.readable next);
      images =
          let count = c.in_ok-images.ensures.count ∙ ap (λ (ks : List Kind). length (next_images 1 ks c.loop.self)) was.schema in
          let both = length-append (next_images n kinds worker) (next_images 1 kinds c.loop.self) in
          omega (arith, was.images, count, ap length images, both);
    }

pub returns-clause-holds : goal.returns-clause-holds
returns-clause-holds g c =
    let worker = c.args.self.now in
    let was = c.loop.invariant in
    let kinds = c.args.maker.now.schema in
    let specs = c.args.maker.now.specs in
    let start : Holdings = record { runs = map g.S.Spool.runs c.args.spools.now; begun = c.args.maker.now.begun } in
    let middle : Holdings = record { runs = map g.S.Spool.runs c.loop.spools; begun = c.loop.maker.begun } in
    let all : c.loop.counter ≡ length worker.end.known = omega (arith, c.loop-test.false, c.loop.auto.counter-end, c.seen-end.ensures) in
    let takes = subst (λ (n : ℕ). TakesAll specs (next_images n kinds worker) start middle) all was.holds in
    takes_sealed specs (next_images (length worker.end.known) kinds worker) start middle (map g.S.Spool.runs c.seal_with.new.spools) c.seal_with.new.self.begun takes
    (c.laws-2.ensures.begun ∙ ap length was.specs) c.laws-2.ensures.short c.in_ok-seal_with.ensures.sealed c.in_ok-seal_with.ensures.none_open

pub returns-clause-readable : goal.returns-clause-readable
returns-clause-readable g c =
    let all : c.loop.counter ≡ length c.args.self.now.end.known = omega (arith, c.loop-test.false, c.loop.auto.counter-end, c.seen-end.ensures) in
    subst (λ (n : ℕ). All IsReadable (next_images n c.args.maker.now.schema c.args.self.now)) all c.loop.invariant.readable
