use Rattle.std.proofs.Common.{ℕ, List, [], get_or, map, refl, ap, sym, subst, arith}
use Rattle.std.specs.Prelude.{IfErr, OnOk}
use Rattle.std.specs.List.{All}
use Rattle.std.proofs.lemmas.List.Sorted.{IsPermutation-refl}
use Rattle.keybytes.specs.declared.pair.Pair.{Pair}
use Rattle.heap_table.specs.Images.{IsReadable}
use Rattle.run_maker.specs.Making.{Holdings}
use Rattle.run_maker.specs.FullSpools.{HasFullOf}
use Rattle.run_maker.proofs.FullSpools.{all_of, full_given}
use Rattle.run_maker.proofs.Spoolings.{no_runs}
use Rattle.run_spool.specs.Spools.{NoPageOnlyIf}
use Rattle.page_workers.specs.declared.turn.Turn.{Turn}
use Rattle.page_workers.specs.Holding.{AreHeldWith}
use Rattle.page_workers.specs.Turns.{AreHeldWithTaken, least_pairs, turn_images}
use Rattle.page_workers.specs.IntakeValue.{IntakeValue}
use Rattle.page_workers.specs.Work.{next_images}
use Rattle.page_workers.proofs.Turns.{both_err}
use Rattle.page_workers.proofs.intake.Intake.take.Goals as goal

pub returns-in-Digest-clause-full : goal.returns-in-Digest-clause-full
returns-in-Digest-clause-full g c =
    let spool = g.S.Spool in
    let worker = c.args.self.now in
    let maker = c.args.maker.now in
    let spools = c.digest.new.spools in
    let held : Holdings = record { runs = map spool.runs c.args.spools.now; begun = maker.begun } in
    let Next : ℕ → List Pair → Type 0 = AreHeldWith maker.specs (next_images 1 maker.schema worker) held in
    let Taken : ℕ → List Pair → Type 0 = AreHeldWithTaken maker.specs maker.schema worker c.digest.new.self held in
    let Full : Turn → Type 0 = λ turn.
    IfErr c.digest.result (NoPageOnlyIf (HasFullOf spool.is_full spool.runs spool.open_run (least_pairs turn) held.runs Taken spools)) in
    subst Full (sym c.in-Digest.is) (both_err c.digest.result (λ stops fault full page.
    full_given spool.is_full spool.runs spool.open_run 4096 4096 held.runs held.runs spools Next Taken (omega arith)
    (λ i less. no_runs (get_or held.runs i []) (get_or held.runs i []) refl)
    (λ i pairs less are. (pairs, (1, ap (λ (w : IntakeValue). w.end) stops.left, are), all_of pairs pairs (IsPermutation-refl pairs))) (full page))
    c.digest.ensures.failed c.digest.ensures.full)

pub returns-in-Seal-clause-full : goal.returns-in-Seal-clause-full
returns-in-Seal-clause-full g c =
    let spool = g.S.Spool in
    let maker = c.args.maker.now in
    let held : Holdings = record { runs = map spool.runs c.args.spools.now; begun = maker.begun } in
    let Taken : ℕ → List Pair → Type 0 = AreHeldWithTaken maker.specs maker.schema c.args.self.now c.seal.new.self held in
    let Full : Turn → Type 0 = λ turn.
    IfErr c.seal.result (NoPageOnlyIf (HasFullOf spool.is_full spool.runs spool.open_run (least_pairs turn) held.runs Taken c.seal.new.spools)) in
    subst Full (sym c.in-Seal.is) c.seal.ensures.full

pub returns-in-Digest-clause-part : goal.returns-in-Digest-clause-part
returns-in-Digest-clause-part g c = both_err c.digest.result (λ stops fault part memory. (0, stops, part memory)) c.digest.ensures.failed c.digest.ensures.part

pub returns-in-Seal-clause-readable : goal.returns-in-Seal-clause-readable
returns-in-Seal-clause-readable g c =
    subst (λ (turn : Turn). OnOk c.seal.result (All IsReadable (turn_images turn c.args.maker.now.schema c.args.self.now))) (sym c.in-Seal.is) c.seal.ensures.readable
