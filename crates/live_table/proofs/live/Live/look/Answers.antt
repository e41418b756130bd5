use Rattle.std.proofs.Common.{◌≡◌, length, subst, arith}
use Rattle.std.specs.Prelude.{IfSome}
use Rattle.side_file.specs.Ends.{PutEnd}
use Rattle.page_workers.specs.WorkerValue.{WorkerValue}
use Rattle.page_workers.specs.declared.copied.Copied.{Copied}
use Rattle.building.specs.Rings.{unseen}
use Rattle.building.proofs.Looks.{same_rings}
use Rattle.live_lemmas.proofs.Looked.{follow_looked, of_builds_looked, put_ends_looked}
use Rattle.page_workers.proofs.Places.{as_long, there_is}
use Rattle.live_table.proofs.live.Live.look.Goals as goal

pub waiting-requires-clause-rings : goal.waiting-requires-clause-rings
waiting-requires-clause-rings g c = c.self.invariant.5.pages_are

pub returns-clause-sees : goal.returns-clause-sees
returns-clause-sees g c =
    let looked = c.waiting.ensures.looked in
    let new = c.waiting.new.self in
    let workers = as_long unseen unseen new.workers c.args.building.now.workers looked.same in
    let pages =
    as_long (λ (end : PutEnd Copied). end.ring) (λ (end : PutEnd Copied). end.ring) c.waiting.new.pages.items c.self.inside.pages.items
    (same_rings c.self.inside.pages.items c.waiting.new.pages.items looked.puts) in
    let it = there_is new.workers c.args.worker (omega (arith, workers, c.requires)) in
    let end = there_is c.waiting.new.pages.items c.args.worker (omega (arith, pages, c.self.invariant.5.sixteen, workers, c.waiting.ensures.few, c.requires)) in
    record {
      it = it.0;
      there = it.1;
      end = end.0;
      ring = end.1;
      in_order = c.waiting.ensures.in_order end.0 it.0 end.1 it.1;
      seen = subst (λ o. IfSome o (λ (w : WorkerValue). c.waiting.result ≡ length w.intake.end.known)) it.1 c.waiting.ensures.seen;
      free = c.waiting.ensures.free end.0 end.1;
    }

pub invariant_of-self : goal.invariant_of-self
invariant_of-self g c =
    let before = c.self.invariant in
    let looked = c.waiting.ensures.looked.puts in (
      before.0,
      before.1,
      before.2,
      follow_looked _ _ looked _ _ _ _ before.3,
      of_builds_looked _ _ looked _ before.4,
      put_ends_looked _ _ looked _ _ _ before.5,
      before.6,
    )

pub returns-clause-pages : goal.returns-clause-pages
returns-clause-pages g c = (put_ends_looked _ _ c.waiting.ensures.looked.puts _ _ _ c.self.invariant.5).sixteen

pub returns-clause-put : goal.returns-clause-put
returns-clause-put g c = follow_looked _ _ c.waiting.ensures.looked.puts _ _ _ _ c.self.invariant.3
