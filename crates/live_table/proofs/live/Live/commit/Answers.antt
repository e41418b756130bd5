use Rattle.std.proofs.Common.{ap, sym, subst}
use Rattle.heap_table.specs.HeapState.{HeapState}
use Rattle.heap_table.specs.HeapValue.{HeapValue}
use Rattle.heap_log.specs.declared.record.LogRec.TheVariants.{Commit}
use Rattle.ready_indexes.specs.Following.{AllFollow, GoesOn}
use Rattle.live_lemmas.specs.Builds.{LiveValue, StandsBeside}
use Rattle.building.specs.Rings.{all_sent}
use Rattle.live_lemmas.proofs.Following.{committed, commit_pages, commit_workers, commit_works, refused_same}
use Rattle.table_scan.proofs.TableBuilds.{commit_follows}
use Rattle.table_scan.proofs.SideKept.{commit_sides}
use Rattle.live_table.proofs.live.Live.commit.Goals as goal
use Rattle.table_scan.specs.SideFiles.{put_ends}

pub invariant_of-self : goal.invariant_of-self
invariant_of-self g c =
    let old = c.self.inside in
    let new : HeapState = c.commit.new.self.state in
    let done = committed old.heap c.commit.new.self c.args.txn c.commit.result c.commit.ensures.committed in
    let same = refused_same _ old.heap c.commit.new.self _ c.in_err-number.ensures.committed in (
      subst (λ (h : HeapValue). AllFollow h.state.schema h.state.log old.ready.indexes) (sym same) c.self.invariant.0,
      commit_follows old.heap.state new c.args.txn old.build done c.self.invariant.1,
      commit_sides old.heap.state new c.args.txn old.build old.sides.items done c.self.invariant.1 c.self.invariant.2,
      commit_pages old.heap.state new c.args.txn old.builds old.build (all_sent old.pages.items) done c.self.invariant.1 c.self.invariant.3,
      c.self.invariant.4,
      c.self.invariant.5,
      c.self.invariant.6,
    )

pub returns-clause-works : goal.returns-clause-works
returns-clause-works g c = λ building works.
    let old = c.self.inside in
    let done = committed old.heap c.commit.new.self c.args.txn c.commit.result c.commit.ensures.committed in
    let before = subst (λ (l : LiveValue). StandsBeside l building) (sym c.self.view_is) works in
    record {
      work = commit_works old.heap.state c.commit.new.self.state c.args.txn old.build building.work done c.self.invariant.1 before.work;
      workers = commit_workers old.heap.state c.commit.new.self.state c.args.txn old.pages.items (put_ends old.sides.items) building old.build building.work done before.workers;
    }

pub invariant_of-self-2 : goal.invariant_of-self-2
invariant_of-self-2 g c =
    let old = c.self.inside in
    let new : HeapState = c.commit.new.self.state in
    let done = committed old.heap c.commit.new.self c.args.txn c.commit.result c.commit.ensures.committed in
    let committed_is = c.in_ok-number.ensures.committed.1.1 in
    let goes : GoesOn old.heap.state.log (Commit c.args.txn) new.log =
    record { log = ap (λ (h : HeapState). h.log) committed_is; rows = c.commit.ensures.rows; undos = c.laws.ensures.undos } in (
      subst (λ kinds. AllFollow kinds new.log c.commit-2.new.self.indexes) (sym (ap (λ (h : HeapState). h.schema) committed_is))
          (c.commit-2.ensures.follow old.heap.state.schema old.heap.state.log new.log goes c.self.invariant.0),
      commit_follows old.heap.state new c.args.txn old.build done c.self.invariant.1,
      commit_sides old.heap.state new c.args.txn old.build old.sides.items done c.self.invariant.1 c.self.invariant.2,
      commit_pages old.heap.state new c.args.txn old.builds old.build (all_sent old.pages.items) done c.self.invariant.1 c.self.invariant.3,
      c.self.invariant.4,
      c.self.invariant.5,
      c.self.invariant.6,
    )
