-- The build after a call of the table.
use Rattle.std.proofs.Common.{◌≡◌, ◌⊎◌, inl, inr, ℕ, List, Option, Result, Ok, Err, sym, ap, subst}
use Rattle.keybytes.specs.Answered.{Answered, Refused}
use Rattle.keybytes.specs.declared.fault.Fault.{Fault}
use Rattle.heap_table.specs.Calls.{OnState, Commits}
use Rattle.heap_table.specs.HeapState.{HeapState, txn_refusal, after_commit}
use Rattle.heap_table.specs.HeapValue.{HeapValue}
use Rattle.page_workers.specs.declared.copied.Copied.{Copied}
use Rattle.building.specs.BuildingValue.{WorkValue, BuildingValue}
use Rattle.building.specs.WorkOn.{WorkMatches, WorkersFollow}
use Rattle.table_scan.specs.TableBuilds.{BuildFollows}
use Rattle.live_lemmas.specs.Rings.{PagesFollow}
use Rattle.build_events.specs.CoreState.{BuildState}
use Rattle.heap_log.specs.declared.record.LogRec.TheVariants.{Commit}
use Rattle.side_file.specs.Ends.{PutEnd}
use Rattle.side_file.specs.declared.entry.Entry.{Entry}
use Rattle.live_lemmas.proofs.Puts.{pages_kept}
use Rattle.live_lemmas.proofs.TableBuilds.{work_kept}

-- what a commit leaves of the table: it is done, or nothing changed
pub committed :
    (old new : HeapValue) (txn : ℕ) (answer : Result ℕ Fault) → Answered (txn_refusal old.state txn) (OnState (Commits txn)) old answer new
    → (new.state ≡ after_commit old.state txn) ⊎ (new.state ≡ old.state)
committed old new txn (Ok number) (free, done) = inl done.1
committed old new txn (Err fault) (inl caused) = inr (ap (λ (h : HeapValue). h.state) caused.1)
committed old new txn (Err fault) (inr wants) = inr (ap (λ (h : HeapValue). h.state) wants.2)

-- a call that is refused leaves the table as it was
pub refused_same : {S : Type 0} (cause : Option Fault) (old new : S) (fault : Fault) → Refused cause (λ before after. after ≡ before) old fault new → new ≡ old
refused_same cause old new fault (inl caused) = caused.1
refused_same cause old new fault (inr wants) = wants.2

-- after a commit the work of the build is its own
pub commit_works :
    (old new : HeapState) (txn : ℕ) (build : Option BuildState) (work : Option WorkValue) → (new ≡ after_commit old txn) ⊎ (new ≡ old)
    → BuildFollows old.schema old.log build → WorkMatches old.schema old.log build work → WorkMatches new.schema new.log build work
commit_works old new txn build work (inl done) is works =
    subst (λ (h : HeapState). WorkMatches h.schema h.log build work) (sym done) (work_kept old.schema old.log (Commit txn) build work is works)
commit_works old new txn build work (inr refused) is works = subst (λ (h : HeapState). WorkMatches h.schema h.log build work) (sym refused) works

-- and its workers are
pub commit_workers :
    (old new : HeapState) (txn : ℕ) (pages : List (PutEnd Copied)) (puts : List (PutEnd Entry)) (building : BuildingValue) (build : Option BuildState)
    (work : Option WorkValue) → (new ≡ after_commit old txn) ⊎ (new ≡ old) → WorkersFollow old.schema pages puts building build work
    → WorkersFollow new.schema pages puts building build work
commit_workers old new txn pages puts building build work (inl done) follow =
    subst (λ (h : HeapState). WorkersFollow h.schema pages puts building build work) (sym done) follow
commit_workers old new txn pages puts building build work (inr refused) follow =
    subst (λ (h : HeapState). WorkersFollow h.schema pages puts building build work) (sym refused) follow

-- the rings were sent its pages
pub commit_pages :
    (old new : HeapState) (txn builds : ℕ) (build : Option BuildState) (all : List (List Copied)) → (new ≡ after_commit old txn) ⊎ (new ≡ old)
    → BuildFollows old.schema old.log build → PagesFollow old.schema old.log builds build all → PagesFollow new.schema new.log builds build all
commit_pages old new txn builds build all (inl done) is put =
    subst (λ (h : HeapState). PagesFollow h.schema h.log builds build all) (sym done)
    (pages_kept old.schema old.log (Commit txn) builds build all is put)
commit_pages old new txn builds build all (inr refused) is put =
    subst (λ (h : HeapState). PagesFollow h.schema h.log builds build all) (sym refused) put
