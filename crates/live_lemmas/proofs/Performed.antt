-- A change that was made ready and is performed leaves the work of a build and its rings as they were.
use Rattle.std.proofs.Common.{ℕ, List, Option, sym, subst}
use Rattle.std.specs.Prelude.{IfSome}
use Rattle.std.specs.List.{All}
use Rattle.heap_table.specs.Kept.{IsTableRow}
use Rattle.std.proofs.lemmas.List.Elements.{All-weaker}
use Rattle.heap_table.specs.declared.ready.Ready.{Ready}
use Rattle.heap_table.specs.HeapState.{HeapState}
use Rattle.heap_table.specs.HeapValue.{HeapValue}
use Rattle.heap_table.specs.Pages.{SetsRow}
use Rattle.heap_table.specs.Ready.{IsReady, IsLawfulChange, after_ready}
use Rattle.page_workers.specs.declared.copied.Copied.{Copied}
use Rattle.building.specs.BuildingValue.{WorkValue}
use Rattle.building.specs.WorkOn.{WorkMatches}
use Rattle.table_scan.specs.TableBuilds.{BuildFollows}
use Rattle.build_events.specs.CoreState.{BuildState}
use Rattle.ready_indexes.specs.Following.{AllFollow, FitsColumns, Follows, GuardedIndex}
use Rattle.live_lemmas.specs.Rings.{PagesFollow}
use Rattle.live_lemmas.proofs.Puts.{pages_kept}
use Rattle.live_lemmas.proofs.TableBuilds.{work_kept}
use Rattle.table_scan.proofs.Performed.{fits_of, grows, rec_ready, schema_is}

module _ (h : HeapValue) (ready : Ready) (is : IsReady h ready) (change : IsLawfulChange h.state ready) (sets : SetsRow h.state.log ready.rid ready.new (after_ready h.state ready).log) where
  pub works_on :
      (build : Option BuildState) (work : Option WorkValue) → BuildFollows h.state.schema h.state.log build → WorkMatches h.state.schema h.state.log build work
      → WorkMatches (after_ready h.state ready).schema (after_ready h.state ready).log build work
  works_on build work is_of works =
      subst (λ k. WorkMatches k (after_ready h.state ready).log build work) (sym (schema_is h ready is change sets))
      (subst (λ l. WorkMatches h.state.schema l build work) (sym (grows h ready is change sets)) (work_kept h.state.schema h.state.log (rec_ready ready) build work is_of works))

  pub pages_on :
      (builds : ℕ) (build : Option BuildState) (all : List (List Copied)) → BuildFollows h.state.schema h.state.log build
      → PagesFollow h.state.schema h.state.log builds build all → PagesFollow (after_ready h.state ready).schema (after_ready h.state ready).log builds build all
  pages_on builds build all is_of put =
      subst (λ k. PagesFollow k (after_ready h.state ready).log builds build all) (sym (schema_is h ready is change sets))
      (subst (λ l. PagesFollow h.state.schema l builds build all) (sym (grows h ready is change sets)) (pages_kept h.state.schema h.state.log (rec_ready ready) builds build all is_of put))

-- the rows of a change fit the columns of each ready index
pub fits_each :
    (h : HeapState) (ready : Ready) → IsLawfulChange h ready → (indexes : List GuardedIndex) → AllFollow h.schema h.log indexes
    → All (λ it. FitsColumns ready it.index.spec) indexes
fits_each h ready change indexes follow = All-weaker (Follows h.schema h.log) (λ it. FitsColumns ready it.index.spec) (λ it follows. record {
  old = fits_of it.index.spec.kinds ready.old (subst (λ k. IfSome ready.old (IsTableRow k)) (sym follows.columns) change.old_fits);
  new = fits_of it.index.spec.kinds ready.new (subst (λ k. IfSome ready.new (IsTableRow k)) (sym follows.columns) change.new_fits);
}) indexes follow
