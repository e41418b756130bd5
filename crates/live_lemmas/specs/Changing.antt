-- What goes on beside a change of a row.
use Rattle.std.specs.Prelude.{◌≡◌, ℕ, List, length, Option}
use Rattle.heap_table.specs.HeapState.{HeapState}
use Rattle.page_workers.specs.declared.copied.Copied.{Copied}
use Rattle.side_file.specs.SideFileValue.{SideFileValue}
use Rattle.building.specs.BuildingValue.{WorkValue}
use Rattle.building.specs.WorkOn.{WorkMatches}
use Rattle.table_scan.specs.TableBuilds.{BuildFollows}
use Rattle.build_events.specs.CoreState.{BuildState}
use Rattle.live_lemmas.specs.Rings.{PagesFollow}
use Rattle.table_scan.specs.SideFiles.{SidesFollow, put_ends}

-- the running build and the side-files of its indexes follow the table
pub record BuildHears (heap : HeapState) (build : Option BuildState) (sides : List SideFileValue) : Type 0 where
  pub follows : BuildFollows heap.schema heap.log build
  pub noted : SidesFollow heap.log build sides
  pub eight : length sides ≡ 8

-- after a change too, and what was put for the build, and its work, goes on as it was
pub record HasHeard (build : Option BuildState) (old : HeapState) (olds : List SideFileValue) (new : HeapState) (news : List SideFileValue) : Type 0 where
  pub follows : BuildFollows new.schema new.log build
  pub noted : SidesFollow new.log build news
  pub ends : put_ends news ≡ put_ends olds
  pub put : (builds : ℕ) (all : List (List Copied)) → PagesFollow old.schema old.log builds build all → PagesFollow new.schema new.log builds build all
  pub works : (work : Option WorkValue) → WorkMatches old.schema old.log build work → WorkMatches new.schema new.log build work
  pub columns : new.schema ≡ old.schema
