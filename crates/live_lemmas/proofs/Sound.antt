-- The rings were sent each page of a build once.
use Rattle.std.proofs.Common.{◌≡◌, ℕ, List, length, Option, Some, None, arith}
use Rattle.std.specs.Prelude.{IfSome}
use Rattle.keybytes.specs.declared.kind.Kind.{Kind}
use Rattle.heap_log.specs.declared.record.LogRec.{LogRec}
use Rattle.page_workers.specs.declared.copied.Copied.{Copied}
use Rattle.table_scan.specs.TableBuilds.{BuildFollows}
use Rattle.build_events.specs.CoreState.{BuildState}
use Rattle.live_lemmas.specs.Invariant.{EachPageOnce}
use Rattle.live_lemmas.specs.Rings.{PagesFollow}
use Rattle.build_events.proofs.ScanSteps.{no_spec}

-- the rings were sent the pages of the running build, each once
pub runs_once :
    (kinds : List Kind) (log : List LogRec) (builds : ℕ) (build : Option BuildState) (all : List (List Copied)) → BuildFollows kinds log build
    → PagesFollow kinds log builds build all → length all ≡ 16 → IfSome build (λ b. EachPageOnce kinds log b all)
runs_once kinds log builds None all follows put sixteen = tt
runs_once kinds log builds (Some b) all follows put sixteen = record {
  once = (follows.scanned no_spec).once;
  for_workers = follows.for_workers;
  ringed = omega (arith, follows.few_workers, sixteen);
  sent = put.put;
}
