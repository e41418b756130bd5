use Rattle.std.proofs.Common.{◌≡◌, ◌<◌, ℕ, length, Some}
use Rattle.std.specs.List.{slice_get}
use Rattle.page_workers.specs.WorkerValue.{WorkerValue}
use Rattle.crew.specs.Places.{places_of}
use Rattle.crew.specs.Working.{IsSealed}
use Rattle.crew.proofs.online_build.scanning.seal_all.Given as goal

abbrev pub invariant-loop-number : goal.invariant-loop-number
invariant-loop-number g l = record {
  back : places_of l.workers.items ≡ places_of l.fn.workers.items;
  many : length l.workers.items ≡ length l.fn.workers.items;
  sealed : (k : ℕ) (worker : WorkerValue) → k < l.number → slice_get l.workers.items k ≡ Some worker → IsSealed worker;
}
