use Rattle.std.proofs.Common.{◌≡◌, length}
use Rattle.crew.specs.Places.{places_of}
use Rattle.crew.proofs.online_build.scanning.scan_rest.Given as goal

abbrev pub invariant-loop-range : goal.invariant-loop-range
invariant-loop-range g l = record {
  back : places_of l.workers.items ≡ places_of l.fn.workers.items;
  many : length l.workers.items ≡ length l.fn.workers.items;
}
