use Rattle.std.proofs.Common.{◌≡◌, ◌+◌, length}
use Rattle.catch_up.proofs.Taking.{AppliedSoFar}
use Rattle.catch_up.proofs.applying.apply.Given as goal

abbrev pub invariant-loop : goal.invariant-loop
invariant-loop l = record {
  so_far : AppliedSoFar l.counter l.initial.built l.initial.end l.built l.end;
  rest : length l.end.known + l.counter ≡ length l.initial.end.known;
}
