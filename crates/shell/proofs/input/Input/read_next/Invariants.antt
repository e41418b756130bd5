use Rattle.std.proofs.Common.{◌≡◌, []}
use Rattle.shell.specs.Inputs.{Gives, StayKnown}
use Rattle.shell.proofs.input.Input.read_next.Given as goal

abbrev pub invariant-loop : goal.invariant-loop
invariant-loop g l = Gives l.fn.self [] l.self × (l.self.waiting ≡ []) × StayKnown l.fn.self.bytes l.self.bytes
