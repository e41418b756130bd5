use Rattle.std.proofs.Common.{◌≡◌, ℕ, ◌<◌, map}
use Rattle.race.specs.Sessions.{commands_of, share_of, shares}
use Rattle.race.proofs.splitting.sessions_of.Given as goal

abbrev pub invariant-loop-number : goal.invariant-loop-number
invariant-loop-number l = record {
  made : map share_of l.sessions.items ≡ shares l.number l.fn.steps.items;
  left : (session : ℕ) → l.number < session → commands_of session l.left.items ≡ commands_of session l.fn.steps.items;
}
