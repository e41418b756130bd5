-- A table whose build is given up.
use Rattle.std.proofs.Common.{◌≡◌, Option, None, Some, refl}
use Rattle.build_events.specs.CoreState.{BuildState, LiveState, abandoned, without}

-- no build runs then
pub abandoned_none : (live : LiveState) → (abandoned live).build ≡ None
abandoned_none live = gone live.build refl where
  gone : (build : Option BuildState) → live.build ≡ build → (without build live).build ≡ None
  gone None is = is
  gone (Some b) is = refl

-- and the log is as it was
pub abandoned_log : (live : LiveState) → (abandoned live).heap.log ≡ live.heap.log
abandoned_log live = same live.build where
  same : (build : Option BuildState) → (without build live).heap.log ≡ live.heap.log
  same None = refl
  same (Some b) = refl
