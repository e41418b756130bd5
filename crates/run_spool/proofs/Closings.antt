-- Runs that are closed one behind the other.
use Rattle.std.proofs.Common.{◌<◌, List, [], ◌∷◌, length, arith}
use Rattle.std.proofs.lemmas.List.Elements.{All-push}
use Rattle.run_spool.specs.Spools.{NoneEmpty, with_closed_run}

-- closing a run leaves none empty
pub closed_none_empty : {X : Type 0} (runs : List (List X)) (run : List X) → NoneEmpty runs → NoneEmpty (with_closed_run runs run)
closed_none_empty runs [] some = some
closed_none_empty runs (first ∷ run) some = All-push (λ closed. 0 < length closed) runs (first ∷ run) some (omega arith)
