-- How many bytes plain pairs take.
use Rattle.std.proofs.Common.{◌≡◌, ℕ, List, [], ◌∷◌, refl, arith}
use Rattle.std.specs.List.{sum_by}
use Rattle.std.proofs.lemmas.List.Sums.{sum_by-cons}
use Rattle.keybytes.specs.declared.pair.Pair.{Pair}
use Rattle.run_spool.specs.Bytes.{pair_size}
use Rattle.run_spool.specs.Pages.{pairs_size}
use Rattle.run_spool.specs.PlainPages.{plain_size}

-- together they take what each does, whatever stands before it
pub plain_sizes : (before : List ℕ) (ps : List Pair) → pairs_size plain_size before ps ≡ sum_by pair_size ps
plain_sizes before [] = refl
plain_sizes before (p ∷ ps) = omega (arith, sum_by-cons pair_size p ps, plain_sizes p.key ps)
