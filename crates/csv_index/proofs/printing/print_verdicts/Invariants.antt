use Rattle.std.proofs.Common.{◌≡◌, take}
use Rattle.std.specs.List.{list_all}
use Rattle.crew.specs.MadeReady.{is_ready}
use Rattle.csv_index.proofs.printing.print_verdicts.Given as goal

abbrev pub invariant-loop-place : goal.invariant-loop-place
invariant-loop-place g l = l.all_ready ≡ list_all is_ready (take l.place l.verdicts)
