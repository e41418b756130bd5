use Rattle.bench.proofs.turns.by_turns.Given as goal

-- the table is named by its own rings
abbrev pub ghosts-run_on : goal.ghosts-run_on
ghosts-run_on a = record { pages = a.parts.pages; sides = a.parts.sides }
