use Rattle.bench.proofs.threads.by_threads.Given as goal

-- the table is named by what will know its log, and by its own rings
abbrev pub ghosts-run_on-T-Named : goal.ghosts-run_on-T-Named
ghosts-run_on-T-Named g a = record { table = a.parts.word }

abbrev pub ghosts-run_on-T-TableRings : goal.ghosts-run_on-T-TableRings
ghosts-run_on-T-TableRings g a = record { pages = a.parts.parts.pages; sides = a.parts.parts.sides }

abbrev pub ghosts-run_on-T-Opened : goal.ghosts-run_on-T-Opened
ghosts-run_on-T-Opened g a = record { opening = a.parts.parts.heap.log }
