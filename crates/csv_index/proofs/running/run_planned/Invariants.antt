use Rattle.csv_index.proofs.running.run_planned.Given as goal

-- the table is named by what will know its log, and by its own rings
abbrev pub ghosts-run_named-T-Named : goal.ghosts-run_named-T-Named
ghosts-run_named-T-Named g a = record { table = a.parts.word }

abbrev pub ghosts-run_named-T-TableRings : goal.ghosts-run_named-T-TableRings
ghosts-run_named-T-TableRings g a = record { pages = a.parts.parts.pages; sides = a.parts.parts.sides }

abbrev pub ghosts-run_named-T-Opened : goal.ghosts-run_named-T-Opened
ghosts-run_named-T-Opened g a = record { opening = a.parts.parts.heap.log }
