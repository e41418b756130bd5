use Rattle.picture.proofs.run.see.Given as goal

-- the table is named by its own rings
abbrev pub ghosts-run_table : goal.ghosts-run_table
ghosts-run_table a = record { pages = a.parts.pages; sides = a.parts.sides }
