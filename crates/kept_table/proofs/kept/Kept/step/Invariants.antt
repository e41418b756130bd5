use Rattle.kept_table.proofs.kept.Kept.step.Given as goal

-- the table is named by its own rings
abbrev pub ghosts-stepped : goal.ghosts-stepped
ghosts-stepped a = record { pages = a.table.pages; sides = a.table.sides }
