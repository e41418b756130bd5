use Rattle.kept_table.proofs.kept.Kept.abandon.Given as goal

-- the table is named by its own rings
abbrev pub ghosts-abandoned : goal.ghosts-abandoned
ghosts-abandoned a = record { pages = a.table.pages; sides = a.table.sides }
