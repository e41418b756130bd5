use Rattle.kept_table.proofs.kept.Kept.close.Given as goal

-- the table is named by its own rings
abbrev pub ghosts-closed : goal.ghosts-closed
ghosts-closed a = record { pages = a.table.pages; sides = a.table.sides }
