use Rattle.kept_table.proofs.kept.Kept.start.Given as goal

-- the table is named by its own rings
abbrev pub ghosts-started : goal.ghosts-started
ghosts-started a = record { pages = a.table.pages; sides = a.table.sides }
