use Rattle.kept_table.proofs.kept.Kept.get.Given as goal

-- the table is named by its own rings
abbrev pub ghosts-row_at : goal.ghosts-row_at
ghosts-row_at a = record { pages = a.table.pages; sides = a.table.sides }
