use Rattle.kept_table.proofs.kept.Kept.read_row.Given as goal

-- the table is named by its own rings
abbrev pub ghosts-row_of : goal.ghosts-row_of
ghosts-row_of a = record { pages = a.table.pages; sides = a.table.sides }
