use Rattle.kept_table.proofs.kept.Kept.pages.Given as goal

-- the table is named by its own rings
abbrev pub ghosts-pages_of : goal.ghosts-pages_of
ghosts-pages_of a = record { pages = a.table.pages; sides = a.table.sides }
