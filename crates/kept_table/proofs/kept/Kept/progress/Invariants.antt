use Rattle.kept_table.proofs.kept.Kept.progress.Given as goal

-- the table is named by its own rings
abbrev pub ghosts-progress_of : goal.ghosts-progress_of
ghosts-progress_of a = record { pages = a.table.pages; sides = a.table.sides }
