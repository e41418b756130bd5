use Rattle.kept_table.proofs.kept.Kept.ready.Given as goal

-- the table is named by its own rings
abbrev pub ghosts-ready_of : goal.ghosts-ready_of
ghosts-ready_of a = record { pages = a.table.pages; sides = a.table.sides }
