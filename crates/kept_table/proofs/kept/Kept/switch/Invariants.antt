use Rattle.kept_table.proofs.kept.Kept.switch.Given as goal

-- the table is named by its own rings
abbrev pub ghosts-switched : goal.ghosts-switched
ghosts-switched a = record { pages = a.table.pages; sides = a.table.sides }
