use Rattle.kept_table.proofs.kept.Kept.key.Given as goal

-- the table is named by its own rings
abbrev pub ghosts-key_by : goal.ghosts-key_by
ghosts-key_by a = record { pages = a.table.pages; sides = a.table.sides }
