use Rattle.kept_table.proofs.kept.Kept.advance.Given as goal

-- the table is named by its own rings
abbrev pub ghosts-advanced : goal.ghosts-advanced
ghosts-advanced a = record { pages = a.table.pages; sides = a.table.sides }
