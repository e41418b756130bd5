use Rattle.kept_table.proofs.kept.Kept.next.Given as goal

-- the table is named by its own rings
abbrev pub ghosts-next_of : goal.ghosts-next_of
ghosts-next_of a = record { pages = a.table.pages; sides = a.table.sides }
