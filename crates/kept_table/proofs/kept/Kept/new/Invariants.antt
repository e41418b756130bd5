use Rattle.kept_table.proofs.kept.Kept.new.Given as goal

-- the table is named by its own rings
abbrev pub ghosts-opened : goal.ghosts-opened
ghosts-opened a = record { pages = a.parts.pages; sides = a.parts.sides }
