use Rattle.shell.proofs.run.answer.Given as goal

-- the table is named by its own rings
abbrev pub ghosts-use_table : goal.ghosts-use_table
ghosts-use_table g a = record { pages = a.parts.pages; sides = a.parts.sides }
