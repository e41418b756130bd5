use Rattle.replay.proofs.run.answer.Given as goal

-- the table is named by its own rings
abbrev pub ghosts-answer_table : goal.ghosts-answer_table
ghosts-answer_table g a = record { pages = a.parts.pages; sides = a.parts.sides }
