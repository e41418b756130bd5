use Rattle.story_tests.proofs.calling.missing_of_two.Given as goal

-- the names of the table that was just made, and its log
abbrev pub ghosts-missing-T-Named : goal.ghosts-missing-T-Named
ghosts-missing-T-Named g a = record { table = a.parts.word }

abbrev pub ghosts-missing-T-TableRings : goal.ghosts-missing-T-TableRings
ghosts-missing-T-TableRings g a = record { pages = a.parts.parts.pages; sides = a.parts.parts.sides }

abbrev pub ghosts-missing-T-Opened : goal.ghosts-missing-T-Opened
ghosts-missing-T-Opened g a = record { opening = a.parts.parts.heap.log }
