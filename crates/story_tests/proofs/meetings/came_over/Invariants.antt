use Rattle.story_tests.proofs.meetings.came_over.Given as goal

-- the names of the table that was just made, and its log
abbrev pub ghosts-came_to-T-Named : goal.ghosts-came_to-T-Named
ghosts-came_to-T-Named g a = record { table = a.parts.word }

abbrev pub ghosts-came_to-T-TableRings : goal.ghosts-came_to-T-TableRings
ghosts-came_to-T-TableRings g a = record { pages = a.parts.parts.pages; sides = a.parts.parts.sides }

abbrev pub ghosts-came_to-T-Opened : goal.ghosts-came_to-T-Opened
ghosts-came_to-T-Opened g a = record { opening = a.parts.parts.heap.log }
