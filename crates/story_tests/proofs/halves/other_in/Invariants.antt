use Rattle.story_tests.proofs.halves.other_in.Given as goal

-- the table is named by its own rings
abbrev pub ghosts-other_of : goal.ghosts-other_of
ghosts-other_of g = record { pages = g.parts.pages; sides = g.parts.sides }
