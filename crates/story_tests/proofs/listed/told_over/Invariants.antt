use Rattle.story_tests.proofs.listed.told_over.Given as goal

-- the table is named by its own rings
abbrev pub ghosts-told_on : goal.ghosts-told_on
ghosts-told_on g a = record { pages = a.parts.pages; sides = a.parts.sides }
