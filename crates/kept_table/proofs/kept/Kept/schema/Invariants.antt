use Rattle.kept_table.proofs.kept.Kept.schema.Given as goal

-- the table is named by its own rings
abbrev pub ghosts-schema_of : goal.ghosts-schema_of
ghosts-schema_of a = record { pages = a.table.pages; sides = a.table.sides }
