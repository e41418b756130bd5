use Rattle.std.proofs.Common.{map}
use Rattle.bulk_load.specs.Each.{in_order}
use Rattle.bulk_load.proofs.dealing.tree_in_threads.Given as goal

-- what each spool's merge gives
abbrev pub ghosts-load_named : goal.ghosts-load_named
ghosts-load_named g a = record { streams = map in_order (map g.S.Spool.runs a.spools.items) }
