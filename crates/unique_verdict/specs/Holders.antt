-- Who has a key.
use Rattle.std.specs.Prelude.{List, [], ◌∷◌}
use Rattle.keybytes.specs.declared.rid.Rid.{Rid}
use Rattle.unique_verdict.specs.declared.key_holders.KeyHolders.{KeyHolders}
use Rattle.unique_verdict.specs.declared.key_holders.KeyHolders.TheVariants.{None, One, Two, More}

-- how many RIDs there are, of one, two or more, and the least
abbrev pub holders : List Rid → KeyHolders
holders [] = None
holders (only ∷ []) = One only
holders (first ∷ second ∷ []) = Two first second
holders (first ∷ second ∷ third ∷ rest) = More first
