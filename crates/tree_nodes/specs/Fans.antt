-- What a fan has, and what it keeps true.
use Rattle.std.specs.Prelude.{◌≡◌, ◌+◌, ◌≤◌, List, [], length, vec_capacity}
use Rattle.keybytes.specs.declared.pair.Pair.{Pair}
use Rattle.tree_nodes.specs.declared.fan.Fan.{Fan}

abbrev pub children_of : {C : Type 0} → Fan C → List C
children_of fan = fan.children.items

-- the pairs between the children
abbrev pub separators_of : {C : Type 0} → Fan C → List Pair
separators_of fan = fan.separators

-- it has children, at most 32, a separator between each two, and memory for as many as it may have (that of the separators they keep themselves)
pub record IsFan {C : Type 0} (fan : Fan C) : Type 0 where
  pub some : 1 ≤ length (children_of fan)
  pub few : length (children_of fan) ≤ 32
  pub between : length (separators_of fan) + 1 ≡ length (children_of fan)
  pub children_room : 32 ≤ vec_capacity fan.children

-- a new one: it has no child, and memory for as many as it may have
pub record IsBlankFan {C : Type 0} (fan : Fan C) : Type 0 where
  pub children : children_of fan ≡ []
  pub separators : separators_of fan ≡ []
  pub children_room : 32 ≤ vec_capacity fan.children
