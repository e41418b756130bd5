-- What a fan ends as, once a borrow of one of its children has ended.
use Rattle.std.specs.Prelude.{ℕ}
use Rattle.std.specs.Borrow.{Fml, RattleType, MutBor, Lends}
use Rattle.std.specs.Vec.{with_item}
use Rattle.tree_nodes.specs.declared.fan.Fan.{Fan}
use Rattle.tree_nodes.specs.contracts.fan.Fan.{the_row}

-- the fan with another child at that place
abbrev pub with_child : {C : Type 0} → Fan C → ℕ → C → Fan C
with_child fan place child = record fan { children = with_item fan.children place child }

abbrev pub LendsChild : (R : RattleType) → MutBor (Fan R.Denot) → ℕ → MutBor R.Denot → Fml
LendsChild R fan place child = Lends (the_row R) R fan child (with_child fan.now place)
