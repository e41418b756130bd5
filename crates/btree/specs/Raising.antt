-- A root after an insert.
use Rattle.std.specs.Prelude.{◌≡◌, ℕ, suc, if◌then◌else◌}
use Rattle.btree.specs.declared.rooting.Raised.{Raised}

-- it is as high as before, or higher by one
pub record IsRaised (height : ℕ) (raised : Raised) : Type 0 where
  pub is : raised.root.height ≡ (if raised.deeper then suc height else height)
