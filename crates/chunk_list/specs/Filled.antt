-- How the items of a list lie in its chunks.
use Rattle.std.specs.Prelude.{◌≡◌, ℕ, ◌+◌, ◌-◌, ◌*◌, ◌^◌, ◌<◌, ◌≤◌, min, List, [], ◌∷◌, length, All, vec_capacity}
use Rattle.std.specs.Global.{Vec}
use Rattle.std.specs.List.{flat_map}
use Rattle.std.specs.Vec.{vec_items}

module _ {T : Type 0} where
  -- so many items lie in the chunks: 1,024 in each, before the next has one
  abbrev pub AreFilled : ℕ → List (Vec T) → Type 0
  AreFilled n [] = n ≡ 0
  AreFilled n (chunk ∷ chunks) = (length chunk.items ≡ min 1024 n) × AreFilled (n - 1024) chunks

  -- each chunk has its 1,024 places
  abbrev pub HavePlaces : List (Vec T) → Type 0
  HavePlaces chunks = All (λ (chunk : Vec T). 1024 ≤ vec_capacity chunk) chunks

  -- what a list keeps: its items and its room lie in its chunks, and can be counted
  pub record IsList (chunks : List (Vec T)) (len room : ℕ) : Type 0 where
    pub filled : AreFilled len chunks
    pub places : HavePlaces chunks
    pub has_room : len + room ≤ 1024 * length chunks
    pub countable : len + room < 2 ^ 63

  -- empty chunks were added behind the others
  pub record Grows (old new : List (Vec T)) : Type 0 where
    pub filled : (n : ℕ) → AreFilled n old → AreFilled n new
    pub items : flat_map vec_items new ≡ flat_map vec_items old
    pub places : HavePlaces old → HavePlaces new
    pub longer : length old ≤ length new
