-- What a queue of portions keeps.
use Rattle.std.specs.Prelude.{◌≡◌, ℕ, ◌≤◌, List, [], ◌++◌, length, Option, None}
use Rattle.std.specs.List.{All}
use Rattle.std.specs.Option.{option_to_list}
use Rattle.side_file.specs.declared.entry.Entry.{Entry}
use Rattle.side_file.specs.declared.portion.Portion.{Portion}
use Rattle.side_file.specs.Portions.{entries_of, HasSome}

-- the first entry, those behind it, and those of the portions behind these
abbrev pub at_hand : Option Entry → List Entry → List Portion → List Entry
at_hand first chunks next = option_to_list first ++ (chunks ++ entries_of next)

-- an entry is first wherever there is one, and there are places for twice as many portions as a ring has
pub record IsAtHand (first : Option Entry) (chunks : List Entry) (next : List Portion) (len places : ℕ) : Type 0 where
  pub first_is : first ≡ None → chunks ++ entries_of next ≡ []
  pub some : All HasSome next
  pub counted : len ≡ length (at_hand first chunks next)
  pub places_are : 512 ≤ places
  pub few : length next ≤ places
