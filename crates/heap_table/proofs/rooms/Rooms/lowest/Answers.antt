use Rattle.std.proofs.Common.{◌≡◌, ◌∙◌, ℕ, ap, sym, None, Option, Some}
use Rattle.std.specs.Prelude.{position, nat_le}
use Rattle.std.proofs.lemmas.Bool.{le-leb}
use Rattle.heap_table.specs.Rooms.{RoomsValue, with_last}
use Rattle.heap_table.proofs.LastRoom.{lowest_last}
use Rattle.heap_table.proofs.rooms.Rooms.lowest.Goals as goal

pub returns-in-Some-last : goal.returns-in-Some-last
returns-in-Some-last c =
    let below = c.self.inside.below in
    let fits = λ (room : ℕ). nat_le c.args.len room in
    let none : None ≡ position fits below.rooms = sym c.in_default.is ∙ c.lowest.ensures in
    ap Some c.len.ensures ∙ lowest_last fits below c.in-Some-last.room none (le-leb c.args.len c.in-Some-last.room c.if-len-room.true)
    ∙ ap (λ (last : Option ℕ). position fits (with_last below last).rooms) (sym c.in-Some-last.is)
    ∙ ap (λ (v : RoomsValue). position fits v.rooms) c.self.view_is
