use Rattle.std.proofs.Common.{sym, ap, ◌∙◌, arith}
use Rattle.log_prefixes.proofs.Moves.{joins_as, compares_as}
use Rattle.log_prefixes.proofs.keeper.Keeper.compare.Goals as goal

pub join_seat-requires : goal.join_seat-requires
join_seat-requires g c =
    let board = c.self.invariant.0 in
    let i = c.self.invariant.1 in
    let k = c.into_seat-seat.ensures in
    (i.seated ∙ sym board, k.seat ∙ sym board, k.bare, omega (arith, i.one_word, ap (λ t. t.words) board), joins_as _ _ _ _ _ (ap (λ m. m.0) i.knows) i.zeroth)

pub load-requires : goal.load-requires
load-requires g c =
    let board = c.self.invariant.0 in
    let i = c.self.invariant.1 in
    let j = c.join_seat.ensures in
    (j.0 ∙ (i.seated ∙ sym board), omega (arith, i.one_word, ap (λ t. t.words) board), compares_as _ _ _ (ap (λ m. m.1) j.2 ∙ ap (λ m. m.1) i.knows) (j.1 ∙ i.zeroth))
