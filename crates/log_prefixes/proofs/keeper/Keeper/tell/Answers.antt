use Rattle.std.proofs.Common.{sym, ap, ◌∙◌, arith}
use Rattle.log_prefixes.proofs.Moves.{tells}
use Rattle.log_prefixes.proofs.keeper.Keeper.tell.Goals as goal

pub split_seat-seat-requires : goal.split_seat-seat-requires
split_seat-seat-requires g c =
    let board = c.self.invariant.0 in
    let i = c.self.invariant.1 in
    (i.seated ∙ sym board, omega (arith, i.one_word, ap (λ t. t.words) board), tells _ _ i.zeroth)
