use Rattle.std.proofs.Common.{arith}
use Rattle.std.proofs.lemmas.Bool.{false≢true}
use Rattle.keybytes.proofs.KeyWrites.{zero-room, other-room}
use Rattle.keybytes.proofs.key_cell.add_text.Goals as goal

pub returns-in_err-add-clause-room : goal.returns-in_err-add-clause-room
returns-in_err-add-clause-room g c short =
    let need = zero-room c.args.key.now.items _ c.args.text.now _ c.loop-byte.invariant.written c.loop-byte-test.true c.if-byte-eq0.true in
    absurd (false≢true (c.in_err-add.ensures.room (omega (arith, need, c.loop-byte.invariant.room, short))))

pub returns-in_err-add-2-clause-room : goal.returns-in_err-add-2-clause-room
returns-in_err-add-2-clause-room g c short =
    let need = other-room c.args.key.now.items _ c.args.text.now _ c.loop-byte.invariant.written c.loop-byte-test.true in
    absurd (false≢true (c.in_err-add-2.ensures.room (omega (arith, need, c.loop-byte.invariant.room, short))))
