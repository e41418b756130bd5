-- A table that a program in C keeps may go to another thread between two calls.
use denote.Param.Send.{IsSend}
use Rattle.sfbuild_c.proofs.session.Session.TheSendSync as session
use Rattle.sfbuild_c.specs.contracts.session.Session as Session

pub session_send : IsSend Session.the_row
session_send = session.the_send
