use Rattle.std.proofs.Common.{◌≤◌, ◌<◌, length, inr, arith}
use Rattle.std.proofs.lemmas.Bool.Decides.{nat_tests}
use Rattle.std.proofs.lemmas.Result.{err_from_is_err_and}
use Rattle.sfbuild_c.proofs.PairCauses.{no_pair_refusal}
use Rattle.sfbuild_c.proofs.lookups.next_from.Goals as goal

pub returns-in_err-add-clause-refused : goal.returns-in_err-add-clause-refused
returns-in_err-add-clause-refused c =
    let told = err_from_is_err_and c.from_residual.result c.from_residual.ensures.1 in
    let fits : c.args.size ≤ length c.args.bytes.now = grind (arith, nat_tests, c.if-size-bytes.false) in
    let short : c.args.size ≤ 812 = grind (arith, nat_tests, c.if-size-gt-KEY_MAX.false) in
    let below : c.args.index < length c.args.table.now.core.live.ready = grind (arith, nat_tests, c.if-index-ready.false, c.ready.ensures.ready) in
    rw (told.1, told.2)
    (inr (no_pair_refusal c.args.bytes.now c.args.size c.args.index c.args.table.now.core.live.ready fits short below, c.in_err-add.ensures.memory))
