use Rattle.std.proofs.lemmas.Result.{err_from_is_err_and}
use Rattle.kept_table.proofs.Entries.{feeds_ring}
use Rattle.kept_table.proofs.Rounds.{stops_at_feed}
use Rattle.kept_table.proofs.catching_up.feed.Goals as goal

pub returns-in_err-_fed-clause-refused : goal.returns-in_err-_fed-clause-refused
returns-in_err-_fed-clause-refused g c =
    let told = err_from_is_err_and c.from_residual.result c.from_residual.ensures.1 in
    rw (told.1, told.2) (stops_at_feed c.args.index c.args.most c.args.counted.now c.work.new.counted _ c.in_err-_fed.ensures.refused
    c.in_err-_fed.ensures.step)

pub returns-clause-done : goal.returns-clause-done
returns-clause-done g c =
    feeds_ring c.args.index c.args.most c.args.counted.now c.work.new.counted _ c.laws.ensures c.requires c.in_ok-_fed.ensures.done
    c.in_ok-_fed.ensures.told
