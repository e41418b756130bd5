use Rattle.std.proofs.lemmas.Result.{IfErr-weaker, IfOk-weaker, err_from_is_err_and}
use Rattle.kept_table.specs.Rounds.{AppliesRing, DoesRound, StopsRound}
use Rattle.kept_table.proofs.Rounds.{does_round, stops_behind_feed}
use Rattle.kept_table.proofs.Shapes.{keeps_loaded}
use Rattle.kept_table.proofs.catching_up.round.Goals as goal

pub returns-in_err-feed-clause-refused : goal.returns-in_err-feed-clause-refused
returns-in_err-feed-clause-refused g c =
    let told = err_from_is_err_and c.from_residual.result c.from_residual.ensures.1 in
    rw (told.1, told.2) c.in_err-feed.ensures.refused

pub apply-requires : goal.apply-requires
apply-requires g c = keeps_loaded c.args.counted.now c.feed.new.counted c.args.index c.in_ok-feed.ensures.done.done.0 c.requires

pub returns-clause-done : goal.returns-clause-done
returns-clause-done g c =
    IfOk-weaker c.apply.result (λ applied. AppliesRing c.args.index c.feed.new.counted applied c.apply.new.counted)
    (λ applied. DoesRound c.args.index c.args.more c.args.counted.now applied c.apply.new.counted)
    (λ applied done. does_round c.args.index c.args.more applied c.args.counted.now c.feed.new.counted c.apply.new.counted c.in_ok-feed.ensures.done done)
    c.apply.ensures.done

pub returns-clause-refused : goal.returns-clause-refused
returns-clause-refused g c =
    IfErr-weaker c.apply.result (λ fault. StopsRound c.args.index 0 c.feed.new.counted fault c.apply.new.counted)
    (λ fault. StopsRound c.args.index c.args.more c.args.counted.now fault c.apply.new.counted)
    (λ fault stops. stops_behind_feed c.args.index c.args.more c.args.counted.now c.feed.new.counted c.apply.new.counted fault c.in_ok-feed.ensures.done stops)
    c.apply.ensures.refused
