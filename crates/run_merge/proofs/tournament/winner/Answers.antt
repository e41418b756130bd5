use Rattle.std.proofs.Common.{◌<◌, arith}
use Rattle.run_merge.proofs.Fronts.{fronts_lead, fronts_compare}
use Rattle.run_merge.proofs.Games.{left_wins, right_wins, compares_read}
use Rattle.run_merge.proofs.tournament.winner.Goals as goal

pub returns-then-front-against-2-clause-winner : goal.returns-then-front-against-2-clause-winner
returns-then-front-against-2-clause-winner c =
    let left = c.index-heads-left.result in
    let right = c.index-heads-right.result in
    let front = c.front-front.result in
    let against = c.front-against.result in
    let some : 0 < front = omega (arith, c.if-front-eq0.false) in
    let other_some : 0 < against = omega (arith, c.if-against-eq0.false) in
    let behind = fronts_lead right left against front (c.front-against.ensures other_some) (c.front-front.ensures some) c.if-front-against-2.true in
    left_wins c.args.heads.now c.args.left c.args.right left right c.requires.left c.requires.right c.index-heads-left.is c.index-heads-right.is behind

pub returns-else-front-against-2-clause-winner : goal.returns-else-front-against-2-clause-winner
returns-else-front-against-2-clause-winner c =
    let left = c.index-heads-left.result in
    let right = c.index-heads-right.result in
    let front = c.front-front.result in
    let against = c.front-against.result in
    let some : 0 < front = omega (arith, c.if-front-eq0.false) in
    let other_some : 0 < against = omega (arith, c.if-against-eq0.false) in
    let above : against < front = omega (arith, c.if-front-against.false, c.if-front-against-2.false) in
    let behind = fronts_lead left right front against (c.front-front.ensures some) (c.front-against.ensures other_some) above in
    right_wins c.args.heads.now c.args.left c.args.right left right c.requires.left c.requires.right c.index-heads-left.is c.index-heads-right.is behind

pub returns-then-front-against-2-clause-compares : goal.returns-then-front-against-2-clause-compares
returns-then-front-against-2-clause-compares c =
    let left = c.index-heads-left.result in
    let right = c.index-heads-right.result in
    let some : 0 < c.front-front.result = omega (arith, c.if-front-eq0.false) in
    let other_some : 0 < c.front-against.result = omega (arith, c.if-against-eq0.false) in
    compares_read c.args.heads.now c.args.left c.args.right 1 left right c.requires.left c.requires.right c.index-heads-left.is c.index-heads-right.is
    (fronts_compare left right c.front-front.result c.front-against.result (c.front-front.ensures some) (c.front-against.ensures other_some))

pub returns-else-front-against-2-clause-compares : goal.returns-else-front-against-2-clause-compares
returns-else-front-against-2-clause-compares c =
    let left = c.index-heads-left.result in
    let right = c.index-heads-right.result in
    let some : 0 < c.front-front.result = omega (arith, c.if-front-eq0.false) in
    let other_some : 0 < c.front-against.result = omega (arith, c.if-against-eq0.false) in
    compares_read c.args.heads.now c.args.left c.args.right 1 left right c.requires.left c.requires.right c.index-heads-left.is c.index-heads-right.is
    (fronts_compare left right c.front-front.result c.front-against.result (c.front-front.ensures some) (c.front-against.ensures other_some))
