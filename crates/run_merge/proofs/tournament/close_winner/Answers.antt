use Rattle.run_merge.proofs.Games.{left_wins, right_wins, compares_read}
use Rattle.run_merge.proofs.tournament.close_winner.Goals as goal

pub returns-then-leads-clause-winner : goal.returns-then-leads-clause-winner
returns-then-leads-clause-winner c =
    left_wins c.args.heads.now c.args.left c.args.right c.index-heads-left.result c.index-heads-right.result c.requires.left c.requires.right
    c.index-heads-left.is c.index-heads-right.is (c.leads-leads.ensures.leads c.if-leads.true)

pub returns-else-leads-clause-winner : goal.returns-else-leads-clause-winner
returns-else-leads-clause-winner c =
    right_wins c.args.heads.now c.args.left c.args.right c.index-heads-left.result c.index-heads-right.result c.requires.left c.requires.right
    c.index-heads-left.is c.index-heads-right.is (c.leads-leads.ensures.follows c.if-leads.false)

pub returns-then-leads-clause-compares : goal.returns-then-leads-clause-compares
returns-then-leads-clause-compares c =
    compares_read c.args.heads.now c.args.left c.args.right c.leads-leads.result.1 c.index-heads-left.result c.index-heads-right.result
    c.requires.left c.requires.right c.index-heads-left.is c.index-heads-right.is c.leads-leads.ensures.compares

pub returns-else-leads-clause-compares : goal.returns-else-leads-clause-compares
returns-else-leads-clause-compares c =
    compares_read c.args.heads.now c.args.left c.args.right c.leads-leads.result.1 c.index-heads-left.result c.index-heads-right.result
    c.requires.left c.requires.right c.index-heads-left.is c.index-heads-right.is c.leads-leads.ensures.compares
