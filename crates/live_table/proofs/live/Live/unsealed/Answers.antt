use Rattle.live_lemmas.proofs.Looked.{follow_looked, of_builds_looked, put_ends_looked}
use Rattle.live_lemmas.proofs.LowestUnsealed.{lowest_told}
use Rattle.live_table.proofs.live.Live.unsealed.Goals as goal

pub first_unsealed-requires : goal.first_unsealed-requires
first_unsealed-requires g c = c.self.invariant.5.pages_are

pub returns-clause-unsealed : goal.returns-clause-unsealed
returns-clause-unsealed g c = lowest_told _ _ c.first_unsealed.result c.first_unsealed.ensures.unsealed

pub invariant_of-self : goal.invariant_of-self
invariant_of-self g c =
    let before = c.self.invariant in
    let looked = c.first_unsealed.ensures.looked.puts in (
      before.0,
      before.1,
      before.2,
      follow_looked _ _ looked _ _ _ _ before.3,
      of_builds_looked _ _ looked _ before.4,
      put_ends_looked _ _ looked _ _ _ before.5,
      before.6,
    )

pub returns-clause-pages : goal.returns-clause-pages
returns-clause-pages g c = (put_ends_looked _ _ c.first_unsealed.ensures.looked.puts _ _ _ c.self.invariant.5).sixteen

pub returns-clause-put : goal.returns-clause-put
returns-clause-put g c = follow_looked _ _ c.first_unsealed.ensures.looked.puts _ _ _ _ c.self.invariant.3
