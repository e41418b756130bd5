use Rattle.std.proofs.Common.{map, sym, ap, ◌∙◌}
use Rattle.crew.specs.Reports.{IsOther}
use Rattle.crew.specs.Returning.{first_fault}
use Rattle.crew.proofs.Returned.{holds_of_first}
use Rattle.crew.proofs.online_build.threads.told.Goals as goal

pub returns-in-Some-clause-other : goal.returns-in-Some-clause-other
returns-in-Some-clause-other g c =
    holds_of_first (λ one. one.fault) IsOther c.args.back.items c.in-Some.fault c.requires.other
    (sym (c.lowest_fault-lowest.ensures ∙ ap (λ l. first_fault (map (λ one. one.fault) l)) c.deref.ensures.value) ∙ c.in-Some.is)
