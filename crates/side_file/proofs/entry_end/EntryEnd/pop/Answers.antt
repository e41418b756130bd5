use Rattle.std.proofs.Common.{rules, ap, ◌∙◌, ◌++◌, ◌∷◌, []}
use Rattle.side_file.specs.Ends.{TakeEnd}
use Rattle.side_file.specs.declared.entry.Entry.{Entry}
use Rattle.side_file.proofs.PortionLemmas.{whole_one, whole_brought, taken_one, taken_brought}
use Rattle.side_file.proofs.entry_end.EntryEnd.pop.Goals as goal

pub invariant_of-self : goal.invariant_of-self
invariant_of-self c =
    let one = whole_one _ _ _ _ _ _ _ c.self.invariant.is_whole c.pop-entry.ensures in
    record {
      is_whole = whole_brought _ _ _ _ _ _ c.refill.ensures.brings _ _ one;
      first = c.refill.ensures.first;
      places = search rules;
    }

pub returns-clause-received : goal.returns-clause-received
returns-clause-received c =
    let one = whole_one _ _ _ _ _ _ _ c.self.invariant.is_whole c.pop-entry.ensures in
    taken_brought _ _ _ _ _ _ c.refill.ensures.brings _ one.taken_came
    ∙ taken_one _ _ _ _ _ _ _ c.self.invariant.is_whole c.pop-entry.ensures
    ∙ ap (λ (end : TakeEnd Entry). end.received ++ c.pop-entry.result ∷ []) c.self.view_is
