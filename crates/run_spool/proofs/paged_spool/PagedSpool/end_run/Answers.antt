use Rattle.std.proofs.Common.{◌++◌, ◌∷◌, [], List, vec_capacity, ap, ◌∙◌, rules}
use Rattle.run_spool.specs.Pages.{PageValue}
use Rattle.run_spool.proofs.SpoolSteps.{run_closed}
use Rattle.run_spool.proofs.paged_spool.PagedSpool.end_run.Goals as goal

pub invariant_of-self : goal.invariant_of-self
invariant_of-self g c =
    let run = c.new.ensures ∙ c.replace-pages.ensures.value in
    let runs : List (List PageValue) = c.self.inside.runs.items in
    run_closed c.push_reserved.new.self.items (vec_capacity c.push_reserved.new.self) c.replace-pages.new.dest c.self.invariant (search rules)
    (c.push_reserved.ensures.items ∙ ap (λ (one : List PageValue). runs ++ one ∷ []) run) c.push_reserved.ensures.capacity
    (c.replace-pages.ensures.after ∙ c.new-none.ensures)
