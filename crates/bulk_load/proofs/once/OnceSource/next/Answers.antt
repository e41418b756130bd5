use Rattle.std.proofs.Common.{◌≡◌, [], ◌∷◌, subst}
use Rattle.std.specs.Prelude.{IfOk, MatchOption}
use Rattle.std.proofs.lemmas.Result.{IfOk-weaker}
use Rattle.run_merge.specs.Merging.{all_runs, Gives, MergedValue}
use Rattle.bulk_load.specs.Each.{in_order}
use Rattle.bulk_load.proofs.InOrder.{first_given, once_after}
use Rattle.bulk_load.proofs.once.OnceSource.next.Goals as goal

pub invariant_of-self : goal.invariant_of-self
invariant_of-self g c = once_after c.next.result c.self.inside.merged c.next.new.self c.self.invariant c.next.ensures.given c.next.ensures.refused

pub returns-clause-first : goal.returns-clause-first
returns-clause-first g c =
    let old = all_runs c.self.inside.merged.runs in
    let new = all_runs c.next.new.self.runs in
    subst (λ (v : MergedValue). IfOk c.next.result (λ next. MatchOption next ((in_order (all_runs v.runs) ≡ []) × (in_order new ≡ [])) (λ pair. in_order (all_runs v.runs) ≡ pair ∷ in_order new)))
    c.self.view_is (IfOk-weaker c.next.result (λ given. Gives old given new) (λ next. MatchOption next ((in_order old ≡ []) × (in_order new ≡ [])) (λ pair. in_order old ≡ pair ∷ in_order new)) (λ given gives. first_given old given new c.self.invariant gives) c.next.ensures.given)
