use Rattle.std.proofs.Common.{◌≡◌, true, false, is_some, Option, None, map, vec_len, ap, inl, inr, refl, rules, subst, sym, ◌∙◌}
use Rattle.std.proofs.lemmas.Result.{err_from_is_err_and}
use Rattle.keybytes.specs.Faults.{RefusedFor}
use Rattle.keybytes.specs.declared.fault.Fault.{Fault}
use Rattle.build_events.specs.CoreState.{CoreState}
use Rattle.replay.specs.Answers.{StartsBuild, StartsByPlan, Unless, answer_of}
use Rattle.replay.specs.Plans.{planning_refusal, specs_refusal}
use Rattle.replay.specs.declared.answer.Answer.{Answer}
use Rattle.replay.specs.declared.answer.Answer.TheVariants.{Number, Refused}
use Rattle.build_events.specs.declared.plan.Plan.{Plan}
use Rattle.replay.specs.Limits.{is_in_limits}
use Rattle.replay.specs.Listings.{key_spec_of}
use Rattle.replay.proofs.Planned.{no_plan, specs_left}
use Rattle.replay.proofs.session.Session.start.Given as given
use Rattle.replay.proofs.session.Session.start.Goals as goal
use Rattle.replay.proofs.session.Session.start.Goals.{After-key_specs, After-start}

-- nothing but a key specification is against the command before its plan is made
specs_alone : (g : given.Over) (c : After-key_specs g)
    → planning_refusal c.args.leased.now c.args.start ≡ specs_refusal c.args.leased.now.live.heap.schema c.args.start.specs.items
specs_alone g c =
    let core = c.args.leased.now in
    let start = c.args.start in
    let no_build : is_some core.live.build ≡ false =
    sym (ap (λ (s : CoreState). is_some s.live.build) c.core.ensures) ∙ sym c.is_building.ensures ∙ c.if-is_building.false in
    let in_limits : is_in_limits start.workers (vec_len start.specs) start.quota ≡ true =
    ap (λ indexes. is_in_limits start.workers indexes start.quota) (sym c.len.ensures) ∙ sym c.is_in_limits.ensures ∙ c.if-not-is_in_limits.false in
    specs_left _ _ _ no_build in_limits

abbrev plan_of : (g : given.Over) → After-start g → Plan
plan_of g c = record { specs = c.in_ok-key_specs.field-0; workers = c.args.start.workers; dealing = c.args.start.dealing; tries = 1; keep_pairs = false }

-- nothing is against the command before its plan is made
by_plan :
    (g : given.Over) (c : After-start g) (answer : Answer)
    → planning_refusal c.args.leased.now c.args.start ≡ specs_refusal c.args.leased.now.live.heap.schema c.args.start.specs.items
    → StartsByPlan c.args.self.now.choice c.args.start.quota (plan_of g c) c.args.leased.now answer c.start.new.self
    → Unless (planning_refusal c.args.leased.now c.args.start) (StartsBuild c.args.self.now.choice c.args.start) c.args.leased.now answer c.start.new.self
by_plan g c answer alone starts =
    let core = c.args.leased.now in
    let start = c.args.start in
    let accepted : specs_refusal core.live.heap.schema start.specs.items ≡ None =
    ap (λ (s : CoreState). specs_refusal s.live.heap.schema start.specs.items) (sym c.core-2.ensures) ∙ c.in_ok-key_specs.ensures.accepted in
    subst (λ (cause : Option Fault). Unless cause (StartsBuild c.args.self.now.choice start) core answer c.start.new.self) (sym (alone ∙ accepted)) (inl (
      plan_of g c,
      record {
        specs = c.in_ok-key_specs.ensures.ok ∙ ap (λ (s : CoreState). map (key_spec_of s.live.heap.schema) start.specs.items) c.core-2.ensures;
        workers = refl;
        dealing = refl;
      },
      starts,
    ))

pub returns : goal.returns
returns g c = record {
  core = by_plan g (goal.at.returns g c).After-start (Number c.from.result) (specs_alone g (goal.at.returns g c).After-key_specs)
      (inl (c.in_ok-pages.pages, ap Number c.from.ensures, c.in_ok-pages.ensures.started));
  labels = refl;
  choice = search rules;
  status = refl;
}

pub returns-in_err-pages : goal.returns-in_err-pages
returns-in_err-pages g c = record {
  core = by_plan g (goal.at.returns-in_err-pages g c).After-start (answer_of c.from_residual-in_err-pages.result)
      (specs_alone g (goal.at.returns-in_err-pages g c).After-key_specs)
      (inr (c.in_err-pages.field-0.0, c.in_err-pages.ensures.refused, (search rules, search rules)));
  labels = search rules;
  choice = search rules;
  status = search rules;
}

pub returns-in_err-key_specs : goal.returns-in_err-key_specs
returns-in_err-key_specs g c =
    let core = c.args.leased.now in
    let start = c.args.start in
    let told = err_from_is_err_and c.from_residual.result c.from_residual.ensures.1 in
    let refused : RefusedFor (specs_refusal core.live.heap.schema start.specs.items) told.0 =
    subst (RefusedFor (specs_refusal core.live.heap.schema start.specs.items)) (sym told.2)
    (subst (λ (s : CoreState). RefusedFor (specs_refusal s.live.heap.schema start.specs.items) c.in_err-key_specs.field-0.0) c.core-2.ensures c.in_err-key_specs.ensures.refused) in
    rw (told.1) (record {
      core = subst (λ (cause : Option Fault). Unless cause (StartsBuild c.args.self.now.choice start) core (Refused told.0) core)
          (sym (specs_alone g (goal.at.returns-in_err-key_specs g c).After-key_specs))
          (no_plan (specs_refusal core.live.heap.schema start.specs.items) c.args.self.now.choice start core told.0 refused);
      labels = refl;
      choice = refl;
      status = refl;
    })
