use Rattle.std.proofs.Common.{rules, true, ◌≡◌, ◌⊎◌, ℕ, [], ap, refl, subst, inr, inl}
use Rattle.std.specs.List.{list_any}
use Rattle.replay.specs.Limits.{is_refusal}
use Rattle.build_events.specs.CoreState.{CoreState}
use Rattle.build_events.specs.BuildSteps.{OnBuild}
use Rattle.replay.proofs.SharedLines.{AreCopies, copies_make_keys, lines_of_build}
use Rattle.replay.specs.Listings.{ListsShared}
use Rattle.replay.specs.declared.answer.Answer.TheVariants as answer
use Rattle.replay.proofs.session.Session.switch.Goals as goal

pub build_lines-shared-requires : goal.build_lines-shared-requires
build_lines-shared-requires g c =
    let copies = c.build_specs-specs.result in
    copies_make_keys c.args.leased.now.live.build copies c.in_ok-number.verdicts
    (subst (λ (s : CoreState). AreCopies s.live.build copies) c.core.ensures c.build_specs-specs.ensures) c.in_ok-number.ensures.keys

pub returns : goal.returns
returns g c =
    let build = c.args.leased.now.live.build in
    let copies = c.build_specs-specs.result in
    let number = c.in_ok-number.number in
    let verdicts = c.in_ok-number.verdicts in
    let lines = c.build_lines-shared.result in
    let copied : AreCopies build copies = subst (λ (s : CoreState). AreCopies s.live.build copies) c.core.ensures c.build_specs-specs.ensures in
    let told : OnBuild build (λ b. ListsShared 0 b.specs verdicts lines.items) ⊎ (lines.items ≡ []) =
    lines_of_build build copies verdicts lines.items copied c.build_lines-shared.ensures in
    let some : list_any is_refusal verdicts ≡ true = search rules in
    record {
      core = inr (inl (number, verdicts, lines, ap (λ (pages : ℕ). answer.SomeRefused number verdicts lines pages) c.in_ok-number.ensures.back.missing, told, c.in_ok-number.ensures.decided, some));
      labels = refl;
      choice = refl;
      status = refl;
    }
