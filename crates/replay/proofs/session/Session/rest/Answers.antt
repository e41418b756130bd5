use Rattle.std.proofs.Common.{ap, inl, inr, refl, sym, subst, ◌∙◌}
use Rattle.std.proofs.lemmas.Result.{err_from_is_err_and}
use Rattle.keybytes.specs.Keys.{KeySpecValue}
use Rattle.keybytes.specs.Pairs.{HaveKeysOf}
use Rattle.heap_table.specs.TablePairs.{pairs_at_rest}
use Rattle.build_events.specs.CoreState.{CoreState}
use Rattle.replay.specs.Listings.{key_spec_of, spec_refusal}
use Rattle.replay.proofs.KeyedPairs.{listed_by}
use Rattle.replay.proofs.session.Session.rest.Goals as goal

pub returns : goal.returns
returns g c =
    let core = c.args.leased.now in
    let asked = key_spec_of core.live.heap.schema c.args.spec in
    let made = c.in_ok-spec.spec in
    let named = c.in_ok-spec.ensures.made ∙ ap (λ (s : CoreState). key_spec_of s.live.heap.schema c.args.spec) c.core.ensures in
    let pairs = c.as_slice.ensures.value ∙ c.in_ok-pairs.ensures.ok ∙ ap (λ (spec : KeySpecValue). pairs_at_rest spec core.live.heap.log) named in
    let lines = c.in_ok-lines.lines in
    record {
      core = (c.rest.ensures.rows, inl (lines, refl, listed_by asked made (pairs_at_rest asked core.live.heap.log) _ lines.items named pairs c.in_ok-lines.ensures.lists));
      labels = refl;
      choice = refl;
      status = refl;
    }

pub returns-in_err-lines : goal.returns-in_err-lines
returns-in_err-lines g c =
    let told = err_from_is_err_and c.from_residual-in_err-lines.result c.from_residual-in_err-lines.ensures.1 in
    let accepted = ap (λ (s : CoreState). spec_refusal s.live.heap.schema c.args.spec) (sym c.core.ensures) ∙ c.in_ok-spec.ensures.accepted in
    rw (told.1) (record {
      core = (c.rest.ensures.rows, inr (told.0, refl, inr (accepted, told.2 ∙ c.in_err-lines.ensures.memory)));
      labels = refl;
      choice = refl;
      status = refl;
    })

pub returns-in_err-pairs : goal.returns-in_err-pairs
returns-in_err-pairs g c =
    let told = err_from_is_err_and c.from_residual-in_err-pairs.result c.from_residual-in_err-pairs.ensures.1 in
    let accepted = ap (λ (s : CoreState). spec_refusal s.live.heap.schema c.args.spec) (sym c.core.ensures) ∙ c.in_ok-spec.ensures.accepted in
    rw (told.1) (record {
      core = (c.rest.ensures.rows, inr (told.0, refl, inr (accepted, told.2 ∙ c.in_err-pairs.ensures.memory)));
      labels = refl;
      choice = refl;
      status = refl;
    })

pub pair_lines-requires : goal.pair_lines-requires
pair_lines-requires g c = subst (HaveKeysOf c.in_ok-spec.spec) (sym c.as_slice.ensures.value) c.in_ok-pairs.ensures.keys
