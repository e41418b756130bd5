use Rattle.std.proofs.Common.{◌≡◌, ◌*◌, ℕ, rules, refl, ap, ◌∙◌, vec_len, arith, length}
use Rattle.std.proofs.lemmas.List.{length-map}
use Rattle.leased_core.specs.Leasing.{new_spools}
use Rattle.replay.specs.Listings.{key_spec_of}
use Rattle.run_spool.specs.Choices.{kinds_from}
use Rattle.race.proofs.EmptySpools.{new_bare}
use Rattle.race.proofs.planned.plan_build.Goals as goal

pub returns : goal.returns
returns c =
    let made = c.in_ok-leases.ensures in
    let specs = c.in_ok-key_specs.ensures.ok in
    let told = c.len-2.ensures in
    let many = ap length specs ∙ length-map c.args.build.specs.items (key_spec_of c.args.schema.now) in
    let count : c.len-2.result ≡ vec_len c.args.build.specs = omega (arith, many, told) in
    record {
      limits = search rules;
      specs = specs;
      workers_are = refl;
      dealing = refl;
      leased = record {
        pages = made.leased;
        empty = new_bare c.args.choice (c.args.workers * c.len-2.result) c.args.build.quota c.in_ok-leases.spools.items made.fresh;
      };
      spools = made.fresh ∙ ap (λ (n : ℕ). new_spools c.args.choice (c.args.workers * n) c.args.build.quota) count;
      kinds = made.kinds ∙ ap (λ (n : ℕ). kinds_from c.args.choice 0 (c.args.workers * n)) count;
    }
