use Rattle.std.proofs.Common.{rules, ap, ◌∙◌, ℕ, List}
use Rattle.keybytes.specs.Pairs.{set_of}
use Rattle.btree.specs.declared.change.Change.{Change}
use Rattle.btree.specs.Changes.{changed}
use Rattle.visibility.specs.Applied.{apply_entries}
use Rattle.catch_up.specs.Built.{told_to}
use Rattle.catch_up.proofs.Telling.{changes_same}
use Rattle.catch_up.proofs.batch.apply_batch.Goals as goal

pub returns-clause-applied : goal.returns-clause-applied
returns-clause-applied g c =
    let old = set_of c.args.built.now.pairs in
    record {
      build = search rules;
      unique = search rules;
      pairs = c.in_ok-make_all.ensures.made
          ∙ ap (λ (cs : List Change). changed cs old) c.from_vec.ensures.items
          ∙ c.in_ok-sort_batch.ensures.same old
          ∙ ap (λ (cs : List Change). changed cs old) c.in_ok-batch.ensures.changes
          ∙ changes_same c.build.result c.args.end.now.known old
          ∙ ap (λ (n : ℕ). apply_entries (told_to n c.args.end.now.known) old) c.build.ensures;
    }
