use Rattle.std.proofs.Common.{◌≡◌, rules, ◌∙◌, sym, subst}
use Rattle.std.proofs.lemmas.Option.{same_Some}
use Rattle.visibility.specs.SideEntries.{entries_of_change}
use Rattle.ready_indexes.specs.Following.{FitsColumns}
use Rattle.table_scan.specs.SideFiles.{noted}
use Rattle.page_workers.proofs.Places.{all_at}
use Rattle.table_scan.proofs.notes.change_of.Goals as goal

pub key_there-requires : goal.key_there-requires
key_there-requires c =
    (all_at (FitsColumns c.args.ready.now) c.args.build.now.specs c.args.index c.spec-spec.result.now c.requires.fits c.spec-spec.ensures).old

pub key_there-requires-2 : goal.key_there-requires-2
key_there-requires-2 c =
    (all_at (FitsColumns c.args.ready.now) c.args.build.now.specs c.args.index c.spec-spec.result.now c.requires.fits c.spec-spec.ensures).new

pub returns-clause-ok : goal.returns-clause-ok
returns-clause-ok c = λ spec at.
    let b = c.args.build.now in
    let ready = c.args.ready.now in
    let here : entries_of_change ready.rid c.entries.result ≡ noted b c.spec-spec.result.now ready.rid ready.old ready.new = search rules in
    subst (λ s. entries_of_change ready.rid c.entries.result ≡ noted b s ready.rid ready.old ready.new) (same_Some c.spec-spec.result.now spec (sym c.spec-spec.ensures ∙ at)) here
