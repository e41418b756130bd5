use Rattle.std.proofs.Common.{Option, inl, refl, subst, sym}
use Rattle.ready_indexes.specs.Indexes.{ReadyValue}
use Rattle.replay.specs.Listings.{ListsReady}
use Rattle.replay.specs.declared.answer.Answer.TheVariants.{Pairs}
use Rattle.replay.proofs.KeyedPairs.{keyed_by, listed_by}
use Rattle.replay.proofs.session.Session.pairs.Goals as goal

pub tree_lines-requires : goal.tree_lines-requires
tree_lines-requires g c = keyed_by _ _ _ _ c.spec.ensures c.tree.ensures.pairs c.tree.ensures.keys

pub returns : goal.returns
returns g c =
    let index = c.in_ok-index.index.now.index in
    let lines = c.in_ok-lines.lines in
    let listed = listed_by index.spec _ index.pairs _ lines.items c.spec.ensures c.tree.ensures.pairs c.in_ok-lines.ensures.lists in
    record {
      core = (refl, inl (subst (λ (found : Option ReadyValue). ListsReady found (Pairs lines)) (sym c.in_ok-index.ensures.index) (lines, refl, listed)));
      labels = refl;
      choice = refl;
      status = refl;
    }
