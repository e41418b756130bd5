use Rattle.std.proofs.Common.{◌++◌, ◌∷◌, [], List, sym, ap, ◌∙◌, subst}
use Rattle.keybytes.specs.Pairs.{AreOrdered}
use Rattle.keybytes.specs.declared.pair.Pair.{Pair}
use Rattle.bulk_load.proofs.Fronts.{ordered_front}
use Rattle.bulk_load.proofs.filling.load.Goals as goal

pub push-requires : goal.push-requires
push-requires g c =
    let at = rw c.in-Some.is at c.in_ok-pair.ensures.first in
    subst (λ (ps : List Pair). AreOrdered (ps ++ c.in-Some.pair ∷ [])) (sym c.stock.ensures.loader)
    (ordered_front c.loop-loader.loader _ _ c.in-Some.pair c.requires (ap (λ (ps : List Pair). c.loop-loader.loader ++ ps) (sym at) ∙ c.loop-loader.invariant.all))
