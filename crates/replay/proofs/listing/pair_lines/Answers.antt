use Rattle.std.proofs.Common.{arith, rules}
use Rattle.std.proofs.lemmas.List.Elements.{All-get_or}
use Rattle.keybytes.specs.Keys.{IsKeyOf}
use Rattle.keybytes.specs.declared.pair.Pair.{Pair}
use Rattle.replay.specs.Listings.{ListsPair}
use Rattle.script.proofs.Zips.{zip_more}
use Rattle.replay.proofs.listing.pair_lines.Goals as goal

pub pair_line-requires : goal.pair_line-requires
pair_line-requires c =
    let keyed = All-get_or (λ (pair : Pair). IsKeyOf c.args.spec.now pair.key) c.args.pairs.now c.loop-pair.pair-index c.pair-item.result (search rules) c.requires in
    rw (← c.pair-item.is) at keyed

pub loop-pair-preserved : goal.loop-pair-preserved
loop-pair-preserved c =
    zip_more (ListsPair c.args.spec.now) c.args.pairs.now _ _ c.loop-pair.pair-index c.pair-item.result _ (omega arith) c.in_ok-push.ensures.items c.loop-pair.invariant
    (rw (← c.pair-item.is) c.in_ok-pair_line.ensures.lists)
