use Rattle.std.proofs.Common.{false, ◌<◌, ◌∙◌, ◌++◌, ◌∷◌, [], List, ap, ap₂, sym, map, take, length, get_or, arith, None}
use Rattle.std.proofs.lemmas.List.{take_more, map-append}
use Rattle.keybytes.specs.Keys.{KeySpecValue}
use Rattle.keybytes.specs.declared.pair.Pair.{Pair}
use Rattle.run_maker.proofs.maker.Maker.new.Goals as goal

pub loop-preserved : goal.loop-preserved
loop-preserved c =
    let specs = c.args.specs.items in
    let i = c.loop.counter in
    let none : KeySpecValue → List Pair = λ spec. [] in
    let d : KeySpecValue = record { kinds = []; columns = []; unique = false; condition = None } in
    let inside : i < length specs = omega (arith, c.loop-test.true, c.len-end.ensures) in
    record {
      made =
          c.push_reserved.ensures.items
          ∙ (ap₂ (λ (xs : List (List Pair)) (x : List Pair). xs ++ x ∷ []) c.loop.invariant.made c.new.ensures
          ∙ sym (ap (map none) (take_more specs i d inside) ∙ map-append none (take i specs) (get_or specs i d ∷ [])));
      room = omega (arith, c.loop.invariant.room, c.push_reserved.ensures.capacity);
    }
