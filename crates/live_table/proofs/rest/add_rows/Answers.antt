use Rattle.std.proofs.Common.{◌≡◌, ◌++◌, ◌∙◌, ◌+◌, ◌<◌, ℕ, List, [], ◌∷◌, length, get_or, take, filter_map, Option, Some, None, refl, sym, ap}
use Rattle.std.specs.List.{cons_option}
use Rattle.std.specs.Option.{option_to_list}
use Rattle.std.proofs.lemmas.List.{append_assoc, take_more}
use Rattle.std.proofs.lemmas.List.Elements.{filter_map-append}
use Rattle.keybytes.specs.Keys.{KeySpecValue}
use Rattle.keybytes.specs.declared.cell.Cell.{Cell}
use Rattle.keybytes.specs.declared.pair.Pair.{Pair}
use Rattle.keybytes.specs.declared.rid.Rid.{Rid}
use Rattle.heap_table.specs.TablePairs.{pair_of}
use Rattle.live_table.proofs.rest.add_rows.Goals as goal

-- what one row gives is all
alone : (pair : Option Pair) → cons_option pair [] ≡ option_to_list pair
alone None = refl
alone (Some pair) = refl

-- one row more
row_more :
    (spec : KeySpecValue) (rows : List (Rid × List Cell)) (i : ℕ) (d : Rid × List Cell) (before was now : List Pair) → i < length rows
    → was ≡ before ++ filter_map (pair_of spec) (take i rows) → now ≡ was ++ option_to_list (pair_of spec (get_or rows i d))
    → now ≡ before ++ filter_map (pair_of spec) (take (i + 1) rows)
row_more spec rows i d before was now inside made added =
    let last : List Pair = option_to_list (pair_of spec (get_or rows i d)) in
    added ∙ ap (λ (ps : List Pair). ps ++ last) made ∙ append_assoc before (filter_map (pair_of spec) (take i rows)) last
    ∙ ap (λ (ps : List Pair). before ++ (filter_map (pair_of spec) (take i rows) ++ ps)) (sym (alone (pair_of spec (get_or rows i d))))
    ∙ ap (λ (ps : List Pair). before ++ ps) (sym (filter_map-append (pair_of spec) (take i rows) (get_or rows i d ∷ [])))
    ∙ ap (λ (rs : List (Rid × List Cell)). before ++ filter_map (pair_of spec) rs) (sym (take_more rows i d inside))

pub loop-rid-preserved : goal.loop-rid-preserved
loop-rid-preserved c =
    row_more c.args.spec.now c.args.rows.now c.loop-rid.rid-index c.loop-rid-item.result c.args.pairs.now.items c.loop-rid.pairs.items c.add_row.new.pairs.items
    c.loop-rid-test.true c.loop-rid.invariant
    (c.in_ok-add_row.ensures.ok
    ∙ ap (λ (row : Rid × List Cell). c.loop-rid.pairs.items ++ option_to_list (pair_of c.args.spec.now row)) c.loop-rid-item.is)
