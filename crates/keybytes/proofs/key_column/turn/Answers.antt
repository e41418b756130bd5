use Rattle.std.proofs.Common.{◌≡◌, ℕ, ◌+◌, List, [], ◌∷◌, ◌++◌, drop, get_or, ap, ap₂, ◌∙◌, sym, arith, get_or-drop, drop-drop}
use Rattle.std.proofs.lemmas.List.{take_more_set, drop-set-lt, map_more}
use Rattle.keybytes.specs.Keys.{complement}
use Rattle.keybytes.proofs.key_column.turn.Goals as goal

-- what stands at a place is what stood there, where nothing from there on was changed
same_at : (new old : List ℕ) (i : ℕ) → drop i new ≡ drop i old → get_or new i 0 ≡ get_or old i 0
same_at new old i left =
    ap (λ (place : ℕ). get_or new place 0) (omega arith) ∙ sym (get_or-drop i new 0 0) ∙ ap (λ (xs : List ℕ). get_or xs 0 0) left
    ∙ get_or-drop i old 0 0 ∙ ap (λ (place : ℕ). get_or old place 0) (omega arith)

pub loop-byte-preserved : goal.loop-byte-preserved
loop-byte-preserved c = record {
  turned = take_more_set c.loop-byte.bytes c.loop-byte.byte-index _ (omega (arith, c.loop-byte-test.true, c.loop-byte.auto.bytes))
      ∙ ap₂ (λ (xs : List ℕ) (x : ℕ). xs ++ complement x ∷ []) c.loop-byte.invariant.turned (same_at c.loop-byte.bytes c.args.bytes.now c.loop-byte.byte-index c.loop-byte.invariant.left)
      ∙ sym (map_more complement c.args.bytes.now c.loop-byte.byte-index 0 c.loop-byte-test.true);
  left = drop-set-lt (c.loop-byte.byte-index + 1) c.loop-byte.bytes c.loop-byte.byte-index _ (omega arith)
      ∙ sym (drop-drop 1 c.loop-byte.byte-index c.loop-byte.bytes)
      ∙ ap (drop 1) c.loop-byte.invariant.left
      ∙ drop-drop 1 c.loop-byte.byte-index c.args.bytes.now;
}
