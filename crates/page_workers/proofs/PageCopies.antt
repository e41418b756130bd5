-- A copy of a page of a table has the rows, and so the pairs, that the page had then.
use Rattle.std.proofs.Common.{◌≡◌, ℕ, List, [], ◌∷◌, Option, refl, sym, ap, ◌∙◌, subst}
use Rattle.std.specs.Prelude.{filter_map, map}
use Rattle.std.specs.List.{range_with_len, cons_option}
use Rattle.keybytes.specs.Keys.{KeySpecValue}
use Rattle.keybytes.specs.Pairs.{pair_with}
use Rattle.keybytes.specs.declared.kind.Kind.{Kind}
use Rattle.heap_log.specs.Standing.{live_at}
use Rattle.heap_log.specs.declared.record.LogRec.{LogRec}
use Rattle.heap_table.specs.Images.{ImageValue, IsImage, Shows, image_slot}
use Rattle.heap_table.specs.Pages.{rid_at, slots_written}
use Rattle.heap_table.specs.TablePairs.{pair_at, pairs_on}
use Rattle.slotted_page.specs.Slot.{Slot}
use Rattle.run_maker.specs.ImagePairs.{HasPairs}

-- what is taken of the elements that f makes
mapped : {X Y Z : Type 0} (f : X → Y) (g : Y → Option Z) (xs : List X) → filter_map g (map f xs) ≡ filter_map (λ x. g (f x)) xs
mapped f g [] = refl
mapped f g (x ∷ xs) = ap (cons_option (g (f x))) (mapped f g xs)

-- a copy has the pairs of its page as it was
pub copy_pairs :
    (spec : KeySpecValue) (kinds : List Kind) (log : List LogRec) (page : ℕ) (image : ImageValue) → spec.kinds ≡ kinds
    → IsImage kinds log page image → HasPairs spec image (pairs_on spec log page)
copy_pairs spec kinds log page image columns is =
    let on : ℕ → Slot = λ slot. image_slot image slot in
    subst (λ n. HasPairs spec image (pairs_on spec log n)) is.number
    (record {
      rows = λ slot. live_at log (rid_at image.page slot);
      shows = λ slot.
          subst (λ k. Shows k (on slot) (live_at log (rid_at image.page slot))) (sym columns)
          (subst (λ n. Shows kinds (on slot) (live_at log (rid_at n slot))) (sym is.number) (is.rows slot));
      pairs_are =
          mapped (rid_at image.page) (pair_at spec log) (range_with_len 0 (slots_written log image.page))
          ∙ ap (λ n. filter_map (λ slot. pair_with spec (rid_at image.page slot) (live_at log (rid_at image.page slot))) (range_with_len 0 n))
          (ap (slots_written log) is.number ∙ sym is.count);
    })
