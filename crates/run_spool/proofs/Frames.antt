-- Pages in frames, where `value` tells what a page is.
use Rattle.std.proofs.Common.{◌≡◌, ℕ, ◌-◌, ◌<◌, sym, ap, ◌∙◌, arith, Bool, true, false, if◌then◌else◌, Option, None}
use Rattle.std.proofs.Common.{List, [], ◌∷◌, ◌++◌, length, get_or, set, take, drop}
use Rattle.std.specs.List.{take-map, drop-map}
use Rattle.std.proofs.Math.ListN.{get_or-map}
use Rattle.std.proofs.lemmas.List.{get_or_default, length-map, map-append, map-set}
use Rattle.keybytes.specs.declared.pair.Pair.{Pair}
use Rattle.run_spool.specs.Pages.{PageValue, no_page, with_pair}
use Rattle.run_spool.specs.Frames.{page_in, pages_in}
use Rattle.run_spool.specs.Runs.{last_of, with_last, on_last}
use Rattle.run_spool.proofs.Chains.{set_last, same_last}

-- frames behind others
pub joined_in : {P : Type 0} (value : P → PageValue) (a b all : List (Option P)) (xs ys : List PageValue) → pages_in value a ≡ xs → pages_in value b ≡ ys
    → all ≡ a ++ b → pages_in value all ≡ xs ++ ys
joined_in value a b all xs ys first second are =
    ap (pages_in value) are ∙ map-append (page_in value) a b ∙ ap (λ (ps : List PageValue). ps ++ pages_in value b) first
    ∙ ap (λ (ps : List PageValue). xs ++ ps) second

module _ {P : Type 0} (value : P → PageValue) (frames : List (Option P)) (pages : List PageValue) (are : pages_in value frames ≡ pages) where
  -- as many pages as frames
  pub count_in : length frames ≡ length pages
  count_in = omega (arith, ap (λ (ps : List PageValue). length ps) are, length-map frames (page_in value))

  pub taken_in : (n : ℕ) → pages_in value (take n frames) ≡ take n pages
  taken_in n = sym (take-map (page_in value) n frames) ∙ ap (take n) are

  pub dropped_in : (n : ℕ) → pages_in value (drop n frames) ≡ drop n pages
  dropped_in n = sym (drop-map (page_in value) n frames) ∙ ap (drop n) are

  -- the last page
  last_in : (frame : Option P) → 0 < length frames → frame ≡ get_or frames (length frames - 1) frame → page_in value frame ≡ last_of pages
  last_in frame some here =
      let n : length frames - 1 ≡ length pages - 1 = omega (arith, count_in) in
      ap (page_in value) (here ∙ get_or_default frames (length frames - 1) frame None (omega arith))
      ∙ sym (get_or-map (page_in value) frames (length frames - 1) None)
      ∙ ap (λ (k : ℕ). get_or (pages_in value frames) k no_page) n ∙ ap (λ (ps : List PageValue). get_or ps (length pages - 1) no_page) are

  -- another last frame
  last_set : (frame : Option P) → 0 < length frames → pages_in value (set frames (length frames - 1) frame) ≡ with_last pages (page_in value frame)
  last_set frame some =
      let n = length frames - 1 in
      let same : n ≡ length pages - 1 = omega (arith, count_in) in
      map-set (page_in value) frames n frame
      ∙ set_last (pages_in value frames) n (page_in value frame) (omega (arith, length-map frames (page_in value)))
      ∙ ap (λ (k : ℕ). take k (pages_in value frames) ++ page_in value frame ∷ []) same
      ∙ ap (λ (ps : List PageValue). take (length pages - 1) ps ++ page_in value frame ∷ []) are

  -- a pair pushed on the last page, if it has room there
  pub pushed_in : (size : List ℕ → Pair → ℕ) (pair : Pair) (frame new : Option P) (fits : Bool) → 0 < length frames
      → frame ≡ get_or frames (length frames - 1) frame → page_in value new ≡ (if fits then with_pair size (page_in value frame) pair else page_in value frame)
      → pages_in value (set frames (length frames - 1) new) ≡ (if fits then on_last size pages pair else pages)
  pushed_in size pair frame new true some here is =
      last_set new some ∙ ap (with_last pages) (is ∙ ap (λ (page : PageValue). with_pair size page pair) (last_in frame some here))
  pushed_in size pair frame new false some here is =
      last_set new some ∙ ap (with_last pages) (is ∙ last_in frame some here) ∙ same_last pages (omega (arith, count_in))
