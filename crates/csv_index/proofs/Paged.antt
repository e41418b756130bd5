-- Lines by page and slot.
use Rattle.std.proofs.Common.{◌≡◌, ◌≢◌, ℕ, zero, suc, ◌<◌, List, [], ◌∷◌, ◌++◌, map, length, set, slice_index, slice_index_or, inl, inr, refl, sym, ap, ◌∙◌, get_or-set_same, get_or-set_other}
use Rattle.std.specs.Global.{Vec}
use Rattle.std.specs.Vec.{vec_items}
use Rattle.std.proofs.lemmas.Bool.{cases_eq}
use Rattle.std.proofs.lemmas.List.{map_push}
use Rattle.keybytes.specs.declared.rid.Rid.{Rid}
use Rattle.csv_index.specs.Lines.{NotesLine, line_of}

-- a list with one more that says nothing
pub empty_more : {X : Type 0} (xs : List X) (d : X) (place : ℕ) → slice_index_or (xs ++ d ∷ []) place d ≡ slice_index_or xs place d
empty_more [] d zero = refl
empty_more [] d (suc place) = refl
empty_more (x ∷ xs) d zero = refl
empty_more (x ∷ xs) d (suc place) = empty_more xs d place

-- a page more, without lines
pub page_more : (pages : List (Vec ℕ)) (page : Vec ℕ) (rid : Rid) → page.items ≡ []
    → line_of (map vec_items (pages ++ page ∷ [])) rid ≡ line_of (map vec_items pages) rid
page_more pages page rid empty =
    let more : map vec_items (pages ++ page ∷ []) ≡ map vec_items pages ++ [] ∷ [] =
    map_push vec_items pages page ∙ ap (λ (items : List ℕ). map vec_items pages ++ items ∷ []) empty in
    ap (λ (lines : List (List ℕ)). line_of lines rid) more ∙ ap (λ (lines : List ℕ). slice_index lines rid.slot) (empty_more (map vec_items pages) [] rid.page)

same_place : (rid other : Rid) → other.page ≡ rid.page → other.slot ≡ rid.slot → other ≡ rid
same_place rid other page slot =
    let make : ℕ → ℕ → Rid = λ p q. record { page = p; slot = q } in ap (λ p. make p other.slot) page ∙ ap (make rid.page) slot

-- one page's lines are others
pub noted_on :
    (old new : List (List ℕ)) (lines : List ℕ) (rid : Rid) (line : ℕ) → rid.page < length old → new ≡ set old rid.page lines
    → slice_index lines rid.slot ≡ line
    → ((slot : ℕ) → slot ≢ rid.slot → slice_index lines slot ≡ slice_index (slice_index_or old rid.page []) slot) → NotesLine old rid line new
noted_on old new lines rid line inside is here elsewhere = record {
  here = ap (λ (page : List ℕ). slice_index page rid.slot) (at rid.page ∙ same) ∙ here;
  elsewhere = λ other differs. elim (cases_eq other.page rid.page) [
    | inl page ↦
        ap (λ (xs : List ℕ). slice_index xs other.slot) (at other.page ∙ (ap (λ (p : ℕ). slice_index_or (set old rid.page lines) p []) page ∙ same))
        ∙ (elsewhere other.slot (λ slot. differs (same_place rid other page slot))
        ∙ ap (λ (p : ℕ). slice_index (slice_index_or old p []) other.slot) (sym page))
    | inr page ↦ ap (λ (xs : List ℕ). slice_index xs other.slot) (at other.page ∙ get_or-set_other old rid.page other.page lines [] page)
  ];
} where
  same : slice_index_or (set old rid.page lines) rid.page [] ≡ lines
  same = get_or-set_same old rid.page lines [] inside

  at : (page : ℕ) → slice_index_or new page [] ≡ slice_index_or (set old rid.page lines) page []
  at page = ap (λ (xs : List (List ℕ)). slice_index_or xs page []) is
