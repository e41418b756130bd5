-- Runs that go on to another page only where a pair has no room.
use Rattle.std.proofs.Common.{◌≡◌, ℕ, ◌-◌, ◌<◌, suc, zero, ◌∙◌, List, [], ◌∷◌, ◌++◌, get_or, length, drop, refl, sym, ap, subst, arith, inl, inr}
use Rattle.std.proofs.lemmas.Bool.{lt-ltb, le-ltb, cases_lt}
use Rattle.keybytes.specs.declared.pair.Pair.{Pair}
use Rattle.run_spool.specs.Pages.{PageValue, last_behind, last_key, no_page, with_pair, without_first}
use Rattle.run_spool.specs.Runs.{AreFilledFrom, HadNoRoomFor, IsFilled, last_of, without_pairs}

-- those behind the first page
pub filled_behind : (size : List ℕ → Pair → ℕ) (page : PageValue) (run : List PageValue) → AreFilledFrom size page run → IsFilled size run
filled_behind size page [] filled = tt
filled_behind size page (next ∷ run) filled = filled.1

last_behind_first : (page next : PageValue) (run : List PageValue) → last_of (page ∷ next ∷ run) ≡ last_of (next ∷ run)
last_behind_first page next run =
    let one : length (page ∷ next ∷ run) - 1 ≡ suc (length run) = omega arith in
    let other : length (next ∷ run) - 1 ≡ length run = omega arith in
    ap (λ (k : ℕ). get_or (page ∷ next ∷ run) k no_page) one ∙ ap (λ (k : ℕ). get_or (next ∷ run) k no_page) (sym other)

filled_more_from :
    (size : List ℕ → Pair → ℕ) (page : PageValue) (run : List PageValue) (next : PageValue) → AreFilledFrom size page run
    → HadNoRoomFor size (last_of (page ∷ run)) next.pairs → AreFilledFrom size page (run ++ next ∷ [])
filled_more_from size page [] next filled none = (none, tt)
filled_more_from size page (second ∷ run) next filled none = (
  filled.0,
  filled_more_from size second run next filled.1
      (subst (λ (last : PageValue). HadNoRoomFor size last next.pairs) (last_behind_first page second run) none),
)

-- with another page, where the last one had no room
pub filled_more :
    (size : List ℕ → Pair → ℕ) (run : List PageValue) (next : PageValue) → IsFilled size run
    → HadNoRoomFor size (last_of run) next.pairs → IsFilled size (run ++ next ∷ [])
filled_more size [] next filled none = tt
filled_more size (page ∷ run) next filled none = filled_more_from size page run next filled none

no_room_for_more : (size : List ℕ → Pair → ℕ) (page : PageValue) (pairs : List Pair) (pair : Pair) → 0 < length pairs → HadNoRoomFor size page pairs
    → HadNoRoomFor size page (pairs ++ pair ∷ [])
no_room_for_more size page [] pair some none = absurd (omega arith)
no_room_for_more size page (first ∷ pairs) pair some none = none

grown_from :
    (size : List ℕ → Pair → ℕ) (page : PageValue) (front : List PageValue) (last : PageValue) (pair : Pair) → 0 < length last.pairs
    → AreFilledFrom size page (front ++ last ∷ []) → AreFilledFrom size page (front ++ with_pair size last pair ∷ [])
grown_from size page [] last pair some filled = (no_room_for_more size page last.pairs pair some filled.0, tt)
grown_from size page (next ∷ front) last pair some filled = (filled.0, grown_from size next front last pair some filled.1)

-- with another pair on the last page
pub filled_grown :
    (size : List ℕ → Pair → ℕ) (front : List PageValue) (last : PageValue) (pair : Pair) → 0 < length last.pairs
    → IsFilled size (front ++ last ∷ []) → IsFilled size (front ++ with_pair size last pair ∷ [])
filled_grown size [] last pair some filled = tt
filled_grown size (page ∷ front) last pair some filled = grown_from size page front last pair some filled

last_behind_freed : (n : ℕ) (before other : List ℕ) (pairs : List Pair) → n < length pairs → last_behind other (drop n pairs) ≡ last_behind before pairs
last_behind_freed n before other [] few = absurd (omega arith)
last_behind_freed zero before other (pair ∷ pairs) few = refl
last_behind_freed (suc n) before other (pair ∷ pairs) few = last_behind_freed n pair.key other pairs (omega arith)

no_room_still : (size : List ℕ → Pair → ℕ) (page : PageValue) (n : ℕ) (pairs : List Pair) → last_key (without_first page n).pairs ≡ last_key page.pairs
    → HadNoRoomFor size page pairs → HadNoRoomFor size (without_first page n) pairs
no_room_still size page n [] same none = tt
no_room_still size page n (pair ∷ pairs) same none = subst (λ (last : List ℕ). page.room < size last pair) (sym same) none

still_filled : (size : List ℕ → Pair → ℕ) (page : PageValue) (n : ℕ) (run : List PageValue) → n < length page.pairs → AreFilledFrom size page run
    → AreFilledFrom size (without_first page n) run
still_filled size page n [] few filled = tt
still_filled size page n (next ∷ run) few filled = (
  no_room_still size page n next.pairs (last_behind_freed n [] [] page.pairs few) filled.0,
  filled.1,
)

-- without its first pairs
pub filled_freed : (size : List ℕ → Pair → ℕ) (n : ℕ) (run : List PageValue) → IsFilled size run → IsFilled size (without_pairs n run)
filled_freed size n [] filled = tt
filled_freed size n (page ∷ run) filled =
    elim (cases_lt n (length page.pairs)) [
      | inl few ↦ rw (lt-ltb n (length page.pairs) few) (still_filled size page n run few filled)
      | inr all ↦ rw (le-ltb n (length page.pairs) all) (filled_freed size (n - length page.pairs) run (filled_behind size page run filled))
    ]
