-- What ends keep that are those of ranges: they never go down, and the last is behind all pages.
use Rattle.std.proofs.Common.{◌≡◌, ℕ, zero, suc, ◌+◌, ◌<◌, ◌≤◌, true, List, [], ◌∷◌, length, get_or, arith}
use Rattle.std.proofs.lemmas.Bool.{and_parts, leb-true, eqb-true}
use Rattle.scan_range.specs.Cuts.{end_at}

-- the first end isn't below `low`
first_end : (low pages end : ℕ) (ends : List ℕ) → end_at low pages (end ∷ ends) ≡ true → low ≤ end
first_end low pages end ends h = leb-true low end (and_parts _ _ h).0

more_ends : (low pages end : ℕ) (ends : List ℕ) → end_at low pages (end ∷ ends) ≡ true → end_at end pages ends ≡ true
more_ends low pages end ends h = (and_parts _ _ h).1

pub ends_above : (low pages : ℕ) (ends : List ℕ) (i : ℕ) → end_at low pages ends ≡ true → i < length ends → low ≤ get_or ends i 0
ends_above low pages [] i h l = absurd (omega arith)
ends_above low pages (end ∷ ends) zero h l = first_end low pages end ends h
ends_above low pages (end ∷ ends) (suc i) h l =
    omega (arith, first_end low pages end ends h, ends_above end pages ends i (more_ends low pages end ends h) (omega arith))

pub ends_rise : (low pages : ℕ) (ends : List ℕ) (i j : ℕ) → end_at low pages ends ≡ true → i ≤ j → j < length ends
    → get_or ends i 0 ≤ get_or ends j 0
ends_rise low pages [] i j h le l = absurd (omega arith)
ends_rise low pages (end ∷ ends) zero zero h le l = omega arith
ends_rise low pages (end ∷ ends) zero (suc j) h le l = ends_above end pages ends j (more_ends low pages end ends h) (omega arith)
ends_rise low pages (end ∷ ends) (suc i) zero h le l = absurd (omega arith)
ends_rise low pages (end ∷ ends) (suc i) (suc j) h le l =
    ends_rise end pages ends i j (more_ends low pages end ends h) (omega arith) (omega arith)

pub ends_below : (low pages : ℕ) (ends : List ℕ) (i : ℕ) → end_at low pages ends ≡ true → i < length ends → get_or ends i 0 ≤ pages
ends_below low pages [] i h l = absurd (omega arith)
ends_below low pages (end ∷ []) zero h l = omega (arith, eqb-true end pages (more_ends low pages end [] h))
ends_below low pages (end ∷ []) (suc i) h l = absurd (omega arith)
ends_below low pages (end ∷ next ∷ ends) zero h l =
    omega (
      arith,
      first_end end pages next ends (more_ends low pages end (next ∷ ends) h),
      ends_below end pages (next ∷ ends) zero (more_ends low pages end (next ∷ ends) h) (omega arith),
    )
ends_below low pages (end ∷ next ∷ ends) (suc i) h l =
    ends_below end pages (next ∷ ends) i (more_ends low pages end (next ∷ ends) h) (omega arith)

-- the last end is the number of pages
pub last_end : (low pages : ℕ) (ends : List ℕ) (last : ℕ) → end_at low pages ends ≡ true → last + 1 ≡ length ends → get_or ends last 0 ≡ pages
last_end low pages [] last h e = absurd (omega arith)
last_end low pages (end ∷ []) zero h e = eqb-true end pages (more_ends low pages end [] h)
last_end low pages (end ∷ []) (suc last) h e = absurd (omega arith)
last_end low pages (end ∷ next ∷ ends) zero h e = absurd (omega arith)
last_end low pages (end ∷ next ∷ ends) (suc last) h e =
    last_end end pages (next ∷ ends) last (more_ends low pages end (next ∷ ends) h) (omega arith)
