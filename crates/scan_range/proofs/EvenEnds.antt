-- Ranges of nearly the same length are ranges of all pages.
use Rattle.std.proofs.Common.{◌≡◌, ℕ, zero, suc, ◌+◌, ◌*◌, ◌/◌, ◌<◌, ◌≤◌, Bool, true, false, length, Some, None, refl, ap, ◌∙◌, arith}
use Rattle.std.proofs.Math.Nat.{zero-div, div-mul-le_self, mul-div_left}
use Rattle.std.proofs.lemmas.Nat.{le-div}
use Rattle.std.specs.Prelude.{map, nat_lt, nat_le, ◌&&◌, if◌then◌else◌}
use Rattle.std.specs.List.{range_with_len}
use Rattle.std.proofs.lemmas.Bool.{and_from, and_parts, le-leb, leb-true, lt-ltb, ltb-true, eq-eqb}
use Rattle.std.proofs.lemmas.List.FromFn.{length-map-range_with_len}
use Rattle.keybytes.specs.declared.fault.Fault.TheVariants.{BadRanges}
use Rattle.scan_range.specs.Cuts.{end_at, even_ends, even_refusal, ranges_most, are_cuts}

no_cause : (fit : Bool) → (if fit then None else Some BadRanges) ≡ None → fit ≡ true
no_cause true e = refl
no_cause false e = absurd (cc)

-- as many ranges as there may be
pub even_fit : (ranges : ℕ) → even_refusal ranges ≡ None → (0 < ranges) × (ranges ≤ ranges_most)
even_fit ranges e =
    let fit = and_parts (nat_lt 0 ranges) (nat_le ranges ranges_most) (no_cause (nat_lt 0 ranges && nat_le ranges ranges_most) e) in
    (ltb-true 0 ranges fit.0, leb-true ranges ranges_most fit.1)

-- the end of a range doesn't lie below that of the one before it
even_rise : (pages ranges range : ℕ) → 0 < ranges → pages * range / ranges ≤ pages * (range + 1) / ranges
even_rise pages ranges range h =
    le-div (pages * range / ranges) (pages * (range + 1)) ranges h (omega (arith, div-mul-le_self (pages * range) ranges))

-- the ends of the last ranges, from that one on
even_from : (pages ranges : ℕ) → 0 < ranges → (n range low : ℕ) → range + n ≡ ranges → low ≡ pages * range / ranges
    → end_at low pages (map (λ r. pages * (r + 1) / ranges) (range_with_len range n)) ≡ true
even_from pages ranges h zero range low e l =
    let whole : range ≡ ranges = omega arith in
    eq-eqb low pages (l ∙ ap (λ (r : ℕ). pages * r / ranges) whole ∙ mul-div_left pages h)
even_from pages ranges h (suc n) range low e l =
    and_from _ _ (le-leb low (pages * (range + 1) / ranges) (omega (arith, even_rise pages ranges range h)))
    (even_from pages ranges h n (range + 1) (pages * (range + 1) / ranges) (omega arith) refl)

pub even_are_cuts : (pages ranges : ℕ) → 0 < ranges → ranges ≤ ranges_most → are_cuts pages (even_ends pages ranges) ≡ true
even_are_cuts pages ranges h most =
    let count : length (even_ends pages ranges) ≡ ranges = length-map-range_with_len (λ r. pages * (r + 1) / ranges) 0 ranges in
    let start : 0 ≡ pages * 0 / ranges = omega (arith, zero-div ranges) in
    and_from _ _
    (and_from _ _ (lt-ltb 0 (length (even_ends pages ranges)) (omega arith)) (le-leb (length (even_ends pages ranges)) ranges_most (omega arith)))
    (even_from pages ranges h ranges 0 0 (omega arith) start)
