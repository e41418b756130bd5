-- How ranges go: at the start no range is past its first page, and all are done once each is.
use Rattle.std.proofs.Common.{◌≡◌, ℕ, zero, suc, ◌+◌, ◌<◌, ◌≤◌, Bool, true, false, List, length, refl, arith, add-one}
use Rattle.std.proofs.lemmas.List.FromFn.{length-range_with_len, get_or-range_with_len, length-map-range_with_len, get_or-map-range_with_len}
use Rattle.std.proofs.lemmas.List.Sums.{list_all-from_AllPass}
use Rattle.std.proofs.lemmas.List.Folds.{list_all_at}
use Rattle.std.specs.Prelude.{map}
use Rattle.std.specs.List.{range_with_len}
use Rattle.scan_range.specs.Cuts.{CutsValue, range_start, range_end, are_cuts}
use Rattle.scan_range.specs.Ranges.{RangesValue, AreRanges, at_start, next_of, is_done, are_done}
use Rattle.scan_range.proofs.Ends.{ends_rise}
use Rattle.scan_range.proofs.Covered.{cuts_end_at}

-- a range doesn't end before it begins
pub start_below_end : (pages : ℕ) (ends : List ℕ) (range : ℕ) → are_cuts pages ends ≡ true → range < length ends
    → range_start ends range ≤ range_end ends range
start_below_end pages ends zero h l = omega arith
start_below_end pages ends (suc range) h l = ends_rise 0 pages ends range (suc range) (cuts_end_at pages ends h) (omega arith) l

pub next_at_start : (cuts : CutsValue) (range : ℕ) → range < length cuts.ends → next_of (at_start cuts) range ≡ range_start cuts.ends range
next_at_start cuts range l = get_or-map-range_with_len (range_start cuts.ends) 0 (length cuts.ends) range range 0 l (omega arith)

pub at_start-AreRanges : (cuts : CutsValue) → are_cuts cuts.pages cuts.ends ≡ true → AreRanges (at_start cuts)
at_start-AreRanges cuts h = record {
  cuts = h;
  each = length-map-range_with_len (range_start cuts.ends) 0 (length cuts.ends);
  low = λ range l. omega (arith, next_at_start cuts range l);
  high = λ range l. omega (arith, next_at_start cuts range l, start_below_end cuts.pages cuts.ends range h l);
}

-- the ranges that a loop over the ends makes
pub made-AreRanges : (cuts : CutsValue) (ends next : List ℕ) (count : ℕ) → are_cuts cuts.pages cuts.ends ≡ true → ends ≡ cuts.ends
    → count ≡ length ends → next ≡ map (range_start ends) (range_with_len 0 count)
    → AreRanges (record { pages = cuts.pages; ends = cuts.ends; next = next })
made-AreRanges cuts ends next count h same all made = rw made (rw all (rw same (at_start-AreRanges cuts h)))

pub start_after : (ends : List ℕ) (range : ℕ) → range_start ends (range + 1) ≡ range_end ends range
start_after ends range = rw add-one refl

done_at : (ranges : RangesValue) (range at : ℕ) (pass : Bool) → at ≡ range → is_done ranges range ≡ pass → is_done ranges at ≡ pass
done_at ranges range at pass e h = rw e h

pub all_done-each : (ranges : RangesValue) → ((range : ℕ) → range < length ranges.ends → is_done ranges range ≡ true)
    → are_done ranges ≡ true
all_done-each ranges each = list_all-from_AllPass (is_done ranges) (range_with_len 0 (length ranges.ends))
    (λ k d b.
    let l : k < length ranges.ends = omega (arith, length-range_with_len 0 (length ranges.ends)) in
    done_at ranges k _ true (omega (arith, get_or-range_with_len 0 (length ranges.ends) k d l)) (each k l))

pub not_done-one : (ranges : RangesValue) (range : ℕ) → range < length ranges.ends → is_done ranges range ≡ false
    → are_done ranges ≡ false
not_done-one ranges range l e =
    list_all_at (is_done ranges) (range_with_len 0 (length ranges.ends)) range 0
    (omega (arith, length-range_with_len 0 (length ranges.ends)))
    (done_at ranges range _ false (omega (arith, get_or-range_with_len 0 (length ranges.ends) range 0 l)) e)
