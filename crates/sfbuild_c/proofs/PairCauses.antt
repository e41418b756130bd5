-- A pair is looked for where nothing refuses it.
use Rattle.std.proofs.Common.{◌≡◌, ◌≤◌, ◌<◌, ◌&&◌, ◌⊎◌, ℕ, true, List, length, None, Some, nat_le, get_or, refl, inl, inr, arith}
use Rattle.std.specs.List.{slice_get}
use Rattle.std.proofs.lemmas.Bool.Decides.{nat_tests}
use Rattle.std.proofs.lemmas.Option.{slice_get_cases}
use Rattle.ready_indexes.specs.Indexes.{ReadyValue}
use Rattle.kept_table.specs.Lookups.{number_refusal}
use Rattle.sfbuild_c.specs.Lookups.{pair_refusal}

index_there :
    (ready : List ReadyValue) (index : ℕ) → index < length ready
    → ((x : ReadyValue) × (index < length ready) × (slice_get ready index ≡ Some x) × (get_or ready index x ≡ x))
    ⊎ ((length ready ≤ index) × (slice_get ready index ≡ None))
    → number_refusal (slice_get ready index) ≡ None
index_there ready index below (inl found) = rw found.2 refl
index_there ready index below (inr past) = absurd (omega (arith, below, past.0))

pub no_pair_refusal :
    (room : List ℕ) (size index : ℕ) (ready : List ReadyValue) → size ≤ length room → size ≤ 812 → index < length ready
    → pair_refusal room size (slice_get ready index) ≡ None
no_pair_refusal room size index ready fits short below =
    let so_many : (nat_le size (length room) && nat_le size 812) ≡ true = grind (arith, nat_tests, fits, short) in
    let there : number_refusal (slice_get ready index) ≡ None = index_there ready index below (slice_get_cases ready index).1 in
    rw (so_many, there) refl
