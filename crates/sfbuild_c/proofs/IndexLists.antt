-- Indexes and their bytes.
use Rattle.std.proofs.Common.{◌≡◌, ◌≢◌, ℕ, ◌<◌, ◌≤◌, arith, length-append, false, List, [], ◌∷◌, ◌++◌, length, take, refl, sym, ap, ◌∙◌}
use Rattle.std.proofs.Common.{append_assoc, append-nil, length-take-le}
use Rattle.std.proofs.lemmas.Grind.{flat_map-append}
use Rattle.std.proofs.lemmas.List.Elements.{All-append, All-cons, All-nil}
use Rattle.std.specs.List.{All, flat_map}
use Rattle.keybytes.specs.Keys.{KeySpecValue, are_key_columns}
use Rattle.keybytes.specs.declared.key_col.KeyCol.{KeyCol}
use Rattle.keybytes.specs.declared.kind.Kind.{Kind}
use Rattle.sfbuild_c.specs.IndexBytes.{column_bytes, flag_byte, index_bytes, BreaksOff, IsIndexOf, NoIndexBegins, SpellsIndexes}
use Rattle.sfbuild_c.specs.NamedIndexes.{Begins}
use Rattle.sfbuild_c.proofs.ColumnLists.{same_columns}

-- the indexes read so far, and the bytes that are left
pub record HasRead (kinds : List Kind) (bytes : List ℕ) (specs : List KeySpecValue) (rest : List ℕ) : Type 0 where
  pub each : All (IsIndexOf kinds) specs
  pub bytes_are : bytes ≡ flat_map index_bytes specs ++ rest

pub read_none : (kinds : List Kind) (bytes : List ℕ) → HasRead kinds bytes [] bytes
read_none kinds bytes = record { each = All-nil (IsIndexOf kinds); bytes_are = refl }

-- an index more
pub read_more :
    (kinds : List Kind) (bytes rest behind : List ℕ) (specs : List KeySpecValue) (spec : KeySpecValue) → HasRead kinds bytes specs rest
    → Begins kinds rest spec behind → HasRead kinds bytes (specs ++ spec ∷ []) behind
read_more kinds bytes rest behind specs spec had next =
    let one : flat_map index_bytes (spec ∷ []) ≡ index_bytes spec = append-nil (index_bytes spec) in
    record {
      each = All-append (IsIndexOf kinds) specs (spec ∷ []) had.each (All-cons (IsIndexOf kinds) spec [] next.is_index (All-nil (IsIndexOf kinds)));
      bytes_are = had.bytes_are
          ∙ (ap (λ (xs : List ℕ). flat_map index_bytes specs ++ xs) next.bytes_are
          ∙ (sym (append_assoc (flat_map index_bytes specs) (index_bytes spec) behind)
          ∙ ap (λ (xs : List ℕ). xs ++ behind)
          (ap (λ (xs : List ℕ). flat_map index_bytes specs ++ xs) (sym one) ∙ sym (flat_map-append index_bytes specs (spec ∷ [])))));
    }

-- no bytes are left
pub read_all :
    (kinds : List Kind) (bytes rest : List ℕ) (specs : List KeySpecValue) → HasRead kinds bytes specs rest → rest ≡ [] → SpellsIndexes kinds bytes specs
read_all kinds bytes rest specs had end = record {
  bytes_are = had.bytes_are ∙ (ap (λ (xs : List ℕ). flat_map index_bytes specs ++ xs) end ∙ append-nil (flat_map index_bytes specs));
  each = had.each;
}

-- some are left, and no index begins there
pub breaks_off :
    (kinds : List Kind) (bytes rest : List ℕ) (specs : List KeySpecValue) → HasRead kinds bytes specs rest → (rest ≡ [] → ⊥)
    → NoIndexBegins kinds rest → BreaksOff kinds bytes
breaks_off kinds bytes rest specs had some none = record {
  specs = specs;
  rest = rest;
  each = had.each;
  bytes_are = had.bytes_are;
  some = some;
  none = none;
}

-- where the columns that come next make no key, no index begins
pub none_key :
    (kinds : List Kind) (bytes body behind : List ℕ) (columns : List KeyCol) (flag count : ℕ) → bytes ≡ flag ∷ count ∷ body
    → body ≡ flat_map column_bytes (take count columns) ++ behind → count ≤ length columns → are_key_columns kinds (take count columns) ≡ false
    → NoIndexBegins kinds bytes
none_key kinds bytes body behind columns flag count head read inside key = λ spec rest is e.
    let whole : flag ∷ count ∷ body ≡ flag_byte spec.unique ∷ length spec.columns ∷ (flat_map column_bytes spec.columns ++ rest) = sym head ∙ e in
    let many : length (take count columns) ≡ length spec.columns = length-take-le count columns inside ∙ cc in
    let next : body ≡ flat_map column_bytes spec.columns ++ rest = cc in
    let same = same_columns (take count columns) spec.columns behind rest many (sym read ∙ next) in
    cc (key, is.columns, ap (are_key_columns kinds) same.0)

-- an index has bytes
pub shorter : (kinds : List Kind) (bytes rest : List ℕ) (spec : KeySpecValue) → Begins kinds bytes spec rest → length rest < length bytes
shorter kinds bytes rest spec begins =
    let e : length bytes ≡ length (flag_byte spec.unique ∷ length spec.columns ∷ (flat_map column_bytes spec.columns ++ rest)) =
    ap length begins.bytes_are in
    omega (arith, e, length-append (flat_map column_bytes spec.columns) rest)

pub is_empty : (rest : List ℕ) → length rest ≡ 0 → rest ≡ []
is_empty [] len = refl
is_empty (x ∷ rest) len = absurd (omega (arith, len))

pub is_not_empty : (rest : List ℕ) → length rest ≢ 0 → rest ≡ [] → ⊥
is_not_empty rest some none = some (ap length none)
