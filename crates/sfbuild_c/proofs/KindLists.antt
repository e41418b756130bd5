-- Lists of kinds and the bytes that stand for them.
use Rattle.std.proofs.Common.{◌≡◌, ℕ, ◌+◌, ◌<◌, ◌≤◌, true, false, List, [], ◌∷◌, ◌++◌, length, get_or, take, sym, ap, ap₂, ◌∙◌, arith}
use Rattle.std.proofs.Common.{Option, Some, None, Result, Ok, Err, MatchOption, OnOk, IfOk, IfErr, rules}
use Rattle.std.specs.Prelude.{map, nat_lt, nat_le, ◌&&◌, if◌then◌else◌}
use Rattle.std.specs.Option.{is_some}
use Rattle.std.proofs.lemmas.List.{map-append, take_more, length-map, get_or-map}
use Rattle.keybytes.specs.Schemas.{columns_refusal}
use Rattle.keybytes.specs.declared.fault.Fault.{Fault}
use Rattle.keybytes.specs.declared.fault.Fault.TheVariants.{BadColumn, Memory}
use Rattle.keybytes.specs.declared.kind.Kind.{Kind}
use Rattle.keybytes.specs.declared.kind.Kind.TheVariants.{Int}
use Rattle.sfbuild_c.specs.KindBytes.{kind_byte, SpellsKinds, SpellsTable}

-- whether the byte stands for a kind, as it is looked for
abbrev pub Stands : ℕ → Option Kind → Type 0
Stands byte found = MatchOption found ((kind : Kind) → kind_byte kind ≡ byte → ⊥) (λ kind. kind_byte kind ≡ byte)

pub stands : (byte : ℕ) (found : Option Kind) → Stands byte found → is_some found ≡ true → (kind : Kind) × (kind_byte kind ≡ byte)
stands byte None told some = cc
stands byte (Some kind) told some = (kind, told)

pub stands_not : (byte : ℕ) (found : Option Kind) → Stands byte found → is_some found ≡ false → (kind : Kind) → kind_byte kind ≡ byte → ⊥
stands_not byte None told none = told
stands_not byte (Some kind) told none = cc

-- a byte more and its kind
pub kind_more :
    (kinds : List Kind) (bytes : List ℕ) (i : ℕ) (kind : Kind) → i < length bytes → map kind_byte kinds ≡ take i bytes
    → kind_byte kind ≡ get_or bytes i 0 → map kind_byte (kinds ++ kind ∷ []) ≡ take (i + 1) bytes
kind_more kinds bytes i kind below e here =
    map-append kind_byte kinds (kind ∷ []) ∙ (ap₂ (λ (xs : List ℕ) (x : ℕ). xs ++ x ∷ []) e here ∙ sym (take_more bytes i 0 below))

same_length : (kinds : List Kind) (bytes : List ℕ) → bytes ≡ map kind_byte kinds → length kinds ≡ length bytes
same_length kinds bytes e = sym (length-map kinds kind_byte) ∙ sym (ap length e)

-- whether there is a table of that many columns
refusal_of : ℕ → Option Fault
refusal_of n = if nat_lt 0 n && nat_le n 12 then None else Some BadColumn

refusal-counts : (n : ℕ) → 0 < n → n ≤ 12 → refusal_of n ≡ None
unfolding refusal_of
refusal-counts n some few = search (arith)

-- as many kinds as a table may have stand for a table
pub spells_kinds :
    (kinds : List Kind) (bytes : List ℕ) → map kind_byte kinds ≡ bytes → 0 < length bytes → length bytes ≤ 12 → SpellsKinds bytes kinds
unfolding refusal_of
spells_kinds kinds bytes e some few =
    record { bytes_are = sym e; columns = ap refusal_of (same_length kinds bytes (sym e)) ∙ refusal-counts (length bytes) some few }

-- bytes of which one stands for no kind stand for no table
pub no_table :
    (bytes : List ℕ) (i : ℕ) → i < length bytes → ((kind : Kind) → kind_byte kind ≡ get_or bytes i 0 → ⊥) → SpellsTable bytes → ⊥
no_table bytes i below none table =
    let len = same_length table.0 bytes table.1.bytes_are in
    let inside : i < length table.0 = omega (arith, len, below) in
    none (get_or table.0 i Int) (sym (get_or-map kind_byte table.0 i Int 0 inside) ∙ ap (λ (xs : List ℕ). get_or xs i 0) (sym table.1.bytes_are))

-- the schema of the kinds read is what the bytes stand for
pub read_ok :
    (bytes : List ℕ) (kinds : List Kind) (made : Result (List Kind) Fault) → map kind_byte kinds ≡ bytes → IfOk made (λ schema. schema ≡ kinds)
    → OnOk made (columns_refusal kinds ≡ None) → IfOk made (SpellsKinds bytes)
read_ok bytes kinds (Ok schema) e same columns =
    record { bytes_are = sym e ∙ ap (map kind_byte) (sym same); columns = ap columns_refusal same ∙ columns }
read_ok bytes kinds (Err fault) e same columns = search rules

-- a schema of kinds that were looked at before is not refused
pub read_refused :
    (bytes : List ℕ) (kinds : List Kind) (made : Result (List Kind) Fault) → SpellsTable bytes → map kind_byte kinds ≡ bytes
    → IfErr made (λ fault. columns_refusal kinds ≡ Some fault) → IfErr made (λ fault. fault ≡ Memory)
unfolding refusal_of
read_refused bytes kinds (Ok schema) table e refused = search rules
read_refused bytes kinds (Err fault) table e refused =
    let same : columns_refusal kinds ≡ columns_refusal table.0 =
    ap refusal_of (same_length kinds bytes (sym e) ∙ sym (same_length table.0 bytes table.1.bytes_are)) in
    cc (same, table.1.columns, refused)
