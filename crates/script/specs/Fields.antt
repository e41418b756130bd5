-- How the fields of a record are spelled.
use denote.Ref.{Bor}
use Rattle.std.specs.Prelude.{◌≡◌, ◌==◌, ℕ, ◌+◌, ◌^◌, ◌<◌, ◌≤◌, map, ℤ, pos, neg_ℤ, nat_lt, nat_le, slice_index, Bool, ◌&&◌, List, [], ◌∷◌, ◌++◌, length, drop, codes}
use Rattle.std.specs.Prelude.{Option, option_map, Some, None, if◌then◌else◌}
use Rattle.std.specs.Char.{is_ascii_alphanumeric, is_ascii_digit}
use Rattle.std.specs.List.{list_all, slice_split, AllZip}
use Rattle.std.specs.Str.Parse.{digits_value}
use Rattle.keybytes.specs.declared.cell.Cell.{Cell}
use Rattle.keybytes.specs.declared.cell.Cell.TheVariants.{Null, Int, Text, Flag}
use Rattle.keybytes.specs.declared.key_col.KeyCol.{KeyCol}
use Rattle.keybytes.specs.declared.kind.Kind.{Kind}
use Rattle.keybytes.specs.declared.kind.Kind.TheVariants.{Int as IntKind, Text as TextKind, Flag as FlagKind}
use Rattle.keybytes.specs.declared.rid.Rid.{Rid}
use Rattle.keybytes.specs.declared.when.When.{When}
use Rattle.keybytes.specs.declared.when.When.TheVariants.{Equal, Less, IsNull}
use Rattle.scan_range.specs.declared.dealing.Dealing.{Dealing}
use Rattle.scan_range.specs.declared.dealing.Dealing.TheVariants.{Ends, Even}
use Rattle.script.specs.declared.spec.Spec.{Spec}
use Rattle.run_spool.specs.declared.choice.SpoolChoice.{SpoolChoice}
use Rattle.run_spool.specs.declared.choice.SpoolChoice.TheVariants.{Plain, Prefix, Mixed}

-- one or more characters, all of them decimal digits
abbrev pub is_digits : List ℕ → Bool
is_digits text = nat_lt 0 (length text) && list_all is_ascii_digit text

-- the number that digits below a limit spell
abbrev pub number_below : ℕ → List ℕ → Option ℕ
number_below limit text =
    if is_digits text && nat_lt (digits_value 10 text) limit then Some (digits_value 10 text) else None

-- the number that a text spells, below 2^32
abbrev pub number_of : List ℕ → Option ℕ
number_of text = number_below (2 ^ 32) text

-- the number of a slot that a text spells, below 2^16
abbrev pub slot_of : List ℕ → Option ℕ
slot_of text = number_below (2 ^ 16) text

-- the number of 64 bits that a text spells, with a minus sign in front if it is below 0
abbrev pub int_of : List ℕ → Option ℤ
int_of text =
    if slice_index text 0 == 45 then option_map (λ n. neg_ℤ (pos n)) (number_below (2 ^ 63 + 1) (drop 1 text))
    else option_map pos (number_below (2 ^ 63) text)

-- the text spells the cell
abbrev pub SpellsCell : List ℕ → Cell → Type 0
SpellsCell text Null = text ≡ codes "~"
SpellsCell text (Int number) = int_of text ≡ Some number
SpellsCell text (Text bytes) = text ≡ codes "=" ++ bytes
SpellsCell text (Flag flag) = text ≡ (if flag then codes "true" else codes "false")

-- the text spells the kind of column
abbrev pub SpellsKind : List ℕ → Kind → Type 0
SpellsKind text IntKind = text ≡ codes "int"
SpellsKind text TextKind = text ≡ codes "text"
SpellsKind text FlagKind = text ≡ codes "flag"

-- 1 to 16 ASCII letters and digits
abbrev pub is_label : List ℕ → Bool
is_label text = nat_lt 0 (length text) && (nat_le (length text) 16 && list_all is_ascii_alphanumeric text)

-- the texts of a list of fields
abbrev pub texts : List (Bor (List ℕ)) → List (List ℕ)
texts fields = map (λ field. field.now) fields

-- one or more texts, and each spells the value at its place
abbrev pub SpellEach : {A : Type 0} → (List ℕ → A → Type 0) → List (List ℕ) → List A → Type 0
SpellEach Spells texts values = (0 < length texts) × AllZip Spells texts values

-- the text spells the number
abbrev pub SpellsNumber : List ℕ → ℕ → Type 0
SpellsNumber text number = number_of text ≡ Some number

-- the text spells the number of a session, 1 to 8
abbrev pub SpellsSession : List ℕ → ℕ → Type 0
SpellsSession text session = SpellsNumber text session × (1 ≤ session) × (session ≤ 8)

-- the text spells the RID: its page and its slot, joined by a point, which is 46
abbrev pub SpellsRid : List ℕ → Rid → Type 0
SpellsRid text rid =
    (page : List ℕ) × (slot : List ℕ) × (text ≡ page ++ 46 ∷ slot) × SpellsNumber page rid.page × (slot_of slot ≡ Some rid.slot)

-- the text spells the numbers, with `;` between them
abbrev pub SpellsNumbers : List ℕ → List ℕ → Type 0
SpellsNumbers text numbers = AllZip SpellsNumber (slice_split (λ c. c == 59) text) numbers

-- what stands behind the number of a key's column
abbrev pub direction_mark : Bool → List ℕ
direction_mark descending = if descending then codes "d" else []

-- the text spells the column of a key: its number, and behind it a `d` where it descends
abbrev pub SpellsColumn : List ℕ → KeyCol → Type 0
SpellsColumn text named = (digits : List ℕ) × (text ≡ digits ++ direction_mark named.descending) × SpellsNumber digits named.column

-- the text spells the columns of a key, with `;` between them
abbrev pub SpellsColumns : List ℕ → List KeyCol → Type 0
SpellsColumns text columns = AllZip SpellsColumn (slice_split (λ c. c == 59) text) columns

-- the text spells the number, and behind it stand the sign and the rest
abbrev pub SpellsNumberBefore : List ℕ → ℕ → List ℕ → List ℕ → Type 0
SpellsNumberBefore text number sign rest = (digits : List ℕ) × (text ≡ digits ++ (sign ++ rest)) × SpellsNumber digits number

-- the text spells the condition: the number of a column, and behind it `=` and a cell, `<` and a cell, or `~` for Null
abbrev pub SpellsWhen : List ℕ → When → Type 0
SpellsWhen text (Equal column cell) = (asked : List ℕ) × SpellsNumberBefore text column (codes "=") asked × SpellsCell asked cell
SpellsWhen text (Less column bound) = (asked : List ℕ) × SpellsNumberBefore text column (codes "<") asked × SpellsCell asked bound
SpellsWhen text (IsNull column) = SpellsNumberBefore text column (codes "~") []

-- the text spells what stands behind the columns of a key: nothing, or `?` and a condition
abbrev pub SpellsCondition : List ℕ → Option When → Type 0
SpellsCondition text None = text ≡ []
SpellsCondition text (Some condition) = (rest : List ℕ) × (text ≡ codes "?" ++ rest) × SpellsWhen rest condition

-- the text spells the columns of a key, and behind them its condition
abbrev pub SpellsKey : List ℕ → List KeyCol → Option When → Type 0
SpellsKey text columns condition =
    (front : List ℕ) × (behind : List ℕ) × (text ≡ front ++ behind) × SpellsColumns front columns × SpellsCondition behind condition

-- what stands before the columns of a key specification
abbrev pub spec_front : Bool → List ℕ
spec_front unique = if unique then codes "u:" else codes "n:"

-- the text spells the key specification
abbrev pub SpellsSpec : List ℕ → Spec → Type 0
SpellsSpec text spec = (key : List ℕ) × (text ≡ spec_front spec.unique ++ key) × SpellsKey key spec.columns.items spec.condition

-- the text spells the kind of the spools of builds
abbrev pub SpellsSpools : List ℕ → SpoolChoice → Type 0
SpellsSpools text Plain = text ≡ codes "plain"
SpellsSpools text Prefix = text ≡ codes "prefix"
SpellsSpools text Mixed = text ≡ codes "mixed"

-- the text spells how pages are dealt into ranges
abbrev pub SpellsDealing : List ℕ → Dealing → Type 0
SpellsDealing text (Even ranges) = (number : List ℕ) × (text ≡ codes "even:" ++ number) × SpellsNumber number ranges
SpellsDealing text (Ends ends) = SpellsNumbers text ends.items
