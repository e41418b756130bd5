-- The lines that are noted of rows which stand.
use Rattle.std.proofs.Common.{◌≡◌, ◌≢◌, ℕ, zero, suc, ◌+◌, ◌≤◌, add-one, Bool, true, false, List, [], ◌∷◌, ◌++◌, length, Some, None, inl, inr, sym, ap, ◌∙◌, arith}
use Rattle.std.specs.Prelude.{if◌then◌else◌}
use Rattle.std.proofs.lemmas.Bool.{cases_Bool}
use Rattle.std.proofs.lemmas.Option.{none-some}
use Rattle.heap_log.specs.Standing.{live_at}
use Rattle.heap_log.specs.declared.record.LogRec.{LogRec}
use Rattle.heap_table.specs.HeapState.{HeapState}
use Rattle.keybytes.specs.Rows.{row_bytes}
use Rattle.keybytes.specs.declared.cell.Cell.{Cell}
use Rattle.keybytes.specs.declared.rid.Rid.{Rid}
use Rattle.csv_index.specs.Fillings.{ArePutIn, IsPutIn}
use Rattle.csv_index.specs.Lines.{AreNoted, NotesLine, ends_line, line_at, line_of, lines_before}
use Rattle.csv_index.proofs.Freed.{goes_free}

-- no more lines end before a place than there are bytes
pub few_lines : (text : List ℕ) (place : ℕ) → lines_before text place ≤ place
few_lines text zero = omega arith
few_lines text (suc place) =
    let rest = few_lines text place in
    elim (cases_Bool (ends_line text place)) [ inl ends ↦ rw ends (omega (arith, rest)) | inr goes_on ↦ rw goes_on (omega (arith, rest)) ]

-- one place on
pub line_ends : (text : List ℕ) (place : ℕ) → ends_line text place ≡ true → line_at text (place + 1) ≡ line_at text place + 1
line_ends text place ends =
    ap (λ (next : ℕ). line_at text next) (add-one place) ∙ ap (λ (is : Bool). lines_before text place + (if is then 1 else 0) + 1) ends

pub line_goes_on : (text : List ℕ) (place : ℕ) → ends_line text place ≡ false → line_at text (place + 1) ≡ line_at text place
line_goes_on text place goes_on =
    ap (λ (next : ℕ). line_at text next) (add-one place)
    ∙ (ap (λ (is : Bool). lines_before text place + (if is then 1 else 0) + 1) goes_on ∙ omega arith)

-- a row stands at that place
abbrev Stands : HeapState → Rid → Type 0
Stands s rid = (row : List Cell) × (live_at s.log rid ≡ Some row)

abbrev pub AllStand : HeapState → List Rid → Type 0
AllStand s [] = Unit {0}
AllStand s (rid ∷ rids) = Stands s rid × AllStand s rids

-- where a row stands, and where none does
apart : (log : List LogRec) (rid other : Rid) (row : List Cell) → live_at log rid ≡ None → live_at log other ≡ Some row → other ≢ rid
apart log rid other row none some same = none-some row (sym none ∙ (ap (live_at log) (sym same) ∙ some))

pub empty_before : (a b : HeapState) (row : List Cell) (rid : Rid) → IsPutIn a row rid b → live_at a.log rid ≡ None
empty_before a b row rid put = sym (put.kept.live rid) ∙ goes_free put.between (length (row_bytes row)) rid put.goes

stays : (a b : HeapState) (row : List Cell) (rid other : Rid) → IsPutIn a row rid b → Stands a other → Stands b other
stays a b row rid other put stands =
    let differs = apart a.log rid other stands.0 (empty_before a b row rid put) stands.1 in
    (stands.0, put.put.elsewhere other differs ∙ (put.kept.live other ∙ stands.1))

stays_on : (a c : HeapState) (rows : List (List Cell)) (rids : List Rid) (other : Rid) → ArePutIn a rows rids c → Stands a other → Stands c other
stays_on a c [] [] other kept stands = (stands.0, kept.live other ∙ stands.1)
stays_on a c [] (rid ∷ rids) other put stands = absurd put
stays_on a c (row ∷ rows) [] other put stands = absurd put
stays_on a c (row ∷ rows) (rid ∷ rids) other put stands = stays_on put.0 c rows rids other put.2 (stays a put.0 row rid other put.1 stands)

-- rows that were put in stand
pub all_stand : (a c : HeapState) (rows : List (List Cell)) (rids : List Rid) → ArePutIn a rows rids c → AllStand c rids
all_stand a c [] [] kept = tt
all_stand a c [] (rid ∷ rids) put = absurd put
all_stand a c (row ∷ rows) [] put = absurd put
all_stand a c (row ∷ rows) (rid ∷ rids) put =
    (stays_on put.0 c rows rids rid put.2 (row, put.1.put.here), all_stand put.0 c rows rids put.2)

-- a line that is noted where no row stood leaves those of the rows that stand
pub noted_still :
    (text : List ℕ) (from to : ℕ) (rids : List Rid) (a : HeapState) (rid : Rid) (line : ℕ) (old new : List (List ℕ)) → live_at a.log rid ≡ None
    → AllStand a rids → NotesLine old rid line new → AreNoted text from rids to old → AreNoted text from rids to new
noted_still text from to [] a rid line old new empty stand notes noted = noted
noted_still text from to (other ∷ rids) a rid line old new empty stand notes noted =
    let differs = apart a.log rid other stand.0.0 empty stand.0.1 in (
      noted.0,
      noted.1,
      notes.elsewhere other differs ∙ noted.2,
      noted_still text noted.0 to rids a rid line old new empty stand.1 notes noted.3,
    )

-- a row more, of a place behind
pub noted_more :
    (text : List ℕ) (from to place : ℕ) (rids : List Rid) (rid : Rid) (lines : List (List ℕ)) → to ≤ place → line_of lines rid ≡ line_at text place
    → AreNoted text from rids to lines → AreNoted text from (rids ++ rid ∷ []) place lines
noted_more text from to place [] rid lines later is noted = (place, omega (arith, noted, later), is, omega arith)
noted_more text from to place (other ∷ rids) rid lines later is noted =
    (noted.0, noted.1, noted.2, noted_more text noted.0 to place rids rid lines later is noted.3)

-- the text was read on
pub noted_later :
    (text : List ℕ) (from to later : ℕ) (rids : List Rid) (lines : List (List ℕ)) → to ≤ later → AreNoted text from rids to lines
    → AreNoted text from rids later lines
noted_later text from to later [] lines on noted = omega (arith, noted, on)
noted_later text from to later (rid ∷ rids) lines on noted = (noted.0, noted.1, noted.2, noted_later text noted.0 to later rids lines on noted.3)
