-- What seats know of a log that only grows.
use Rattle.std.specs.Prelude.{◌≡◌, ℕ, ◌%◌, ◌^◌, List, [], ◌∷◌, ◌++◌, length}
use mathlib.Core.Option.{some}
use mathlib.Core.List.{IsPrefix}
use lib.ListN.{get_elem?}
use Rattle.atomic_table.specs.Table.{Me, Step}
use Rattle.atomic_table.specs.Seated.{TableId}
use Rattle.heap_log.specs.declared.record.LogRec.{LogRec}
use Rattle.log_prefixes.specs.declared.view.View.{View}

-- the name of no table
abbrev pub no_table : TableId
no_table = record { words = 0; slots = 0; views_name = 0; atom = 0; block = 0; offset = 0; slot_names = [] }

-- a log, and the word that was made with it
pub record Opening : Type 0 where
  pub table : TableId
  pub log : List LogRec

module _ {R : Type 0} where
  -- the view of one that knows a list of records, with nothing beside it
  abbrev pub knower : List R → View R
  knower log = record { log = log; beside = [] }

  -- The rule of the table: the first seat knows the log, whose length the word is, modulo 2^64, and what any seat knows is a beginning of it
  abbrev pub Kept : List ℕ → List (View R) → Type 0
  Kept words views =
      (log : List R) × (words ≡ (length log % 2 ^ 64) ∷ [])
      × ((v : View R) → get_elem? views 0 ≡ some v → v.log ≡ log)
      × ((by : ℕ) (v : View R) → get_elem? views by ≡ some v → IsPrefix v.log log × IsPrefix v.beside log)

  -- the log has grown by the record that was said
  abbrev pub Appended : Step R → Me R (View R) → ℕ → Me R (View R) → Type 0
  Appended s before found after = (x : R) → s.said ≡ some x → after ≡ (knower (before.0.log ++ x ∷ []), before.1)

  -- what was beside is a beginning of the log, and is let go
  abbrev pub Compared : Step R → Me R (View R) → ℕ → Me R (View R) → Type 0
  Compared s before found after = (after ≡ (knower before.0.log, before.1)) × IsPrefix before.0.beside before.0.log

-- a seat of the table that knows that many records and carries none
pub record IsSeat (table seat : TableId) (me : Me LogRec (View LogRec)) (len : ℕ) : Type 0 where
  pub seated : seat ≡ table
  pub bare : me.1 ≡ []
  pub counted : len ≡ length me.0.log

-- the first seat of a table of one word, which knows the whole log, of that many records, and has nothing beside it
pub record IsFirstSeat (table seat : TableId) (id : ℕ) (me : Me LogRec (View LogRec)) (len : ℕ) : Type 0 where
  pub one_word : table.words ≡ 1
  pub seated : seat ≡ table
  pub zeroth : id ≡ 0
  pub knows : me ≡ (knower me.0.log, [])
  pub counted : len ≡ length me.0.log
