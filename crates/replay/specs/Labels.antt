-- Which transaction each label names.
use Rattle.std.specs.Prelude.{◌≡◌, ℕ, List, Option, Some, None, IsSome, cond}
use Rattle.std.specs.BTreeMap.{get_by_text}
use Rattle.std.specs.Str.{bytes_eq}
use Rattle.replay.specs.declared.labels.Labels.{Labels}

-- what is noted of a text, if anything: the transaction that it names, or that it names none
abbrev pub noted : Labels → List ℕ → Option (Option ℕ)
noted labels text = get_by_text labels.txns text

-- the transaction in a note
abbrev pub in_note : Option (Option ℕ) → Option ℕ
in_note None = None
in_note (Some txn) = txn

-- the transaction that a text names
abbrev pub named : Labels → List ℕ → Option ℕ
named labels text = in_note (noted labels text)

-- something is noted of the text
abbrev pub IsNoted : Labels → List ℕ → Type 0
IsNoted labels text = IsSome (noted labels text)

-- no label names a transaction
abbrev pub NamesNone : Labels → Type 0
NamesNone labels = (text : List ℕ) → named labels text ≡ None

-- each label names what it named
abbrev pub NamesSame : Labels → Labels → Type 0
NamesSame old new = (text : List ℕ) → named new text ≡ named old text

-- that label names the transaction, or none, and each other one names what it named
abbrev pub Renames : Labels → List ℕ → Option ℕ → Labels → Type 0
Renames old label txn new = (text : List ℕ) → named new text ≡ cond (bytes_eq label text) txn (named old text)
