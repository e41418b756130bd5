-- How pages are dealt into ranges, as somebody asks for it.
use Rattle.std.specs.Prelude.{ℕ, List, Option}
use Rattle.keybytes.specs.declared.fault.Fault.{Fault}
use Rattle.scan_range.specs.Cuts.{even_ends, cuts_refusal, even_refusal}
use Rattle.scan_range.specs.declared.dealing.Dealing.{Dealing}
use Rattle.scan_range.specs.declared.dealing.Dealing.TheVariants.{Ends, Even}

-- where the ranges of a dealing end
abbrev pub dealt_ends : ℕ → Dealing → List ℕ
dealt_ends pages (Ends ends) = ends.items
dealt_ends pages (Even ranges) = even_ends pages ranges

-- why pages aren't dealt so
abbrev pub dealing_refusal : ℕ → Dealing → Option Fault
dealing_refusal pages (Ends ends) = cuts_refusal pages ends.items
dealing_refusal pages (Even ranges) = even_refusal ranges
