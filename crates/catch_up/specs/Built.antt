-- An index that is being built, and what the entries of its side-file do to it.
use Rattle.std.specs.Prelude.{◌≡◌, ◌⊎◌, ℕ, ◌==◌, Bool, true, if◌then◌else◌, List, map, filter, Option, IfSome}
use Rattle.std.specs.FinSet.{FinSet}
use Rattle.keybytes.specs.Pairs.{pair_cmp}
use Rattle.unique_verdict.specs.Shared.{shared_of, shared_pairs}
use Rattle.unique_verdict.specs.Verdicts.{first_shared}
use Rattle.unique_verdict.specs.declared.verdict.Verdict.{Verdict}
use Rattle.unique_verdict.specs.declared.verdict.Verdict.TheVariants.{Unique}
use Rattle.keybytes.specs.declared.pair.Pair.{Pair}
use Rattle.side_file.specs.declared.entry.Entry.{Entry}
use Rattle.side_file.specs.declared.op.Op.{Op}
use Rattle.side_file.specs.declared.op.Op.TheVariants.{Delete, Insert}
use Rattle.visibility.specs.SideEntries.{SideEntry, delete, insert}

-- the number of its build, whether a tally of the keys that two RIDs have is kept, and its pairs in order
pub record BuiltValue : Type 0 where
  pub build : ℕ
  pub unique : Bool
  pub pairs : List Pair

-- whether its keys are unique, and the least shared one if they aren't; an index without a tally is not asked
abbrev pub verdict_of : BuiltValue → Verdict
verdict_of built = if built.unique then first_shared (shared_pairs built.pairs) else Unique

-- where a tally is kept, it is that of these pairs
abbrev pub Tallies : Option (List Pair) → FinSet pair_cmp → Type 0
Tallies tally pairs = IfSome tally (λ shared. shared ≡ shared_of pairs)

-- whether an entry may want memory: one of the index's build that puts a pair in, or of which a tally is told
abbrev pub MayWant : BuiltValue → Entry → Type 0
MayWant built entry = (entry.build ≡ built.build) × ((entry.op ≡ Insert) ⊎ (built.unique ≡ true))

abbrev pub change_by : Op → Pair → SideEntry
change_by Delete pair = delete pair
change_by Insert pair = insert pair

-- what an entry does to an index
abbrev pub told : Entry → SideEntry
told entry = change_by entry.op (record { key = entry.key; rid = entry.rid })

-- what entries do to an index of that build: those of another build do nothing
abbrev pub told_to : ℕ → List Entry → List SideEntry
told_to build entries = map told (filter (λ entry. entry.build == build) entries)
