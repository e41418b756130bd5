-- What applying the entries that wait leaves of an index, of its side-file and of the ring between them.
use Rattle.std.specs.Prelude.{◌≡◌, ℕ, ◌<◌, ◌≤◌, List, [], ◌∷◌, ◌++◌, length, Result, IfOk, OnOk, OnErr, IfErr}
use mathlib.Core.List.{IsPrefix}
use Rattle.keybytes.specs.Pairs.{set_of}
use Rattle.keybytes.specs.declared.fault.Fault.{Fault}
use Rattle.keybytes.specs.declared.fault.Fault.TheVariants.{Memory}
use Rattle.side_file.specs.Ends.{TakeEnd}
use Rattle.side_file.specs.declared.entry.Entry.{Entry}
use Rattle.visibility.specs.Applied.{apply_entries}
use Rattle.catch_up.specs.Built.{BuiltValue, MayWant, told_to}

-- those of the index's build were applied to it, in order, and those of another build left out
pub record Applied (entries : List Entry) (old new : BuiltValue) : Type 0 where
  pub build : new.build ≡ old.build
  pub unique : new.unique ≡ old.unique
  pub pairs : set_of new.pairs ≡ apply_entries (told_to old.build entries) (set_of old.pairs)

-- they left the ring in order, those first that were known to be in it
pub record Taken (entries : List Entry) (old new : TakeEnd Entry) : Type 0 where
  pub ring : new.ring ≡ old.ring
  pub received : new.received ≡ old.received ++ entries
  pub known : IsPrefix old.known (entries ++ new.known)

-- all that were known to be in the ring left it
pub record TakesKnown (old new : TakeEnd Entry) : Type 0 where
  pub taken : Taken old.known old new
  pub none_left : new.known ≡ []

-- the entry that the ring has next may want memory
abbrev pub NextMayWant : BuiltValue → TakeEnd Entry → Type 0
NextMayWant built end = (entry : Entry) × IsPrefix (entry ∷ []) end.known × MayWant built entry

-- at most k entries are taken and applied: fewer only for want of memory, or where no more is known to be in the ring
pub record Applies (k : ℕ) (old : BuiltValue) (before : TakeEnd Entry) (answer : Result ℕ Fault) (new : BuiltValue) (after : TakeEnd Entry) : Type 0 where
  pub entries : List Entry
  pub taken : Taken entries before after
  pub applied : Applied entries old new
  pub most : length entries ≤ k
  pub count : IfOk answer (λ count. count ≡ length entries)
  pub all : OnOk answer (length entries < k → after.known ≡ [])
  pub short : OnErr answer (length entries < k)
  pub needed : OnErr answer (NextMayWant new after)
  pub memory : IfErr answer (λ fault. fault ≡ Memory)
