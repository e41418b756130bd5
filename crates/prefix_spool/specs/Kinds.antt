-- Spools of either kind.
use Rattle.keybytes.specs.declared.pair.Pair.{Pair}
use Rattle.run_spool.specs.PagedSpools.{PagedSpoolValue, IsFullSpool, IsIntact}
use Rattle.run_spool.specs.PlainPages.{plain_size}
use Rattle.prefix_spool.specs.PrefixBytes.{prefix_size}
use Rattle.spool_ledger.specs.declared.kind.SpoolKind.{SpoolKind}
use Rattle.spool_ledger.specs.declared.kind.SpoolKind.TheVariants as kind
use Rattle.prefix_spool.specs.declared.either.SpoolOfKind.{SpoolOfKind}
use Rattle.prefix_spool.specs.declared.either.SpoolOfKind.TheVariants.{Plain, Prefix}

-- its runs, open run and account, whatever the kind
abbrev pub inside : SpoolOfKind → PagedSpoolValue
inside (Plain spool) = spool
inside (Prefix spool) = spool

-- it has no room for a pair, as its kind counts
abbrev pub IsFullOfKind : SpoolOfKind → Pair → Type 0
IsFullOfKind (Plain spool) pair = IsFullSpool plain_size spool pair
IsFullOfKind (Prefix spool) pair = IsFullSpool prefix_size spool pair

-- its closed runs are intact, as its kind counts the bytes of a page
abbrev pub IsIntactOfKind : SpoolOfKind → Type 0
IsIntactOfKind (Plain spool) = IsIntact plain_size spool
IsIntactOfKind (Prefix spool) = IsIntact prefix_size spool

-- its kind
abbrev pub kind_of : SpoolOfKind → SpoolKind
kind_of (Plain spool) = kind.Plain
kind_of (Prefix spool) = kind.Prefix
