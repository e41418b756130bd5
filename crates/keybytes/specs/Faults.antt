-- The number and the name of each refusal.
use Rattle.std.specs.Prelude.{◌≡◌, ◌⊎◌, ℕ, List, codes, Option, Some, None}
use Rattle.keybytes.specs.declared.fault.Fault.{Fault}
use Rattle.keybytes.specs.declared.fault.Fault.TheVariants.{BadColumn, TextTooLong, RowShape, TableFull, NoSuchRow, RowHeld, PageFull, NoSuchTxn, TooManyTxns}
use Rattle.keybytes.specs.declared.fault.Fault.TheVariants.{TxnEnding, Fenced, Duplicate, KeyHeld, BuildRunning, NoBuild, BadRanges, BadCount, SpoolNotEmpty}
use Rattle.keybytes.specs.declared.fault.Fault.TheVariants.{RangeDone, RingFull, NotScanned, NotLoaded, Behind, Busy, NoPage, Short, BadScript, NotSealed}
use Rattle.keybytes.specs.declared.fault.Fault.TheVariants.{Memory}

-- the number under which scripts know a refusal
abbrev pub number_of : Fault → ℕ
number_of BadColumn = 10
number_of TextTooLong = 11
number_of RowShape = 12
number_of TableFull = 20
number_of NoSuchRow = 21
number_of (RowHeld txn) = 22
number_of PageFull = 23
number_of NoSuchTxn = 24
number_of TooManyTxns = 25
number_of TxnEnding = 26
number_of Fenced = 27
number_of (Duplicate index rid) = 30
number_of (KeyHeld index txn) = 31
number_of BuildRunning = 40
number_of NoBuild = 41
number_of BadRanges = 42
number_of BadCount = 43
number_of SpoolNotEmpty = 44
number_of RangeDone = 45
number_of RingFull = 46
number_of (NotScanned range) = 47
number_of (NotLoaded index) = 48
number_of (Behind left) = 49
number_of (Busy transactions) = 50
number_of NoPage = 51
number_of (Short missing) = 52
number_of (BadScript place) = 53
number_of (NotSealed worker) = 54
number_of Memory = 60

-- the name under which scripts print it
abbrev pub name_of : Fault → List ℕ
name_of BadColumn = codes "BadColumn"
name_of TextTooLong = codes "TextTooLong"
name_of RowShape = codes "RowShape"
name_of TableFull = codes "TableFull"
name_of NoSuchRow = codes "NoSuchRow"
name_of (RowHeld txn) = codes "RowHeld"
name_of PageFull = codes "PageFull"
name_of NoSuchTxn = codes "NoSuchTxn"
name_of TooManyTxns = codes "TooManyTxns"
name_of TxnEnding = codes "TxnEnding"
name_of Fenced = codes "Fenced"
name_of (Duplicate index rid) = codes "Duplicate"
name_of (KeyHeld index txn) = codes "KeyHeld"
name_of BuildRunning = codes "BuildRunning"
name_of NoBuild = codes "NoBuild"
name_of BadRanges = codes "BadRanges"
name_of BadCount = codes "BadCount"
name_of SpoolNotEmpty = codes "SpoolNotEmpty"
name_of RangeDone = codes "RangeDone"
name_of RingFull = codes "RingFull"
name_of (NotScanned range) = codes "NotScanned"
name_of (NotLoaded index) = codes "NotLoaded"
name_of (Behind left) = codes "Behind"
name_of (Busy transactions) = codes "Busy"
name_of NoPage = codes "NoPage"
name_of (Short missing) = codes "Short"
name_of (BadScript place) = codes "BadScript"
name_of (NotSealed worker) = codes "NotSealed"
name_of Memory = codes "Memory"

-- the first of two causes, in the order in which they are asked
abbrev pub first_cause : Option Fault → Option Fault → Option Fault
first_cause (Some fault) rest = Some fault
first_cause None rest = rest

-- a refusal where there may be a cause: it is the cause, or want of memory where there is none
abbrev pub RefusedFor : Option Fault → Fault → Type 0
RefusedFor cause fault = (cause ≡ Some fault) ⊎ ((cause ≡ None) × (fault ≡ Memory))
