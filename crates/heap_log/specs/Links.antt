-- What a log keeps beside its records.
use Rattle.std.specs.Prelude.{◌≡◌, ℕ, ◌+◌, ◌≤◌, ◌<◌, Bool, true, false, ◌&&◌, ◌||◌, not, if◌then◌else◌, List, length, Option, Some, None, IsSome}
use Rattle.std.specs.Prelude.{slice_index_or}
use Rattle.heap_log.specs.declared.record.LogRec.{LogRec}
use Rattle.heap_log.specs.declared.link.Link.{Link}
use Rattle.heap_log.specs.declared.chain.Chain.{Chain}
use Rattle.heap_log.specs.declared.chain.Chain.TheVariants.{OfTxn, AtRid}
use Rattle.heap_log.specs.Growing.{UndoesNameEarlier}
use Rattle.heap_log.specs.KeptNumbers.{number_in}
use Rattle.heap_log.specs.Standing.{undone, record_at, last_below, last_of, is_number, is_undo_of, is_write_of, is_write_at, place_of, txn_of, rid_of}

-- whether a record is a write on the same chain as that write
abbrev pub on_chain : Chain → Option LogRec → Option LogRec → Bool
on_chain OfTxn write = is_write_of (txn_of write)
on_chain AtRid write = is_write_at (rid_of write)

-- where a link leads along the chain
abbrev pub link_before : Chain → Link → Option ℕ
link_before OfTxn link = number_in link.of_txn
link_before AtRid link = number_in link.at_rid

-- whether that number is a standing record that passes the test
abbrev pub stands_by : (Option LogRec → Bool) → List LogRec → ℕ → Bool
stands_by passes log n = passes (record_at log n) && not (undone log n)

-- the newest of them
abbrev pub newest_by : (Option LogRec → Bool) → List LogRec → Option ℕ
newest_by passes log = last_below (stands_by passes log) (length log + 1)

-- the newest of them once the record of that number is undone
abbrev pub newest_without : (Option LogRec → Bool) → List LogRec → ℕ → Option ℕ
newest_without passes log n = if is_number n (newest_by passes log) then last_below (stands_by passes log) n else newest_by passes log

-- the newest standing write on a write's chain before that write
abbrev pub newest_before : Chain → List LogRec → ℕ → Option ℕ
newest_before chain log n = last_below (stands_by (on_chain chain (record_at log n)) log) n

-- the first number past the place
abbrev pub end_of : Option ℕ → ℕ
end_of None = 0
end_of (Some n) = n + 1

-- no record that passes stands between the place and n; the record at the place, if there is one, passes, standing or not
pub record LeadsTo (passes : Option LogRec → Bool) (log : List LogRec) (n : ℕ) (place : Option ℕ) : Type 0 where
  pub there : (k : ℕ) → place ≡ Some k → (k < n) × (passes (record_at log k) ≡ true)
  pub passed : (k : ℕ) → end_of place ≤ k → k < n → stands_by passes log k ≡ false

-- a write's link leads back along the chain
abbrev pub LinksBack : List LogRec → Option LogRec → ℕ → Link → Chain → Type 0
LinksBack log write n link chain = IsSome (place_of write) → LeadsTo (on_chain chain write) log n (link_before chain link)

-- and it names the last write of the write's transaction before it
abbrev pub NamesPrevious : List LogRec → Option LogRec → ℕ → Link → Type 0
NamesPrevious log write n link = IsSome (place_of write) → number_in link.previous ≡ last_of log (txn_of write) n

-- the links go with the records
pub record AreLinks (log : List LogRec) (links : List Link) : Type 0 where
  pub lengths : length links ≡ length log
  pub flags : (i : ℕ) (d : Link) → i < length log → (slice_index_or links i d).undone ≡ undone log (i + 1)
  pub back : (i : ℕ) (d : Link) (chain : Chain) → i < length log → LinksBack log (record_at log (i + 1)) (i + 1) (slice_index_or links i d) chain
  pub previous : (i : ℕ) (d : Link) → i < length log → NamesPrevious log (record_at log (i + 1)) (i + 1) (slice_index_or links i d)
  pub earlier : UndoesNameEarlier log

-- the same links, with those that the record undoes marked
pub record AreMarked (added : LogRec) (old new : List Link) : Type 0 where
  pub lengths : length new ≡ length old
  pub of_txn : (i : ℕ) (d : Link) → i < length old → (slice_index_or new i d).of_txn ≡ (slice_index_or old i d).of_txn
  pub at_rid : (i : ℕ) (d : Link) → i < length old → (slice_index_or new i d).at_rid ≡ (slice_index_or old i d).at_rid
  pub previous : (i : ℕ) (d : Link) → i < length old → (slice_index_or new i d).previous ≡ (slice_index_or old i d).previous
  pub flags : (i : ℕ) (d : Link) → i < length old → (slice_index_or new i d).undone ≡ ((slice_index_or old i d).undone || is_undo_of (i + 1) added)

-- the link of a record that comes next
pub record IsLinkOf (log : List LogRec) (added : LogRec) (link : Link) : Type 0 where
  pub stands : link.undone ≡ false
  pub back : (chain : Chain) → LinksBack log (Some added) (length log + 1) link chain
  pub previous : NamesPrevious log (Some added) (length log + 1) link
