-- The numbers that a log answers are those of writes.
use Rattle.std.proofs.Common.{◌≡◌, ℕ, ◌+◌, ◌<◌, true, List, length, Option, Some, None, refl, sym, arith}
use Rattle.std.specs.Prelude.{not, IfSome}
use Rattle.std.proofs.lemmas.Bool.{and_parts}
use Rattle.keybytes.specs.declared.rid.Rid.{Rid}
use Rattle.heap_log.specs.declared.record.LogRec.{LogRec}
use Rattle.heap_log.specs.Standing.{record_at, undone, is_write_of, is_write_at, last_below, last_of, last_at, stands_of, stands_at, newest_standing, newest_at}
use Rattle.heap_log.specs.Standing.{standing_before, rid_of, IsWrite}
use Rattle.heap_log.proofs.Last.{last_below_some}
use Rattle.heap_log.proofs.Records.{write_within, some_place-by, some_place-there}

-- a record that is a write of a transaction, or at a RID
pub write_of : (log : List LogRec) (txn n : ℕ) → is_write_of txn (record_at log n) ≡ true → IsWrite log n
write_of log txn n e =
    let within : (0 < n) × (n < length log + 1) = write_within log n (is_write_of txn) refl e in
    record { low = omega (arith, within.0); high = omega (arith, within.1); write = some_place-by txn (record_at log n) e }

pub write_at : (log : List LogRec) (rid : Rid) (n : ℕ) → is_write_at rid (record_at log n) ≡ true → IsWrite log n
write_at log rid n e =
    let within : (0 < n) × (n < length log + 1) = write_within log n (is_write_at rid) refl e in
    record { low = omega (arith, within.0); high = omega (arith, within.1); write = some_place-there rid (record_at log n) e }

stands_of-write : (log : List LogRec) (txn n m : ℕ) → last_below (stands_of log txn) n ≡ Some m → is_write_of txn (record_at log m) ≡ true
stands_of-write log txn n m e = (and_parts (is_write_of txn (record_at log m)) (not (undone log m)) (last_below_some (stands_of log txn) n m e).passes).0

stands_at-write : (log : List LogRec) (rid : Rid) (n m : ℕ) → last_below (stands_at log rid) n ≡ Some m → is_write_at rid (record_at log m) ≡ true
stands_at-write log rid n m e = (and_parts (is_write_at rid (record_at log m)) (not (undone log m)) (last_below_some (stands_at log rid) n m e).passes).0

-- the newest standing write of a transaction is a write of it
pub newest_standing-of : (log : List LogRec) (txn n : ℕ) → newest_standing log txn ≡ Some n → is_write_of txn (record_at log n) ≡ true
newest_standing-of log txn n e = stands_of-write log txn (length log + 1) n e

pub newest_standing-write : (log : List LogRec) (txn n : ℕ) → newest_standing log txn ≡ Some n → IsWrite log n
newest_standing-write log txn n e = write_of log txn n (newest_standing-of log txn n e)

-- the newest standing write before a write is one at the same RID
pub standing_before-there : (log : List LogRec) (n m : ℕ) → standing_before log n ≡ Some m → is_write_at (rid_of (record_at log n)) (record_at log m) ≡ true
standing_before-there log n m e = stands_at-write log (rid_of (record_at log n)) n m e

pub standing_before-write : (log : List LogRec) (n m : ℕ) → standing_before log n ≡ Some m → IsWrite log m
standing_before-write log n m e = write_at log (rid_of (record_at log n)) m (standing_before-there log n m e)

-- the last write of a transaction is one of it
pub last_of-of : (log : List LogRec) (txn n m : ℕ) → last_of log txn n ≡ Some m → is_write_of txn (record_at log m) ≡ true
last_of-of log txn n m e = (last_below_some (λ k. is_write_of txn (record_at log k)) n m e).passes

pub last_of-write : (log : List LogRec) (txn n m : ℕ) → last_of log txn n ≡ Some m → IsWrite log m
last_of-write log txn n m e = write_of log txn m (last_of-of log txn n m e)

-- the last write at a RID is one there
pub last_at-there : (log : List LogRec) (rid : Rid) (n m : ℕ) → last_at log rid n ≡ Some m → is_write_at rid (record_at log m) ≡ true
last_at-there log rid n m e = (last_below_some (λ k. is_write_at rid (record_at log k)) n m e).passes

pub last_at-write : (log : List LogRec) (rid : Rid) (n m : ℕ) → last_at log rid n ≡ Some m → IsWrite log m
last_at-write log rid n m e = write_at log rid m (last_at-there log rid n m e)

-- each answer, if there is one, is a write
pub newest_standing-writes : (log : List LogRec) (txn : ℕ) (place : Option ℕ) → place ≡ newest_standing log txn → IfSome place (IsWrite log)
newest_standing-writes log txn None e = tt
newest_standing-writes log txn (Some n) e = newest_standing-write log txn n (sym e)

pub standing_before-writes : (log : List LogRec) (n : ℕ) (place : Option ℕ) → place ≡ standing_before log n → IfSome place (IsWrite log)
standing_before-writes log n None e = tt
standing_before-writes log n (Some m) e = standing_before-write log n m (sym e)

pub last_of-writes : (log : List LogRec) (txn n : ℕ) (place : Option ℕ) → place ≡ last_of log txn n → IfSome place (IsWrite log)
last_of-writes log txn n None e = tt
last_of-writes log txn n (Some m) e = last_of-write log txn n m (sym e)

pub last_at-writes : (log : List LogRec) (rid : Rid) (n : ℕ) (place : Option ℕ) → place ≡ last_at log rid n → IfSome place (IsWrite log)
last_at-writes log rid n None e = tt
last_at-writes log rid n (Some m) e = last_at-write log rid n m (sym e)

pub newest_at-writes : (log : List LogRec) (rid : Rid) (place : Option ℕ) → place ≡ newest_at log rid → IfSome place (IsWrite log)
newest_at-writes log rid None e = tt
newest_at-writes log rid (Some n) e = write_at log rid n (stands_at-write log rid (length log + 1) n (sym e))

-- the numbers of a log's records are not 0
pub number_some : (log : List LogRec) (place : Option ℕ) → IfSome place (IsWrite log) → IfSome place (λ n. 0 < n)
number_some log None is = tt
number_some log (Some n) is = omega (arith, is.low)
