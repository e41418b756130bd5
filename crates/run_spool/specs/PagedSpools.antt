-- A spool of runs on pages as its callers see it. `size` tells how many bytes a pair takes behind a key.
use Rattle.std.specs.Prelude.{ℕ, ◌+◌, ◌-◌, ◌^◌, ◌≤◌, ◌<◌, ◌≡◌, nat_lt, if◌then◌else◌, List, [], ◌∷◌, ◌++◌, length, map, get_or, set}
use Rattle.std.specs.List.{All, sum_by}
use Rattle.spool_ledger.specs.Accounts.{AccountValue, with_free}
use Rattle.keybytes.specs.declared.pair.Pair.{Pair}
use Rattle.run_spool.specs.Pages.{PageValue, last_key, size_on, page_with, IsPacked}
use Rattle.run_spool.specs.Runs.{pairs_of, last_of, on_last, without_pairs, HasPairs, IsFilled}
use Rattle.run_spool.specs.Spools.{with_closed_run}

-- the closed runs and the open one, each as its pages, and the account behind them
pub record PagedSpoolValue : Type 0 where
  pub runs : List (List PageValue)
  pub open_run : List PageValue
  pub account : AccountValue

abbrev pub new_spool : AccountValue → PagedSpoolValue
new_spool account = record { runs = []; open_run = []; account = account }

-- the pairs of each closed run
abbrev pub runs_of : PagedSpoolValue → List (List Pair)
runs_of spool = map pairs_of spool.runs

-- the pages of all closed runs
abbrev pub run_pages : List (List PageValue) → ℕ
run_pages runs = sum_by length runs

-- the pages that are leased: those of the closed runs and of the open one
abbrev pub leased_pages : PagedSpoolValue → ℕ
leased_pages spool = run_pages spool.runs + length spool.open_run

-- a pair needs a new page: it does not fit on the last one, or there is none
abbrev pub NeedsPage : (List ℕ → Pair → ℕ) → PagedSpoolValue → Pair → Type 0
NeedsPage size spool pair = (last_of spool.open_run).room < size_on size (last_of spool.open_run) pair

-- there is no page for a pair that needs one
abbrev pub IsFull : (List ℕ → Pair → ℕ) → PagedSpoolValue → Pair → Type 0
IsFull size spool pair = NeedsPage size spool pair × (spool.account.free ≡ 0)

-- the spool with one pair more, on the last page or on a new one
abbrev pub with_pushed : (List ℕ → Pair → ℕ) → PagedSpoolValue → Pair → PagedSpoolValue
with_pushed size spool pair =
    if nat_lt (last_of spool.open_run).room (size_on size (last_of spool.open_run) pair)
    then record {
      runs = spool.runs;
      open_run = spool.open_run ++ page_with size pair ∷ [];
      account = with_free spool.account (spool.account.free - 1);
    }
    else record { runs = spool.runs; open_run = on_last size spool.open_run pair; account = spool.account }

-- the spool with its open run closed
abbrev pub with_run_closed : PagedSpoolValue → PagedSpoolValue
with_run_closed spool = record { runs = with_closed_run spool.runs spool.open_run; open_run = []; account = spool.account }

-- the spool without the first n pairs of a closed run: the pages on which none is left are free again
abbrev pub with_freed : PagedSpoolValue → ℕ → ℕ → PagedSpoolValue
with_freed spool i n =
    let run = get_or spool.runs i [] in
    let after = without_pairs n run in
    record {
      runs = set spool.runs i after;
      open_run = spool.open_run;
      account = with_free spool.account (spool.account.free + (length run - length after));
    }

-- the spool with all its pages given back
abbrev pub without_runs : PagedSpoolValue → PagedSpoolValue
without_runs spool = new_spool (with_free spool.account spool.account.quota)

-- what every paged spool keeps: its account's quota is the free pages and those of its runs, each of these has a pair that isn't freed,
-- those of the open run are packed, a run goes on to another page only where a pair has no room, and no more runs are closed than the quota
pub record IsPagedSpool (size : List ℕ → Pair → ℕ) (spool : PagedSpoolValue) : Type 0 where
  pub law : spool.account.free + run_pages spool.runs + length spool.open_run ≡ spool.account.quota
  pub each : All HasPairs spool.open_run
  pub packed : All (IsPacked size) spool.open_run
  pub filled : IsFilled size spool.open_run
  pub closed : All (All HasPairs) spool.runs
  pub all_filled : All (IsFilled size) spool.runs
  pub fits : length spool.runs ≤ spool.account.quota

-- each page of its closed runs is packed, as where no pair of them was freed
abbrev pub IsIntact : (List ℕ → Pair → ℕ) → PagedSpoolValue → Type 0
IsIntact size spool = All (All (IsPacked size)) spool.runs

-- a paged spool has no page for a pair that needs one
abbrev pub IsFullSpool : (List ℕ → Pair → ℕ) → PagedSpoolValue → Pair → Type 0
IsFullSpool size spool pair = IsPagedSpool size spool × IsFull size spool pair

-- the fields of a paged spool: a frame for each page of its quota and a place for each run, of which no more are closed than that, and
-- the key of the open run's last pair
pub record IsSpool (size : List ℕ → Pair → ℕ) (account : AccountValue) (spare : ℕ) (runs : List (List PageValue)) (places : ℕ)
    (open_run : List PageValue) (len : ℕ) (last : List ℕ) : Type 0 where
  pub law : account.free + run_pages runs + length open_run ≡ account.quota
  pub spare_is : spare ≡ account.free
  pub small : account.quota < 2 ^ 32
  pub open_len_is : len ≡ length (pairs_of open_run)
  pub each : All HasPairs open_run
  pub packed : All (IsPacked size) open_run
  pub filled : IsFilled size open_run
  pub closed : All (All HasPairs) runs
  pub all_filled : All (IsFilled size) runs
  pub room : account.quota ≤ places
  pub fits : length runs ≤ account.quota
  pub open_fits : 0 < length open_run → length runs + 1 ≤ account.quota
  pub last_is : 0 < length open_run → last ≡ last_key (last_of open_run).pairs
