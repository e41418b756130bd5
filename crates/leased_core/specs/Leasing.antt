-- The pages that the spools of a build lease, and how a table stands before a build and behind it.
use Rattle.std.specs.Prelude.{◌≡◌, ◌⊎◌, ℕ, ◌*◌, ◌≤◌, true, is_some, List, [], length, map, replicate, Option, Some, None, MatchOption}
use Rattle.std.specs.List.{All, sum_by}
use Rattle.std.specs.Option.{option_map}
use Rattle.spool_ledger.specs.Accounts.{Stake, stake_of}
use Rattle.spool_ledger.specs.Pools.{PoolValue, with_back}
use Rattle.run_spool.specs.PagedSpools.{runs_of}
use Rattle.run_spool.specs.Runs.{pairs_of}
use Rattle.run_spool.specs.Spools.{IsFullIntact, stakes_in}
use Rattle.run_spool.specs.declared.choice.SpoolChoice.{SpoolChoice}
use Rattle.run_spool.specs.Choices.{kinds_from}
use Rattle.spool_ledger.specs.declared.kind.SpoolKind.{SpoolKind}
use Rattle.prefix_spool.specs.Kinds.{inside, kind_of, IsFullOfKind, IsIntactOfKind}
use Rattle.prefix_spool.specs.declared.either.SpoolOfKind.{SpoolOfKind}
use Rattle.keybytes.specs.declared.fault.Fault.{Fault}
use Rattle.keybytes.specs.declared.fault.Fault.TheVariants.{Memory}
use Rattle.build_events.specs.CoreState.{CoreState, SpoolsState, idle, opening, with_heap}
use Rattle.live_lemmas.specs.FullSpools.{WantedPage}
use Rattle.building.specs.Holding.{spools_in}
use Rattle.build_events.specs.Steps.{Step}
use Rattle.build_events.specs.declared.event.Event.{Event}
use Rattle.build_events.specs.declared.event.Event.TheVariants.{Begin, Insert, Update, Delete, Undo, Commit, Start, Scan, Digest, Seal, Load, Feed, Apply, Fence, Switch, Abandon}
use Rattle.build_events.specs.declared.plan.Plan.{Plan}
use Rattle.build_events.specs.declared.reply.Reply.{Reply}
use Rattle.build_events.specs.declared.reply.Reply.TheVariants.{Refused}
use Rattle.leased_core.specs.declared.handed_back.HandedBack.{HandedBack}

-- the pool of a build's pages, and for how many of its accounts there is room
pub record LeasesValue : Type 0 where
  pub pool : PoolValue
  pub room : ℕ

-- the kind of a spool, with pool and quota of the account behind it
abbrev pub stake_in : SpoolOfKind → Option Stake
stake_in spool = Some (stake_of (kind_of spool) (inside spool).account)

-- spools of either kind as the core sees them
abbrev pub spools_of_kinds : List SpoolOfKind → SpoolsState
spools_of_kinds spools = spools_in (λ spool. runs_of (inside spool)) (λ spool. pairs_of (inside spool).open_run) stake_in spools

-- an event wanted a page, and a spool of its worker was full
abbrev pub WantedLeasedPage : CoreState → Event → Type 0
WantedLeasedPage = WantedPage (IsFullIntact IsFullOfKind IsIntactOfKind (λ spool. runs_of (inside spool))) (λ spool. runs_of (inside spool)) (λ spool. pairs_of (inside spool).open_run) stake_in

-- there is none
abbrev pub no_spools : SpoolsState
no_spools = record { stakes = []; left = [] }

-- what stands behind a new spool of that kind: so many pages of a build's pool
abbrev pub new_stake : ℕ → SpoolKind → Option Stake
new_stake quota kind = Some (record { kind = kind; share = record { pool = 0; quota = quota } })

-- so many empty spools of the kinds that are chosen, each with a quota of that many pages of its own
abbrev pub new_spools : SpoolChoice → ℕ → ℕ → SpoolsState
new_spools chosen count quota = record { stakes = map (new_stake quota) (kinds_from chosen 0 count); left = replicate count true }

-- how many pages a stake has
abbrev pub pages_of : Stake → ℕ
pages_of stake = stake.share.quota

-- how many pages these accounts have together
abbrev pub pages_in : List (Option Stake) → ℕ
pages_in stakes = sum_by pages_of (stakes_in stakes)

-- the accounts behind spools are of that pool, have together the pages that it has split off, and find room beside it
pub record AreOf (leases : LeasesValue) (stakes : List (Option Stake)) : Type 0 where
  pub own : All (λ stake. stake.share.pool ≡ leases.pool.number) (stakes_in stakes)
  pub out : pages_in stakes ≡ leases.pool.out
  pub room : length stakes ≤ leases.room

-- no build runs beside the table, and there are no spools
pub record IsAtRest (s : CoreState) : Type 0 where
  pub build : s.live.build ≡ None
  pub work : s.work ≡ idle
  pub spools : s.spools ≡ no_spools

-- a build runs, the accounts behind its spools are of that pool, and it has no other pages
pub record IsLeasing (leases : LeasesValue) (s : CoreState) : Type 0 where
  pub build : is_some s.live.build ≡ true
  pub stakes : AreOf leases s.spools.stakes
  pub all_out : leases.pool.free ≡ 0

-- pages are leased exactly while a build runs
abbrev pub LeasesFollow : Option LeasesValue → CoreState → Type 0
LeasesFollow None s = IsAtRest s
LeasesFollow (Some leases) s = IsLeasing leases s

-- the pages of these stakes are leased from that pool, if there is one
abbrev pub AreLeased : Option LeasesValue → List (Option Stake) → Type 0
AreLeased None stakes = Unit {0}
AreLeased (Some leases) stakes = AreOf leases stakes

-- a pool comes back, if there was one, with the pages that were out; and none is missing
pub record IsBackOf (leases : Option LeasesValue) (back : HandedBack) : Type 0 where
  pub pool : back.pool ≡ option_map (λ leases. with_back leases.pool leases.pool.out) leases
  pub missing : back.missing ≡ 0

-- the pool has as many pages as these accounts had together, and none is out
abbrev pub HasPagesOf : List (Option Stake) → PoolValue → Type 0
HasPagesOf stakes pool = (pool.free ≡ pages_in stakes) × (pool.out ≡ 0)

-- the pages that the spools of the build had leased are back in its pool, and none is missing; where no build ran there is no pool
pub record IsHandedBack (s : CoreState) (back : HandedBack) : Type 0 where
  pub pool : MatchOption back.pool (s.live.build ≡ None) (HasPagesOf s.spools.stakes)
  pub missing : back.missing ≡ 0

-- the table with new spools beside it, one for each worker and index of the plan, of the kinds that are chosen and each with a quota of that many pages
abbrev pub with_new_spools : SpoolChoice → ℕ → Plan → CoreState → CoreState
with_new_spools chosen quota plan s = opening s.live (new_spools chosen (plan.workers * length plan.specs.items) quota)

-- the start of a build over new spools is replied so
abbrev pub StartsOver : SpoolChoice → ℕ → Plan → CoreState → Reply → CoreState → Type 0
StartsOver chosen quota plan old told new = Step (with_new_spools chosen quota plan old) (Start plan) told new

-- a build does not start over new spools, or there is no memory for these
abbrev pub FailsToStart : SpoolChoice → ℕ → Plan → CoreState → Fault → Type 0
FailsToStart chosen quota plan s fault = (fault ≡ Memory) ⊎ ((left : CoreState) × StartsOver chosen quota plan s (Refused fault) left)

-- an event is replied so and ends the build, and its spools are given up
abbrev pub EndsBuild : Event → Reply → CoreState → CoreState → Type 0
EndsBuild asked told old new = (left : CoreState) × Step old asked told left × (new ≡ opening left.live no_spools)

-- nothing has changed but how often rows were given out
abbrev pub OnlyVisits : CoreState → CoreState → Type 0
OnlyVisits old new = new ≡ with_heap old (record old.live.heap { visits = new.live.heap.visits })

-- the event neither starts a build nor ends one
abbrev pub KeepsBuild : Event → Type 0
KeepsBuild Begin = Unit {0}
KeepsBuild (Insert txn row) = Unit {0}
KeepsBuild (Update txn rid row) = Unit {0}
KeepsBuild (Delete txn rid) = Unit {0}
KeepsBuild (Undo txn) = Unit {0}
KeepsBuild (Commit txn) = Unit {0}
KeepsBuild (Start plan) = ⊥
KeepsBuild (Scan range worker) = Unit {0}
KeepsBuild (Digest worker) = Unit {0}
KeepsBuild (Seal worker) = Unit {0}
KeepsBuild (Load index) = Unit {0}
KeepsBuild (Feed index most) = Unit {0}
KeepsBuild (Apply index most) = Unit {0}
KeepsBuild Fence = Unit {0}
KeepsBuild Switch = ⊥
KeepsBuild Abandon = ⊥
