-- Why a step of a build is refused, as far as a start's and a switch's own faults matter.
use Rattle.std.proofs.Common.{◌≡◌, ◌≢◌, ℕ, ◌≤◌, Bool, true, false, cond, List, length, Option, Some, None, refl, sym, subst, ◌∙◌, inl, inr, arith}
use Rattle.std.specs.Prelude.{◌&&◌, nat_lt, nat_le, not, is_none, is_some}
use Rattle.std.specs.List.{list_all, list_any}
use Rattle.std.specs.Option.{option_map}
use Rattle.std.proofs.lemmas.Bool.{cases_Bool, and_parts, ltb-true}
use Rattle.std.proofs.lemmas.Option.{same_Some}
use Rattle.keybytes.specs.Faults.{first_cause}
use Rattle.keybytes.specs.Keys.{KeySpecValue}
use Rattle.keybytes.specs.declared.fault.Fault.{Fault}
use Rattle.keybytes.specs.declared.fault.Fault.TheVariants.{BadColumn, BadCount, BadRanges, Behind, BuildRunning, Busy, Memory, NoBuild, NoPage, NotLoaded, NotScanned, NotSealed, RangeDone, RingFull, SpoolNotEmpty}
use Rattle.keybytes.specs.Schemas.{same_kinds}
use Rattle.heap_table.specs.Pages.{pages_written}
use Rattle.scan_range.specs.Cuts.{are_cuts, ranges_most}
use Rattle.scan_range.specs.Dealings.{dealing_refusal}
use Rattle.scan_range.specs.declared.dealing.Dealing.{Dealing}
use Rattle.scan_range.specs.declared.dealing.Dealing.TheVariants.{Ends, Even}
use Rattle.page_workers.specs.WorkerValue.{IsShortage}
use Rattle.build_events.specs.BuildSteps.{behind_refusal, build_cause, busy_refusal, cause_if, counts_fit, counts_refusal, range_refusal, spools_refusal, start_refusal}
use Rattle.build_events.specs.CoreState.{BuildState, LiveState, SpoolsState}
use Rattle.build_events.specs.Ranges.{next_page}
use Rattle.build_events.specs.declared.plan.Plan.{Plan}
use Rattle.crew.specs.Reports.{EndsFor, IsOther}

pub other_memory : IsOther Memory
other_memory = record { not_full = λ e. cc; not_busy = λ n e. cc; not_behind = λ n e. cc }

pub other_no_page : IsOther NoPage
other_no_page = record { not_full = λ e. cc; not_busy = λ n e. cc; not_behind = λ n e. cc }

pub other_no_build : IsOther NoBuild
other_no_build = record { not_full = λ e. cc; not_busy = λ n e. cc; not_behind = λ n e. cc }

other_bad_count : IsOther BadCount
other_bad_count = record { not_full = λ e. cc; not_busy = λ n e. cc; not_behind = λ n e. cc }

other_range_done : IsOther RangeDone
other_range_done = record { not_full = λ e. cc; not_busy = λ n e. cc; not_behind = λ n e. cc }

other_ring_full : IsOther RingFull
other_ring_full = record { not_full = λ e. cc; not_busy = λ n e. cc; not_behind = λ n e. cc }

pub other_not_scanned : (range : ℕ) → IsOther (NotScanned range)
other_not_scanned range = record { not_full = λ e. cc; not_busy = λ n e. cc; not_behind = λ n e. cc }

pub other_not_loaded : (index : ℕ) → IsOther (NotLoaded index)
other_not_loaded index = record { not_full = λ e. cc; not_busy = λ n e. cc; not_behind = λ n e. cc }

pub other_not_sealed : (worker : ℕ) → IsOther (NotSealed worker)
other_not_sealed worker = record { not_full = λ e. cc; not_busy = λ n e. cc; not_behind = λ n e. cc }

-- want of memory or of a page
pub other_short : (fault : Fault) → IsShortage fault → IsOther fault
other_short fault (inl page) = subst IsOther (sym page) other_no_page
other_short fault (inr memory) = subst IsOther (sym memory) other_memory

-- what holds of a fault that may be the cause
abbrev pub Holds : (Fault → Type 0) → Option Fault → Type 0
Holds P cause = (fault : Fault) → cause ≡ Some fault → P fault

pub holds_none : (P : Fault → Type 0) → Holds P None
holds_none P fault e = absurd (cc)

pub holds_some : (P : Fault → Type 0) (x : Fault) → P x → Holds P (Some x)
holds_some P x is fault e = subst P (same_Some x fault e) is

pub holds_first : (P : Fault → Type 0) (first second : Option Fault) → Holds P first → Holds P second → Holds P (first_cause first second)
holds_first P None second one two fault e = two fault e
holds_first P (Some x) second one two fault e = one fault e

pub holds_if : (P : Fault → Type 0) (test : Bool) (x : Fault) → (test ≡ true → P x) → Holds P (cause_if test x)
holds_if P true x is = holds_some P x (is refl)
holds_if P false x is = holds_none P

pub holds_map : (P : Fault → Type 0) (f : ℕ → Fault) (o : Option ℕ) → ((n : ℕ) → P (f n)) → Holds P (option_map f o)
holds_map P f None is = holds_none P
holds_map P f (Some n) is = holds_some P (f n) (is n)

pub holds_build : (P : Fault → Type 0) (o : Option BuildState) (cause : BuildState → Option Fault) → P NoBuild → ((b : BuildState) → Holds P (cause b)) → Holds P (build_cause o cause)
holds_build P None cause none each = holds_some P NoBuild none
holds_build P (Some b) cause none each = each b

-- no page of a range is copied
pub other_page : (b : BuildState) (range worker : ℕ) → Holds IsOther (first_cause (counts_refusal b range worker) (range_refusal (next_page b range)))
other_page b range worker =
    holds_first IsOther (counts_refusal b range worker) (range_refusal (next_page b range)) (holds_if IsOther _ BadCount (λ e. other_bad_count))
    (holds_if IsOther (is_none (next_page b range)) RangeDone (λ e. other_range_done))

pub other_full : (test : Bool) → Holds IsOther (cause_if test RingFull)
other_full test = holds_if IsOther test RingFull (λ e. other_ring_full)

-- no entries are fed
pub other_side : (b : BuildState) (index : ℕ) → Holds IsOther (cause_if (nat_le (length b.specs) index) BadCount)
other_side b index = holds_if IsOther (nat_le (length b.specs) index) BadCount (λ e. other_bad_count)

-- A start is refused.

-- for a spool that isn't empty only where one isn't, and for busy transactions never
pub record StartsNot (left : List Bool) (fault : Fault) : Type 0 where
  pub full : fault ≡ SpoolNotEmpty → list_all (λ is_empty. is_empty) left ≡ false
  pub not_busy : (count : ℕ) → fault ≢ Busy count
  pub not_behind : (left : ℕ) → fault ≢ Behind left

other_starts : (left : List Bool) (fault : Fault) → IsOther fault → StartsNot left fault
other_starts left fault other = record { full = λ e. absurd (other.not_full e); not_busy = other.not_busy; not_behind = other.not_behind }

pub starts_memory : (left : List Bool) → StartsNot left Memory
starts_memory left = other_starts left Memory other_memory

other_running : IsOther BuildRunning
other_running = record { not_full = λ e. cc; not_busy = λ n e. cc; not_behind = λ n e. cc }

other_column : IsOther BadColumn
other_column = record { not_full = λ e. cc; not_busy = λ n e. cc; not_behind = λ n e. cc }

other_ranges : IsOther BadRanges
other_ranges = record { not_full = λ e. cc; not_busy = λ n e. cc; not_behind = λ n e. cc }

unless_ranges : (test : Bool) → Holds IsOther (cond test None (Some BadRanges))
unless_ranges true = holds_none IsOther
unless_ranges false = holds_some IsOther BadRanges other_ranges

other_dealing : (pages : ℕ) (dealing : Dealing) → Holds IsOther (dealing_refusal pages dealing)
other_dealing pages (Ends ends) = unless_ranges (are_cuts pages ends.items)
other_dealing pages (Even ranges) = unless_ranges (nat_lt 0 ranges && nat_le ranges ranges_most)

starts_if : (left : List Bool) (cause : Option Fault) → Holds IsOther cause → Holds (StartsNot left) cause
starts_if left cause others fault e = other_starts left fault (others fault e)

starts_full : (left : List Bool) → Holds (StartsNot left) (spools_refusal left)
starts_full left = elim (cases_Bool (list_all (λ is_empty. is_empty) left)) [
  | inl empty ↦ λ fault e. absurd (let none : spools_refusal left ≡ None = rw empty refl in let bad = sym none ∙ e in cc)
  | inr some ↦ λ fault e.
      let is : spools_refusal left ≡ Some SpoolNotEmpty = rw some refl in
      subst (StartsNot left) (same_Some SpoolNotEmpty fault (sym is ∙ e)) (record { full = λ full. some; not_busy = λ n e. cc; not_behind = λ n e. cc })
]

pub starts_not : (live : LiveState) (spools : SpoolsState) (plan : Plan) → Holds (StartsNot spools.left) (start_refusal live spools plan)
starts_not live spools plan =
    let P = StartsNot spools.left in
    let one = starts_if spools.left (cause_if (is_some live.build) BuildRunning) (holds_if IsOther (is_some live.build) BuildRunning (λ e. other_running)) in
    let two = starts_if spools.left (cause_if (not (counts_fit live (length spools.left) plan)) BadCount) (holds_if IsOther (not (counts_fit live (length spools.left) plan)) BadCount (λ e. other_bad_count)) in
    let columns = list_all (λ (spec : KeySpecValue). same_kinds spec.kinds live.heap.schema) plan.specs.items in
    let three = starts_if spools.left (cause_if (not columns) BadColumn) (holds_if IsOther (not columns) BadColumn (λ e. other_column)) in
    let four = starts_if spools.left (dealing_refusal (pages_written live.heap.log) plan.dealing) (other_dealing (pages_written live.heap.log) plan.dealing) in
    holds_first P _ _ one (holds_first P _ _ two (holds_first P _ _ three (holds_first P _ _ four (starts_full spools.left))))

-- A switch is refused.

pub ends_other : (specs : List KeySpecValue) (fault : Fault) → IsOther fault → EndsFor specs fault
ends_other specs fault other = record { not_full = other.not_full; busy = λ n e. absurd (other.not_busy n e); not_behind = other.not_behind }

pub ends_all : (specs : List KeySpecValue) (cause : Option Fault) → Holds IsOther cause → Holds (EndsFor specs) cause
ends_all specs cause others fault e = ends_other specs fault (others fault e)

-- no switch is that is tried while few entries are left
pub ends_near : (specs : List KeySpecValue) (left : ℕ) → left ≤ 1024 → Holds (EndsFor specs) (behind_refusal left)
ends_near specs left few = holds_if (EndsFor specs) _ (Behind left) (λ more. absurd (let less = ltb-true 1024 left more in omega (arith, less, few)))

pub ends_busy : (b : BuildState) (busy : ℕ) → Holds (EndsFor b.specs) (busy_refusal b busy)
ends_busy b busy =
    holds_if (EndsFor b.specs) (list_any (λ spec. spec.unique) b.specs && nat_lt 0 busy) (Busy busy) (λ e. record {
      not_full = λ bad. cc;
      busy = λ n same. (and_parts (list_any (λ spec. spec.unique) b.specs) (nat_lt 0 busy) e).0;
      not_behind = λ n bad. cc;
    })

-- what comes first of all, once a build goes on
pub other_early :
    (spoiled : Option Fault) (range index : Option ℕ) → spoiled ≡ None
    → Holds IsOther (first_cause spoiled (first_cause (option_map NotScanned range) (option_map NotLoaded index)))
other_early spoiled range index fine =
    holds_first IsOther spoiled _ (subst (Holds IsOther) (sym fine) (holds_none IsOther))
    (holds_first IsOther (option_map NotScanned range) (option_map NotLoaded index) (holds_map IsOther NotScanned range other_not_scanned)
    (holds_map IsOther NotLoaded index other_not_loaded))
