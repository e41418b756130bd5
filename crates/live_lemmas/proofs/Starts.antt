-- When a build starts.
use Rattle.std.proofs.Common.{◌≡◌, ℕ, ◌≤◌, Bool, true, false, List, [], ◌∷◌, Some, None, refl, ap, ap₂, ◌∙◌}
use Rattle.std.specs.Prelude.{◌&&◌, ◌==◌, ◌+◌, ◌*◌, not, nat_lt, nat_le, length, map, replicate, is_some, if◌then◌else◌}
use Rattle.std.specs.List.{All, list_all}
use Rattle.std.proofs.lemmas.List.Elements.{All-head, All-tail, All-nil, All-cons}
use Rattle.std.proofs.lemmas.Bool.{and_parts, leb-true, eqb-true, false_from_ne_true}
use Rattle.keybytes.specs.Keys.{KeySpecValue}
use Rattle.keybytes.specs.Schemas.{same_kinds}
use Rattle.keybytes.proofs.SameKinds.{same_kinds_decides}
use Rattle.keybytes.specs.declared.kind.Kind.{Kind}
use Rattle.keybytes.specs.declared.fault.Fault.{Fault}
use Rattle.keybytes.specs.declared.fault.Fault.TheVariants.{BadColumn, BadRanges, SpoolNotEmpty}
use Rattle.heap_table.specs.Pages.{pages_written}
use Rattle.scan_range.specs.declared.dealing.Dealing.{Dealing}
use Rattle.scan_range.specs.declared.dealing.Dealing.TheVariants.{Ends, Even}
use Rattle.build_events.specs.declared.plan.Plan.{Plan}
use Rattle.page_workers.specs.WorkerValue.{WorkerValue}
use Rattle.building.specs.BuildingValue.{fresh, fresh_index, index_state, work_state, worker_state}
use Rattle.build_events.specs.CoreState.{LiveState, SpoolsState, WorkerState}
use Rattle.scan_range.specs.Cuts.{are_cuts}
use Rattle.scan_range.proofs.EvenEnds.{even_are_cuts, even_fit}
use Rattle.scan_range.specs.Dealings.{dealt_ends, dealing_refusal}
use Rattle.build_events.specs.BuildSteps.{counts_fit, cause_if, spools_refusal, start_refusal, fresh_work}
use Rattle.keybytes.specs.Faults.{first_cause}

pub kinds_differ : (xs ys : List Kind) → (xs ≡ ys → ⊥) → same_kinds xs ys ≡ false
kinds_differ xs ys f = false_from_ne_true (same_kinds xs ys) (λ e. f ((same_kinds_decides xs ys).0 e))

pub kinds_agree : (xs ys : List Kind) → xs ≡ ys → same_kinds xs ys ≡ true
kinds_agree xs ys e = (same_kinds_decides xs ys).1 e

-- specifications of the same columns
pub each_agrees :
    (specs : List KeySpecValue) (kinds : List Kind) → list_all (λ spec. same_kinds spec.kinds kinds) specs ≡ true → All (λ spec. spec.kinds ≡ kinds) specs
each_agrees [] kinds all = All-nil (λ (spec : KeySpecValue). spec.kinds ≡ kinds)
each_agrees (spec ∷ specs) kinds all =
    let parts = and_parts (same_kinds spec.kinds kinds) (list_all (λ (spec : KeySpecValue). same_kinds spec.kinds kinds) specs) all in
    All-cons (λ (spec : KeySpecValue). spec.kinds ≡ kinds) spec specs ((same_kinds_decides spec.kinds kinds).0 parts.0) (each_agrees specs kinds parts.1)

module _
    (live : LiveState) (spools : SpoolsState) (plan : Plan) (still : is_some live.build ≡ false)
    (counts : counts_fit live (length spools.left) plan ≡ true) where
  pub bad_column : list_all (λ spec. same_kinds spec.kinds live.heap.schema) plan.specs.items ≡ false → start_refusal live spools plan ≡ Some BadColumn
  bad_column columns = rw (still, counts, columns) refl

  module _ (columns : list_all (λ spec. same_kinds spec.kinds live.heap.schema) plan.specs.items ≡ true) where
    ranges_cause : start_refusal live spools plan ≡ first_cause (dealing_refusal (pages_written live.heap.log) plan.dealing) (spools_refusal spools.left)
    ranges_cause = rw (still, counts, columns) refl

    pub bad_ranges :
        (fault : Fault) → dealing_refusal (pages_written live.heap.log) plan.dealing ≡ Some fault → start_refusal live spools plan ≡ Some fault
    bad_ranges fault ranges = ranges_cause ∙ ap (λ cause. first_cause cause (spools_refusal spools.left)) ranges

    module _ (ranges : dealing_refusal (pages_written live.heap.log) plan.dealing ≡ None) where
      spools_cause : start_refusal live spools plan ≡ spools_refusal spools.left
      spools_cause = ranges_cause ∙ ap (λ cause. first_cause cause (spools_refusal spools.left)) ranges

      pub bad_spools : list_all (λ is_empty. is_empty) spools.left ≡ false → start_refusal live spools plan ≡ Some SpoolNotEmpty
      bad_spools some = spools_cause ∙ ap (λ (all : Bool). cause_if (not all) SpoolNotEmpty) some

      pub nothing_bad : list_all (λ is_empty. is_empty) spools.left ≡ true → start_refusal live spools plan ≡ None
      nothing_bad all = spools_cause ∙ ap (λ (every : Bool). cause_if (not every) SpoolNotEmpty) all

fit_cuts : (fit : Bool) → (if fit then None else Some BadRanges) ≡ None → fit ≡ true
fit_cuts true e = refl
fit_cuts false e = absurd (cc)

-- what is dealt is cuts
pub dealt_are_cuts : (pages : ℕ) (dealing : Dealing) → dealing_refusal pages dealing ≡ None → are_cuts pages (dealt_ends pages dealing) ≡ true
dealt_are_cuts pages (Ends ends) e = fit_cuts (are_cuts pages ends.items) e
dealt_are_cuts pages (Even ranges) e = let fit = even_fit ranges e in even_are_cuts pages ranges fit.0 fit.1

-- a plan whose counts fit
pub record HasCounts (spools : ℕ) (plan : Plan) : Type 0 where
  pub some : 1 ≤ plan.workers
  pub few : plan.workers ≤ 16
  pub some_index : 1 ≤ length plan.specs.items
  pub few_indexes : length plan.specs.items ≤ 8
  pub lent : spools ≡ plan.workers * length plan.specs.items

pub has_counts : (live : LiveState) (spools : ℕ) (plan : Plan) → counts_fit live spools plan ≡ true → HasCounts spools plan
has_counts live spools plan e =
    let some : Bool = nat_le 1 plan.workers in
    let few : Bool = nat_le plan.workers 16 in
    let some_index : Bool = nat_le 1 (length plan.specs.items) in
    let few_indexes : Bool = nat_le (length plan.specs.items) 8 in
    let room : Bool = nat_le (length live.ready + length plan.specs.items) 32 in
    let number : Bool = nat_lt live.builds 18446744073709551615 in
    let lent = and_parts (some && few && some_index && few_indexes && room && number) (spools == plan.workers * length plan.specs.items) e in
    let numbered = and_parts (some && few && some_index && few_indexes && room) number lent.0 in
    let roomy = and_parts (some && few && some_index && few_indexes) room numbered.0 in
    let indexes = and_parts (some && few && some_index) few_indexes roomy.0 in
    let one_index = and_parts (some && few) some_index indexes.0 in
    let workers = and_parts some few one_index.0 in
    record {
      some = leb-true 1 plan.workers workers.0;
      few = leb-true plan.workers 16 workers.1;
      some_index = leb-true 1 (length plan.specs.items) one_index.1;
      few_indexes = leb-true (length plan.specs.items) 8 indexes.1;
      lent = eqb-true spools (plan.workers * length plan.specs.items) lent.1;
    }

-- workers that all look the same
pub alike : {X Y : Type 0} (f : X → Y) (xs : List X) (y : Y) → All (λ x. f x ≡ y) xs → map f xs ≡ replicate (length xs) y
alike f [] y all = refl
alike f (x ∷ xs) y all = ap₂ ◌∷◌ (All-head (λ x. f x ≡ y) x xs all) (alike f xs y (All-tail (λ x. f x ≡ y) x xs all))

-- nothing was done on any of its indexes
each_fresh :
    (specs : List KeySpecValue) → map index_state (replicate (length specs) fresh_index) ≡ map (λ spec. record { loaded = false; applied = 0 }) specs
each_fresh [] = refl
each_fresh (spec ∷ specs) = ap (λ is. record { loaded = false; applied = 0 } ∷ is) (each_fresh specs)

-- its work is that of so many workers on the plan's indexes
pub fresh_is :
    (plan : Plan) (specs : List KeySpecValue) (number : ℕ) (workers : List WorkerValue) → length workers ≡ plan.workers
    → All (λ worker. worker_state worker.intake ≡ record { taken = 0; sealed = 0 }) workers
    → specs ≡ plan.specs.items → work_state workers (Some (fresh number specs)) ≡ fresh_work plan
fresh_is plan specs number workers many first same =
    let start : WorkerState = record { taken = 0; sealed = 0 } in
    let states : map (λ (w : WorkerValue). worker_state w.intake) workers ≡ replicate plan.workers start =
    alike (λ (w : WorkerValue). worker_state w.intake) workers start first ∙ ap (λ (n : ℕ). replicate n start) many in
    rw (same, states, each_fresh plan.specs.items) refl
