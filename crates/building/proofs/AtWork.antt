-- The workers of a build, as their rings are looked at and as they take what was put.
use Rattle.std.proofs.Common.{◌≡◌, ℕ, zero, suc, ◌+◌, ◌<◌, ◌≤◌, Bool, false, List, [], ◌∷◌, length, map, set, get_or, Some, sym, ap, ◌∙◌, subst, inl, inr}
use Rattle.std.proofs.Common.{arith}
use Rattle.std.specs.List.{All, slice_get}
use Rattle.std.proofs.lemmas.Bool.{false≢true}
use Rattle.std.proofs.lemmas.List.Elements.{All-weaker}
use Rattle.std.proofs.lemmas.Option.{get_or_from_slice_get, same_Some, slice_get_within}
use Rattle.keybytes.specs.Keys.{KeySpecValue}
use Rattle.keybytes.specs.declared.kind.Kind.{Kind}
use Rattle.run_maker.specs.Making.{MakerValue, spec_at}
use Rattle.side_file.specs.Ends.{PutEnd}
use Rattle.page_workers.specs.IntakeValue.{IntakeValue}
use Rattle.page_workers.specs.Taking.{IsTaking, unsealed_images}
use Rattle.page_workers.specs.Holding.{HoldsOpen}
use Rattle.page_workers.specs.WorkerValue.{IsHolding, WorkerValue}
use Rattle.page_workers.specs.declared.copied.Copied.{Copied}
use Rattle.page_workers.proofs.Taking.{start_taking}
use Rattle.building.specs.BuildingValue.{intakes, worker_state}
use Rattle.building.specs.Equipped.{HasOwnSpools}
use Rattle.building.specs.Keeping.{AreWorkers}
use Rattle.building.specs.Holding.{fresh_maker}
use Rattle.building.specs.Rings.{all_sent, begun_on, unseen, AreOfBuilds, AreTaking, IsWorkerOf}
use Rattle.page_workers.proofs.Places.{at_set, all_at, at_map, map_at, same_at, mapped}

-- what a worker takes doesn't depend on what it has seen of its ring
module _ (build : ℕ) (kinds : List Kind) (specs : List KeySpecValue) (handed : Bool) (sent : List Copied) (worker : WorkerValue) where
  unseen_is : IsWorkerOf build kinds specs handed sent worker → IsWorkerOf build kinds specs handed sent (unseen worker)
  unseen_is it = record {
    fine = it.fine;
    schema = it.schema;
    specs_are = it.specs_are;
    handed = it.handed;
    own = it.own;
    none = it.none;
    opened = it.opened;
    taking = record {
      of_build = it.taking.of_build;
      rest = it.taking.rest;
      in_order = it.taking.in_order;
      own = it.taking.own;
      taken = it.taking.taken;
      sealed_was_taken = it.taking.sealed_was_taken;
    };
  }

  seen_is : IsWorkerOf build kinds specs handed sent (unseen worker) → IsWorkerOf build kinds specs handed sent worker
  seen_is it = record {
    fine = it.fine;
    schema = it.schema;
    specs_are = it.specs_are;
    handed = it.handed;
    own = it.own;
    none = it.none;
    opened = it.opened;
    taking = record {
      of_build = it.taking.of_build;
      rest = it.taking.rest;
      in_order = it.taking.in_order;
      own = it.taking.own;
      taken = it.taking.taken;
      sealed_was_taken = it.taking.sealed_was_taken;
    };
  }

pub taking_same :
    (build : ℕ) (kinds : List Kind) (specs : List KeySpecValue) (handed : Bool) (all : List (List Copied)) (old new : List WorkerValue)
    → map unseen new ≡ map unseen old → AreTaking build kinds specs handed all old → AreTaking build kinds specs handed all new
taking_same build kinds specs handed all old new same taking k sent worker there at =
    let it = same_at unseen old new k worker (sym same) at in
    seen_is build kinds specs handed sent worker
    (subst (IsWorkerOf build kinds specs handed sent) it.2 (unseen_is build kinds specs handed sent it.0 (taking k sent it.0 there it.1)))

-- nor does what callers see of the workers
pub states_same :
    (old new : List WorkerValue) → map unseen new ≡ map unseen old
    → map (λ (w : WorkerValue). worker_state w.intake) new ≡ map (λ (w : WorkerValue). worker_state w.intake) old
states_same old new same =
    let state : WorkerValue → _ = λ w. worker_state w.intake in
    sym (mapped unseen state new) ∙ ap (map state) same ∙ mapped unseen state old

-- one worker changed
pub taking_set :
    (build : ℕ) (kinds : List Kind) (specs : List KeySpecValue) (handed : Bool) (all : List (List Copied)) (workers : List WorkerValue) (i : ℕ) (new : WorkerValue)
    → AreTaking build kinds specs handed all workers
    → ((sent : List Copied) → slice_get all i ≡ Some sent → IsWorkerOf build kinds specs handed sent new)
    → AreTaking build kinds specs handed all (set workers i new)
taking_set build kinds specs handed all workers i new taking own k sent worker there at = elim (at_set workers i new k worker at) [
  | inl it ↦ subst (IsWorkerOf build kinds specs handed sent) (sym it.1) (own sent (sym (ap (slice_get all) it.0) ∙ there))
  | inr it ↦ taking k sent worker there it.1
]

-- one ring was sent more
pub taking_put :
    (build : ℕ) (kinds : List Kind) (specs : List KeySpecValue) (handed : Bool) (all : List (List Copied)) (workers : List WorkerValue) (i : ℕ) (new : List Copied)
    → AreTaking build kinds specs handed all workers
    → ((worker : WorkerValue) → slice_get workers i ≡ Some worker → IsWorkerOf build kinds specs handed new worker)
    → AreTaking build kinds specs handed (set all i new) workers
taking_put build kinds specs handed all workers i new taking own k sent worker there at = elim (at_set all i new k sent there) [
  | inl it ↦
      subst (λ (s : List Copied). IsWorkerOf build kinds specs handed s worker) (sym it.1)
      (own worker (sym (ap (slice_get workers) it.0) ∙ at))
  | inr it ↦ taking k sent worker it.1 at
]

-- the intake of a worker is that of its ring
pub intake_at : (workers : List WorkerValue) (idle : List IntakeValue) (k : ℕ) (worker : WorkerValue) → slice_get workers k ≡ Some worker → slice_get (intakes workers idle) k ≡ Some worker.intake
intake_at [] idle k worker at = absurd (cc)
intake_at (w ∷ ws) idle zero worker at = ap (λ (v : WorkerValue). Some v.intake) (same_Some w worker at)
intake_at (w ∷ ws) idle (suc k) worker at = intake_at ws idle k worker at

-- a build begins
module _
    (builds : ℕ) (pages : List (PutEnd Copied)) (before : AreOfBuilds builds (all_sent pages)) where
  -- what a ring was sent before is of earlier builds
  pub of_earlier : (k : ℕ) (end : PutEnd Copied) → slice_get pages k ≡ Some end → All (λ copied. copied.build < builds + 1) end.sent
  of_earlier k end at =
      let there = map_at (λ (e : PutEnd Copied). e.sent) pages k end at in
      let old = all_at (λ (xs : List Copied). All (λ copied. copied.build ≤ builds) xs) (all_sent pages) k end.sent before there in
      All-weaker (λ copied. copied.build ≤ builds) (λ copied. copied.build < builds + 1) (λ copied le. omega (arith, le)) end.sent old

  pub started_taking :
      (kinds : List Kind) (specs : List KeySpecValue) (workers : List WorkerValue) (idle : List IntakeValue)
      → intakes workers idle ≡ map (begun_on (builds + 1)) pages → All (λ worker. worker.maker ≡ fresh_maker kinds specs) workers
      → All (HasOwnSpools specs) workers → AreWorkers (builds + 1) specs false workers
      → AreTaking (builds + 1) kinds specs false (all_sent pages) workers
  started_taking kinds specs workers idle are makers equipped placed k sent worker there at =
      let end = at_map (λ (e : PutEnd Copied). e.sent) pages k sent there in
      let place : slice_get (map (begun_on (builds + 1)) pages) k ≡ Some worker.intake =
      ap (λ (is : List IntakeValue). slice_get is k) (sym are) ∙ intake_at workers idle k worker at in
      let it = at_map (begun_on (builds + 1)) pages k worker.intake place in
      let same : it.0 ≡ end.0 = same_Some it.0 end.0 (sym it.1 ∙ end.1) in
      let maker = all_at (λ (w : WorkerValue). w.maker ≡ fresh_maker kinds specs) workers k worker makers at in
      let sound = placed k worker at in
      record {
        fine = sound.fine;
        schema = ap (λ (m : MakerValue). m.schema) maker;
        specs_are = sound.specs_are;
        handed = sound.spools_are;
        own = λ e. all_at (HasOwnSpools specs) workers k worker equipped at;
        none = λ e. absurd (false≢true e);
        opened = λ e. absurd (false≢true e);
        taking =
            subst (λ (s : List Copied). IsTaking (builds + 1) kinds s worker.intake) (ap (λ (e : PutEnd Copied). e.sent) same ∙ end.2)
            (subst (IsTaking (builds + 1) kinds it.0.sent) it.2
            (start_taking (builds + 1) kinds (record { ring = it.0.ring; received = it.0.sent; known = [] }) (of_earlier k it.0 it.1)));
      }

-- of what a worker took since its last seal those pairs are in no run that don't fill one
pub opened_in :
    {build : ℕ} {kinds : List Kind} {specs : List KeySpecValue} {handed : Bool} {sent : List Copied} {worker : WorkerValue}
    → IsWorkerOf build kinds specs handed sent worker → All (λ spec. spec.kinds ≡ kinds) specs → IsHolding worker.intake worker.maker worker.spools
    → (index : ℕ) (spec : KeySpecValue) → slice_get specs index ≡ Some spec
    → HoldsOpen spec (unsealed_images spec.kinds worker.intake) (get_or worker.maker.begun index [])
opened_in {kinds = kinds} {specs = specs} {worker = worker} its columns holds index spec at =
    let less = slice_get_within specs index spec at in
    let same = ap (λ (all : List KeySpecValue). spec_at all index) its.specs_are ∙ get_or_from_slice_get specs index spec _ at in
    let kinds_are = its.schema ∙ sym (all_at (λ (x : KeySpecValue). x.kinds ≡ kinds) specs index spec columns at) in
    subst (λ (x : KeySpecValue). HoldsOpen x (unsealed_images spec.kinds worker.intake) (get_or worker.maker.begun index [])) same
    (subst (λ (x : List Kind). HoldsOpen (spec_at worker.maker.specs index) (unsealed_images x worker.intake) (get_or worker.maker.begun index [])) kinds_are
    (holds.opened index (omega (arith, less, ap length its.specs_are))))
