-- Spools of any kind as callers of a build see them, and what a worker's maker and these hold.
use Rattle.std.proofs.Common.{◌≡◌, ℕ, ◌<◌, Bool, get_or, List, [], ◌++◌, All, length, map, take, drop, Option, refl, sym, ap, ◌∙◌, subst, arith}
use Rattle.std.specs.Option.{option_map}
use Rattle.std.proofs.lemmas.List.{length-map, take_at}
use Rattle.std.proofs.lemmas.List.Elements.{All-map}
use Rattle.std.proofs.lemmas.Option.{slice_get-map}
use Rattle.std.proofs.lemmas.Simd.{map-map}
use Rattle.keybytes.specs.declared.fault.Fault.{Fault}
use Rattle.keybytes.specs.declared.pair.Pair.{Pair}
use Rattle.spool_ledger.specs.Accounts.{Stake}
use Rattle.heap_table.specs.Images.{IsReadable}
use Rattle.run_spool.specs.Spools.{AreSorted}
use Rattle.run_maker.specs.FullSpools.{HasFullOf}
use Rattle.run_maker.proofs.FullSpools.{full_given}
use Rattle.run_maker.proofs.Spoolings.{no_runs}
use Rattle.run_maker.specs.Making.{AreReady, Holdings, MakerValue, spec_at}
use Rattle.page_workers.specs.Holding.{TakesAll, HoldsMore}
use Rattle.page_workers.specs.ImagePairs.{HavePairs}
use Rattle.page_workers.specs.IntakeValue.{IntakeValue}
use Rattle.page_workers.specs.SpoolValue.{SpoolValue, HaveFullOf, spool_value, runs_of, open_runs_of, stakes_of}
use Rattle.page_workers.specs.declared.turn.Turn.{Turn}
use Rattle.page_workers.specs.declared.turn.Turn.TheVariants.{Digest, Seal}
use Rattle.page_workers.specs.Taking.{received_images}
use Rattle.page_workers.specs.Turns.{AreHeldWithTaken, HoldsPart, TurnHolds, after_turn, turn_images}
use Rattle.page_workers.specs.Work.{next_images, after_digest, after_seal}
use Rattle.page_workers.specs.WorkerValue.{IsCounting, IsHolding, SameWorker, WorkerValue, holdings}
use Rattle.page_workers.proofs.Keeping.{digest_keeps, seal_keeps, start_keeps}
use Rattle.page_workers.proofs.Received.{with_received}

-- of a list that was lent as a slice comes back what it was made
pub lent_back : {S : Type 0} (n : ℕ) (spools new : List S) → length new ≡ n → take n (new ++ drop (length new) spools) ≡ new
lent_back n spools new long = take_at new (drop (length new) spools) n long

module _ {S : Type 0} (runs : S → List (List Pair)) (open_run : S → List Pair) (stake : S → Option Stake) where
  abbrev values : List S → List SpoolValue
  values spools = map (spool_value runs open_run stake) spools

  pub value_runs : (spools : List S) → runs_of (values spools) ≡ map runs spools
  value_runs spools = map-map (λ (spool : SpoolValue). spool.runs) (spool_value runs open_run stake) spools

  pub value_open_runs : (spools : List S) → open_runs_of (values spools) ≡ map open_run spools
  value_open_runs spools = map-map (λ (spool : SpoolValue). spool.open_run) (spool_value runs open_run stake) spools

  pub value_stakes : (spools : List S) → stakes_of (values spools) ≡ map stake spools
  value_stakes spools = map-map (λ (spool : SpoolValue). spool.stake) (spool_value runs open_run stake) spools

  -- its stakes are the same where each spool kept its own
  lent_stakes :
      (n : ℕ) (spools new : List S) → length new ≡ n → map stake new ≡ map stake spools
      → stakes_of (values (take n (new ++ drop (length new) spools))) ≡ stakes_of (values spools)
  lent_stakes n spools new long same = rw (lent_back n spools new long) (value_stakes new ∙ (same ∙ sym (value_stakes spools)))

  -- a worker with these spools
  abbrev pub worker_with : ℕ → IntakeValue → MakerValue → List S → Bool → Option Fault → WorkerValue
  worker_with number intake maker spools handed fault =
      record { number = number; intake = intake; maker = maker; spools = values spools; handed = handed; fault = fault }

  -- it is the same after a turn, for which its spools were lent
  pub same_after :
      (number n : ℕ) (intake after : IntakeValue) (maker new : MakerValue) (spools new_spools : List S) (handed : Bool) (fault now : Option Fault)
      → after.build ≡ intake.build → after.end.ring ≡ intake.end.ring → new.schema ≡ maker.schema → new.specs ≡ maker.specs → length new_spools ≡ n
      → map stake new_spools ≡ map stake spools
      → SameWorker (worker_with number intake maker spools handed fault)
      (worker_with number after new (take n (new_spools ++ drop (length new_spools) spools)) handed now)
  same_after number n intake after maker new spools new_spools handed fault now build ring schema specs long stakes = record {
    number = refl;
    build = build;
    ring = ring;
    schema = schema;
    specs = specs;
    stakes = lent_stakes n spools new_spools long stakes;
    handed = refl;
  }

  -- spools that are ready are seen to be
  pub values_ready : (spools : List S) → AreReady (map runs spools) (map open_run spools) → AreReady (runs_of (values spools)) (open_runs_of (values spools))
  values_ready spools ready = rw (value_runs spools, value_open_runs spools) ready

  -- and those that are seen to be ready are so
  pub spools_ready : (spools : List S) → AreReady (runs_of (values spools)) (open_runs_of (values spools)) → AreReady (map runs spools) (map open_run spools)
  spools_ready spools ready = rw (value_runs spools, value_open_runs spools) at ready

  -- and those whose runs are seen to be in order
  pub spools_sorted : (spools : List S) → All AreSorted (runs_of (values spools)) → All AreSorted (map runs spools)
  spools_sorted spools sorted = rw (value_runs spools) at sorted

  -- what is held in spools that were lent, as it is seen
  seen_held :
      (R : Holdings → Holdings → Type 0) (maker new : MakerValue) (spools lent new_spools : List S) → lent ≡ spools
      → R (record { runs = map runs lent; begun = maker.begun }) (record { runs = map runs new_spools; begun = new.begun })
      → R (holdings maker (values spools)) (holdings new (values new_spools))
  seen_held R maker new spools lent new_spools same held =
      let Held : List (List (List Pair)) → List (List (List Pair)) → Type 0 = λ rs now. R (record { runs = rs; begun = maker.begun }) (record { runs = now; begun = new.begun }) in
      subst (λ (rs : List (List (List Pair))). Held rs (runs_of (values new_spools))) (ap (map runs) same ∙ sym (value_runs spools))
      (subst (Held (map runs lent)) (sym (value_runs new_spools)) held)

  -- after a turn
  pub turn_seen :
      (turn : Turn) (intake : IntakeValue) (maker new : MakerValue) (spools lent new_spools : List S) → lent ≡ spools
      → TurnHolds turn maker.specs (turn_images turn maker.schema intake) (record { runs = map runs lent; begun = maker.begun })
      (record { runs = map runs new_spools; begun = new.begun })
      → TurnHolds turn maker.specs (turn_images turn maker.schema intake) (holdings maker (values spools)) (holdings new (values new_spools))
  turn_seen turn intake maker new spools lent new_spools same holds =
      seen_held (TurnHolds turn maker.specs (turn_images turn maker.schema intake)) maker new spools lent new_spools same holds

  -- or where memory was wanted
  pub part_held :
      (intake after : IntakeValue) (maker new : MakerValue) (spools lent new_spools : List S) → lent ≡ spools
      → HoldsPart maker.specs maker.schema intake after (record { runs = map runs lent; begun = maker.begun }) (record { runs = map runs new_spools; begun = new.begun })
      → HoldsPart maker.specs maker.schema intake after (holdings maker (values spools)) (holdings new (values new_spools))
  part_held intake after maker new spools lent new_spools same part =
      seen_held (HoldsPart maker.specs maker.schema intake after) maker new spools lent new_spools same part

  -- a full one is seen
  values_full :
      (is_full : S → Pair → Type 0) (least : ℕ) (old : List (List (List Pair))) (given : ℕ → List Pair → Type 0) (spools : List S)
      → HasFullOf is_full runs open_run least old given spools → HaveFullOf is_full runs open_run stake least old given (values spools)
  values_full is_full least old given spools has = record {
    index = has.index;
    spool = has.spool;
    there = slice_get-map (spool_value runs open_run stake) spools has.index ∙ ap (λ (found : Option S). option_map (spool_value runs open_run stake) found) has.there;
    pairs = has.pairs;
    given = has.given;
    full = has.full;
    wants = has.wants;
  }

  -- one that was full when a worker took some of its copies is full of the pairs of all that it received
  pub received_full :
      (is_full : S → Pair → Type 0) (least : ℕ) (intake after : IntakeValue) (maker new : MakerValue) (spools lent new_spools : List S)
      → IsHolding intake maker (values spools) → lent ≡ spools → new.specs ≡ maker.specs → new.schema ≡ maker.schema → after.build ≡ intake.build
      → length new_spools ≡ length spools
      → HasFullOf is_full runs open_run least (map runs lent) (AreHeldWithTaken maker.specs maker.schema intake after (record { runs = map runs lent; begun = maker.begun }))
      new_spools
      → HaveFullOf is_full runs open_run stake least (runs_of (values spools)) (λ i pairs. HavePairs (spec_at new.specs i) (received_images new.schema after) pairs) (values new_spools)
  received_full is_full least intake after maker new spools lent new_spools holds same specs schema build many has =
      let Given : List (List (List Pair)) → ℕ → List Pair → Type 0 = λ rs. AreHeldWithTaken maker.specs maker.schema intake after (record { runs = rs; begun = maker.begun }) in
      let seen : map runs lent ≡ runs_of (values spools) = ap (map runs) same ∙ sym (value_runs spools) in
      let long : length spools ≡ length maker.specs = sym (length-map spools (spool_value runs open_run stake)) ∙ holds.many in
      values_full is_full least (runs_of (values spools)) (λ i pairs. HavePairs (spec_at new.specs i) (received_images new.schema after) pairs) new_spools
      (full_given is_full runs open_run least least (runs_of (values spools)) (map runs lent) new_spools (Given (map runs lent))
      (λ i pairs. HavePairs (spec_at new.specs i) (received_images new.schema after) pairs) (omega arith)
      (λ i less. no_runs (get_or (runs_of (values spools)) i []) (get_or (map runs lent) i []) (ap (λ (rs : List (List (List Pair))). get_or rs i []) seen))
      (λ i pairs less are. with_received intake after maker new (values spools) holds specs schema build i (omega (arith, less, many, long)) pairs
      (subst (λ (rs : List (List (List Pair))). Given rs i pairs) seen are)) has)

  -- a worker that took nothing holds nothing
  pub start_held :
      (intake : IntakeValue) (maker : MakerValue) (spools : List S) → All (λ copied. copied.build < intake.build) intake.end.received
      → length spools ≡ length maker.specs → All (λ begun. begun ≡ []) maker.begun
      → All (λ spool. (runs spool ≡ []) × (open_run spool ≡ [])) spools → IsHolding intake maker (values spools)
  start_held intake maker spools earlier many none empty =
      let no_runs = All-map (λ (rs : List (List Pair)). rs ≡ []) runs spools (λ k d less. (empty k d less).0) in
      let no_open = All-map (λ (ps : List Pair). ps ≡ []) open_run spools (λ k d less. (empty k d less).1) in
      start_keeps intake maker (values spools) earlier (length-map spools (spool_value runs open_run stake) ∙ many) none (rw (value_runs spools) no_runs)
      (rw (value_open_runs spools) no_open)

  module _
      (n : ℕ) (intake after : IntakeValue) (maker new : MakerValue) (spools new_spools : List S) (counts : IsCounting intake maker)
      (holds : IsHolding intake maker (values spools)) (readable : All IsReadable (next_images n maker.schema intake)) (specs : new.specs ≡ maker.specs)
      (schema : new.schema ≡ maker.schema) (columns : All (λ spec. spec.kinds ≡ new.schema) new.specs) (many : length new_spools ≡ length spools)
      (ready : AreReady (map runs new_spools) (map open_run new_spools))
      (sorted : All AreSorted (map runs spools) → All AreSorted (map runs new_spools)) where
    many_values : length (values new_spools) ≡ length (values spools)
    many_values = length-map new_spools (spool_value runs open_run stake) ∙ (many ∙ sym (length-map spools (spool_value runs open_run stake)))

    sorted_values : All AreSorted (runs_of (values new_spools))
    sorted_values = rw (value_runs new_spools) (sorted (spools_sorted spools holds.sorted))

    -- after a digest
    digest_held :
        after ≡ after_digest n maker.schema intake
        → TakesAll maker.specs (next_images n maker.schema intake) (record { runs = map runs spools; begun = maker.begun })
        (record { runs = map runs new_spools; begun = new.begun })
        → All (λ begun. length begun < 4096) new.begun → IsHolding after new (values new_spools)
    digest_held is takes short =
        let seen : TakesAll maker.specs (next_images n maker.schema intake) (holdings maker (values spools)) (holdings new (values new_spools)) =
        seen_held (TakesAll maker.specs (next_images n maker.schema intake)) maker new spools spools new_spools refl takes in
        digest_keeps n intake maker (values spools) counts holds readable after new (values new_spools) specs schema columns many_values (values_ready new_spools ready)
        sorted_values is seen short

    -- after a seal
    seal_held :
        after ≡ after_seal (after_digest n maker.schema intake)
        → HoldsMore maker.specs (next_images n maker.schema intake) (record { runs = map runs spools; begun = maker.begun })
        (record { runs = map runs new_spools; begun = new.begun })
        → All (λ begun. begun ≡ []) new.begun → IsHolding after new (values new_spools)
    seal_held is more closed =
        let seen : HoldsMore maker.specs (next_images n maker.schema intake) (holdings maker (values spools)) (holdings new (values new_spools)) =
        seen_held (HoldsMore maker.specs (next_images n maker.schema intake)) maker new spools spools new_spools refl more in
        seal_keeps n intake maker (values spools) counts holds readable after new (values new_spools) specs schema columns many_values (values_ready new_spools ready)
        sorted_values is seen closed

  -- after a turn
  pub turn_held :
      (turn : Turn) (intake after : IntakeValue) (maker new : MakerValue) (spools new_spools : List S) → IsCounting intake maker
      → IsHolding intake maker (values spools) → All IsReadable (turn_images turn maker.schema intake) → new.specs ≡ maker.specs → new.schema ≡ maker.schema
      → All (λ spec. spec.kinds ≡ new.schema) new.specs → length new_spools ≡ length spools → AreReady (map runs new_spools) (map open_run new_spools)
      → (All AreSorted (map runs spools) → All AreSorted (map runs new_spools)) → after ≡ after_turn turn maker.schema intake
      → TurnHolds turn maker.specs (turn_images turn maker.schema intake) (record { runs = map runs spools; begun = maker.begun })
      (record { runs = map runs new_spools; begun = new.begun })
      → All (λ begun. length begun < 4096) new.begun → (turn ≡ Seal → All (λ begun. begun ≡ []) new.begun) → IsHolding after new (values new_spools)
  turn_held Digest intake after maker new spools new_spools counts holds readable specs schema columns many ready sorted is takes short closed =
      digest_held 1 intake after maker new spools new_spools counts holds readable specs schema columns many ready sorted is takes short
  turn_held Seal intake after maker new spools new_spools counts holds readable specs schema columns many ready sorted is more short closed =
      seal_held (length intake.end.known) intake after maker new spools new_spools counts holds readable specs schema columns many ready sorted is more (closed refl)
