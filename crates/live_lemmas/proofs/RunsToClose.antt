-- A worker that wants a page has another run to close: the pairs that are in none, with those of the copies that it takes, make one.
use Rattle.std.proofs.Common.{◌≡◌, ℕ, ◌+◌, ◌<◌, ◌≤◌, List, [], ◌++◌, append-nil, get_or, length, length-append, take, take_all, drop, take-append-drop, Option, ap, ◌∙◌, sym, subst, arith}
use Rattle.std.proofs.lemmas.List.{length-map}
use Rattle.std.proofs.lemmas.List.Sorted.{length_permutation}
use Rattle.std.proofs.lemmas.Grind.{flat_map-append}
use Rattle.std.proofs.lemmas.Option.{slice_get_within}
use Rattle.keybytes.specs.Keys.{KeySpecValue}
use Rattle.keybytes.specs.declared.fault.Fault.{Fault}
use Rattle.keybytes.specs.declared.pair.Pair.{Pair}
use Rattle.keybytes.specs.declared.kind.Kind.{Kind}
use Rattle.heap_table.specs.Images.{ImageValue}
use Rattle.spool_ledger.specs.Accounts.{Stake}
use Rattle.run_spool.specs.Spools.{all_pairs}
use Rattle.run_maker.specs.Making.{spec_at}
use Rattle.page_workers.specs.Copies.{images_of}
use Rattle.page_workers.specs.ImagePairs.{HavePairs}
use Rattle.page_workers.specs.IntakeValue.{IntakeValue}
use Rattle.page_workers.specs.SpoolValue.{HaveFullOf, SpoolValue, runs_of, spool_value}
use Rattle.side_file.specs.Ends.{after_taking}
use Rattle.page_workers.specs.Taking.{received_images}
use Rattle.page_workers.specs.Turns.{StopsIn, least_pairs, turn_images}
use Rattle.page_workers.specs.Work.{next_images}
use Rattle.page_workers.specs.WorkerValue.{HasReceived, IsHolding, SameWorker, WorkerValue}
use Rattle.page_workers.specs.declared.turn.Turn.{Turn}
use Rattle.page_workers.specs.declared.turn.Turn.TheVariants.{Digest, Seal}
use Rattle.page_workers.proofs.ManyPairs.{have_split, images-append}
use Rattle.page_workers.proofs.Received.{received_after}
use Rattle.page_workers.proofs.SamePairs.{have_same}
use Rattle.page_workers.proofs.Turns.{taken_till}

-- what it took when it stopped comes first of what its turn takes
took_first :
    (turn : Turn) (kinds : List Kind) (old new : IntakeValue) (fault : Fault) → StopsIn turn kinds old new fault
    → (n : ℕ) × (rest : List ImageValue) × (new.end ≡ after_taking n old.end) × (turn_images turn kinds old ≡ next_images n kinds old ++ rest)
took_first Digest kinds old new fault stops =
    (1, [], ap (λ (w : IntakeValue). w.end) stops.left, sym (append-nil (next_images 1 kinds old)))
took_first Seal kinds old new fault stops =
    let took = taken_till Seal kinds old new fault stops in
    let known = old.end.known in (
      took.0,
      images_of old.build kinds (drop took.0 known),
      took.1,
      ap (images_of old.build kinds) (take_all (length known) known (omega arith) ∙ sym (take-append-drop took.0 known))
          ∙ images-append old.build kinds (take took.0 known) (drop took.0 known),
    )

module _
    (worker after : WorkerValue) (same : SameWorker worker after) {S : Type 0} (is_full : S → Pair → Type 0) (runs : S → List (List Pair))
    (open_run : S → List Pair) (stake : S → Option Stake) where
  -- these are the pairs of the copies that its turn takes
  pub run_to_close :
      (turn : Turn) (fault : Fault) → IsHolding worker.intake worker.maker worker.spools → StopsIn turn worker.maker.schema worker.intake after.intake fault
      → (full : HaveFullOf is_full runs open_run stake (least_pairs turn) (runs_of worker.spools) (HasReceived after) after.spools) (next : List Pair)
      → HavePairs (spec_at worker.maker.specs full.index) (turn_images turn worker.maker.schema worker.intake) next
      → least_pairs turn ≤ length (get_or worker.maker.begun full.index []) + length next
  run_to_close turn fault holds stops full next have =
      let i = full.index in
      let kinds = worker.maker.schema in
      let took = took_first turn kinds worker.intake after.intake fault stops in
      let images = received_images kinds worker.intake in
      let more_images = next_images took.0 kinds worker.intake in
      let within = slice_get_within after.spools i (spool_value runs open_run stake full.spool) full.there in
      let lt : i < length worker.maker.specs =
      omega (
        arith,
        within,
        ap length same.stakes,
        length-map after.spools (λ (s : SpoolValue). s.stake),
        length-map worker.spools (λ (s : SpoolValue). s.stake),
        holds.many,
      ) in
      let spec = spec_at worker.maker.specs i in
      let held = holds.holds i lt in
      let of_specs : HavePairs spec (received_images after.maker.schema after.intake) full.pairs =
      subst (λ (specs : List KeySpecValue). HavePairs (spec_at specs i) (received_images after.maker.schema after.intake) full.pairs) same.specs full.given in
      let received : received_images after.maker.schema after.intake ≡ images ++ more_images =
      ap (λ (ks : List Kind). received_images ks after.intake) same.schema ∙ received_after took.0 kinds worker.intake after.intake same.build took.2 in
      let parts = have_split spec images more_images full.pairs (subst (λ (xs : List ImageValue). HavePairs spec xs full.pairs) received of_specs) in
      let made : held.made ≡ parts.0 = have_same spec images held.made parts.0 held.have parts.2 in
      let ahead = have_split spec more_images took.1 next (subst (λ (xs : List ImageValue). HavePairs spec xs next) took.3 have) in
      let more_made : parts.1 ≡ ahead.0 = have_same spec more_images parts.1 ahead.0 parts.3 ahead.2 in
      let old : List (List Pair) = get_or (runs_of worker.spools) i [] in
      let begun : List Pair = get_or worker.maker.begun i [] in
      let more = full.wants.closed in
      let now : all_pairs (runs full.spool) ≡ all_pairs old ++ all_pairs more.0 = ap all_pairs more.1 ∙ flat_map-append (λ (r : List Pair). r) old more.0 in
      omega (
        arith,
        full.wants.left,
        ap length now,
        length-append (all_pairs old) (all_pairs more.0),
        length_permutation held.made (all_pairs old ++ begun) held.all,
        length-append (all_pairs old) begun,
        ap length made,
        ap length parts.4,
        length-append parts.0 parts.1,
        ap length more_made,
        ap length ahead.4,
        length-append ahead.0 ahead.1,
      )
