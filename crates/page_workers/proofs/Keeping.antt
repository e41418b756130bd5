-- What a worker's maker and spools hold, as it takes copies and seals.
use Rattle.std.proofs.Common.{◌≡◌, ℕ, zero, suc, ◌<◌, List, [], ◌∷◌, ◌++◌, All, length, length-append, get_or, take, drop, refl, sym, ap, ◌∙◌, subst, arith}
use Rattle.std.proofs.Common.{inl, inr}
use Rattle.std.proofs.lemmas.List.{length-map}
use Rattle.std.specs.List.Sorted.{IsSorted}
use Rattle.std.proofs.Math.Seq.{drop-nil}
use Rattle.std.proofs.lemmas.Bool.{cases_Bool}
use Rattle.std.proofs.lemmas.List.Elements.{All-nil, All-cons, All-head, All-tail}
use Rattle.std.proofs.lemmas.List.Sorted.{IsPermutation-refl}
use Rattle.keybytes.specs.Keys.{KeySpecValue}
use Rattle.keybytes.specs.Pairs.{pair_cmp}
use Rattle.keybytes.specs.declared.kind.Kind.{Kind}
use Rattle.keybytes.specs.declared.pair.Pair.{Pair}
use Rattle.heap_table.specs.Images.{ImageValue, IsReadable, Shows, image_slot}
use Rattle.run_spool.specs.Spools.{AreSorted, NoneEmpty}
use Rattle.run_maker.specs.ImagePairs.{HasPairs}
use Rattle.run_maker.specs.Making.{MakerValue, AreReady, spec_at}
use Rattle.page_workers.specs.declared.copied.Copied.{Copied}
use Rattle.page_workers.specs.Copies.{is_for, images_of}
use Rattle.page_workers.specs.Holding.{TakesAll, HoldsMore}
use Rattle.page_workers.specs.ImagePairs.{HavePairs}
use Rattle.page_workers.specs.IntakeValue.{IntakeValue}
use Rattle.page_workers.specs.SpoolValue.{SpoolValue, runs_of, open_runs_of}
use Rattle.page_workers.specs.Taking.{received_images, unsealed_images}
use Rattle.page_workers.specs.Work.{at_start, next_images, after_digest, after_seal}
use Rattle.page_workers.specs.WorkerValue.{IsCounting, IsHolding, holdings}
use Rattle.page_workers.proofs.Holding.{none_at, short_at}
use Rattle.page_workers.proofs.ManyPairs.{for_decides, images-append, images_none}
use Rattle.page_workers.proofs.Taking.{digested_closed, digested_holds, digested_open, sealed_closed, sealed_holds, sealed_open, start_closed}

-- the images of a build, of a table of these columns, have these columns
images_columns : (build : ℕ) (kinds : List Kind) (copies : List Copied) → All (λ image. image.schema ≡ kinds) (images_of build kinds copies)
images_columns build kinds [] = All-nil (λ (image : ImageValue). image.schema ≡ kinds)
images_columns build kinds (copied ∷ copies) = elim (cases_Bool (is_for build kinds copied)) [
  | inl own ↦
      let rest = images_columns build kinds copies in
      let first : copied.image.schema ≡ kinds = ((for_decides build kinds copied).0 own).columns in
      rw own (All-cons (λ (image : ImageValue). image.schema ≡ kinds) copied.image (images_of build kinds copies) first rest)
  | inr other ↦ rw other (images_columns build kinds copies)
]

-- images that can be read have pairs
have_pairs :
    (spec : KeySpecValue) (kinds : List Kind) (images : List ImageValue) → spec.kinds ≡ kinds → All IsReadable images
    → All (λ image. image.schema ≡ kinds) images → (made : List Pair) × HavePairs spec images made
have_pairs spec kinds [] columns readable are = ([], refl)
have_pairs spec kinds (image ∷ images) columns readable are =
    let rows = All-head IsReadable image images readable in
    let its : image.schema ≡ kinds = All-head (λ (i : ImageValue). i.schema ≡ kinds) image images are in
    let rest = have_pairs spec kinds images columns (All-tail IsReadable image images readable) (All-tail (λ (i : ImageValue). i.schema ≡ kinds) image images are) in
    let first : HasPairs spec image _ = record {
      rows = rows.0;
      shows = λ slot. subst (λ (ks : List Kind). Shows ks (image_slot image slot) (rows.0 slot)) (its ∙ sym columns) (rows.1 slot);
      pairs_are = refl;
    } in
    (_, (_, rest.0, first, rest.1, refl))

-- the specification of an index is one of all
all_at : (P : KeySpecValue → Type 0) (specs : List KeySpecValue) (i : ℕ) → All P specs → i < length specs → P (spec_at specs i)
all_at P [] i all less = absurd (omega (arith, less))
all_at P (spec ∷ specs) zero all less = All-head P spec specs all
all_at P (spec ∷ specs) (suc i) all less = all_at P specs i (All-tail P spec specs all) (omega (arith, less))

-- what the maker says of its columns now, it said before
same_columns :
    (old new : MakerValue) → new.specs ≡ old.specs → new.schema ≡ old.schema → All (λ spec. spec.kinds ≡ new.schema) new.specs
    → All (λ spec. spec.kinds ≡ old.schema) old.specs
same_columns old new specs schema columns =
    subst (λ (kinds : List Kind). All (λ (spec : KeySpecValue). spec.kinds ≡ kinds) old.specs) schema
    (subst (λ (ss : List KeySpecValue). All (λ (spec : KeySpecValue). spec.kinds ≡ new.schema) ss) specs columns)

-- it counts what it takes
counts_more : (n : ℕ) (maker : MakerValue) (intake : IntakeValue) → IsCounting intake maker → IsCounting (after_digest n maker.schema intake) maker
counts_more n maker intake counts =
    let more : received_images maker.schema (after_digest n maker.schema intake) ≡ received_images maker.schema intake ++ next_images n maker.schema intake =
    images-append intake.build maker.schema intake.end.received (take n intake.end.known) in
    let both = length-append (received_images maker.schema intake) (next_images n maker.schema intake) in
    record { taken = omega (arith, counts.taken, both, ap length more); sealed_was_taken = omega (arith, counts.sealed_was_taken) }

-- what it counts hangs on its columns alone
counts_same : (old new : MakerValue) (intake : IntakeValue) → new.schema ≡ old.schema → IsCounting intake old → IsCounting intake new
counts_same old new intake schema counts = record {
  taken = counts.taken ∙ ap (λ (kinds : List Kind). length (received_images kinds intake)) (sym schema);
  sealed_was_taken = counts.sealed_was_taken;
}

-- after a digest
pub digest_counts :
    (n : ℕ) (old new : MakerValue) (intake after : IntakeValue) → new.schema ≡ old.schema → after ≡ after_digest n old.schema intake
    → IsCounting intake old → IsCounting after new
digest_counts n old new intake after schema is counts =
    subst (λ (i : IntakeValue). IsCounting i new) (sym is)
    (counts_same old new (after_digest n old.schema intake) schema (counts_more n old intake counts))

-- after a seal
pub seal_counts :
    (n : ℕ) (old new : MakerValue) (intake after : IntakeValue) → new.schema ≡ old.schema → after ≡ after_seal (after_digest n old.schema intake)
    → IsCounting intake old → IsCounting after new
seal_counts n old new intake after schema is counts =
    let more = counts_same old new (after_digest n old.schema intake) schema (counts_more n old intake counts) in
    subst (λ (i : IntakeValue). IsCounting i new) (sym is) (record { taken = more.taken; sealed_was_taken = omega arith })

-- the next copies have pairs of each index
pub have_next :
    (n : ℕ) (intake : IntakeValue) (kinds : List Kind) (specs : List KeySpecValue) → All (λ spec. spec.kinds ≡ kinds) specs
    → All IsReadable (next_images n kinds intake) → (i : ℕ) → i < length specs
    → (pairs : List Pair) × HavePairs (spec_at specs i) (next_images n kinds intake) pairs
have_next n intake kinds specs columns readable i less =
    have_pairs (spec_at specs i) kinds (next_images n kinds intake) (all_at (λ (spec : KeySpecValue). spec.kinds ≡ kinds) specs i columns less) readable
    (images_columns intake.build kinds (take n intake.end.known))

module _
    (n : ℕ) (intake : IntakeValue) (maker : MakerValue) (spools : List SpoolValue) (counts : IsCounting intake maker) (holds : IsHolding intake maker spools)
    (readable : All IsReadable (next_images n maker.schema intake)) where
  module _
      (after : IntakeValue) (new : MakerValue) (new_spools : List SpoolValue) (specs : new.specs ≡ maker.specs) (schema : new.schema ≡ maker.schema)
      (columns : All (λ spec. spec.kinds ≡ new.schema) new.specs) (many : length new_spools ≡ length spools)
      (ready : AreReady (runs_of new_spools) (open_runs_of new_spools)) (sorted : All AreSorted (runs_of new_spools)) where
    -- after a digest
    pub digest_keeps :
        after ≡ after_digest n maker.schema intake → TakesAll maker.specs (next_images n maker.schema intake) (holdings maker spools) (holdings new new_spools)
        → All (λ begun. length begun < 4096) new.begun → IsHolding after new new_spools
    digest_keeps is takes short =
        let same : (i : ℕ) → spec_at new.specs i ≡ spec_at maker.specs i = λ i. ap (λ (ss : List KeySpecValue). spec_at ss i) specs in
        let its = have_next n intake maker.schema maker.specs (same_columns maker new specs schema columns) readable in
        record {
          many = many ∙ holds.many ∙ sym (ap length specs);
          ready = ready;
          sorted = sorted;
          holds = λ i less.
              let lt : i < length maker.specs = omega (arith, less, ap length specs) in
              let own = its i lt in
              rw (is, schema, same i)
              (digested_holds (spec_at maker.specs i) n maker.schema intake (get_or (runs_of spools) i []) (get_or maker.begun i []) (get_or (runs_of new_spools) i [])
              (get_or new.begun i []) own.0 (holds.holds i lt) own.1 (takes i lt own.0 own.1));
          opened = λ i less.
              let lt : i < length maker.specs = omega (arith, less, ap length specs) in
              let own = its i lt in
              rw (is, schema, same i)
              (digested_open (spec_at maker.specs i) n maker.schema intake (get_or (runs_of spools) i []) (get_or maker.begun i []) (get_or (runs_of new_spools) i [])
              (get_or new.begun i []) own.0 counts.taken counts.sealed_was_taken (holds.opened i lt) own.1 (takes i lt own.0 own.1) (short_at new.begun i short));
          closed = λ i less.
              let lt : i < length maker.specs = omega (arith, less, ap length specs) in
              let own = its i lt in
              rw (is, schema, same i)
              (digested_closed (spec_at maker.specs i) n maker.schema intake (get_or (runs_of spools) i []) (get_or maker.begun i []) (get_or (runs_of new_spools) i [])
              (get_or new.begun i []) own.0 counts.taken counts.sealed_was_taken (holds.closed i lt) (takes i lt own.0 own.1));
        }

    -- after a seal
    pub seal_keeps :
        after ≡ after_seal (after_digest n maker.schema intake)
        → HoldsMore maker.specs (next_images n maker.schema intake) (holdings maker spools) (holdings new new_spools) → All (λ begun. begun ≡ []) new.begun
        → IsHolding after new new_spools
    seal_keeps is more closed =
        let same : (i : ℕ) → spec_at new.specs i ≡ spec_at maker.specs i = λ i. ap (λ (ss : List KeySpecValue). spec_at ss i) specs in
        let none : (i : ℕ) → get_or new.begun i [] ≡ [] = λ i. none_at new.begun i closed in
        let its = have_next n intake maker.schema maker.specs (same_columns maker new specs schema columns) readable in
        record {
          many = many ∙ holds.many ∙ sym (ap length specs);
          ready = ready;
          sorted = sorted;
          holds = λ i less.
              let lt : i < length maker.specs = omega (arith, less, ap length specs) in
              let own = its i lt in
              let all = (more i lt own.0 own.1).all in
              rw (is, schema, same i, none i)
              (sealed_holds (spec_at maker.specs i) n maker.schema intake (get_or (runs_of spools) i []) (get_or maker.begun i []) (get_or (runs_of new_spools) i [])
              own.0 (holds.holds i lt) own.1 (rw (none i) at all));
          opened = λ i less.
              let lt : i < length maker.specs = omega (arith, less, ap length specs) in
              rw (is, schema, same i, none i) (sealed_open (spec_at maker.specs i) n maker.schema intake counts.taken);
          closed = λ i less.
              let lt : i < length maker.specs = omega (arith, less, ap length specs) in
              let own = its i lt in
              let all = (more i lt own.0 own.1).all in
              rw (is, schema, same i)
              (sealed_closed (spec_at maker.specs i) n maker.schema intake (get_or (runs_of new_spools) i [])
              (ready.none_empty i [] (omega (arith, lt, many, holds.many, length-map new_spools (λ (spool : SpoolValue). spool.runs)))) counts.taken
              (sealed_holds (spec_at maker.specs i) n maker.schema intake (get_or (runs_of spools) i []) (get_or maker.begun i []) (get_or (runs_of new_spools) i [])
              own.0 (holds.holds i lt) own.1 (rw (none i) at all)));
        }

-- a worker that took nothing counts nothing
pub start_counts :
    (intake : IntakeValue) (maker : MakerValue) → intake ≡ at_start intake.build intake.end → All (λ copied. copied.build < intake.build) intake.end.received
    → IsCounting intake maker
start_counts intake maker fresh earlier =
    let none = ap length (images_none intake.build maker.schema intake.end.received earlier) in
    let taken : intake.taken ≡ 0 = ap (λ (i : IntakeValue). i.taken) fresh in
    let sealed : intake.sealed ≡ 0 = ap (λ (i : IntakeValue). i.sealed) fresh in
    record { taken = taken ∙ sym none; sealed_was_taken = omega arith }

-- and it holds nothing
pub start_keeps :
    (intake : IntakeValue) (maker : MakerValue) (spools : List SpoolValue) → All (λ copied. copied.build < intake.build) intake.end.received
    → length spools ≡ length maker.specs → All (λ begun. begun ≡ []) maker.begun → All (λ runs. runs ≡ []) (runs_of spools)
    → All (λ begun. begun ≡ []) (open_runs_of spools) → IsHolding intake maker spools
start_keeps intake maker spools earlier many none empty open_none =
    let images = images_none intake.build maker.schema intake.end.received earlier in
    let unsealed : unsealed_images maker.schema intake ≡ [] = ap (drop intake.sealed) images ∙ drop-nil intake.sealed in
    record {
      many = many;
      ready = record {
        none_empty = λ k d less. subst (λ (runs : List (List Pair)). NoneEmpty runs) (sym (empty k d less)) (All-nil (λ (run : List Pair). 0 < length run));
        open_none = open_none;
      };
      sorted = λ k d less. subst (λ (runs : List (List Pair)). AreSorted runs) (sym (empty k d less)) (All-nil (λ (run : List Pair). IsSorted pair_cmp run));
      holds = λ i less. rw (images, none_at (runs_of spools) i empty, none_at maker.begun i none)
          (record { made = []; have = refl; all = IsPermutation-refl [] });
      opened = λ i less. rw (unsealed, none_at maker.begun i none) (record { last = []; since_seal = refl; open_run = refl });
      closed = λ i less. rw (none_at (runs_of spools) i empty) (start_closed (spec_at maker.specs i) maker.schema intake earlier);
    }
