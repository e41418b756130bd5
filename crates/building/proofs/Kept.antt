-- What the work of a build keeps by itself stays, as it begins, as its rings are looked at and as its workers go on.
use Rattle.std.proofs.Common.{◌≡◌, ℕ, Bool, true, false, List, [], ◌∷◌, length, map, set, Option, Some, None, Result, Ok, Err, refl, sym, ap, ◌∙◌, subst}
use Rattle.std.proofs.Common.{inl, inr, arith, drop, drop_of_length-le, ◌≤◌, ◌*◌}
use Rattle.std.specs.Prelude.{IfErr, IfOk, OnOk, flat_map}
use Rattle.std.specs.List.{All, slice_get}
use Rattle.std.proofs.lemmas.Bool.{cases_Bool, false≢true}
use Rattle.std.proofs.lemmas.List.{length-map, length-replicate, map-set}
use Rattle.keybytes.specs.Faults.{first_cause}
use Rattle.keybytes.specs.Keys.{KeySpecValue}
use Rattle.keybytes.specs.declared.fault.Fault.{Fault}
use Rattle.side_file.specs.declared.entry.Entry.{Entry}
use Rattle.heap_table.specs.Images.{ImageValue}
use Rattle.catch_up.specs.Built.{told_to}
use Rattle.run_maker.specs.Making.{spec_at}
use Rattle.page_workers.specs.Holding.{HoldsOpen, HoldsPairs}
use Rattle.page_workers.specs.ImagePairs.{HavePairs}
use Rattle.page_workers.specs.SpoolValue.{SpoolValue}
use Rattle.side_file.specs.Ends.{TakeEnd}
use Rattle.page_workers.specs.Taking.{received_images}
use Rattle.page_workers.specs.declared.turn.Turn.{Turn}
use Rattle.page_workers.specs.declared.turn.Turn.TheVariants.{Digest, Seal}
use Rattle.page_workers.specs.Turns.{HasDone, marked}
use Rattle.page_workers.specs.Work.{after_seal}
use Rattle.page_workers.specs.WorkerValue.{SameWorker, WorkerValue}
use Rattle.building.specs.BuildingValue.{IndexValue, IsUnloaded, WorkValue, fresh, fresh_index}
use Rattle.building.specs.Holding.{HaveColumns}
use Rattle.building.specs.Keeping.{ArePairsOf, AreWorkers, HasHanded, IsIndexOf, IsKept, KeepsWork}
use Rattle.building.specs.Rings.{unseen}
use Rattle.building.specs.Turns.{spoiled_for}
use Rattle.page_workers.proofs.Places.{all_at, all_from, at_set, mapped, no_pair, replicate_at, same_at, set_same}

-- the images that a worker received
abbrev pub own_images : WorkerValue → List ImageValue
own_images worker = received_images worker.maker.schema worker.intake

-- lists of which f gives the same have the same in a row
flat_same : {X Y : Type 0} (f : X → List Y) (xs ys : List X) → map f xs ≡ map f ys → flat_map f xs ≡ flat_map f ys
flat_same f [] [] same = refl
flat_same f [] (y ∷ ys) same = absurd (cc)
flat_same f (x ∷ xs) [] same = absurd (cc)
flat_same f (x ∷ xs) (y ∷ ys) same =
    let first : f x ≡ f y = cc in
    let rest : map f xs ≡ map f ys = cc in
    rw (first, flat_same f xs ys rest) refl

-- nothing is done on an index of which its end took no entry
fresh_of :
    (build : ℕ) (spec : KeySpecValue) (workers : List WorkerValue) (end : TakeEnd Entry) → told_to build end.received ≡ [] → IsIndexOf build spec workers end fresh_index
fresh_of build spec workers end none = record {
  none_before = λ e. none;
  of_build = λ built e. absurd (cc);
  of_spec = λ built e. absurd (cc);
  loaded = λ built e. absurd (cc);
}

-- a build begins, of which no entry was taken
pub fresh_kept :
    (build : ℕ) (specs : List KeySpecValue) (workers : List WorkerValue) (sides : List (TakeEnd Entry)) → AreWorkers build specs false workers
    → All (λ end. told_to build end.received ≡ []) sides → KeepsWork workers sides [] (Some (fresh build specs))
fresh_kept build specs workers sides placed unused = λ fine. record {
  many = length-replicate (length specs) fresh_index;
  placed = placed;
  indexes = λ k spec end index here there at.
      subst (IsIndexOf build spec workers end) (sym (replicate_at (length specs) fresh_index k index at))
      (fresh_of build spec workers end (all_at (λ (e : TakeEnd Entry). told_to build e.received ≡ []) sides k end unused there));
  lent = λ e. refl;
  unloaded = λ e. all_from (λ (index : IndexValue). index.built ≡ None) (fresh build specs).indexes (λ k index at.
      ap (λ (i : IndexValue). i.built) (replicate_at (length specs) fresh_index k index at));
  handed = λ e. absurd (false≢true e);
  columns = λ e. absurd (false≢true e);
  once = λ e. absurd (false≢true e);
}

-- an index of which nothing is in order goes with any workers
pub any_workers :
    (build : ℕ) (spec : KeySpecValue) (old new : List WorkerValue) (end : TakeEnd Entry) (index : IndexValue) → index.built ≡ None → IsIndexOf build spec old end index
    → IsIndexOf build spec new end index
any_workers build spec old new end index none is = record {
  none_before = is.none_before;
  of_build = is.of_build;
  of_spec = is.of_spec;
  loaded = λ built e. absurd (let bad : None ≡ Some built = sym none ∙ e in cc);
}

-- until the first load the workers may do anything, as long as they go on
pub scanning_kept :
    (old new : List WorkerValue) (sides : List (TakeEnd Entry)) (spools : List SpoolValue) (work : WorkValue) → work.handed ≡ false
    → AreWorkers work.build work.specs work.handed new → IsKept old sides spools work → IsKept new sides spools work
scanning_kept old new sides spools work scans placed is = record {
  many = is.many;
  placed = placed;
  indexes = λ k spec end index here there at.
      any_workers work.build spec old new end index (all_at (λ (i : IndexValue). i.built ≡ None) work.indexes k index (is.unloaded scans) at)
      (is.indexes k spec end index here there at);
  lent = is.lent;
  unloaded = is.unloaded;
  handed = λ e. absurd (false≢true (sym scans ∙ e));
  columns = λ e. absurd (false≢true (sym scans ∙ e));
  once = λ e. absurd (false≢true (sym scans ∙ e));
}

-- the pairs of an index go with what the workers received, and with nothing else of them
same_pairs :
    (build : ℕ) (spec : KeySpecValue) (old new : List WorkerValue) (end : TakeEnd Entry) (index : IndexValue) → map own_images new ≡ map own_images old
    → IsIndexOf build spec old end index → IsIndexOf build spec new end index
same_pairs build spec old new end index same is = record {
  none_before = is.none_before;
  of_build = is.of_build;
  of_spec = is.of_spec;
  loaded = λ built e.
      let was = is.loaded built e in
      record {
        made = was.made;
        received = subst (λ (images : List ImageValue). HavePairs spec images was.made) (sym (flat_same own_images new old same)) was.received;
        applied = was.applied;
      };
}

same_columns :
    (is_open : ℕ → Type 0) (specs : List KeySpecValue) (old new : List WorkerValue) (spools : List SpoolValue) → map own_images new ≡ map own_images old
    → HaveColumns is_open specs old spools → HaveColumns is_open specs new spools
same_columns is_open specs old new spools same is = record {
  many = is.many ∙ ap (λ (n : ℕ). n * length specs) (sym (length-map old own_images) ∙ ap length (sym same) ∙ length-map new own_images);
  sorted = is.sorted;
  pairs = λ index k worker spool less opened at here.
      let it = same_at own_images old new k worker (sym same) at in
      subst (λ (images : List ImageValue). HoldsPairs (spec_at specs index) images spool.runs []) it.2 (is.pairs index k it.0 spool less opened it.1 here);
}

-- workers that received the same
pub workers_kept :
    (old new : List WorkerValue) (sides : List (TakeEnd Entry)) (spools : List SpoolValue) (work : WorkValue) → map own_images new ≡ map own_images old
    → AreWorkers work.build work.specs work.handed new
    → (work.handed ≡ true → All (HasHanded work.specs) old → All (HasHanded work.specs) new) → IsKept old sides spools work → IsKept new sides spools work
workers_kept old new sides spools work same placed handed is = record {
  many = is.many;
  placed = placed;
  indexes = λ k spec end index here there at. same_pairs work.build spec old new end index same (is.indexes k spec end index here there at);
  lent = is.lent;
  unloaded = is.unloaded;
  handed = λ loads. handed loads (is.handed loads);
  columns = λ loads. same_columns (λ index. IsUnloaded index work) work.specs old new spools same (is.columns loads);
  once = is.once;
}

-- what a worker handed over doesn't depend on what it has seen of its ring
module _ (specs : List KeySpecValue) (worker : WorkerValue) where
  to_unseen : HasHanded specs worker → HasHanded specs (unseen worker)
  to_unseen is = record {
    closed = is.closed;
    none = is.none;
    columns = is.columns;
    counting = record { taken = is.counting.taken; sealed_was_taken = is.counting.sealed_was_taken };
    opened = is.opened;
  }

  from_unseen : HasHanded specs (unseen worker) → HasHanded specs worker
  from_unseen is = record {
    closed = is.closed;
    none = is.none;
    columns = is.columns;
    counting = record { taken = is.counting.taken; sealed_was_taken = is.counting.sealed_was_taken };
    opened = is.opened;
  }

-- nor does that it goes on, at its place
placed_looked :
    (build : ℕ) (specs : List KeySpecValue) (handed : Bool) (old new : List WorkerValue) → map unseen new ≡ map unseen old → AreWorkers build specs handed old
    → AreWorkers build specs handed new
placed_looked build specs handed old new same are k worker at =
    let it = same_at unseen old new k worker (sym same) at in
    let was = are k it.0 it.1 in
    record {
      number = sym (ap (λ (w : WorkerValue). w.number) it.2) ∙ was.number;
      fine = sym (ap (λ (w : WorkerValue). w.fault) it.2) ∙ was.fine;
      of_build = sym (ap (λ (w : WorkerValue). w.intake.build) it.2) ∙ was.of_build;
      specs_are = sym (ap (λ (w : WorkerValue). w.maker.specs) it.2) ∙ was.specs_are;
      spools_are = sym (ap (λ (w : WorkerValue). w.handed) it.2) ∙ was.spools_are;
    }

-- both ends of the workers' rings were looked at
pub looked_kept :
    (old new : List WorkerValue) (sides : List (TakeEnd Entry)) (spools : List SpoolValue) (work : Option WorkValue) → map unseen new ≡ map unseen old
    → KeepsWork old sides spools work → KeepsWork new sides spools work
looked_kept old new sides spools None same is = tt
looked_kept old new sides spools (Some work) same is = λ fine.
    workers_kept old new sides spools work (sym (mapped unseen own_images new) ∙ ap (map own_images) same ∙ mapped unseen own_images old)
    (placed_looked work.build work.specs work.handed old new same (is fine).placed)
    (λ loads all. all_from (HasHanded work.specs) new (λ k worker at.
    let it = same_at unseen old new k worker (sym same) at in
    from_unseen work.specs worker
    (subst (HasHanded work.specs) it.2 (to_unseen work.specs it.0 (all_at (HasHanded work.specs) old k it.0 all it.1))))) (is fine)

-- both ends of a side-file's ring were
pub side_looked_kept :
    (workers : List WorkerValue) (sides : List (TakeEnd Entry)) (spools : List SpoolValue) (work : Option WorkValue) (index : ℕ) (was end : TakeEnd Entry)
    → slice_get sides index ≡ Some was → end.received ≡ was.received → KeepsWork workers sides spools work → KeepsWork workers (set sides index end) spools work
side_looked_kept workers sides spools None index was end there same is = tt
side_looked_kept workers sides spools (Some work) index was end there same is = λ fine.
    let old = is fine in
    record {
      many = old.many;
      placed = old.placed;
      indexes = λ k spec other it here at_end at. elim (at_set sides index end k other at_end) [
        | inl this ↦
            let its = old.indexes k spec was it here (ap (slice_get sides) this.0 ∙ there) at in
            subst (λ (e : TakeEnd Entry). IsIndexOf work.build spec workers e it) (sym this.1)
            (with_end work.build spec workers was end it same its)
        | inr another ↦ old.indexes k spec other it here another.1 at
      ];
      lent = old.lent;
      unloaded = old.unloaded;
      handed = old.handed;
      columns = old.columns;
      once = old.once;
    }
  where
    with_end :
        (build : ℕ) (spec : KeySpecValue) (workers : List WorkerValue) (a b : TakeEnd Entry) (it : IndexValue) → b.received ≡ a.received → IsIndexOf build spec workers a it
        → IsIndexOf build spec workers b it
    with_end build spec workers a b it same is = record {
      none_before = λ e. ap (told_to build) same ∙ is.none_before e;
      of_build = is.of_build;
      of_spec = is.of_spec;
      loaded = λ built e. subst (λ (es : List Entry). ArePairsOf spec workers (told_to build es) built.pairs) (sym same) (is.loaded built e);
    }

-- what a worker handed over stays so when it seals once more
sealed_again : (specs : List KeySpecValue) (it : WorkerValue) → HasHanded specs it → HasHanded specs (record it { intake = after_seal it.intake })
sealed_again specs it is =
    let images : List ImageValue = received_images it.maker.schema it.intake in
    let all : length images ≤ it.intake.taken = omega (arith, is.counting.taken) in
    let none : drop it.intake.taken images ≡ [] = drop_of_length-le images all in
    record {
      closed = is.closed;
      none = is.none;
      columns = is.columns;
      counting = record { taken = is.counting.taken; sealed_was_taken = omega arith };
      opened = λ i less.
          subst (HoldsOpen (spec_at specs i) (drop it.intake.taken images)) (sym (no_pair it.maker.begun i is.closed)) (record {
            last = [];
            since_seal = subst (λ (left : List ImageValue). HavePairs (spec_at specs i) left []) (sym none) refl;
            open_run = refl;
          });
    }

-- nor does a digest change anything of it
turn_again :
    (turn : Turn) (specs : List KeySpecValue) (it : WorkerValue) → HasHanded specs it
    → (own_images (record it { intake = marked turn it.intake }) ≡ own_images it) × HasHanded specs (record it { intake = marked turn it.intake })
turn_again Digest specs it is = (refl, is)
turn_again Seal specs it is = (refl, sealed_again specs it is)

-- work that is spoiled doesn't go on
still_spoiled : (spoiled : Option Fault) (fault : Fault) → first_cause spoiled (Some fault) ≡ None → ⊥
still_spoiled None fault fine = cc
still_spoiled (Some first) fault fine = cc

-- the worker of a place, as a turn leaves it
module _
    (workers : List WorkerValue) (sides : List (TakeEnd Entry)) (spools : List SpoolValue) (held new : WorkValue) (k : ℕ) (it after : WorkerValue)
    (at : slice_get workers k ≡ Some it) (is : KeepsWork workers sides spools (Some held)) where
  -- it goes on at its place, and the others as before
  placed_set : SameWorker it after → after.fault ≡ None → AreWorkers held.build held.specs held.handed workers → AreWorkers held.build held.specs held.handed (set workers k after)
  placed_set same sound are j worker there = elim (at_set workers k after j worker there) [
    | inl this ↦
        let was = are k it at in
        rw (this.1, this.0) (record {
          number = same.number ∙ was.number;
          fine = sound;
          of_build = same.build ∙ was.of_build;
          specs_are = same.specs ∙ was.specs_are;
          spools_are = same.handed ∙ was.spools_are;
        })
    | inr other ↦ are j worker other.1
  ]

  -- while pages are copied it may do anything, and from the first load on it stays as it is
  stepped_kept :
      new ≡ held → SameWorker it after → after.fault ≡ None
      → (it.handed ≡ true → HasHanded held.specs it → (own_images after ≡ own_images it) × HasHanded held.specs after)
      → KeepsWork (set workers k after) sides spools (Some new)
  stepped_kept same same_worker sound stays = λ fine.
      let old : IsKept workers sides spools held = is (ap (λ (w : WorkValue). w.spoiled) (sym same) ∙ fine) in
      let placed = placed_set same_worker sound old.placed in
      subst (IsKept (set workers k after) sides spools) (sym same) (elim (cases_Bool held.handed) [
        | inl loads ↦
            let was = all_at (HasHanded held.specs) workers k it (old.handed loads) at in
            let now = stays ((old.placed k it at).spools_are ∙ loads) was in
            workers_kept workers (set workers k after) sides spools held
            (map-set own_images workers k after ∙ ap (set (map own_images workers) k) now.0 ∙ sym (map-set own_images workers k it) ∙ ap (map own_images) (set_same workers k it at))
            placed
            (λ e all. all_from (HasHanded held.specs) (set workers k after) (λ j worker there. elim (at_set workers k after j worker there) [
              | inl this ↦ subst (HasHanded held.specs) (sym this.1) now.1
              | inr other ↦ all_at (HasHanded held.specs) workers j worker all other.1
            ])) old
        | inr scans ↦ scanning_kept workers (set workers k after) sides spools held scans placed old
      ])

  pub turn_kept :
      (turn : Turn) (answer : Result ℕ Fault) → OnOk answer (new ≡ held) → IfErr answer (λ fault. new ≡ spoiled_for fault held)
      → IfOk answer (λ images. HasDone turn it images after) → KeepsWork (set workers k after) sides spools (Some new)
  turn_kept turn (Ok images) same spoiled done = stepped_kept same done.same done.sound.1 (λ handed was.
      let stays : after ≡ record it { intake = marked turn it.intake } = (done.nothing handed).1 in
      let again = turn_again turn held.specs it was in
      (ap own_images stays ∙ again.0, subst (HasHanded held.specs) (sym stays) again.1))
  turn_kept turn (Err fault) same spoiled done = λ fine.
      absurd (still_spoiled held.spoiled fault (sym (ap (λ (w : WorkValue). w.spoiled) spoiled) ∙ fine))
