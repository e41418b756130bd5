-- The turns of a build's indexes, which apply their batches side by side.
use Rattle.std.proofs.Common.{◌≡◌, ℕ, suc, ◌+◌, ◌<◌, List, [], ◌∷◌, ◌++◌, length, map, take, get_or, Result, Ok, Err, refl, sym, ap, ◌∙◌, subst, inl, inr, arith}
use Rattle.std.specs.Prelude.{IsOk, IfOk, IfErr, OnOk}
use Rattle.std.specs.List.{All, AllZip, sum_by}
use Rattle.std.proofs.lemmas.Bool.{cases_lt, false≢true}
use Rattle.std.proofs.lemmas.List.{get_or_default, get_or-take, length-take}
use Rattle.std.proofs.lemmas.List.Elements.{All-cons, All-head, All-nil, All-tail}
use Rattle.std.proofs.lemmas.List.Sums.{sum_by-cons, sum_by_more}
use Rattle.keybytes.specs.declared.fault.Fault.{Fault}
use Rattle.keybytes.specs.declared.fault.Fault.TheVariants.{Memory}
use Rattle.side_file.specs.Ends.{RingId, TakeEnd, TakeEndLooked}
use Rattle.side_file.specs.declared.entry.Entry.{Entry}
use Rattle.table_scan.specs.SideFiles.{taken_rings}
use Rattle.catch_up.specs.Applying.{TakesKnown}
use Rattle.building.specs.Batches.{AreApplied, BatchIsIn, IndexBatch, IsApplied, end_after, entries_of}
use Rattle.building.specs.BatchTurns.{HasTaken, HasTurned, HaveTotal, told_count}
use Rattle.building.specs.BuildingValue.{IndexValue}
use Rattle.building.specs.declared.batch_turns.IndexTurn.{IndexTurn}

-- ---- one turn

abbrev end_of : RingId → List Entry → List Entry → TakeEnd Entry
end_of ring received known = record { ring = ring; received = received; known = known }

module _ (old : IndexTurn) (seen end : TakeEnd Entry) (new : IndexValue) (looked : TakeEndLooked old.end seen) (ring : end.ring ≡ seen.ring) where
  abbrev turned_to : Result ℕ Fault → IndexTurn
  turned_to told = record { work = new; end = end; told = told }

  module _ (count : ℕ) (batch : BatchIsIn seen.known old.work count new) (takes : TakesKnown seen end) where
    abbrev the_batch : IndexBatch
    the_batch = record { index = old.work; end = old.end; found = looked.known.0; new = new }

    known_is : entries_of the_batch ≡ seen.known
    known_is = looked.known.1

    is_applied : IsApplied the_batch
    is_applied =
        let In : List Entry → ℕ → Type 0 = λ es n. BatchIsIn es old.work n new in
        let long : count ≡ length (entries_of the_batch) = batch.all ∙ ap length (sym known_is) in
        subst (In (entries_of the_batch)) long (subst (λ (es : List Entry). In es count) (sym known_is) batch)

    left_is : end_after the_batch ≡ end
    left_is =
        let received : old.end.received ++ entries_of the_batch ≡ end.received =
        ap (λ (es : List Entry). old.end.received ++ es) known_is ∙ ap (λ (es : List Entry). es ++ seen.known) (sym looked.received) ∙ sym takes.taken.received in
        ap (λ (r : RingId). end_of r (end_after the_batch).received []) (sym looked.ring ∙ sym ring)
        ∙ ap (λ (es : List Entry). end_of end.ring es []) received
        ∙ ap (end_of end.ring end.received) (sym takes.none_left)

    has_taken : HasTaken old (turned_to (Ok count)) count
    has_taken = record {
      batch = the_batch;
      applied = is_applied;
      counted = batch.all ∙ ap length (sym known_is);
      index_is = refl;
      end_is = refl;
      new_is = refl;
      new_end_is = left_is;
    }

  pub turned : (told : Result ℕ Fault) → IfOk told (λ count. BatchIsIn seen.known old.work count new) → OnOk told (TakesKnown seen end)
      → IfErr told (λ fault. fault ≡ Memory) → HasTurned old (turned_to told)
  turned (Ok count) batch takes memory = record { ring = ring ∙ looked.ring; taken = has_taken count batch takes; memory = tt }
  turned (Err fault) batch takes memory = record { ring = ring ∙ looked.ring; taken = tt; memory = memory }

-- ---- all of them

-- what holds at each place holds along both lists
pub along : {X : Type 0} (R : X → X → Type 0) (xs ys : List X) → length ys ≡ length xs
    → ((k : ℕ) (d : X) → k < length xs → R (get_or xs k d) (get_or ys k d)) → AllZip R xs ys
along R [] [] same each = tt
along R [] (y ∷ ys) same each = absurd (omega (arith, same))
along R (x ∷ xs) [] same each = absurd (omega (arith, same))
along R (x ∷ xs) (y ∷ ys) same each = (each 0 x (omega arith), along R xs ys (omega (arith, same)) (λ k d less. each (suc k) d (omega arith)))

-- and they are as long
pub along_long : {X Y : Type 0} (R : X → Y → Type 0) (xs : List X) (ys : List Y) → AllZip R xs ys → length ys ≡ length xs
along_long R [] [] z = refl
along_long R [] (y ∷ ys) z = absurd z
along_long R (x ∷ xs) [] z = absurd z
along_long R (x ∷ xs) (y ∷ ys) z = omega (arith, along_long R xs ys z.1)

-- none wanted anything but memory
pub memory_alone : (ts us : List IndexTurn) → AllZip HasTurned ts us → All (λ turn. IfErr turn.told (λ fault. fault ≡ Memory)) us
memory_alone [] [] z = All-nil _
memory_alone [] (u ∷ us) z = absurd z
memory_alone (t ∷ ts) [] z = absurd z
memory_alone (t ∷ ts) (u ∷ us) z =
    All-cons (λ (turn : IndexTurn). IfErr turn.told (λ fault. fault ≡ Memory)) u us z.0.memory (memory_alone ts us z.1)

-- the rings stay
pub rings_stay : (ts us : List IndexTurn) (rest : List (TakeEnd Entry)) → AllZip HasTurned ts us
    → taken_rings (map (λ turn. turn.end) us ++ rest) ≡ taken_rings (map (λ turn. turn.end) ts ++ rest)
rings_stay [] [] rest z = refl
rings_stay [] (u ∷ us) rest z = absurd z
rings_stay (t ∷ ts) [] rest z = absurd z
rings_stay (t ∷ ts) (u ∷ us) rest z =
    let first : u.end.ring ≡ t.end.ring = z.0.ring in
    let others = rings_stay ts us rest z.1 in
    ap (λ (r : RingId). r ∷ taken_rings (map (λ turn. turn.end) us ++ rest)) first ∙ ap (λ (rs : List RingId). t.end.ring ∷ rs) others

-- one more is counted
pub total_more : (ts : List IndexTurn) (i count more both : ℕ) (turn : IndexTurn) → i < length ts → turn ≡ get_or ts i turn → turn.told ≡ Ok more
    → both ≡ count + more → HaveTotal count (take i ts) → HaveTotal both (take (i + 1) ts)
total_more ts i count more both turn less at told sum before =
    let ok : IsOk turn.told = rw told refl in
    let Is : IndexTurn → Type 0 = λ t. IsOk t.told in
    let last : told_count (get_or ts i turn).told ≡ more = ap (λ (t : IndexTurn). told_count t.told) (sym at) ∙ ap told_count told in
    record {
      each = λ k d few.
          let within : k < i + 1 = omega (arith, few, length-take (i + 1) ts) in
          let here : get_or (take (i + 1) ts) k d ≡ get_or ts k d = get_or-take (i + 1) ts k d within in
          elim (cases_lt k i) [
            | inl front ↦ subst Is (get_or-take i ts k d front ∙ sym here) (before.each k d (omega (arith, front, less, length-take i ts)))
            | inr above ↦ let same : k ≡ i = omega (arith, above, within) in subst Is (at ∙ get_or_default ts i turn d less ∙ ap (λ (n : ℕ). get_or ts n d) (sym same) ∙ sym here) ok
          ];
      summed = omega (arith, sum, before.summed, last, sum_by_more (λ (t : IndexTurn). told_count t.told) ts i turn less);
    }

-- what a turn that was told applied
its_taking : (told : Result ℕ Fault) (P : ℕ → Type 0) → IsOk told → IfOk told P → P (told_count told)
its_taking (Ok count) P ok p = p
its_taking (Err fault) P ok p = absurd (false≢true ok)

record AreMade (ts us : List IndexTurn) : Type 0 where
  pub batches : List IndexBatch
  pub each : All IsApplied batches
  pub summed : sum_by (λ turn. told_count turn.told) us ≡ sum_by (λ batch. length (entries_of batch)) batches
  pub indexes : map (λ batch. batch.index) batches ≡ map (λ turn. turn.work) ts
  pub new : map (λ batch. batch.new) batches ≡ map (λ turn. turn.work) us
  pub ends : map (λ batch. batch.end) batches ≡ map (λ turn. turn.end) ts
  pub new_ends : map end_after batches ≡ map (λ turn. turn.end) us

cons_same : {X : Type 0} (x y : X) (xs ys : List X) → x ≡ y → xs ≡ ys → x ∷ xs ≡ y ∷ ys
cons_same x y xs ys first rest = ap (λ z. z ∷ xs) first ∙ ap (λ zs. y ∷ zs) rest

are_made : (ts us : List IndexTurn) → AllZip HasTurned ts us → All (λ turn. IsOk turn.told) us → AreMade ts us
are_made [] [] z ok =
    record { batches = []; each = All-nil IsApplied; summed = refl; indexes = refl; new = refl; ends = refl; new_ends = refl }
are_made [] (u ∷ us) z ok = absurd z
are_made (t ∷ ts) [] z ok = absurd z
are_made (t ∷ ts) (u ∷ us) z ok =
    let rest = are_made ts us z.1 (All-tail (λ (turn : IndexTurn). IsOk turn.told) u us ok) in
    let first : HasTaken t u (told_count u.told) = its_taking u.told (HasTaken t u) (All-head (λ (turn : IndexTurn). IsOk turn.told) u us ok) z.0.taken in
    record {
      batches = first.batch ∷ rest.batches;
      each = All-cons IsApplied first.batch rest.batches first.applied rest.each;
      summed = omega (
        arith,
        rest.summed,
        first.counted,
        sum_by-cons (λ (turn : IndexTurn). told_count turn.told) u us,
        sum_by-cons (λ (batch : IndexBatch). length (entries_of batch)) first.batch rest.batches,
      );
      indexes = cons_same _ _ _ _ first.index_is rest.indexes;
      new = cons_same _ _ _ _ first.new_is rest.new;
      ends = cons_same _ _ _ _ first.end_is rest.ends;
      new_ends = cons_same _ _ _ _ first.new_end_is rest.new_ends;
    }

-- what an answer tells leads to more
pub if_ok : {X E : Type 0} (answer : Result X E) (P Q : X → Type 0) → ((x : X) → P x → Q x) → IfOk answer P → IfOk answer Q
if_ok (Ok x) P Q f p = f x p
if_ok (Err e) P Q f p = tt

-- each of the indexes with its end has its batch
pub all_applied :
    (ts us : List IndexTurn) (count : ℕ) (indexes new : List IndexValue) (ends new_ends rest : List (TakeEnd Entry)) → AllZip HasTurned ts us → HaveTotal count us
    → map (λ turn. turn.work) ts ≡ indexes → map (λ turn. turn.end) ts ++ rest ≡ ends → new ≡ map (λ turn. turn.work) us
    → new_ends ≡ map (λ turn. turn.end) us ++ rest → AreApplied indexes ends count new new_ends
all_applied ts us count indexes new ends new_ends rest z total was were are others =
    let made = are_made ts us z total.each in
    record {
      batches = made.batches;
      each = made.each;
      counted = total.summed ∙ made.summed;
      indexes_are = made.indexes ∙ was;
      new_are = made.new ∙ sym are;
      rest = rest;
      ends_are = ap (λ (es : List (TakeEnd Entry)). es ++ rest) made.ends ∙ were;
      new_ends_are = ap (λ (es : List (TakeEnd Entry)). es ++ rest) made.new_ends ∙ sym others;
    }
