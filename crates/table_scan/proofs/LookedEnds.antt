-- Ends that put, which were looked at.
use Rattle.std.proofs.Common.{◌≡◌, ℕ, zero, suc, List, [], ◌∷◌, map, set, get_or, Some, refl, sym, ap₂, ◌∙◌, subst, arith}
use Rattle.std.specs.List.{AllZip, slice_get}
use Rattle.std.proofs.lemmas.Option.{same_Some}
use Rattle.side_file.specs.Ends.{PutEnd}
use Rattle.side_file.specs.Ends.{PutEndLooked}

module _ {T : Type 0} where
  -- one that nobody looked at
  pub unlooked : (end : PutEnd T) → PutEndLooked end end
  unlooked end = record { ring = refl; capacity = refl; sent = refl; free = omega arith }

  -- one that was looked at twice
  pub looked_twice : (old mid new : PutEnd T) → PutEndLooked old mid → PutEndLooked mid new → PutEndLooked old new
  looked_twice old mid new first next = record {
    ring = next.ring ∙ first.ring;
    capacity = next.capacity ∙ first.capacity;
    sent = next.sent ∙ first.sent;
    free = omega (arith, first.free, next.free);
  }

  pub all_unlooked : (ends : List (PutEnd T)) → AllZip PutEndLooked ends ends
  all_unlooked [] = tt
  all_unlooked (end ∷ ends) = (unlooked end, all_unlooked ends)

  -- where one of them was looked at once more
  pub one_looked :
      (olds ends : List (PutEnd T)) (i : ℕ) (end new : PutEnd T) → AllZip PutEndLooked olds ends → end ≡ get_or ends i end → PutEndLooked end new
      → AllZip PutEndLooked olds (set ends i new)
  one_looked [] [] i end new all at looked = tt
  one_looked [] (e ∷ es) i end new all at looked = absurd all
  one_looked (o ∷ os) [] i end new all at looked = absurd all
  one_looked (o ∷ os) (e ∷ es) zero end new all at looked = (looked_twice o end new (subst (PutEndLooked o) (sym at) all.0) looked, all.1)
  one_looked (o ∷ os) (e ∷ es) (suc i) end new all at looked = (all.0, one_looked os es i end new all.1 at looked)

  -- all of them were, twice
  pub all_looked_twice : (olds mids news : List (PutEnd T)) → AllZip PutEndLooked olds mids → AllZip PutEndLooked mids news → AllZip PutEndLooked olds news
  all_looked_twice [] [] news first next = next
  all_looked_twice [] (m ∷ ms) news first next = absurd first
  all_looked_twice (o ∷ os) [] news first next = absurd first
  all_looked_twice (o ∷ os) (m ∷ ms) [] first next = absurd next
  all_looked_twice (o ∷ os) (m ∷ ms) (n ∷ ns) first next = (looked_twice o m n first.0 next.0, all_looked_twice os ms ns first.1 next.1)

  -- what no look changes of an end
  pub same_looked :
      {X : Type 0} (f : PutEnd T → X) (stays : (old new : PutEnd T) → PutEndLooked old new → f new ≡ f old) (olds news : List (PutEnd T))
      → AllZip PutEndLooked olds news → map f news ≡ map f olds
  same_looked f stays [] [] all = refl
  same_looked f stays [] (n ∷ ns) all = absurd all
  same_looked f stays (o ∷ os) [] all = absurd all
  same_looked f stays (o ∷ os) (n ∷ ns) all = ap₂ ◌∷◌ (stays o n all.0) (same_looked f stays os ns all.1)

  -- the end of a place, before it was looked at and after
  pub looked_on :
      (olds news : List (PutEnd T)) (k : ℕ) (old : PutEnd T) → AllZip PutEndLooked olds news → slice_get olds k ≡ Some old
      → (new : PutEnd T) × (slice_get news k ≡ Some new) × PutEndLooked old new
  looked_on [] news k old all at = absurd (cc)
  looked_on (o ∷ os) [] k old all at = absurd all
  looked_on (o ∷ os) (n ∷ ns) zero old all at = (n, refl, subst (λ (e : PutEnd T). PutEndLooked e n) (same_Some o old at) all.0)
  looked_on (o ∷ os) (n ∷ ns) (suc k) old all at = looked_on os ns k old all.1 at
