-- The spools of each index are taken out for a load by itself, and put back.
use Rattle.std.proofs.Common.{◌≡◌, ℕ, zero, suc, ◌+◌, ◌-◌, ◌<◌, List, [], ◌∷◌, ◌++◌, All, length, length-append, map, set, take, drop, Bool, Option, Some, None, refl, sym, ap, ap₂, ◌∙◌, subst, arith}
use Rattle.std.specs.List.{slice_get}
use Rattle.std.proofs.lemmas.List.{length-set}
use Rattle.std.proofs.lemmas.Option.{same_Some}
use Rattle.keybytes.specs.Keys.{KeySpecValue}
use Rattle.keybytes.specs.declared.pair.Pair.{Pair}
use Rattle.spool_ledger.specs.Accounts.{Stake}
use Rattle.run_spool.specs.Spools.{AreSorted, all_pairs}
use Rattle.run_merge.specs.Merging.{all_runs}
use Rattle.page_workers.specs.SpoolValue.{SpoolValue, runs_of, spool_value}
use Rattle.catch_up.specs.Built.{BuiltValue}
use Rattle.index_load.specs.Columns.{column, other_columns}
use Rattle.bulk_load.specs.Each.{AreEachOnce}
use Rattle.index_load.specs.IndexLoad.{IndexLoadValue, IsLoadable}
use Rattle.index_load.proofs.Columns.{all_but_map, every_map}
use Rattle.index_load.proofs.ColumnsApart.{column_later}
use Rattle.index_load.proofs.SpoolsSeen.{column_seen}
use Rattle.building.specs.BuildingValue.{IndexValue, WorkValue, is_unique}
use Rattle.building.specs.IndexLoads.{index_from, load_at}

-- the first of the columns that are left is taken out
module _
    {X : Type 0} (n k : ℕ) (old left others : List X) (less : k < n) (columns : (j : ℕ) → j < n - k → column j (n - k) left ≡ column (k + j) n old)
    (gone : others ≡ other_columns 0 (n - k) left) where
  pub its_column : column 0 (n - k) left ≡ column k n old
  its_column = columns 0 (omega (arith, less)) ∙ ap (λ i. column i n old) (let e : k + 0 ≡ k = omega arith in e)

  pub columns_left : (j : ℕ) → j < n - (k + 1) → column j (n - (k + 1)) others ≡ column ((k + 1) + j) n old
  columns_left j few =
      let one : n - k ≡ suc (n - (k + 1)) = omega (arith, less) in
      ap (column j (n - (k + 1))) gone ∙ ap (λ i. column j (n - (k + 1)) (other_columns 0 i left)) one ∙ column_later j (n - (k + 1)) left few
      ∙ ap (λ i. column (suc j) i left) (sym one) ∙ columns (suc j) (omega (arith, few, less))
      ∙ ap (λ i. column i n old) (let e : k + suc j ≡ (k + 1) + j = omega arith in e)

-- whether an index is unique that has a specification
pub unique_at : (specs : List KeySpecValue) (k : ℕ) (spec : KeySpecValue) → slice_get specs k ≡ Some spec → spec.unique ≡ is_unique (slice_get specs k)
unique_at specs k spec at = ap is_unique (sym at)

-- a load that has the spools of its index
pub load_made :
    (work : WorkValue) (values : List SpoolValue) (k build : ℕ) (unique : Bool) (own : List SpoolValue) → build ≡ work.build
    → unique ≡ is_unique (slice_get work.specs k) → own ≡ column k (length work.specs) values
    → record { build = build; unique = unique; spools = own; built = None; fault = None } ≡ load_at work values k
load_made work values k build unique own number tallied is = rw (number, tallied, is) refl

-- one more of a list whose elements are known by their places
pub all_pushed :
    {X : Type 0} (f : ℕ → X) (xs : List X) (k : ℕ) (x : X) → length xs ≡ k → ((i : ℕ) → i < k → slice_get xs i ≡ Some (f i)) → x ≡ f k
    → (i : ℕ) → i < k + 1 → slice_get (xs ++ x ∷ []) i ≡ Some (f i)
all_pushed f [] zero x many all is zero less = ap (λ y. Some y) is
all_pushed f [] zero x many all is (suc i) less = absurd (omega (arith, less))
all_pushed f [] (suc k) x many all is i less = absurd (omega (arith, many))
all_pushed f (y ∷ ys) zero x many all is i less = absurd (omega (arith, many))
all_pushed f (y ∷ ys) (suc k) x many all is zero less = all 0 (omega arith)
all_pushed f (y ∷ ys) (suc k) x many all is (suc i) less =
    all_pushed (λ j. f (suc j)) ys k x (omega (arith, many)) (λ j few. all (suc j) (omega (arith, few))) is i (omega (arith, less))

-- of two lists as long the last place that is still the second one's becomes what f makes of the first one's
pub one_changed :
    {X Y : Type 0} (f : X → Y) (xs : List X) (ys : List Y) (a : ℕ) (x : X) → slice_get xs a ≡ Some x → length ys ≡ length xs
    → set (take (suc a) ys ++ map f (drop (suc a) xs)) a (f x) ≡ take a ys ++ map f (drop a xs)
one_changed f [] ys a x at same = absurd (cc)
one_changed f (z ∷ zs) [] a x at same = absurd (omega (arith, same))
one_changed f (z ∷ zs) (y ∷ ys) zero x at same = ap (λ w. f w ∷ map f zs) (sym (same_Some z x at))
one_changed f (z ∷ zs) (y ∷ ys) (suc a) x at same = ap (λ l. y ∷ l) (one_changed f zs ys a x at (omega (arith, same)))

-- the last one of a beginning
pub last_of_front :
    {X : Type 0} (front all : List X) (x : X) (n : ℕ) → front ++ x ∷ [] ≡ take n all
    → (front ≡ take (length front) all) × (slice_get all (length front) ≡ Some x)
last_of_front [] [] x zero is = absurd (cc)
last_of_front [] [] x (suc n) is = absurd (cc)
last_of_front [] (y ∷ ys) x zero is = absurd (cc)
last_of_front [] (y ∷ ys) x (suc n) is = (refl, let e : x ≡ y = cc in ap (λ z. Some z) (sym e))
last_of_front (z ∷ zs) [] x zero is = absurd (cc)
last_of_front (z ∷ zs) [] x (suc n) is = absurd (cc)
last_of_front (z ∷ zs) (y ∷ ys) x zero is = absurd (cc)
last_of_front (z ∷ zs) (y ∷ ys) x (suc n) is =
    let first : z ≡ y = cc in
    let rest = last_of_front zs ys x n (let e : zs ++ x ∷ [] ≡ take n ys = cc in e) in
    (ap₂ ◌∷◌ first rest.0, rest.1)

-- until then it is the one that was lent
pub still_there : {X : Type 0} (f : X → X) (xs : List X) (a : ℕ) (x : X) → slice_get (take (suc a) xs ++ map f (drop (suc a) xs)) a ≡ Some x → slice_get xs a ≡ Some x
still_there f [] a x at = absurd (cc)
still_there f (y ∷ ys) zero x at = at
still_there f (y ∷ ys) (suc a) x at = still_there f ys a x at

-- a column more is put in front of those that are back
module _
    {S : Type 0} (runs : S → List (List Pair)) (open_run : S → List Pair) (stake : S → Option Stake) (loads : List IndexLoadValue) (a m : ℕ)
    (back spools own : List S) (it : IndexLoadValue) (own_is : column 0 (m + 1) spools ≡ own) (others : other_columns 0 (m + 1) spools ≡ back)
    (at : slice_get loads a ≡ Some it) (its : map (spool_value runs open_run stake) own ≡ it.spools)
    (before : (j : ℕ) (load : IndexLoadValue) → j < m → slice_get loads (suc a + j) ≡ Some load
    → column j m (map (spool_value runs open_run stake) back) ≡ load.spools) where
  abbrev value : S → SpoolValue
  value = spool_value runs open_run stake

  pub columns_back : (j : ℕ) (load : IndexLoadValue) → j < m + 1 → slice_get loads (a + j) ≡ Some load → column j (m + 1) (map value spools) ≡ load.spools
  columns_back zero load less there =
      let here : slice_get loads a ≡ Some load = ap (slice_get loads) (let e : a ≡ a + 0 = omega arith in e) ∙ there in
      every_map value (m + 1 - 1) 0 spools ∙ ap (map value) own_is ∙ its ∙ ap (λ (l : IndexLoadValue). l.spools) (same_Some it load (sym at ∙ here))
  columns_back (suc j) load less there =
      let one : m + 1 ≡ suc m = omega arith in
      let later : slice_get loads (suc a + j) ≡ Some load = ap (slice_get loads) (let e : suc a + j ≡ a + suc j = omega arith in e) ∙ there in
      ap (λ i. column (suc j) i (map value spools)) one ∙ sym (column_later j m (map value spools) (omega (arith, less)))
      ∙ ap (column j m) (all_but_map value (suc m - 1) 0 spools ∙ ap (map value) (ap (λ i. other_columns 0 i spools) (sym one) ∙ others))
      ∙ before j load (omega (arith, less)) later

-- what the spools of an index hold can be put in order, as the spools of any kind
module _
    {S : Type 0} (runs : S → List (List Pair)) (open_run : S → List Pair) (stake : S → Option Stake) (k n : ℕ) (all own : List S) (is : own ≡ column k n all)
    (can : IsLoadable (column k n (map (spool_value runs open_run stake) all))) where
  their_runs : runs_of (column k n (map (spool_value runs open_run stake) all)) ≡ map runs own
  their_runs = column_seen runs open_run stake k n all ∙ ap (map runs) (sym is)

  pub sorted_own : All AreSorted (map runs own)
  sorted_own = subst (All AreSorted) their_runs can.sorted

  pub once_own : AreEachOnce (all_pairs (all_runs (map runs own)))
  once_own = subst (λ (rs : List (List (List Pair))). AreEachOnce (all_pairs (all_runs rs))) their_runs can.once

  pub own_values : map (spool_value runs open_run stake) own ≡ column k n (map (spool_value runs open_run stake) all)
  own_values = ap (map (spool_value runs open_run stake)) is ∙ sym (every_map (spool_value runs open_run stake) (n - 1) k all)

-- the last index that has nothing gets what its load made
module _
    (loads old_loads front : List IndexLoadValue) (indexes old : List IndexValue) (load : IndexLoadValue) (place : ℕ) (made : Option BuiltValue)
    (popped : old_loads ≡ front ++ load ∷ []) (before : old_loads ≡ take (length old_loads) loads)
    (done : old ≡ take (length old_loads) indexes ++ map index_from (drop (length old_loads) loads)) (many : length old ≡ length loads)
    (same : length indexes ≡ length loads) (at : place ≡ length front) (is : made ≡ load.built) where
  pub installed :
      (front ≡ take (length front) loads)
      × (set old place (record { built = made; applied = 0 }) ≡ take (length front) indexes ++ map index_from (drop (length front) loads))
      × (length (set old place (record { built = made; applied = 0 })) ≡ length loads)
  installed =
      let last = last_of_front front loads load (length old_loads) (sym popped ∙ before) in
      let one : length old_loads ≡ suc (length front) = ap length popped ∙ length-append front (load ∷ []) ∙ omega arith in
      let value : record { built = made; applied = 0 } ≡ index_from load = ap (λ (b : Option BuiltValue). record { built = b; applied = 0 }) is in (
        last.0,
        ap₂ (set old) at value ∙ ap (λ (l : List IndexValue). set l (length front) (index_from load))
            (done ∙ ap (λ n. take n indexes ++ map index_from (drop n loads)) one) ∙ one_changed index_from loads indexes (length front) load last.1 same,
        length-set old place (record { built = made; applied = 0 }) ∙ many,
      )

-- a list that was lent whole
pub lent_whole : {X : Type 0} (new old : List X) (n : ℕ) → length new ≡ length old → n ≡ length old → take n (new ++ drop (length new) old) ≡ new
lent_whole [] [] n same is = ap (λ k. take k []) is
lent_whole [] (y ∷ ys) n same is = absurd (cc)
lent_whole (x ∷ xs) [] n same is = absurd (cc)
lent_whole (x ∷ xs) (y ∷ ys) zero same is = absurd (cc)
lent_whole (x ∷ xs) (y ∷ ys) (suc n) same is = ap (λ l. x ∷ l) (lent_whole xs ys n (omega (arith, same)) (omega (arith, is)))
