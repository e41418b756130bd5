-- Records that are taken one after the other.
use Rattle.std.proofs.Common.{◌≡◌, ℕ, zero, suc, ◌+◌, ◌<◌, ◌≤◌, add-one, take, get_or, List, [], ◌∷◌, ◌++◌, length, Option, None, Some, inl, inr, refl, sym, ap, subst, ◌∙◌, arith, append-nil, length-append}
use Rattle.std.specs.List.{AllZip}
use Rattle.heap_log.specs.declared.record.LogRec.{LogRec}
use Rattle.heap_table.specs.HeapState.{HeapState}
use Rattle.heap_table.specs.Pages.{KeepsRows}
use Rattle.keybytes.specs.declared.cell.Cell.{Cell}
use Rattle.keybytes.specs.declared.rid.Rid.{Rid}
use Rattle.csv_index.specs.Fillings.{AreTaken, ArePutIn, Becomes, IsCellAt, IsLeftOut, IsNoRow, IsPutIn, IsRowPut, OnlyTurns, TakesRecord, none_count, rows_there}
use Rattle.csv_index.specs.Lines.{AreNoted, line_at}
use Rattle.csv_index.specs.OpenTxns.{KeepsOpen}
use Rattle.csv_index.specs.Sizes.{HaveSizes}
use Rattle.csv_index.specs.declared.table.filling.Filled.{Filled}
use Rattle.csv_index.specs.declared.table.source.Source.{Source}
use Rattle.csv_index.proofs.Noting.{all_stand, empty_before, noted_later, noted_more, noted_still}

zip_append :
    {A B : Type 0} (R : A → B → Type 0) (xs zs : List A) (ys ws : List B) → AllZip R xs ys → AllZip R zs ws → AllZip R (xs ++ zs) (ys ++ ws)
zip_append R [] zs [] ws one other = other
zip_append R [] zs (y ∷ ys) ws one other = absurd one
zip_append R (x ∷ xs) zs [] ws one other = absurd one
zip_append R (x ∷ xs) zs (y ∷ ys) ws one other = (one.0, zip_append R xs zs ys ws one.1 other)

zip_next : {A B : Type 0} (R : A → B → Type 0) (xs : List A) (ys : List B) (i : ℕ) (d : A) (y : B)
    → i < length xs → AllZip R (take i xs) ys → R (get_or xs i d) y → AllZip R (take (suc i) xs) (ys ++ y ∷ [])
zip_next R [] ys i d y inside all one = absurd (omega arith)
zip_next R (x ∷ xs) [] zero d y inside all one = (one, tt)
zip_next R (x ∷ xs) [] (suc i) d y inside all one = absurd all
zip_next R (x ∷ xs) (z ∷ zs) zero d y inside all one = absurd all
zip_next R (x ∷ xs) (z ∷ zs) (suc i) d y inside all one = (all.0, zip_next R xs zs i d y (omega arith) all.1 one)

-- what stands inside of a list doesn't depend on what is given for places outside
pub same_or : {A : Type 0} (xs : List A) (i : ℕ) (d e : A) → i < length xs → get_or xs i d ≡ get_or xs i e
same_or [] i d e inside = absurd (omega arith)
same_or (x ∷ xs) zero d e inside = refl
same_or (x ∷ xs) (suc i) d e inside = same_or xs i d e (omega arith)

-- one place more is read, and one value more put behind
pub zip_more : {A B : Type 0} (R : A → B → Type 0) (xs : List A) (ys more : List B) (i : ℕ) (d : A) (y : B)
    → i < length xs → more ≡ ys ++ y ∷ [] → AllZip R (take i xs) ys → R (get_or xs i d) y → AllZip R (take (i + 1) xs) more
zip_more R xs ys more i d y inside is all one = rw (add-one, is) (zip_next R xs ys i d y inside all one)

-- the same rows, and still the same
kept_on : (a b c : List LogRec) → KeepsRows a b → KeepsRows b c → KeepsRows a c
kept_on a b c one two = record {
  live = λ rid. two.live rid ∙ one.live rid;
  pages = two.pages ∙ one.pages;
  slots = λ page. two.slots page ∙ one.slots page;
}

pub kept_self : (a : List LogRec) → KeepsRows a a
kept_self a = record { live = λ rid. refl; pages = refl; slots = λ page. refl }

pub zip_length : {A B : Type 0} (R : A → B → Type 0) (xs : List A) (ys : List B) → AllZip R xs ys → length ys ≡ length xs
zip_length R [] [] all = refl
zip_length R [] (y ∷ ys) all = absurd all
zip_length R (x ∷ xs) [] all = absurd all
zip_length R (x ∷ xs) (y ∷ ys) all = ap suc (zip_length R xs ys all.1)

put_after : (a b c : HeapState) (row : List Cell) (rid : Rid) → KeepsRows a.log b.log → IsPutIn b row rid c → IsPutIn a row rid c
put_after a b c row rid kept put =
    record { between = put.between; kept = kept_on a.log b.log put.between.log kept put.kept; goes = put.goes; put = put.put }

-- some rows were put in, and then one more
put_more : (a : HeapState) (rows : List (List Cell)) (rids : List Rid) (row : List Cell) (rid : Rid) (b c : HeapState) → ArePutIn a rows rids b
    → IsPutIn b row rid c → ArePutIn a (rows ++ row ∷ []) (rids ++ rid ∷ []) c
put_more a [] [] row rid b c kept put = (c, put_after a b c row rid kept put, kept_self c.log)
put_more a [] (other ∷ rids) row rid b c puts put = absurd puts
put_more a (first ∷ rows) [] row rid b c puts put = absurd puts
put_more a (first ∷ rows) (other ∷ rids) row rid b c puts put = (puts.0, puts.1, put_more puts.0 rows rids row rid b c puts.2 put)

put_kept : (a : HeapState) (rows : List (List Cell)) (rids : List Rid) (b c : HeapState) → ArePutIn a rows rids b → KeepsRows b.log c.log
    → ArePutIn a rows rids c
put_kept a [] [] b c kept more = kept_on a.log b.log c.log kept more
put_kept a [] (rid ∷ rids) b c puts more = absurd puts
put_kept a (first ∷ rows) [] b c puts more = absurd puts
put_kept a (first ∷ rows) (rid ∷ rids) b c puts more = (puts.0, puts.1, put_kept puts.0 rows rids b c puts.2 more)

rows_append : (xs ys : List (Option (List Cell))) → rows_there (xs ++ ys) ≡ rows_there xs ++ rows_there ys
rows_append [] ys = refl
rows_append (None ∷ xs) ys = rows_append xs ys
rows_append (Some row ∷ xs) ys = ap (λ (rows : List (List Cell)). row ∷ rows) (rows_append xs ys)

none_append : (xs ys : List (Option (List Cell))) → none_count (xs ++ ys) ≡ none_count xs + none_count ys
none_append [] ys = omega arith
none_append (None ∷ xs) ys = let rest = none_append xs ys in omega (arith, rest)
none_append (Some row ∷ xs) ys = none_append xs ys

module _ (width : ℕ) (sources : List Source) (text : List ℕ) (read : ℕ) (done : List (List (List ℕ))) (start : HeapState) (f g : Filled)
    (taken : AreTaken width sources text read done start f) where
  -- nothing but transactions changed
  pub taken_kept : OnlyTurns f g → AreTaken width sources text read done start g
  taken_kept turns = record {
    rows = taken.rows;
    places = taken.places;
    spelled = taken.spelled;
    put = put_kept start (rows_there taken.rows) taken.places f.heap.state g.heap.state taken.put turns.rows;
    counted = ap (λ (x : Filled). x.rows) turns.rest ∙ taken.counted;
    left_out = ap (λ (x : Filled). x.left_out) turns.rest ∙ taken.left_out;
    sized = ap (λ (x : Filled). x.sizes.items) turns.rest ∙ taken.sized;
    noted = subst (λ (x : Filled). AreNoted text 0 taken.places read x.lines) (sym turns.rest) taken.noted;
  }

  -- a row was put in whose line is that of a place on which the text was read
  row_more : (fields : List (List ℕ)) (line place : ℕ) → line ≡ line_at text place → read ≤ place → IsRowPut width sources fields line f g
      → AreTaken width sources text place (done ++ fields ∷ []) start g
  row_more fields line place is later more =
      let put = more.put in
      let rows = rows_append taken.rows (Some more.row ∷ []) in
      let none = none_append taken.rows (Some more.row ∷ []) in
      let puts = put_more start (rows_there taken.rows) taken.places more.row put.place f.heap.state g.heap.state taken.put put.put in
      let empty = empty_before f.heap.state g.heap.state more.row put.place put.put in
      let stand = all_stand start f.heap.state (rows_there taken.rows) taken.places taken.put in
      let still = noted_still text 0 read taken.places f.heap.state put.place line f.lines g.lines empty stand put.noted taken.noted in
      let many = zip_length (IsCellAt fields) sources more.row more.spelled.1 in
      let sized = put.sized (rows_there taken.rows) (subst (λ (n : ℕ). HaveSizes n (rows_there taken.rows) f.sizes.items) (sym many) taken.sized) in
      record {
        rows = taken.rows ++ Some more.row ∷ [];
        places = taken.places ++ put.place ∷ [];
        spelled = zip_append (Becomes width sources) done (fields ∷ []) taken.rows (Some more.row ∷ []) taken.spelled (more.spelled, tt);
        put = subst (λ (put_in : List (List Cell)). ArePutIn start put_in (taken.places ++ put.place ∷ []) g.heap.state) (sym rows) puts;
        counted = put.counted ∙ ap (λ (n : ℕ). n + 1) taken.counted ∙ sym (length-append (rows_there taken.rows) (more.row ∷ [])) ∙ sym (ap length rows);
        left_out = rw none (grind (arith, put.left_out, taken.left_out));
        sized = subst (λ (put_in : List (List Cell)). HaveSizes (length sources) put_in g.sizes.items) (sym rows)
            (subst (λ (n : ℕ). HaveSizes n (rows_there taken.rows ++ more.row ∷ []) g.sizes.items) many sized);
        noted = noted_more text 0 read place taken.places put.place g.lines later (put.noted.here ∙ is) still;
      }

  none_more : (fields : List (List ℕ)) (place : ℕ) → read ≤ place → IsNoRow width sources fields → IsLeftOut f g
      → AreTaken width sources text place (done ++ fields ∷ []) start g
  none_more fields place later bad left =
      let no_row : List (Option (List Cell)) = None ∷ [] in
      let rows = rows_append taken.rows no_row ∙ append-nil (rows_there taken.rows) in
      let none = none_append taken.rows no_row in
      let on = noted_later text 0 read place taken.places f.lines later taken.noted in
      record {
        rows = taken.rows ++ no_row;
        places = taken.places;
        spelled = zip_append (Becomes width sources) done (fields ∷ []) taken.rows no_row taken.spelled (bad, tt);
        put = subst (λ (put_in : List (List Cell)). ArePutIn start put_in taken.places g.heap.state) (sym rows)
            (subst (λ (x : Filled). ArePutIn start (rows_there taken.rows) taken.places x.heap.state) (sym left) taken.put);
        counted = ap (λ (x : Filled). x.rows) left ∙ taken.counted ∙ sym (ap length rows);
        left_out = ap (λ (x : Filled). x.left_out) left ∙ ap (λ (n : ℕ). n + 1) taken.left_out ∙ sym none;
        sized = subst (λ (put_in : List (List Cell)). HaveSizes (length sources) put_in g.sizes.items) (sym rows)
            (ap (λ (x : Filled). x.sizes.items) left ∙ taken.sized);
        noted = subst (λ (x : Filled). AreNoted text 0 taken.places place x.lines) (sym left) on;
      }

  -- a record more was taken
  pub take_more : (fields : List (List ℕ)) (line place : ℕ) → line ≡ line_at text place → read ≤ place → TakesRecord width sources fields line f g
      → AreTaken width sources text place (done ++ fields ∷ []) start g
  take_more fields line place is later (inl put) = row_more fields line place is later put
  take_more fields line place is later (inr left) = none_more fields place later left.0 left.1

-- before the first record
pub none_taken :
    (width : ℕ) (sources : List Source) (text : List ℕ) (read : ℕ) (start : HeapState) (f : Filled) → KeepsRows start.log f.heap.state.log → f.rows ≡ 0
    → f.left_out ≡ 0 → HaveSizes (length sources) [] f.sizes.items → AreTaken width sources text read [] start f
none_taken width sources text read start f kept rows left sizes =
    record { rows = []; places = []; spelled = tt; put = kept; counted = rows; left_out = left; sized = sizes; noted = omega arith }

pub counted_more :
    (width : ℕ) (sources : List Source) (fields : List (List ℕ)) (line : ℕ) (f g : Filled) → TakesRecord width sources fields line f g
    → g.rows + g.left_out ≡ f.rows + f.left_out + 1
counted_more width sources fields line f g (inl more) = omega (arith, more.put.counted, more.put.left_out)
counted_more width sources fields line f g (inr left) =
    let counted = ap (λ (x : Filled). x.rows) left.1 in let more = ap (λ (x : Filled). x.left_out) left.1 in omega (arith, counted, more)

-- a record that is taken leaves the transactions as they are
pub open_still :
    (width : ℕ) (sources : List Source) (fields : List (List ℕ)) (line : ℕ) (f g : Filled) → TakesRecord width sources fields line f g
    → KeepsOpen f.heap.state g.heap.state
open_still width sources fields line f g (inl more) = more.put.open_txns
open_still width sources fields line f g (inr left) = ap (λ (x : Filled). x.heap.state.active) left.1
