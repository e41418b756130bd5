-- Pages by their marks.
use Rattle.std.proofs.Common.{◌≡◌, ℕ, ◌+◌, ◌-◌, ◌≤◌, ◌<◌, List, [], ◌∷◌, ◌++◌, length, get_or, drop, refl, sym, ap, ◌∙◌, subst, arith, Result, Ok, Err, IfOk}
use Rattle.std.proofs.lemmas.List.{drop-append-le, length-append, length-drop}
use Rattle.std.proofs.lemmas.List.Elements.{All-nil}
use Rattle.keybytes.specs.declared.rid.Rid.{Rid}
use Rattle.keybytes.specs.declared.fault.Fault.{Fault}
use Rattle.keybytes.specs.declared.pair.Pair.{Pair}
use Rattle.run_spool.specs.declared.marks.Marks.{Marks}
use Rattle.keybytes.specs.Writes.{overwritten}
use Rattle.run_spool.specs.Bytes.{pair_bytes, pair_size, first_length, first_pair, read_pairs, IsPair, Stored}
use Rattle.run_spool.specs.Pages.{PageValue, IsPairAt}
use Rattle.run_spool.specs.PlainPages.{page_value, pairs_at, IsPage}
use Rattle.run_spool.proofs.Stores.{length_read, stored_read, stored_size, count_le, push, step_at}

-- so many pairs, read where they stand
pub read_here : {bytes : List ℕ} {at end : ℕ} {ps : List Pair} → (n : ℕ) → n ≡ length ps → Stored bytes at end ps → read_pairs n (drop at bytes) ≡ ps
read_here {bytes = bytes} {at = at} n e h = ap (λ (k : ℕ). read_pairs k (drop at bytes)) e ∙ stored_read h

-- marks over pairs that stand in an area make a page
pub page_of : {bytes : List ℕ} (m : Marks) (ps : List Pair) → m.count ≡ length ps → m.cursor ≤ m.count →
    Stored bytes m.start m.end ps → Stored bytes m.offset m.end (drop m.cursor ps) → IsPage bytes m
page_of {bytes = bytes} m ps n le stored ahead =
    let e : pairs_at bytes m ≡ ps = read_here m.count n stored in
    record {
      stored = subst (Stored bytes m.start m.end) (sym e) stored;
      reached = le;
      ahead = subst (λ (qs : List Pair). Stored bytes m.offset m.end (drop m.cursor qs)) (sym e) ahead;
    }

pub pairs_count : (bytes : List ℕ) (m : Marks) → length (pairs_at bytes m) ≡ m.count
pairs_count bytes m = length_read m.count (drop m.start bytes)

pub counted : (bytes : List ℕ) (m : Marks) {page : PageValue} → page_value bytes m ≡ page → length page.pairs ≡ m.count
counted bytes m view = sym (ap (λ (p : PageValue). length p.pairs) view) ∙ pairs_count bytes m

-- the pairs from the cursor on, read there
pub from_cursor : {bytes : List ℕ} {m : Marks} → IsPage bytes m → read_pairs (m.count - m.cursor) (drop m.offset bytes) ≡ drop m.cursor (pairs_at bytes m)
from_cursor {bytes = bytes} {m = m} h =
    let n : m.count - m.cursor ≡ length (drop m.cursor (pairs_at bytes m)) =
    omega (arith, length-drop m.cursor (pairs_at bytes m), pairs_count bytes m) in
    read_here (m.count - m.cursor) n h.ahead

-- the fields of a page after a push
pub record Pushed (bytes new : List ℕ) (m : Marks) (size : ℕ) (p : Pair) : Type 0 where
  pub page : IsPage new (record m { end = m.end + size; count = m.count + 1 })
  pub pairs : pairs_at new (record m { end = m.end + size; count = m.count + 1 }) ≡ pairs_at bytes m ++ p ∷ []

pushed_at : {bytes : List ℕ} {m : Marks} (p : Pair) → IsPair p → m.end + pair_size p ≤ 4096 → IsPage bytes m →
    Pushed bytes (overwritten m.end (pair_bytes p) bytes) m (pair_size p) p
pushed_at {bytes = bytes} {m = m} p good fits h =
    let ps = pairs_at bytes m in
    let n = pairs_count bytes m in
    let more : m.count + 1 ≡ length (ps ++ p ∷ []) = omega (arith, n, length-append ps (p ∷ [])) in
    let reached = h.reached in
    let stored = push p good fits h.stored in
    let e : drop m.cursor ps ++ p ∷ [] ≡ drop m.cursor (ps ++ p ∷ []) = sym (drop-append-le m.cursor ps (p ∷ []) (omega arith)) in
    let ahead = subst (Stored (overwritten m.end (pair_bytes p) bytes) m.offset (m.end + pair_size p)) e (push p good fits h.ahead) in
    record {
      page = page_of (record m { end = m.end + pair_size p; count = m.count + 1 }) (ps ++ p ∷ []) more (omega arith) stored ahead;
      pairs = read_here (m.count + 1) more stored;
    }

pub pushed : {bytes : List ℕ} {m : Marks} (p : Pair) (new : List ℕ) (size : ℕ) → IsPair p → m.end + pair_size p ≤ 4096 →
    new ≡ overwritten m.end (pair_bytes p) bytes → size ≡ pair_size p → IsPage bytes m → Pushed bytes new m size p
pushed {bytes = bytes} {m = m} p new size good fits e n h =
    subst (λ (s : ℕ). Pushed bytes new m s p) (sym n) (subst (λ (xs : List ℕ). Pushed bytes xs m (pair_size p) p) (sym e) (pushed_at p good fits h))

-- the marks of a page with just one pair
abbrev pub first_marks : ℕ → Marks
first_marks size = record { start = 0; end = size; count = 1; cursor = 0; offset = 0 }

-- the fields of a page with just one pair
pub record Made (new : List ℕ) (size : ℕ) (p : Pair) : Type 0 where
  pub page : IsPage new (first_marks size)
  pub pairs : pairs_at new (first_marks size) ≡ p ∷ []

pub made : (bytes new : List ℕ) (size : ℕ) (p : Pair) → length bytes ≡ 4096 → IsPair p → new ≡ overwritten 0 (pair_bytes p) bytes → size ≡ pair_size p →
    Made new size p
made bytes new size p long good is n =
    let short = good.0 in
    let none : Stored bytes 0 0 [] = record { long = long; order = omega arith; within = omega arith; are = refl; each = All-nil IsPair } in
    let there : Stored (overwritten 0 (pair_bytes p) bytes) 0 (0 + pair_size p) (p ∷ []) = push p good (omega arith) none in
    let end : 0 + pair_size p ≡ size = omega arith in
    let one : Stored new 0 size (p ∷ []) =
    subst (λ (xs : List ℕ). Stored xs 0 size (p ∷ [])) (sym is) (subst (λ (k : ℕ). Stored (overwritten 0 (pair_bytes p) bytes) 0 k (p ∷ [])) end there) in
    record {
      page = page_of (first_marks size) (p ∷ []) refl (omega arith) one one;
      pairs = read_here 1 refl one;
    }

-- the pairs of a page take some of its bytes
pub count_small : {bytes : List ℕ} {m : Marks} → IsPage bytes m → m.count ≤ 4096
count_small {bytes = bytes} {m = m} h =
    let size = stored_size h.stored in
    let within = h.stored.within in
    omega (arith, size, pairs_count bytes m, count_le (pairs_at bytes m))

-- the fields of a page of which the first n pairs are let go
pub record Freed (bytes : List ℕ) (m : Marks) (n at : ℕ) : Type 0 where
  pub page : IsPage bytes (record { start = at; end = m.end; count = m.count - n; cursor = 0; offset = at })
  pub pairs : read_pairs (m.count - n) (drop at bytes) ≡ drop n (pairs_at bytes m)

pub freed : {bytes b : List ℕ} {m : Marks} {n at : ℕ} → IsPage bytes m → n ≤ m.count → b ≡ bytes → Stored b at m.end (drop n (pairs_at b m))
    → Freed bytes m n at
freed {bytes = bytes} {m = m} {n = n} {at = at} h le same found =
    let there = subst (λ (xs : List ℕ). Stored xs at m.end (drop n (pairs_at xs m))) same found in
    let count : m.count - n ≡ length (drop n (pairs_at bytes m)) = omega (arith, length-drop n (pairs_at bytes m), pairs_count bytes m) in
    let m2 : Marks = record { start = at; end = m.end; count = m.count - n; cursor = 0; offset = at } in
    record {
      page = page_of m2 (drop n (pairs_at bytes m)) count (omega arith) there there;
      pairs = read_here (m.count - n) count there;
    }

-- the fields of a page on which the pair n was found
pub record Found (bytes b : List ℕ) (m : Marks) (n at : ℕ) : Type 0 where
  pub page : IsPage bytes (record m { cursor = n; offset = at })
  pub within : at + 8 + first_length (drop at b) ≤ 4096
  pub short : first_length (drop at b) ≤ 812
  pub pair : (d : Pair) → first_pair (drop at b) ≡ get_or (pairs_at bytes m) n d

pub found : {bytes b : List ℕ} {m : Marks} {n at : ℕ} → IsPage bytes m → n < m.count → b ≡ bytes → Stored b at m.end (drop n (pairs_at b m))
    → Found bytes b m n at
found {bytes = bytes} {b = b} {m = m} {n = n} {at = at} h lt same there =
    let ps = pairs_at b m in
    let count = pairs_count b m in
    let d : Pair = record { key = []; rid = record { page = 0; slot = 0 } } in
    let one = step_at b at m.end ps n d (omega arith) there in
    let within = one.within in
    let here = subst (λ (xs : List ℕ). Stored xs at m.end (drop n (pairs_at xs m))) same there in
    record {
      page = record { stored = h.stored; reached = omega arith; ahead = here };
      within = omega arith;
      short = one.short;
      pair = λ (d2 : Pair). (
          let two = step_at b at m.end ps n d2 (omega arith) there in
          two.pair_is ∙ ap (λ (xs : List ℕ). get_or (pairs_at xs m) n d2) same
          );
    }

-- a pair by its parts
pub pair_read : (ps : List Pair) (n : ℕ) (bytes key : List ℕ) (r : Result Rid Fault) → ((d : Pair) → first_pair bytes ≡ get_or ps n d) →
    IfOk r (λ rid. rid ≡ (first_pair bytes).rid) → IfOk r (λ _. key ≡ (first_pair bytes).key) → IfOk r (λ rid. IsPairAt ps n key rid)
pair_read ps n bytes key (Ok rid) get is_rid is_key =
    let mk : List ℕ → Rid → Pair = λ key rid. record { key = key; rid = rid } in
    sym (get (mk key rid)) ∙ sym (ap (λ (x : List ℕ). mk x rid) is_key ∙ ap (mk (first_pair bytes).key) is_rid)
pair_read ps n bytes key (Err e) get is_rid is_key = tt
