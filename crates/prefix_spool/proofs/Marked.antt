-- Pages by their marks.
use Rattle.std.proofs.Common.{◌≡◌, ℕ, ◌+◌, ◌-◌, ◌≤◌, ◌<◌, List, [], ◌∷◌, ◌++◌, length, get_or, drop, refl, sym, ap, ◌∙◌, subst, arith, Result, Ok, Err, IfOk}
use Rattle.std.proofs.lemmas.List.{drop-append-le, length-append, length-drop, drop-drop, get_or-drop}
use Rattle.std.proofs.lemmas.List.Elements.{All-nil}
use Rattle.keybytes.specs.declared.rid.Rid.{Rid}
use Rattle.keybytes.specs.declared.fault.Fault.{Fault}
use Rattle.keybytes.specs.declared.pair.Pair.{Pair}
use Rattle.keybytes.specs.Writes.{overwritten}
use Rattle.run_spool.specs.Bytes.{IsPair}
use Rattle.run_spool.specs.Pages.{IsPairAt, last_key}
use Rattle.prefix_spool.specs.declared.marks.Marks.{Marks}
use Rattle.prefix_spool.specs.PrefixBytes.{shared, bytes_sharing, size_sharing, first_shared, first_more, first_behind, read_behind, StandsBehind}
use Rattle.prefix_spool.specs.PrefixPages.{written_at, left_at, IsPage}
use Rattle.prefix_spool.proofs.Stands.{length_read, stands_read, stands_size, count_le, push, step_at, last_of_rest}

-- so many pairs, read where they stand
pub read_here : {bytes : List ℕ} {at end : ℕ} {before : List ℕ} {ps : List Pair} → (n : ℕ) → n ≡ length ps → StandsBehind bytes at end before ps →
    read_behind n before (drop at bytes) ≡ ps
read_here {bytes = bytes} {at = at} {before = before} n e h = ap (λ (k : ℕ). read_behind k before (drop at bytes)) e ∙ stands_read h

pub written_count : (bytes : List ℕ) (m : Marks) → length (written_at bytes m) ≡ m.count
written_count bytes m = length_read m.count [] bytes

-- the pairs from the cursor on, read there
pub from_cursor : {bytes : List ℕ} {m : Marks} {before : List ℕ} → IsPage bytes m before →
    read_behind (m.count - m.cursor) before (drop m.offset bytes) ≡ drop m.cursor (written_at bytes m)
from_cursor {bytes = bytes} {m = m} h =
    let n : m.count - m.cursor ≡ length (drop m.cursor (written_at bytes m)) =
    omega (arith, length-drop m.cursor (written_at bytes m), written_count bytes m) in
    read_here (m.count - m.cursor) n h.ahead

-- marks over pairs that stand in an area make a page
pub page_of : {bytes : List ℕ} (m : Marks) (before : List ℕ) (ps : List Pair) → m.count ≡ length ps → m.freed < m.count
    → m.cursor ≤ m.count → StandsBehind bytes 0 m.end [] ps → StandsBehind bytes m.offset m.end before (drop m.cursor ps) → IsPage bytes m before
page_of {bytes = bytes} m before ps n some le stored ahead =
    let e : written_at bytes m ≡ ps = read_here m.count n stored in
    record {
      stored = subst (StandsBehind bytes 0 m.end []) (sym e) stored;
      some_left = some;
      reached = le;
      ahead = subst (λ (qs : List Pair). StandsBehind bytes m.offset m.end before (drop m.cursor qs)) (sym e) ahead;
    }

-- how many pairs aren't freed
pub left_count : (bytes : List ℕ) (m : Marks) → length (left_at bytes m) ≡ m.count - m.freed
left_count bytes m = omega (arith, length-drop m.freed (written_at bytes m), written_count bytes m)

-- the last of the pairs that aren't freed is the last of all
last_left : {bytes : List ℕ} {m : Marks} {before : List ℕ} → IsPage bytes m before → last_key (left_at bytes m) ≡ last_key (written_at bytes m)
last_left {bytes = bytes} {m = m} h = let left = h.some_left in last_of_rest [] m.freed (written_at bytes m) (omega (arith, written_count bytes m))

-- the marks of a page after a push
abbrev pub after_push : Marks → ℕ → Marks
after_push m size = record { end = m.end + size; count = m.count + 1; freed = m.freed; cursor = 0; offset = 0 }

-- the fields of a page after a push
pub record Pushed (bytes new : List ℕ) (m : Marks) (size : ℕ) (p : Pair) : Type 0 where
  pub page : IsPage new (after_push m size) []
  pub pairs : left_at new (after_push m size) ≡ left_at bytes m ++ p ∷ []

pushed_at : {bytes : List ℕ} {m : Marks} {before : List ℕ} (n : ℕ) (p : Pair) → n ≡ shared (last_key (written_at bytes m)) p.key → IsPair p
    → m.end + size_sharing n p ≤ 4096 → IsPage bytes m before → Pushed bytes (overwritten m.end (bytes_sharing n p) bytes) m (size_sharing n p) p
pushed_at {bytes = bytes} {m = m} n p is good fits h =
    let ps = written_at bytes m in
    let count = written_count bytes m in
    let more : m.count + 1 ≡ length (ps ++ p ∷ []) = omega (arith, count, length-append ps (p ∷ [])) in
    let some = h.some_left in
    let stored : StandsBehind (overwritten m.end (bytes_sharing n p) bytes) 0 (m.end + size_sharing n p) [] (ps ++ p ∷ []) =
    subst (λ (k : ℕ). StandsBehind (overwritten m.end (bytes_sharing k p) bytes) 0 (m.end + size_sharing k p) [] (ps ++ p ∷ [])) (sym is)
    (push p good (subst (λ (k : ℕ). m.end + size_sharing k p ≤ 4096) is fits) h.stored) in
    record {
      page = page_of (after_push m (size_sharing n p)) [] (ps ++ p ∷ []) more (omega arith) (omega arith) stored stored;
      pairs = ap (drop m.freed) (read_here (m.count + 1) more stored) ∙ drop-append-le m.freed ps (p ∷ []) (omega arith);
    }

pub pushed : {bytes : List ℕ} {m : Marks} {before : List ℕ} (last : List ℕ) (n : ℕ) (p : Pair) (new : List ℕ) (size : ℕ) → last ≡ last_key (left_at bytes m)
    → n ≡ shared last p.key → IsPair p → size ≡ size_sharing n p → m.end + size ≤ 4096 → new ≡ overwritten m.end (bytes_sharing n p) bytes
    → IsPage bytes m before → Pushed bytes new m size p
pushed {bytes = bytes} {m = m} last n p new size is shares good takes fits written h =
    let of_all : n ≡ shared (last_key (written_at bytes m)) p.key = shares ∙ ap (λ (key : List ℕ). shared key p.key) (is ∙ last_left h) in
    subst (λ (s : ℕ). Pushed bytes new m s p) (sym takes)
    (subst (λ (xs : List ℕ). Pushed bytes xs m (size_sharing n p) p) (sym written) (pushed_at n p of_all good (omega arith) h))

-- the marks of a page with just one pair
abbrev pub first_marks : ℕ → Marks
first_marks size = record { end = size; count = 1; freed = 0; cursor = 0; offset = 0 }

-- the fields of a page with just one pair
pub record Made (new : List ℕ) (size : ℕ) (p : Pair) : Type 0 where
  pub page : IsPage new (first_marks size) []
  pub pairs : left_at new (first_marks size) ≡ p ∷ []

pub made : (bytes new : List ℕ) (size : ℕ) (p : Pair) → length bytes ≡ 4096 → IsPair p → new ≡ overwritten 0 (bytes_sharing 0 p) bytes
    → size ≡ size_sharing 0 p → Made new size p
made bytes new size p long good written takes =
    let short = good.0 in
    let none : StandsBehind bytes 0 0 [] [] = record { long = long; order = omega arith; within = omega arith; are = refl; each = All-nil IsPair } in
    let there : StandsBehind (overwritten 0 (bytes_sharing 0 p) bytes) 0 (0 + size_sharing 0 p) [] (p ∷ []) = push p good (omega arith) none in
    let end : 0 + size_sharing 0 p ≡ size = omega arith in
    let one : StandsBehind new 0 size [] (p ∷ []) =
    subst (λ (xs : List ℕ). StandsBehind xs 0 size [] (p ∷ [])) (sym written)
    (subst (λ (k : ℕ). StandsBehind (overwritten 0 (bytes_sharing 0 p) bytes) 0 k [] (p ∷ [])) end there) in
    record {
      page = page_of (first_marks size) [] (p ∷ []) refl (omega arith) (omega arith) one one;
      pairs = read_here 1 refl one;
    }

-- the pairs of a page take some of its bytes
pub count_small : {bytes : List ℕ} {m : Marks} {before : List ℕ} → IsPage bytes m before → m.count ≤ 4096
count_small {bytes = bytes} {m = m} h =
    let size = stands_size h.stored in
    let within = h.stored.within in
    omega (arith, size, written_count bytes m, count_le [] (written_at bytes m))

-- the marks of a page whose cursor was set
abbrev pub with_cursor : Marks → ℕ → ℕ → Marks
with_cursor m n at = record { end = m.end; count = m.count; freed = m.freed; cursor = n; offset = at }

-- the marks of a page with more pairs freed
abbrev pub with_more_freed : Marks → ℕ → Marks
with_more_freed m n = record { end = m.end; count = m.count; freed = m.freed + n; cursor = m.cursor; offset = m.offset }

-- a page whose cursor was set back to its begin
pub restarted : {bytes : List ℕ} {m : Marks} {before : List ℕ} → IsPage bytes m before → IsPage bytes (with_cursor m 0 0) []
restarted h = record { stored = h.stored; some_left = h.some_left; reached = omega arith; ahead = h.stored }

-- a page of which the first n pairs are let go
pub freed : {bytes : List ℕ} {m : Marks} {before : List ℕ} (n : ℕ) → n < length (left_at bytes m) → IsPage bytes m before
    → IsPage bytes (with_more_freed m n) before
freed {bytes = bytes} {m = m} n lt h =
    let count = left_count bytes m in
    record {
      stored = h.stored;
      some_left = omega arith;
      reached = h.reached;
      ahead = h.ahead;
    }

pub freed_pairs : (bytes : List ℕ) (m : Marks) (n : ℕ) → left_at bytes (with_more_freed m n) ≡ drop n (left_at bytes m)
freed_pairs bytes m n = sym (drop-drop n m.freed (written_at bytes m))

-- the fields of a page on which the pair n was found, behind a key
pub record Found (bytes b : List ℕ) (m : Marks) (n at : ℕ) (key : List ℕ) : Type 0 where
  pub page : IsPage bytes (with_cursor m n at) key
  pub within : at + (10 + first_more (drop at b)) ≤ 4096
  pub short : first_shared (drop at b) + first_more (drop at b) ≤ 812
  pub there : first_shared (drop at b) ≤ length key
  pub pair : (d : Pair) → first_behind key (drop at b) ≡ get_or (written_at bytes m) n d

pub found : {bytes b : List ℕ} {m : Marks} {before : List ℕ} {n at : ℕ} {key : List ℕ} → IsPage bytes m before → n < m.count → b ≡ bytes
    → StandsBehind b at m.end key (drop n (written_at b m)) → Found bytes b m n at key
found {bytes = bytes} {b = b} {m = m} {n = n} {at = at} {key = key} h lt same there =
    let ps = written_at b m in
    let count = written_count b m in
    let d : Pair = record { key = []; rid = record { page = 0; slot = 0 } } in
    let one = step_at b at m.end key ps n d (omega arith) there in
    let here = subst (λ (xs : List ℕ). StandsBehind xs at m.end key (drop n (written_at xs m))) same there in
    record {
      page = record { stored = h.stored; some_left = h.some_left; reached = omega arith; ahead = here };
      within = one.within;
      short = one.short;
      there = one.there;
      pair = λ (d2 : Pair). (
          let two = step_at b at m.end key ps n d2 (omega arith) there in
          two.pair_is ∙ ap (λ (xs : List ℕ). get_or (written_at xs m) n d2) same
          );
    }

-- a pair by its parts
pub pair_read : (ps : List Pair) (f n : ℕ) (before bytes key : List ℕ) (r : Result Rid Fault) → ((d : Pair) → first_behind before bytes ≡ get_or ps (f + n) d) →
    IfOk r (λ rid. rid ≡ (first_behind before bytes).rid) → IfOk r (λ _. key ≡ (first_behind before bytes).key) → IfOk r (λ rid. IsPairAt (drop f ps) n key rid)
pair_read ps f n before bytes key (Ok rid) get is_rid is_key =
    let mk : List ℕ → Rid → Pair = λ key rid. record { key = key; rid = rid } in
    get_or-drop f ps n (mk key rid) ∙ sym (get (mk key rid)) ∙ sym (ap (λ (x : List ℕ). mk x rid) is_key ∙ ap (mk (first_behind before bytes).key) is_rid)
pair_read ps f n before bytes key (Err e) get is_rid is_key = tt
