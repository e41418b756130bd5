-- Pairs that stand in bytes, each behind the one before it.
use Rattle.std.proofs.Common.{◌≡◌, ℕ, ◌+◌, ◌-◌, ◌≤◌, ◌<◌, zero, suc, refl, sym, ap, ◌∙◌, subst, arith}
use Rattle.std.proofs.Common.{List, [], ◌∷◌, ◌++◌, length, get_or, take, drop, append_assoc}
use Rattle.std.specs.List.{All}
use Rattle.std.proofs.lemmas.List.{take_at, drop_at, drop-drop, drop-take, drop-append-le, length-append, length-drop, length-take-le, append-nil}
use Rattle.std.proofs.lemmas.List.Elements.{All-head, All-tail, All-push}
use Rattle.byteorder.specs.Endian.{big_bytes}
use Rattle.byteorder.specs.Numbers.{big_number-reads_back}
use Rattle.keybytes.specs.declared.rid.Rid.{Rid}
use Rattle.keybytes.specs.declared.pair.Pair.{Pair}
use Rattle.keybytes.specs.Writes.{overwritten}
use Rattle.keybytes.proofs.Writes.{length-overwritten, drop-overwritten}
use Rattle.run_spool.specs.Bytes.{rid_bytes, first_rid, IsPair}
use Rattle.run_spool.specs.Pages.{last_behind}
use Rattle.run_spool.proofs.Stores.{rid_back}
use Rattle.run_spool.proofs.Writes.{overwritten-thrice}
use Rattle.prefix_spool.specs.PrefixBytes.{shared, bytes_sharing, size_sharing, bytes_behind, prefix_size, all_behind, StandsBehind}
use Rattle.prefix_spool.specs.PrefixBytes.{first_shared, first_more, first_key, first_behind, read_behind}
use Rattle.prefix_spool.proofs.SharedFronts.{shared_le, shared_within, key_back}

pub length_sharing : (n : ℕ) (p : Pair) → length (bytes_sharing n p) ≡ size_sharing n p
length_sharing n p = omega (arith, length-append (drop n p.key) (rid_bytes p.rid), length-drop n p.key)

-- the two numbers are read back
pub shared_back : (before : List ℕ) (p : Pair) (rest : List ℕ) → IsPair p → first_shared (bytes_behind before p ++ rest) ≡ shared before p.key
shared_back before p rest h =
    let short = h.0 in
    let s = shared before p.key in
    big_number-reads_back 2 s
    ((big_bytes 2 (length p.key - s) ++ (drop s p.key ++ rid_bytes p.rid)) ++ rest)
    (omega (arith, shared_within before p.key))

pub more_back : (before : List ℕ) (p : Pair) (rest : List ℕ) → IsPair p →
    first_more (bytes_behind before p ++ rest) ≡ length p.key - shared before p.key
more_back before p rest h =
    let short = h.0 in
    let s = shared before p.key in
    big_number-reads_back 2 (length p.key - s) ((drop s p.key ++ rid_bytes p.rid) ++ rest) (omega arith)

-- what stands behind a key in the bytes of its pair
behind_key : (before : List ℕ) (p : Pair) (rest : List ℕ) → drop (4 + (length p.key - shared before p.key)) (bytes_behind before p ++ rest)
    ≡ rid_bytes p.rid ++ rest
behind_key before p rest =
    let t = rid_bytes p.rid in
    let s = shared before p.key in
    let k = drop s p.key in
    let m = length p.key - s in
    sym (drop-drop m 4 (bytes_behind before p ++ rest))
    ∙ ap (drop m) (append_assoc k t rest)
    ∙ drop_at k (t ++ rest) m (length-drop s p.key)

-- a key by two numbers
key_with : ℕ → ℕ → List ℕ → List ℕ → List ℕ
key_with s m before bytes = take s before ++ take m (drop 4 bytes)

-- a key is read back from the bytes of its pair
pub key_read : (before : List ℕ) (p : Pair) (rest : List ℕ) → IsPair p → first_key before (bytes_behind before p ++ rest) ≡ p.key
unfolding key_with
key_read before p rest h =
    let b = bytes_behind before p ++ rest in
    let t = rid_bytes p.rid in
    let s = shared before p.key in
    let k = drop s p.key in
    let m = length p.key - s in
    let two : first_key before b ≡ key_with s m before b =
    ap (λ (x : ℕ). key_with x (first_more b) before b) (shared_back before p rest h) ∙ ap (λ (x : ℕ). key_with s x before b) (more_back before p rest h) in
    let more : take m (drop 4 b) ≡ k = ap (take m) (append_assoc k t rest) ∙ take_at k (t ++ rest) m (length-drop s p.key) in
    two ∙ ap (λ (xs : List ℕ). take s before ++ xs) more ∙ key_back before p.key

-- a pair is read back from its bytes
pub first_back : (before : List ℕ) (p : Pair) (rest : List ℕ) → IsPair p → first_behind before (bytes_behind before p ++ rest) ≡ p
first_back before p rest h =
    let b = bytes_behind before p ++ rest in
    let make : List ℕ → Rid → Pair = λ key rid. record { key = key; rid = rid } in
    let rid : first_rid (drop (4 + first_more b) b) ≡ p.rid =
    ap (λ (n : ℕ). first_rid (drop (4 + n) b)) (more_back before p rest h) ∙ ap first_rid (behind_key before p rest) ∙ rid_back p rest h in
    ap (λ (x : List ℕ). make x (first_rid (drop (4 + first_more b) b))) (key_read before p rest h) ∙ ap (make p.key) rid

-- pairs are read back from their bytes
pub read_back : (before : List ℕ) (ps : List Pair) (rest : List ℕ) → All IsPair ps → read_behind (length ps) before (all_behind before ps ++ rest) ≡ ps
read_back before [] rest h = refl
read_back before (p ∷ ps) rest h =
    let more = all_behind p.key ps ++ rest in
    let b = bytes_behind before p ++ more in
    let good = All-head IsPair p ps h in
    let a : (bytes_behind before p ++ all_behind p.key ps) ++ rest ≡ b = append_assoc (bytes_behind before p) (all_behind p.key ps) rest in
    let x : first_behind before b ≡ p = first_back before p more good in
    let k : first_key before b ≡ p.key = key_read before p more good in
    let y : drop (10 + first_more b) b ≡ more =
    ap (λ (n : ℕ). drop (10 + n) b) (more_back before p more good)
    ∙ drop_at (bytes_behind before p) more (prefix_size before p) (length_sharing (shared before p.key) p) in
    let z = read_back p.key ps rest (All-tail IsPair p ps h) in
    ap (read_behind (suc (length ps)) before) a
    ∙ ap (λ (ys : List ℕ). first_behind before b ∷ read_behind (length ps) (first_key before b) ys) y
    ∙ ap (λ (key : List ℕ). first_behind before b ∷ read_behind (length ps) key more) k ∙ cc (x, z)

pub length_read : (n : ℕ) (before bytes : List ℕ) → length (read_behind n before bytes) ≡ n
length_read zero before bytes = refl
length_read (suc n) before bytes = ap suc (length_read n (first_key before bytes) (drop (10 + first_more bytes) bytes))

-- the pairs that stand in an area are those that are read there
pub stands_read : {bytes : List ℕ} {at end : ℕ} {before : List ℕ} {ps : List Pair} → StandsBehind bytes at end before ps →
    read_behind (length ps) before (drop at bytes) ≡ ps
stands_read {bytes = bytes} {end = end} {before = before} {ps = ps} h =
    ap (read_behind (length ps) before) h.are ∙ read_back before ps (drop end bytes) h.each

-- how many bytes the pairs take
pub stands_size : {bytes : List ℕ} {at end : ℕ} {before : List ℕ} {ps : List Pair} → StandsBehind bytes at end before ps →
    at + length (all_behind before ps) ≡ end
stands_size {bytes = bytes} {at = at} {end = end} {before = before} {ps = ps} h =
    let e = ap length h.are in
    let long = h.long in let order = h.order in let within = h.within in
    omega (arith, e, length-append (all_behind before ps) (drop end bytes), length-drop at bytes, length-drop end bytes)

-- no pair takes no byte
pub count_le : (before : List ℕ) (ps : List Pair) → length ps ≤ length (all_behind before ps)
count_le before [] = omega arith
count_le before (p ∷ ps) =
    let one = length_sharing (shared before p.key) p in
    let two = length-append (bytes_behind before p) (all_behind p.key ps) in
    let rest = count_le p.key ps in
    omega (arith, one, two, rest)

-- what a walk over the first pair of some finds
pub record Step (bytes : List ℕ) (at end : ℕ) (before : List ℕ) (p : Pair) (ps : List Pair) : Type 0 where
  pub there : first_shared (drop at bytes) ≤ length before
  pub pair_is : first_behind before (drop at bytes) ≡ p
  pub within : at + (10 + first_more (drop at bytes)) ≤ 4096
  pub short : first_shared (drop at bytes) + first_more (drop at bytes) ≤ 812
  pub next : StandsBehind bytes (at + (10 + first_more (drop at bytes))) end (first_key before (drop at bytes)) ps

pub step : {bytes : List ℕ} {at end : ℕ} {before : List ℕ} {p : Pair} {ps : List Pair} → StandsBehind bytes at end before (p ∷ ps)
    → Step bytes at end before p ps
step {bytes = bytes} {at = at} {end = end} {before = before} {p = p} {ps = ps} h =
    let more = all_behind p.key ps ++ drop end bytes in
    let are : drop at bytes ≡ bytes_behind before p ++ more = h.are ∙ append_assoc (bytes_behind before p) (all_behind p.key ps) (drop end bytes) in
    let good : IsPair p = All-head IsPair p ps h.each in
    let short = good.0 in
    let s : first_shared (drop at bytes) ≡ shared before p.key = ap first_shared are ∙ shared_back before p more good in
    let n : first_more (drop at bytes) ≡ length p.key - shared before p.key = ap first_more are ∙ more_back before p more good in
    let key : first_key before (drop at bytes) ≡ p.key = ap (first_key before) are ∙ key_read before p more good in
    let size = stands_size h in
    let one = length_sharing (shared before p.key) p in
    let two = length-append (bytes_behind before p) (all_behind p.key ps) in
    let le : at + (10 + first_more (drop at bytes)) ≤ end = omega (arith, n, size, one, two) in
    let rest : drop (at + (10 + first_more (drop at bytes))) bytes ≡ more =
    sym (drop-drop (10 + first_more (drop at bytes)) at bytes) ∙ ap (λ (m : ℕ). drop (10 + m) (drop at bytes)) n
    ∙ ap (drop (prefix_size before p)) are ∙ drop_at (bytes_behind before p) more (prefix_size before p) one in
    let within = h.within in
    let next : StandsBehind bytes (at + (10 + first_more (drop at bytes))) end p.key ps =
    record { long = h.long; order = le; within = within; are = rest; each = All-tail IsPair p ps h.each } in
    record {
      there = omega (arith, s, shared_le before p.key);
      pair_is = ap (first_behind before) are ∙ first_back before p more good;
      within = omega arith;
      short = omega (arith, s, n, shared_within before p.key);
      next = subst (λ (k : List ℕ). StandsBehind bytes (at + (10 + first_more (drop at bytes))) end k ps) (sym key) next;
    }

-- the same for the pair with a number
pub step_at : (bytes : List ℕ) (at end : ℕ) (before : List ℕ) (ps : List Pair) (i : ℕ) (d : Pair) → i < length ps →
    StandsBehind bytes at end before (drop i ps) → Step bytes at end before (get_or ps i d) (drop (suc i) ps)
step_at bytes at end before [] i d lt h = absurd (omega arith)
step_at bytes at end before (p ∷ ps) zero d lt h = step h
step_at bytes at end before (p ∷ ps) (suc i) d lt h = step_at bytes at end before ps i d (omega arith) h

-- the bytes of one pair more
pub all_more : (before : List ℕ) (ps : List Pair) (p : Pair) → all_behind before (ps ++ p ∷ []) ≡ all_behind before ps ++ bytes_behind (last_behind before ps) p
all_more before [] p = append-nil (bytes_behind before p)
all_more before (q ∷ ps) p =
    ap (λ (xs : List ℕ). bytes_behind before q ++ xs) (all_more q.key ps p)
    ∙ sym (append_assoc (bytes_behind before q) (all_behind q.key ps) (bytes_behind (last_behind q.key ps) p))

-- the last one stays when some before it are let go
pub last_of_rest : (before : List ℕ) (n : ℕ) (ps : List Pair) → n < length ps → last_behind [] (drop n ps) ≡ last_behind before ps
last_of_rest before n [] lt = absurd (omega arith)
last_of_rest before zero (p ∷ ps) lt = refl
last_of_rest before (suc n) (p ∷ ps) lt = last_of_rest p.key n ps (omega arith)

-- a pair written behind the others
pub push : {bytes : List ℕ} {at end : ℕ} {before : List ℕ} {ps : List Pair} (p : Pair) → IsPair p → end + prefix_size (last_behind before ps) p ≤ 4096 →
    StandsBehind bytes at end before ps →
    StandsBehind (overwritten end (bytes_behind (last_behind before ps) p) bytes) at (end + prefix_size (last_behind before ps) p) before (ps ++ p ∷ [])
push {bytes = bytes} {at = at} {end = end} {before = before} {ps = ps} p good fits h =
    let x = bytes_behind (last_behind before ps) p in
    let size = prefix_size (last_behind before ps) p in
    let new = overwritten end x bytes in
    let f = all_behind before ps in
    let one : length x ≡ size = length_sharing (shared (last_behind before ps) p.key) p in
    let taken = stands_size h in
    let order = h.order in
    let within = h.within in
    let long = h.long in
    let rest = drop (end + length x) bytes in
    let m = end - at in
    let to : at + m ≡ end = omega arith in
    let front : drop at (take end bytes) ≡ f =
    ap (λ (k : ℕ). drop at (take k bytes)) (sym to) ∙ drop-take at m bytes ∙ ap (take m) h.are ∙ take_at f (drop end bytes) m (omega arith) in
    let a : drop at new ≡ f ++ (x ++ rest) =
    drop-append-le at (take end bytes) (x ++ rest) (omega (arith, length-take-le end bytes (omega arith)))
    ∙ ap (λ (xs : List ℕ). xs ++ (x ++ rest)) front in
    let same : drop (end + size) new ≡ rest =
    drop-overwritten (end + size) end x bytes (omega arith) (omega arith) ∙ ap (λ (k : ℕ). drop (end + k) bytes) (sym one) in
    record {
      long = length-overwritten end x bytes (omega arith) ∙ long;
      order = omega arith;
      within = fits;
      are = a ∙ sym (append_assoc f x rest)
          ∙ ap (λ (xs : List ℕ). xs ++ rest) (sym (all_more before ps p))
          ∙ ap (λ (xs : List ℕ). all_behind before (ps ++ p ∷ []) ++ xs) (sym same);
      each = All-push IsPair ps p h.each good;
    }

-- three writes that are one write of a pair
pub pair_written : (n : ℕ) (p : Pair) (at : ℕ) (bytes one two three head more rid : List ℕ) → at + size_sharing n p ≤ length bytes → more ≡ drop n p.key →
    head ≡ big_bytes 2 n ++ big_bytes 2 (length p.key - n) → rid ≡ rid_bytes p.rid →
    one ≡ overwritten at head bytes → two ≡ overwritten (at + 4) more one → three ≡ overwritten (at + 4 + length more) rid two →
    three ≡ overwritten at (bytes_sharing n p) bytes
pair_written n p at bytes one two three head more rid fits k l r first second third =
    let h = big_bytes 2 n ++ big_bytes 2 (length p.key - n) in
    let long : length more ≡ length p.key - n = ap length k ∙ length-drop n p.key in
    let t = rid_bytes p.rid in
    let all = overwritten-thrice at h more t bytes (omega arith) in
    third ∙ ap (overwritten (at + 4 + length more) rid) (second ∙ ap (overwritten (at + 4) more) first)
    ∙ ap (λ (xs : List ℕ). overwritten (at + 4 + length more) xs (overwritten (at + 4) more (overwritten at head bytes))) r
    ∙ ap (λ (xs : List ℕ). overwritten (at + 4 + length more) t (overwritten (at + 4) more (overwritten at xs bytes))) l
    ∙ all
    ∙ ap (λ (xs : List ℕ). overwritten at (h ++ (xs ++ t)) bytes) k
