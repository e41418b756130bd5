-- Pairs that stand in bytes.
use Rattle.std.proofs.Common.{◌≡◌, ℕ, ◌+◌, ◌-◌, ◌≤◌, ◌<◌, zero, suc, List, [], ◌∷◌, ◌++◌, length, get_or, take, drop, refl, sym, ap, ◌∙◌, arith, append_assoc}
use Rattle.std.specs.List.{All, flat_map}
use Rattle.std.proofs.lemmas.List.{take_at, drop_at, drop-drop, drop-take, drop-append-le, length-append, length-drop, length-take-le, flat_map_more}
use Rattle.std.proofs.lemmas.List.Elements.{All-head, All-tail, All-push}
use Rattle.byteorder.specs.Endian.{big_bytes, big_number}
use Rattle.byteorder.specs.Numbers.{big_number-reads_back}
use Rattle.keybytes.specs.declared.rid.Rid.{Rid}
use Rattle.keybytes.specs.declared.pair.Pair.{Pair}
use Rattle.keybytes.specs.Writes.{overwritten}
use Rattle.run_spool.specs.Bytes.{rid_bytes, first_rid, pair_bytes, pair_size, first_length, first_pair, read_pairs, IsPair, Stored}
use Rattle.keybytes.proofs.Writes.{length-overwritten, drop-overwritten}
use Rattle.run_spool.proofs.Writes.{overwritten-thrice}

-- a RID is read back from its bytes
pub rid_back : (p : Pair) (rest : List ℕ) → IsPair p → first_rid (rid_bytes p.rid ++ rest) ≡ p.rid
rid_back p rest h =
    let page_fits = h.1 in
    let slot_fits = h.2 in
    let make : ℕ → ℕ → Rid = λ page slot. record { page = page; slot = slot } in
    let slot = big_bytes 2 p.rid.slot in
    ap (λ (n : ℕ). make n (big_number 2 (slot ++ rest))) (big_number-reads_back 4 p.rid.page (slot ++ rest) page_fits)
    ∙ ap (make p.rid.page) (big_number-reads_back 2 p.rid.slot rest slot_fits)

pub length_pair : (p : Pair) → length (pair_bytes p) ≡ pair_size p
length_pair p = omega (arith, length-append p.key (rid_bytes p.rid))

-- a key's length is read back from the bytes of its pair
pub length_back : (p : Pair) (rest : List ℕ) → IsPair p → first_length (pair_bytes p ++ rest) ≡ length p.key
length_back p rest h =
    let short = h.0 in
    big_number-reads_back 2 (length p.key) ((p.key ++ rid_bytes p.rid) ++ rest) (omega arith)

-- what stands behind a key in the bytes of its pair
behind_key : (p : Pair) (rest : List ℕ) → drop (2 + length p.key) (pair_bytes p ++ rest) ≡ rid_bytes p.rid ++ rest
behind_key p rest =
    let t = rid_bytes p.rid in
    sym (drop-drop (length p.key) 2 (pair_bytes p ++ rest))
    ∙ ap (drop (length p.key)) (append_assoc p.key t rest)
    ∙ drop_at p.key (t ++ rest) (length p.key) refl

-- a pair with its length given
pair_with : ℕ → List ℕ → Pair
pair_with n bytes = record { key = take n (drop 2 bytes); rid = first_rid (drop (2 + n) bytes) }

-- a pair is read back from its bytes
pub first_back : (p : Pair) (rest : List ℕ) → IsPair p → first_pair (pair_bytes p ++ rest) ≡ p
unfolding pair_with
first_back p rest h =
    let b = pair_bytes p ++ rest in
    let n = length p.key in
    let t = rid_bytes p.rid in
    let k : take n (drop 2 b) ≡ p.key = ap (take n) (append_assoc p.key t rest) ∙ take_at p.key (t ++ rest) n refl in
    let r : first_rid (drop (2 + n) b) ≡ p.rid = ap first_rid (behind_key p rest) ∙ rid_back p rest h in
    let e : first_pair b ≡ pair_with n b = ap (λ (m : ℕ). pair_with m b) (length_back p rest h) in
    let make : List ℕ → Rid → Pair = λ key rid. record { key = key; rid = rid } in
    e ∙ ap (λ (x : List ℕ). make x (first_rid (drop (2 + n) b))) k ∙ ap (make p.key) r

-- pairs are read back from their bytes
pub read_back : (ps : List Pair) (rest : List ℕ) → All IsPair ps → read_pairs (length ps) (flat_map pair_bytes ps ++ rest) ≡ ps
read_back [] rest h = refl
read_back (p ∷ ps) rest h =
    let more = flat_map pair_bytes ps ++ rest in
    let b = pair_bytes p ++ more in
    let good = All-head IsPair p ps h in
    let a : (pair_bytes p ++ flat_map pair_bytes ps) ++ rest ≡ b = append_assoc (pair_bytes p) (flat_map pair_bytes ps) rest in
    let x : first_pair b ≡ p = first_back p more good in
    let y : drop (8 + first_length b) b ≡ more =
    ap (λ (n : ℕ). drop (8 + n) b) (length_back p more good) ∙ drop_at (pair_bytes p) more (8 + length p.key) (length_pair p) in
    let z = read_back ps rest (All-tail IsPair p ps h) in
    ap (read_pairs (suc (length ps))) a ∙ ap (λ (ys : List ℕ). first_pair b ∷ read_pairs (length ps) ys) y ∙ cc (x, z)

pub length_read : (n : ℕ) (bytes : List ℕ) → length (read_pairs n bytes) ≡ n
length_read zero bytes = refl
length_read (suc n) bytes = ap suc (length_read n (drop (8 + first_length bytes) bytes))

-- the pairs that stand in an area are those that are read there
pub stored_read : {bytes : List ℕ} {at end : ℕ} {ps : List Pair} → Stored bytes at end ps → read_pairs (length ps) (drop at bytes) ≡ ps
stored_read {bytes = bytes} {end = end} {ps = ps} h = ap (read_pairs (length ps)) h.are ∙ read_back ps (drop end bytes) h.each

-- how many bytes the pairs take
pub stored_size : {bytes : List ℕ} {at end : ℕ} {ps : List Pair} → Stored bytes at end ps → at + length (flat_map pair_bytes ps) ≡ end
stored_size {bytes = bytes} {at = at} {end = end} {ps = ps} h =
    let e = ap length h.are in
    let long = h.long in let order = h.order in let within = h.within in
    omega (arith, e, length-append (flat_map pair_bytes ps) (drop end bytes), length-drop at bytes, length-drop end bytes)

-- no pair takes no byte
pub count_le : (ps : List Pair) → length ps ≤ length (flat_map pair_bytes ps)
count_le [] = omega arith
count_le (p ∷ ps) =
    let one = length_pair p in
    let two = length-append (pair_bytes p) (flat_map pair_bytes ps) in
    let rest = count_le ps in
    omega (arith, one, two, rest)

-- what a walk over the first pair of some finds
pub record Step (bytes : List ℕ) (at end : ℕ) (p : Pair) (ps : List Pair) : Type 0 where
  pub length_is : first_length (drop at bytes) ≡ length p.key
  pub pair_is : first_pair (drop at bytes) ≡ p
  pub within : at + (8 + first_length (drop at bytes)) ≤ 4096
  pub short : first_length (drop at bytes) ≤ 812
  pub next : Stored bytes (at + (8 + first_length (drop at bytes))) end ps

pub step : {bytes : List ℕ} {at end : ℕ} {p : Pair} {ps : List Pair} → Stored bytes at end (p ∷ ps) → Step bytes at end p ps
step {bytes = bytes} {at = at} {end = end} {p = p} {ps = ps} h =
    let more = flat_map pair_bytes ps ++ drop end bytes in
    let are : drop at bytes ≡ pair_bytes p ++ more = h.are ∙ append_assoc (pair_bytes p) (flat_map pair_bytes ps) (drop end bytes) in
    let good : IsPair p = All-head IsPair p ps h.each in
    let short = good.0 in
    let n : first_length (drop at bytes) ≡ length p.key = ap first_length are ∙ length_back p more good in
    let size = stored_size h in
    let one = length_pair p in
    let two = length-append (pair_bytes p) (flat_map pair_bytes ps) in
    let le : at + (8 + first_length (drop at bytes)) ≤ end = omega (arith, n, size, one, two) in
    let rest : drop (at + (8 + first_length (drop at bytes))) bytes ≡ more =
    sym (drop-drop (8 + first_length (drop at bytes)) at bytes) ∙ ap (λ (m : ℕ). drop (8 + m) (drop at bytes)) n
    ∙ ap (drop (8 + length p.key)) are ∙ drop_at (pair_bytes p) more (8 + length p.key) one in
    let within = h.within in
    record {
      length_is = n;
      pair_is = ap first_pair are ∙ first_back p more good;
      within = omega arith;
      short = omega arith;
      next = record { long = h.long; order = le; within = within; are = rest; each = All-tail IsPair p ps h.each };
    }

-- the same for the pair with a number
pub step_at : (bytes : List ℕ) (at end : ℕ) (ps : List Pair) (i : ℕ) (d : Pair) → i < length ps → Stored bytes at end (drop i ps) →
    Step bytes at end (get_or ps i d) (drop (suc i) ps)
step_at bytes at end [] i d lt h = absurd (omega arith)
step_at bytes at end (p ∷ ps) zero d lt h = step h
step_at bytes at end (p ∷ ps) (suc i) d lt h = step_at bytes at end ps i d (omega arith) h

-- a pair written behind the others
pub push : {bytes : List ℕ} {at end : ℕ} {ps : List Pair} (p : Pair) → IsPair p → end + pair_size p ≤ 4096 → Stored bytes at end ps →
    Stored (overwritten end (pair_bytes p) bytes) at (end + pair_size p) (ps ++ p ∷ [])
push {bytes = bytes} {at = at} {end = end} {ps = ps} p good fits h =
    let new = overwritten end (pair_bytes p) bytes in
    let f = flat_map pair_bytes ps in
    let one = length_pair p in
    let size = stored_size h in
    let order = h.order in
    let within = h.within in
    let long = h.long in
    let rest = drop (end + length (pair_bytes p)) bytes in
    let m = end - at in
    let to : at + m ≡ end = omega arith in
    let front : drop at (take end bytes) ≡ f =
    ap (λ (k : ℕ). drop at (take k bytes)) (sym to) ∙ drop-take at m bytes ∙ ap (take m) h.are ∙ take_at f (drop end bytes) m (omega arith) in
    let a : drop at new ≡ f ++ (pair_bytes p ++ rest) =
    drop-append-le at (take end bytes) (pair_bytes p ++ rest) (omega (arith, length-take-le end bytes (omega arith)))
    ∙ ap (λ (xs : List ℕ). xs ++ (pair_bytes p ++ rest)) front in
    let same : drop (end + pair_size p) new ≡ rest =
    drop-overwritten (end + pair_size p) end (pair_bytes p) bytes (omega arith) (omega arith) ∙ ap (λ (k : ℕ). drop (end + k) bytes) (sym one) in
    record {
      long = length-overwritten end (pair_bytes p) bytes (omega arith) ∙ long;
      order = omega arith;
      within = fits;
      are = a ∙ sym (append_assoc f (pair_bytes p) rest)
          ∙ ap (λ (xs : List ℕ). xs ++ rest) (flat_map_more pair_bytes [] ps p)
          ∙ ap (λ (xs : List ℕ). flat_map pair_bytes (ps ++ p ∷ []) ++ xs) (sym same);
      each = All-push IsPair ps p h.each good;
    }

-- three writes that are one write of a pair
pub pair_written : (p : Pair) (at : ℕ) (bytes one two three length_bytes key rid : List ℕ) → at + pair_size p ≤ length bytes → key ≡ p.key →
    length_bytes ≡ big_bytes 2 (length key) → rid ≡ rid_bytes p.rid →
    one ≡ overwritten at length_bytes bytes → two ≡ overwritten (at + 2) key one → three ≡ overwritten (at + 2 + length key) rid two →
    three ≡ overwritten at (pair_bytes p) bytes
pair_written p at bytes one two three length_bytes key rid fits k l r first second third =
    let n = ap length k in
    let t = rid_bytes p.rid in
    let all = overwritten-thrice at (big_bytes 2 (length key)) key t bytes (omega arith) in
    third ∙ ap (overwritten (at + 2 + length key) rid) (second ∙ ap (overwritten (at + 2) key) first)
    ∙ ap (λ (xs : List ℕ). overwritten (at + 2 + length key) xs (overwritten (at + 2) key (overwritten at length_bytes bytes))) r
    ∙ ap (λ (xs : List ℕ). overwritten (at + 2 + length key) t (overwritten (at + 2) key (overwritten at xs bytes))) l
    ∙ all
    ∙ ap (λ (xs : List ℕ). overwritten at (big_bytes 2 (length xs) ++ (xs ++ t)) bytes) k
