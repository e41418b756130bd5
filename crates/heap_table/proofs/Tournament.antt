-- A tournament: its levels, a step of its search, and which page the search finds.
use Rattle.std.proofs.Common.{◌≡◌, ℕ, suc, zero, ◌+◌, ◌-◌, ◌*◌, ◌/◌, ◌^◌, ◌≤◌, ◌<◌, List, length, get_or, take, drop, refl, ap, ◌∙◌, arith, Bool, Some, None}
use Rattle.std.proofs.Common.{true, false, inl, inr}
use Rattle.std.specs.Prelude.{position, nat_le}
use Rattle.std.specs.List.{position_or_len}
use Rattle.std.proofs.lemmas.Bool.{cases_eq, cases_lt, le-leb, lt-leb, lt-ltb, le-ltb}
use Rattle.std.proofs.lemmas.List.{get_or-take, get_or-drop, length-take-le, length-drop}
use Rattle.std.proofs.lemmas.List.Sums.{position_or_len_is}
use Rattle.std.proofs.lemmas.Nat.{pow-add, pow_below}
use Rattle.heap_table.specs.Rooms.{IsTournament, IsFirstFrom, IsRooms}

-- a node has no more than the one above it
le_above : (nodes : List ℕ) (n m : ℕ) → IsTournament nodes → 0 < m → 2 * m + 1 < length nodes → 2 * m ≤ n → n ≤ 2 * m + 1 →
    get_or nodes n 0 ≤ get_or nodes m 0
le_above nodes n m t some lt low high = let h = t m some lt in grind arith

-- the node above a node
half : (n : ℕ) → (m : ℕ) × (2 * m ≤ n) × (n ≤ 2 * m + 1)
half n = (n / 2, omega arith, omega arith)

-- no node has more than the root, to which at most k steps lead up
le_root : (k : ℕ) (nodes : List ℕ) (leaves n : ℕ) → IsTournament nodes → length nodes ≡ 2 * leaves → 0 < n → n ≤ k → n < length nodes →
    get_or nodes n 0 ≤ get_or nodes 1 0
le_root zero nodes leaves n t long some le lt = absurd (omega arith)
le_root (suc k) nodes leaves n t long some le lt =
    elim (cases_lt 1 n) [
      | inl more ↦
          let h = half n in
          let up = le_above nodes n h.0 t (omega (arith, more, h.1, h.2)) (omega (arith, long, lt, h.1)) h.1 h.2 in
          let rest = le_root k nodes leaves h.0 t long (omega (arith, more, h.1, h.2)) (omega (arith, more, le, h.1)) (omega (arith, lt, h.1)) in
          omega (arith, up, rest)
      | inr one ↦ let e : n ≡ 1 = omega arith in omega (arith, ap (λ (i : ℕ). get_or nodes i 0) e)
    ]

-- the next level has twice as many nodes
pub level_more : (k : ℕ) → 2 ^ (k + 1) ≡ 2 * 2 ^ k
level_more k = omega (arith, pow-add 2 k 1)

-- a tree has fewer levels than leaves
pub height_below : (height : ℕ) → height < 2 ^ height
height_below zero = omega arith
height_below (suc h) =
    let e : suc h ≡ h + 1 = omega arith in
    rw e (omega (arith, height_below h, level_more h))

-- a level above the leaves has no more than half as many nodes
pub level_below : (k height : ℕ) → k < height → 2 * 2 ^ k ≤ 2 ^ height
level_below k height lt =
    elim (cases_lt (k + 1) height) [
      | inl more ↦ omega (arith, level_more k, pow_below (k + 1) height more)
      | inr last ↦ let e : height ≡ k + 1 = omega arith in omega (arith, level_more k, ap (λ (i : ℕ). 2 ^ i) e)
    ]

-- on the next level the first node with the room is below the first one on this level: the left one if it has the room, and
-- else the right one
pub first_left : {nodes : List ℕ} {start len node : ℕ} → IsTournament nodes → 0 < start → 2 * node + 1 < length nodes →
    IsFirstFrom nodes start len node → len ≤ get_or nodes (2 * node) 0 → IsFirstFrom nodes (2 * start) len (2 * node)
first_left {nodes = nodes} {start = start} {len = len} {node = node} t some inside f fits = record {
  after = omega (arith, f.after);
  passes = fits;
  first = λ n low lt.
      let h = half n in
      let up = le_above nodes n h.0 t (omega (arith, some, low, h.2)) (omega (arith, inside, lt, h.1)) h.1 h.2 in
      omega (arith, up, f.first h.0 (omega (arith, low, h.2)) (omega (arith, lt, h.1)));
}

pub first_right : {nodes : List ℕ} {start len node : ℕ} → IsTournament nodes → 0 < start → 2 * node + 1 < length nodes →
    IsFirstFrom nodes start len node → get_or nodes (2 * node) 0 < len → IsFirstFrom nodes (2 * start) len (2 * node + 1)
first_right {nodes = nodes} {start = start} {len = len} {node = node} t some inside f fails = record {
  after = omega (arith, f.after);
  passes = let h = t node (omega (arith, some, f.after)) inside in omega (arith, h, fails, f.passes);
  first = λ n low lt.
      elim (cases_eq n (2 * node)) [
        | inl e ↦ omega (arith, fails, ap (λ (i : ℕ). get_or nodes i 0) e)
        | inr ne ↦
            let h = half n in
            let up = le_above nodes n h.0 t (omega (arith, some, low, h.2)) (omega (arith, inside, lt, h.1)) h.1 h.2 in
            omega (arith, up, f.first h.0 (omega (arith, low, h.2)) (omega (arith, lt, ne, h.1)))
      ];
}

position_at : (p : ℕ → Bool) (xs : List ℕ) (i : ℕ) → i < length xs → ((k : ℕ) → k < i → p (get_or xs k 0) ≡ false) → p (get_or xs i 0) ≡ true →
    Some i ≡ position p xs
position_at p xs i lt before here =
    let e : position_or_len p xs ≡ i = position_or_len_is p xs i 0 (omega (arith, lt)) before (λ _. here) in
    rw (e, lt-ltb i (length xs) lt) refl

position_none : (p : ℕ → Bool) (xs : List ℕ) → ((k : ℕ) → k < length xs → p (get_or xs k 0) ≡ false) → None ≡ position p xs
position_none p xs fails =
    let e : position_or_len p xs ≡ length xs = position_or_len_is p xs (length xs) 0 (omega arith) fails (λ lt. absurd (omega (arith, lt))) in
    rw (e, le-ltb (length xs) (length xs) (omega arith)) refl

-- the room of a page is that of its leaf
room_at : (nodes : List ℕ) (leaves count k : ℕ) → k < count → get_or (take count (drop leaves nodes)) k 0 ≡ get_or nodes (leaves + k) 0
room_at nodes leaves count k lt = get_or-take count (drop leaves nodes) k 0 lt ∙ get_or-drop leaves nodes k 0

count_is : {nodes : List ℕ} {leaves height count : ℕ} → IsRooms nodes leaves height count → length (take count (drop leaves nodes)) ≡ count
count_is {nodes = nodes} {leaves = leaves} {count = count} r =
    length-take-le count (drop leaves nodes) (omega (arith, r.counted, r.long, length-drop leaves nodes))

-- no page has more room than the root
pub none_in_root : {nodes : List ℕ} {leaves height count : ℕ} → IsRooms nodes leaves height count → (len : ℕ) → 0 < count →
    get_or nodes 1 0 < len → None ≡ position (λ room. nat_le len room) (take count (drop leaves nodes))
none_in_root {nodes = nodes} {leaves = leaves} {count = count} r len some less =
    position_none (λ room. nat_le len room) (take count (drop leaves nodes)) (λ k lt.
    let below : k < count = omega (arith, lt, count_is r) in
    let is = room_at nodes leaves count k below in
    let root = le_root (leaves + k) nodes leaves (leaves + k) r.tournament r.long (omega (arith, some, r.counted)) (omega arith)
    (omega (arith, below, r.counted, r.long)) in
    lt-leb len (get_or (take count (drop leaves nodes)) k 0) (omega (arith, is, root, less)))

-- the first leaf with the room is that of the first page with the room
pub first_page : {nodes : List ℕ} {leaves height count : ℕ} → IsRooms nodes leaves height count → (len node : ℕ) → 0 < len →
    IsFirstFrom nodes leaves len node → Some (node - leaves) ≡ position (λ room. nat_le len room) (take count (drop leaves nodes))
first_page {nodes = nodes} {leaves = leaves} {count = count} r len node some f =
    let page = node - leaves in
    let leaf : leaves + page ≡ node = omega (arith, f.after) in
    let here : get_or nodes (leaves + page) 0 ≡ get_or nodes node 0 = ap (λ (i : ℕ). get_or nodes i 0) leaf in
    let below : page < count =
    elim (cases_lt page count) [
      | inl lt ↦ lt
      | inr past ↦ absurd (omega (arith, some, f.passes, here, r.unused page past, get_or-drop leaves nodes page 0))
    ] in
    position_at (λ room. nat_le len room) (take count (drop leaves nodes)) page (omega (arith, below, count_is r))
    (λ k lt.
    let is = room_at nodes leaves count k (omega (arith, lt, below)) in
    let less = f.first (leaves + k) (omega arith) (omega (arith, lt, leaf)) in
    lt-leb len (get_or (take count (drop leaves nodes)) k 0) (omega (arith, is, less)))
    (let is = room_at nodes leaves count page below in
    le-leb len (get_or (take count (drop leaves nodes)) page 0) (omega (arith, is, here, f.passes)))
