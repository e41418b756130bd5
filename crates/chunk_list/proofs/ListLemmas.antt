-- Lemmas on a list as its chunks keep it.
use Rattle.std.proofs.Common.{◌≡◌, ℕ, ◌+◌, ◌-◌, ◌*◌, ◌/◌, ◌%◌, ◌<◌, ◌≤◌, min, List, [], ◌∷◌, ◌++◌, length, get_or, set, flat_map}
use Rattle.std.proofs.Common.{vec_items, vec_len, vec_capacity, sym, ap, ◌∙◌, arith}
use Rattle.std.proofs.lemmas.List.{length-set}
use Rattle.std.proofs.lemmas.List.Elements.{All-get_or, All-set}
use Rattle.std.specs.Global.{Vec}
use Rattle.std.specs.Vec.{with_item}
use Rattle.chunk_list.specs.Filled.{IsList}
use Rattle.chunk_list.proofs.FilledLemmas.{length-filled, filled-le, length-chunk, get_or-filled, filled-push, flat_map-push, filled-write, flat_map-write}

module _ {T : Type 0} (chunks : List (Vec T)) (len room : ℕ) (list : IsList chunks len room) where
  pub counted : len ≡ length (flat_map vec_items chunks)
  counted = sym (length-filled len chunks list.filled)

  pub chunk-there : (place : ℕ) → place < len → place / 1024 < length chunks
  chunk-there place l = let most = filled-le len chunks list.filled in omega arith

  -- what chunk e stands at q
  chunk-length : (q : ℕ) (e : Vec T) → q < length chunks → e ≡ get_or chunks q e → vec_len e ≡ min 1024 (len - 1024 * q)
  chunk-length q e l is =
      let here : length e.items ≡ length (get_or chunks q e).items = ap (λ (v : Vec T). length v.items) is in
      e.ok.0 ∙ here ∙ length-chunk len q chunks e list.filled l

  pub place-there : (place : ℕ) (e : Vec T) → place < len → e ≡ get_or chunks (place / 1024) e → place % 1024 < vec_len e
  place-there place e l is = let has = chunk-length (place / 1024) e (chunk-there place l) is in omega arith

  pub item-there : (place : ℕ) (e : Vec T) (x : T) → place < len → e ≡ get_or chunks (place / 1024) e → x ≡ get_or e.items (place % 1024) x
      → x ≡ get_or (flat_map vec_items chunks) place x
  item-there place e x l is has =
      let split : 1024 * (place / 1024) + place % 1024 ≡ place = omega arith in
      let small : place % 1024 < 1024 = omega arith in
      let within : 1024 * (place / 1024) + place % 1024 < len = omega arith in
      let same = get_or-filled len (place / 1024) (place % 1024) chunks e x list.filled small within in
      let here : get_or e.items (place % 1024) x ≡ get_or (get_or chunks (place / 1024) e).items (place % 1024) x = ap (λ (v : Vec T). get_or v.items
      (place % 1024) x) is in
      let at : get_or (flat_map vec_items chunks) (1024 * (place / 1024) + place % 1024) x ≡ get_or (flat_map vec_items chunks) place x = ap (λ k. get_or
      (flat_map vec_items chunks) k x) split in
      has ∙ here ∙ sym same ∙ at

  -- the first chunk with a free place has one
  pub chunk-open : 0 < room → len / 1024 < length chunks
  chunk-open some = let most = list.has_room in omega arith

  pub place-open : (e : Vec T) → 0 < room → e ≡ get_or chunks (len / 1024) e → vec_len e < vec_capacity e
  place-open e some is =
      let there = chunk-open some in
      let has = chunk-length (len / 1024) e there is in
      let big : 1024 ≤ vec_capacity (get_or chunks (len / 1024) e) = All-get_or (λ (v : Vec T). 1024 ≤ vec_capacity v) chunks (len / 1024) e there
      list.places in
      let same : vec_capacity e ≡ vec_capacity (get_or chunks (len / 1024) e) = ap (λ (v : Vec T). vec_capacity v) is in
      omega arith

  module _ (e grown : Vec T) (x : T) (some : 0 < room) (is : e ≡ get_or chunks (len / 1024) e) (more : grown.items ≡ e.items ++ x ∷ []) where
    in_chunk : grown.items ≡ (get_or chunks (len / 1024) e).items ++ x ∷ []
    in_chunk = more ∙ ap (λ (v : Vec T). v.items ++ x ∷ []) is

    pub push-kept : vec_capacity grown ≡ vec_capacity e → IsList (set chunks (len / 1024) grown) (len + 1) (room - 1)
    push-kept same =
        let there = chunk-open some in
        let split : len ≡ 1024 * (len / 1024) + len % 1024 = omega arith in
        let small : len % 1024 < 1024 = omega arith in
        let big : 1024 ≤ vec_capacity (get_or chunks (len / 1024) e) = All-get_or (λ (v : Vec T). 1024 ≤ vec_capacity v) chunks (len / 1024) e there
        list.places in
        let same_e : vec_capacity e ≡ vec_capacity (get_or chunks (len / 1024) e) = ap (λ (v : Vec T). vec_capacity v) is in
        let room_is = list.has_room in
        let count_is = list.countable in
        record {
          filled = filled-push len (len / 1024) (len % 1024) chunks e grown x list.filled split small there in_chunk;
          places = All-set (λ (v : Vec T). 1024 ≤ vec_capacity v) chunks (len / 1024) grown (omega arith) list.places;
          has_room = omega (arith, length-set chunks (len / 1024) grown);
          countable = omega arith;
        }

    pub push-items : flat_map vec_items (set chunks (len / 1024) grown) ≡ flat_map vec_items chunks ++ x ∷ []
    push-items =
        let split : len ≡ 1024 * (len / 1024) + len % 1024 = omega arith in
        let small : len % 1024 < 1024 = omega arith in
        flat_map-push len (len / 1024) (len % 1024) chunks e grown x list.filled split small (chunk-open some) in_chunk

  module _ (place : ℕ) (e : Vec T) (w : T) (l : place < len) (is : e ≡ get_or chunks (place / 1024) e) where
    pub write-kept : IsList (set chunks (place / 1024) (with_item e (place % 1024) w)) len room
    write-kept =
        let there = chunk-there place l in
        let long : length (set e.items (place % 1024) w) ≡ length (get_or chunks (place / 1024) e).items =
        length-set e.items (place % 1024) w ∙ ap (λ (v : Vec T). length v.items) is in
        let big : 1024 ≤ vec_capacity (get_or chunks (place / 1024) e) = All-get_or (λ (v : Vec T). 1024 ≤ vec_capacity v) chunks (place / 1024) e there
        list.places in
        let same_e : vec_capacity e ≡ vec_capacity (get_or chunks (place / 1024) e) = ap (λ (v : Vec T). vec_capacity v) is in
        let has : 1024 ≤ vec_capacity e = omega arith in
        let room_is = list.has_room in
        record {
          filled = filled-write len (place / 1024) chunks e (with_item e (place % 1024) w) list.filled there long;
          places = All-set (λ (v : Vec T). 1024 ≤ vec_capacity v) chunks (place / 1024) (with_item e (place % 1024) w) has list.places;
          has_room = omega (arith, length-set chunks (place / 1024) (with_item e (place % 1024) w));
          countable = list.countable;
        }

    pub write-items : flat_map vec_items (set chunks (place / 1024) (with_item e (place % 1024) w)) ≡ set (flat_map vec_items chunks) place w
    write-items =
        let split : 1024 * (place / 1024) + place % 1024 ≡ place = omega arith in
        let small : place % 1024 < 1024 = omega arith in
        let within : 1024 * (place / 1024) + place % 1024 < len = omega arith in
        let written : set e.items (place % 1024) w ≡ set (get_or chunks (place / 1024) e).items (place % 1024) w = ap (λ (v : Vec T). set v.items (place %
        1024) w) is in
        flat_map-write len (place / 1024) (place % 1024) chunks e (with_item e (place % 1024) w) w list.filled small within written
        ∙ ap (λ k. set (flat_map vec_items chunks) k w) split
