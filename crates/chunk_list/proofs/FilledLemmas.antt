-- Lemmas on chunks that are filled one behind the other.
use Rattle.std.proofs.Common.{◌≡◌, ℕ, zero, suc, ◌+◌, ◌-◌, ◌*◌, ◌<◌, ◌≤◌, min, List, [], ◌∷◌, ◌++◌, length, get_or, set, flat_map, vec_items, vec_capacity}
use Rattle.std.proofs.Common.{refl, sym, ap, ◌∙◌, subst, arith}
use Rattle.std.proofs.lemmas.List.{length-append, length_push, append-nil, append_assoc, get_or_append_left, get_or-append_right, set-append_left}
use Rattle.std.proofs.lemmas.List.{set-append_right, nil_from_length}
use Rattle.std.proofs.lemmas.List.Concat.{flat_map-append}
use Rattle.std.proofs.lemmas.List.Elements.{All-push}
use Rattle.std.specs.Global.{Vec}
use Rattle.chunk_list.specs.Filled.{AreFilled, Grows}

module _ {T : Type 0} where
  -- there are as many items
  pub length-filled : (n : ℕ) (chunks : List (Vec T)) → AreFilled n chunks → length (flat_map vec_items chunks) ≡ n
  length-filled n [] h = sym h
  length-filled n (chunk ∷ chunks) h = omega (arith, length-append chunk.items (flat_map vec_items chunks), h.0, length-filled (n - 1024) chunks h.1)

  pub filled-le : (n : ℕ) (chunks : List (Vec T)) → AreFilled n chunks → n ≤ 1024 * length chunks
  filled-le n [] h = omega (arith, h)
  filled-le n (chunk ∷ chunks) h = omega (arith, filled-le (n - 1024) chunks h.1)

  -- how many items the chunk at q has
  pub length-chunk : (n q : ℕ) (chunks : List (Vec T)) (d : Vec T) → AreFilled n chunks → q < length chunks
      → length (get_or chunks q d).items ≡ min 1024 (n - 1024 * q)
  length-chunk n q [] d h l = absurd (omega (arith, l))
  length-chunk n zero (chunk ∷ chunks) d h l = let same : min 1024 n ≡ min 1024 (n - 1024 * zero) = omega arith in h.0 ∙ same
  length-chunk n (suc q) (chunk ∷ chunks) d h l =
      let same : min 1024 (n - 1024 - 1024 * q) ≡ min 1024 (n - 1024 * suc q) = omega arith in
      length-chunk (n - 1024) q chunks d h.1 (omega (arith, l)) ∙ same

  -- the item at a place stands in its chunk
  pub get_or-filled : (n q r : ℕ) (chunks : List (Vec T)) (d : Vec T) (e : T) → AreFilled n chunks → r < 1024 → 1024 * q + r < n
      → get_or (flat_map vec_items chunks) (1024 * q + r) e ≡ get_or (get_or chunks q d).items r e
  get_or-filled n q r [] d e h l m = absurd (omega (arith, h))
  get_or-filled n zero r (chunk ∷ chunks) d e h l m =
      let at : 1024 * zero + r ≡ r = omega arith in
      let within : r < length chunk.items = omega (arith, h.0) in
      rw at (get_or_append_left chunk.items (flat_map vec_items chunks) e r within)
  get_or-filled n (suc q) r (chunk ∷ chunks) d e h l m =
      let full : length chunk.items ≡ 1024 = omega (arith, h.0) in
      let past : 1024 ≤ 1024 * suc q + r = omega arith in
      let at : 1024 * suc q + r - 1024 ≡ 1024 * q + r = omega arith in
      get_or-append_right chunk.items (flat_map vec_items chunks) 1024 (1024 * suc q + r) e full past
      ∙ ap (λ k. get_or (flat_map vec_items chunks) k e) at
      ∙ get_or-filled (n - 1024) q r chunks d e h.1 l (omega arith)

  -- one item more, in the first chunk that has a place
  pub filled-push : (n q r : ℕ) (chunks : List (Vec T)) (d grown : Vec T) (x : T) → AreFilled n chunks → n ≡ 1024 * q + r → r < 1024 → q < length chunks
      → grown.items ≡ (get_or chunks q d).items ++ x ∷ [] → AreFilled (n + 1) (set chunks q grown)
  filled-push n q r [] d grown x h e l i p = absurd (omega (arith, i))
  filled-push n zero r (chunk ∷ chunks) d grown x h e l i p =
      let one : length grown.items ≡ length chunk.items + 1 = ap length p ∙ length_push chunk.items x in
      let none : n - 1024 ≡ n + 1 - 1024 = omega arith in
      (omega (arith, one, h.0), subst (λ m. AreFilled m chunks) none h.1)
  filled-push n (suc q) r (chunk ∷ chunks) d grown x h e l i p =
      let next : n - 1024 + 1 ≡ n + 1 - 1024 = omega arith in (
        omega (arith, h.0),
        subst (λ m. AreFilled m (set chunks q grown)) next (filled-push (n - 1024) q r chunks d grown x h.1 (omega arith) l (omega
            (arith, i)) p),
      )

  pub flat_map-push : (n q r : ℕ) (chunks : List (Vec T)) (d grown : Vec T) (x : T) → AreFilled n chunks → n ≡ 1024 * q + r → r < 1024 → q < length chunks
      → grown.items ≡ (get_or chunks q d).items ++ x ∷ [] → flat_map vec_items (set chunks q grown) ≡ flat_map vec_items chunks ++ x ∷ []
  flat_map-push n q r [] d grown x h e l i p = absurd (omega (arith, i))
  flat_map-push n zero r (chunk ∷ chunks) d grown x h e l i p =
      let none : flat_map vec_items chunks ≡ [] = nil_from_length (flat_map vec_items chunks) (omega (arith, length-filled (n - 1024) chunks h.1)) in
      rw (none, append-nil chunk.items, append-nil grown.items) p
  flat_map-push n (suc q) r (chunk ∷ chunks) d grown x h e l i p =
      ap (λ ys. chunk.items ++ ys) (flat_map-push (n - 1024) q r chunks d grown x h.1 (omega arith) l (omega (arith, i)) p)
      ∙ sym (append_assoc chunk.items (flat_map vec_items chunks) (x ∷ []))

  -- another item at a place
  pub filled-write : (n q : ℕ) (chunks : List (Vec T)) (d written : Vec T) → AreFilled n chunks → q < length chunks
      → length written.items ≡ length (get_or chunks q d).items → AreFilled n (set chunks q written)
  filled-write n q [] d written h l e = absurd (omega (arith, l))
  filled-write n zero (chunk ∷ chunks) d written h l e = (e ∙ h.0, h.1)
  filled-write n (suc q) (chunk ∷ chunks) d written h l e = (h.0, filled-write (n - 1024) q chunks d written h.1 (omega (arith, l)) e)

  pub flat_map-write : (n q r : ℕ) (chunks : List (Vec T)) (d written : Vec T) (w : T) → AreFilled n chunks → r < 1024 → 1024 * q + r < n
      → written.items ≡ set (get_or chunks q d).items r w → flat_map vec_items (set chunks q written) ≡ set (flat_map vec_items chunks) (1024 * q + r) w
  flat_map-write n q r [] d written w h l m p = absurd (omega (arith, h))
  flat_map-write n zero r (chunk ∷ chunks) d written w h l m p =
      let at : 1024 * zero + r ≡ r = omega arith in
      let within : r < length chunk.items = omega (arith, h.0) in
      rw at (ap (λ ys. ys ++ flat_map vec_items chunks) p ∙ sym (set-append_left chunk.items (flat_map vec_items chunks) r w within))
  flat_map-write n (suc q) r (chunk ∷ chunks) d written w h l m p =
      let full : length chunk.items ≡ 1024 = omega (arith, h.0) in
      let past : 1024 ≤ 1024 * suc q + r = omega arith in
      let at : 1024 * suc q + r - 1024 ≡ 1024 * q + r = omega arith in
      ap (λ ys. chunk.items ++ ys) (flat_map-write (n - 1024) q r chunks d written w h.1 l (omega arith) p)
      ∙ sym (set-append_right chunk.items (flat_map vec_items chunks) 1024 (1024 * suc q + r) w full past
      ∙ ap (λ k. chunk.items ++ set (flat_map vec_items chunks) k w) at)

  -- an empty chunk more
  pub filled-append : (n : ℕ) (chunks : List (Vec T)) (empty : Vec T) → AreFilled n chunks → empty.items ≡ [] → AreFilled n (chunks ++ empty ∷ [])
  filled-append n [] empty h e = (omega (arith, ap length e, h), omega (arith, h))
  filled-append n (chunk ∷ chunks) empty h e = (h.0, filled-append (n - 1024) chunks empty h.1 e)

  pub Grows-none : (chunks : List (Vec T)) → Grows chunks chunks
  Grows-none chunks = record { filled = λ n h. h; items = refl; places = λ h. h; longer = omega arith }

  pub Grows-push : (old new : List (Vec T)) (empty : Vec T) → Grows old new → empty.items ≡ [] → 1024 ≤ vec_capacity empty → Grows old (new ++ empty ∷ [])
  Grows-push old new empty g e p = record {
    filled = λ n h. filled-append n new empty (g.filled n h) e;
    items = flat_map-append vec_items new (empty ∷ []) ∙ rw (e, append-nil (flat_map vec_items new)) g.items;
    places = λ h. All-push (λ (chunk : Vec T). 1024 ≤ vec_capacity chunk) new empty (g.places h) p;
    longer = omega (arith, g.longer, length_push new empty);
  }
