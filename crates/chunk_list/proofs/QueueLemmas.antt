-- Lemmas on the chunks of a queue.
use Rattle.std.proofs.Common.{◌≡◌, ℕ, zero, suc, ◌+◌, ◌*◌, ◌≤◌, List, [], ◌∷◌, ◌++◌, length, take, drop, flat_map, All, deque_items, Global, refl, sym, ap}
use Rattle.std.proofs.Common.{◌∙◌, arith}
use Rattle.std.proofs.lemmas.List.{length-append, length-take-le, append-nil, append_assoc, take-append-drop, drop-drop, nil_from_length}
use Rattle.std.proofs.lemmas.List.Concat.{flat_map-append}
use Rattle.std.proofs.lemmas.List.Elements.{All-head, All-tail, All-take}
use Rattle.std.specs.declared.collections.VecDeque.{VecDeque}
use Rattle.chunk_list.specs.Chunks.{chunk_items, IsFull, AreKept}
use Rattle.chunk_list.specs.Moves.{MovesFull, MovesLast}
use Rattle.chunk_list.specs.declared.chunks.Chunks.{Chunks}

module _ {T : Type 0} where
  -- full chunks have 1,024 items each
  pub length-full : (chunks : List (VecDeque T Global)) → All IsFull chunks → length (flat_map deque_items chunks) ≡ 1024 * length chunks
  length-full [] h = refl
  length-full (chunk ∷ chunks) h =
      omega (
        arith,
        length-append chunk.items (flat_map deque_items chunks),
        chunk.ok.0,
        All-head IsFull chunk chunks h,
        length-full chunks (All-tail IsFull chunk chunks h),
      )

  -- where nothing is in such chunks, there is none
  pub none-full : (chunks : List (VecDeque T Global)) → All IsFull chunks → length (flat_map deque_items chunks) ≡ 0 → chunks ≡ []
  none-full chunks h e = nil_from_length chunks (omega (arith, length-full chunks h))

  -- the first chunk, some full ones and nothing more, before the other full ones and the last
  pub chunks-apart : (first last : List T) (full : List (VecDeque T Global)) (count : ℕ)
      → (first ++ (flat_map deque_items (take count full) ++ [])) ++ (flat_map deque_items (drop count full) ++ last) ≡ first ++ (flat_map deque_items full
      ++ last)
  chunks-apart first last full count =
      let taken : List T = flat_map deque_items (take count full) in
      let left : List T = flat_map deque_items (drop count full) in
      let whole : taken ++ left ≡ flat_map deque_items full =
      sym (flat_map-append deque_items (take count full) (drop count full)) ∙ ap (flat_map deque_items) (take-append-drop count full) in
      rw (append-nil taken, append_assoc first taken (left ++ last)) (ap (λ xs. first ++ xs) (sym (append_assoc taken left last) ∙ ap (λ xs. xs ++ last) whole))

pub take-add : {X : Type 0} → (m n : ℕ) (xs : List X) → take (m + n) xs ≡ take m xs ++ take n (drop m xs)
take-add zero n xs = let same : zero + n ≡ n = omega arith in rw same refl
take-add (suc m) n [] = let e : suc m + n ≡ suc (m + n) = omega arith in rw e (nil m n)
  where
    nil : {X : Type 0} → (m n : ℕ) → take {A = X} (suc (m + n)) [] ≡ take (suc m) [] ++ take n (drop (suc m) [])
    nil m zero = refl
    nil m (suc n) = refl
take-add (suc m) n (x ∷ xs) = let e : suc m + n ≡ suc (m + n) = omega arith in rw e (ap (λ ys. x ∷ ys) (take-add m n xs))

module _ {T : Type 0} where
  -- a full chunk more
  pub chunk-pushed : (full : List (VecDeque T Global)) (chunk : VecDeque T Global)
      → flat_map deque_items (full ++ chunk ∷ []) ≡ flat_map deque_items full ++ chunk.items
  chunk-pushed full chunk = flat_map-append deque_items full (chunk ∷ []) ∙ ap (λ xs. flat_map deque_items full ++ xs) (append-nil chunk.items)

  pub chunk-begun : (first last : List T) (full new_full : List (VecDeque T Global)) (filled next : VecDeque T Global)
      → new_full ≡ full ++ filled ∷ [] → filled.items ≡ last → next.items ≡ []
      → first ++ (flat_map deque_items new_full ++ next.items) ≡ first ++ (flat_map deque_items full ++ last)
  chunk-begun first last full new_full filled next e f n = rw (e, chunk-pushed full filled, f, n, append-nil (flat_map deque_items full ++ last)) refl

  -- how many items there are
  pub length-chunks : (chunks : Chunks T) (first last : List T) (full : List (VecDeque T Global)) → chunks.first.items ≡ first → chunks.full.items ≡ full
      → chunks.last.items ≡ last
      → All IsFull full → length (chunk_items chunks) ≡ length first + 1024 * length full + length last
  length-chunks chunks first last full e f l h =
      rw (e, f, l) (omega (arith, length-append first (flat_map deque_items full ++ last), length-append (flat_map deque_items full) last, length-full full h))

  -- one step more
  pub MovesFull-more : (count : ℕ) (from to mid mid_to new new_to : Chunks T) → MovesFull count from to mid mid_to → MovesFull 1 mid mid_to new new_to
      → MovesFull (count + 1) from to new new_to
  MovesFull-more count from to mid mid_to new new_to h s =
      let all : List (VecDeque T Global) = from.full.items in
      record {
        left = s.left ∙ ap (drop 1) h.left ∙ drop-drop 1 count all;
        moved = s.moved ∙ ap (λ ys. ys ++ take 1 mid.full.items) h.moved ∙ append_assoc to.full.items (take count all) (take 1 mid.full.items)
            ∙ ap (λ ys. to.full.items ++ ys) (ap (λ zs. take count all ++ take 1 zs) h.left ∙ sym (take-add count 1 all));
        first = s.first ∙ h.first;
        last = s.last ∙ h.last;
        to_first = s.to_first ∙ h.to_first;
        to_last = s.to_last ∙ h.to_last;
        spare = omega (arith, h.spare, s.spare);
        to_spare = omega (arith, h.to_spare, s.to_spare);
      }

module _ {T : Type 0} (self taken from to new new_to : Chunks T) (count : ℕ) (kept : AreKept self) (taken_kept : AreKept taken) (empty : chunk_items taken ≡ [])
    (from_first : from.first ≡ taken.first) (from_full : from.full ≡ self.full) (from_last : from.last ≡ self.last)
    (to_first : to.first ≡ self.first) (to_full : to.full ≡ taken.full) (to_last : to.last ≡ taken.last) (moves : MovesFull count from to new new_to) where
  lengths : length taken.first.items + (length (flat_map deque_items taken.full.items) + length taken.last.items) ≡ 0
  lengths = omega (
    arith,
    ap length empty,
    length-append taken.first.items (flat_map deque_items taken.full.items ++ taken.last.items),
    length-append (flat_map deque_items taken.full.items) taken.last.items,
  )

  pub left-first : new.first.items ≡ []
  left-first = ap deque_items (moves.first ∙ from_first) ∙ nil_from_length taken.first.items (omega (arith, lengths))

  pub left-full : new.full.items ≡ drop count self.full.items
  left-full = moves.left ∙ ap (λ (d : VecDeque (VecDeque T Global) Global). drop count d.items) from_full

  pub left-last : new.last.items ≡ self.last.items
  left-last = ap deque_items (moves.last ∙ from_last)

  pub taken-first : new_to.first.items ≡ self.first.items
  taken-first = ap deque_items (moves.to_first ∙ to_first)

  pub taken-full : new_to.full.items ≡ take count self.full.items
  taken-full =
      let none : to.full.items ≡ [] = ap deque_items to_full ∙ none-full taken.full.items taken_kept.full (omega (arith, lengths)) in
      moves.moved ∙ ap (λ ys. ys ++ take count from.full.items) none ∙ ap (λ (d : VecDeque (VecDeque T Global) Global). take count d.items) from_full

  pub taken-last : new_to.last.items ≡ []
  taken-last = ap deque_items (moves.to_last ∙ to_last) ∙ nil_from_length taken.last.items (omega (arith, lengths))

  pub taken-items : chunk_items new_to ++ chunk_items new ≡ chunk_items self
  taken-items =
      rw (taken-first, taken-full, taken-last, left-first, left-full, left-last) (chunks-apart self.first.items self.last.items self.full.items count)

  -- how many items went, before the last chunk and with it
  pub taken-length : count ≤ length self.full.items → length (chunk_items new_to) ≡ length self.first.items + 1024 * count
  taken-length l =
      let cut : length (take count self.full.items) ≡ count = length-take-le count self.full.items l in
      let all = length-chunks new_to self.first.items [] (take count self.full.items) taken-first taken-full taken-last (All-take IsFull count
      self.full.items kept.full) in
      omega arith

  pub taken-length_all : (last_from last_to : Chunks T) → MovesLast new new_to last_from last_to → count ≤ length self.full.items
      → length (chunk_items last_to) ≡ length self.first.items + 1024 * count + length self.last.items
  taken-length_all last_from last_to m l =
      let cut : length (take count self.full.items) ≡ count = length-take-le count self.full.items l in
      let all = length-chunks last_to self.first.items self.last.items (take count self.full.items) (ap deque_items m.to_first
      ∙ taken-first) (ap deque_items m.to_full ∙ taken-full)
      (m.moved ∙ left-last) (All-take IsFull count self.full.items kept.full) in
      omega arith
