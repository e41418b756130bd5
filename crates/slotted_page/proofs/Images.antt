-- What the bytes of a page say: its head, its entries and its slots.
use Rattle.std.proofs.Common.{◌≡◌, ℕ, ◌+◌, ◌-◌, ◌*◌, ◌≤◌, ◌<◌, suc, zero, List, [], ◌∷◌, ◌++◌, length, get_or, set, take, drop, refl, sym, ap, ◌∙◌, arith}
use Rattle.std.proofs.Common.{false, append_assoc}
use Rattle.std.specs.Prelude.{nat_eq}
use Rattle.std.specs.List.{All, flat_map, sum_by}
use Rattle.std.proofs.lemmas.Bool.{ne_eqb}
use Rattle.std.proofs.lemmas.List.{get_or-map, drop-drop, drop-take, length-map, length-append, take_at, drop_at, take-take, take-append-drop, length-take-le}
use Rattle.std.proofs.lemmas.List.{set_split, flat_map_more}
use Rattle.std.proofs.lemmas.List.Concat.{flat_map-append}
use Rattle.std.proofs.lemmas.List.Elements.{All-head, All-tail}
use Rattle.std.proofs.lemmas.List.Sums.{sum_by-cons}
use Rattle.std.proofs.Math.Seq.{take-add}
use Rattle.byteorder.specs.Endian.{big_bytes, big_number}
use Rattle.byteorder.specs.Numbers.{big_from-take, big_number-reads_back}
use Rattle.slotted_page.specs.Slot.{free}
use Rattle.slotted_page.specs.Entry.{slot_of, entry_reserve, IsPlaced}
use Rattle.keybytes.specs.Writes.{overwritten}
use Rattle.slotted_page.specs.Image.{number_at, three, entry_bytes, head_bytes, entry_from, first_entry, read_entries, image_entries, slots_in}
use Rattle.slotted_page.specs.Image.{KeepsFormat}
use Rattle.slotted_page.specs.declared.entry.Entry.{Entry}
use Rattle.slotted_page.specs.declared.entry.Entry.TheVariants.{Free, Held, Row}
use Rattle.slotted_page.proofs.Writes.{rest-overwritten}

-- a number is read back from its two bytes
number_back : (n : ℕ) (rest : List ℕ) → n < 65536 → big_number 2 (big_bytes 2 n ++ rest) ≡ n
number_back n rest h = big_number-reads_back 2 n rest h

-- what a page's first eight bytes say
pub record IsHead (image : List ℕ) (count floor : ℕ) : Type 0 where
  pub magic : take 2 image ≡ 83 ∷ 80 ∷ []
  pub zeros : take 2 (drop 6 image) ≡ 0 ∷ 0 ∷ []
  pub count_is : number_at image 2 ≡ count
  pub floor_is : number_at image 4 ≡ floor

pub head_written : (count floor : ℕ) (rest : List ℕ) → count < 65536 → floor < 65536 → IsHead (head_bytes count floor ++ rest) count floor
head_written count floor rest c f = record {
  magic = refl;
  zeros = refl;
  count_is = number_back count (big_bytes 2 floor ++ (0 ∷ 0 ∷ rest)) c;
  floor_is = number_back floor (0 ∷ 0 ∷ rest) f;
}

-- a number among the first eight bytes
number_in_head : (a b : List ℕ) (i n : ℕ) → i + n ≡ 8 → 2 ≤ n → take 8 b ≡ take 8 a → number_at b i ≡ number_at a i
number_in_head a b i n e le same =
    let front : (xs : List ℕ) → number_at xs i ≡ big_number 2 (drop i (take 8 xs)) =
    λ xs. sym (big_from-take 0 2 n (drop i xs) (omega arith)) ∙ ap (big_number 2) (sym (drop-take i n xs) ∙ ap (λ (m : ℕ). drop i (take m xs)) e) in
    front b ∙ ap (λ (xs : List ℕ). big_number 2 (drop i xs)) same ∙ sym (front a)

-- a page with the same first eight bytes
pub head_same : {a : List ℕ} {count floor : ℕ} → (b : List ℕ) → take 8 b ≡ take 8 a → IsHead a count floor → IsHead b count floor
head_same {a = a} b same h = record {
  magic = sym (take-take 2 8 b (omega arith)) ∙ ap (take 2) same ∙ take-take 2 8 a (omega arith) ∙ h.magic;
  zeros = sym (drop-take 6 2 b) ∙ ap (drop 6) same ∙ drop-take 6 2 a ∙ h.zeros;
  count_is = number_in_head a b 2 6 refl (omega arith) same ∙ h.count_is;
  floor_is = number_in_head a b 4 4 refl (omega arith) same ∙ h.floor_is;
}

pub length_entry : (e : Entry) → length (entry_bytes e) ≡ 6
length_entry Free = refl
length_entry (Held r) = refl
length_entry (Row o l r) = refl

pub length_flat : (es : List Entry) → length (flat_map entry_bytes es) ≡ 6 * length es
length_flat [] = refl
length_flat (e ∷ es) =
    let h = length_entry e in
    let t = length_flat es in
    let a = length-append (entry_bytes e) (flat_map entry_bytes es) in
    omega (arith, h, t, a)

first_row : (o l r : ℕ) (rest : List ℕ) → 0 < o → o < 65536 → l < 65536 → r < 65536 → first_entry (three o l r ++ rest) ≡ Row o l r
first_row o l r rest p a b c =
    let z : nat_eq o 0 ≡ false = ne_eqb o 0 (λ e. omega arith) in
    let x : number_at (three o l r ++ rest) 0 ≡ o = number_back o (big_bytes 2 l ++ (big_bytes 2 r ++ rest)) a in
    let y : number_at (three o l r ++ rest) 2 ≡ l = number_back l (big_bytes 2 r ++ rest) b in
    let w : number_at (three o l r ++ rest) 4 ≡ r = number_back r rest c in
    ap (λ (n : ℕ). entry_from n (number_at (three o l r ++ rest) 2) (number_at (three o l r ++ rest) 4)) x
    ∙ ap (λ (n : ℕ). entry_from o n (number_at (three o l r ++ rest) 4)) y ∙ ap (entry_from o l) w ∙ rw z refl

-- an entry is read back from its bytes
first_back : (floor : ℕ) (e : Entry) (rest : List ℕ) → 0 < floor → IsPlaced floor e → entry_reserve e ≤ 4096 → first_entry (entry_bytes e ++ rest) ≡ e
first_back floor Free rest p h le = refl
first_back floor (Held r) rest p h le = ap Held (number_back r rest (omega arith))
first_back floor (Row o l r) rest p h le =
    let low = h.0 in let high = h.1 in let size = h.3 in
    first_row o l r rest (omega arith) (omega arith) (omega arith) (omega arith)

-- the entries of a page are read back from their bytes
pub read_back : (floor : ℕ) (es : List Entry) (rest : List ℕ) → 0 < floor → All (IsPlaced floor) es → sum_by entry_reserve es ≤ 4096 →
    read_entries (length es) (flat_map entry_bytes es ++ rest) ≡ es
read_back floor [] rest p h le = refl
read_back floor (e ∷ es) rest p h le =
    let n = sum_by-cons entry_reserve e es in
    let more = flat_map entry_bytes es ++ rest in
    let a : (entry_bytes e ++ flat_map entry_bytes es) ++ rest ≡ entry_bytes e ++ more = append_assoc (entry_bytes e) (flat_map entry_bytes es) rest in
    let x : first_entry (entry_bytes e ++ more) ≡ e = first_back floor e more p (All-head (IsPlaced floor) e es h) (omega (arith, n, le)) in
    let y : drop 6 (entry_bytes e ++ more) ≡ more = drop_at (entry_bytes e) more 6 (length_entry e) in
    let z = read_back floor es rest p (All-tail (IsPlaced floor) e es h) (omega (arith, n, le)) in
    ap (read_entries (suc (length es))) a ∙ ap (λ (ys : List ℕ). first_entry (entry_bytes e ++ more) ∷ read_entries (length es) ys) y ∙ cc (x, z)

take_flat : (es : List Entry) (s : ℕ) → s ≤ length es → take (6 * s) (flat_map entry_bytes es) ≡ flat_map entry_bytes (take s es)
take_flat es s le =
    let n : length (flat_map entry_bytes (take s es)) ≡ 6 * s = length_flat (take s es) ∙ ap (λ (k : ℕ). 6 * k) (length-take-le s es le) in
    ap (λ (xs : List Entry). take (6 * s) (flat_map entry_bytes xs)) (sym (take-append-drop s es))
    ∙ ap (take (6 * s)) (flat_map-append entry_bytes (take s es) (drop s es))
    ∙ take_at (flat_map entry_bytes (take s es)) (flat_map entry_bytes (drop s es)) (6 * s) n

drop_flat : (es : List Entry) (s : ℕ) → s ≤ length es → drop (6 * s) (flat_map entry_bytes es) ≡ flat_map entry_bytes (drop s es)
drop_flat es s le =
    let n : length (flat_map entry_bytes (take s es)) ≡ 6 * s = length_flat (take s es) ∙ ap (λ (k : ℕ). 6 * k) (length-take-le s es le) in
    ap (λ (xs : List Entry). drop (6 * s) (flat_map entry_bytes xs)) (sym (take-append-drop s es))
    ∙ ap (drop (6 * s)) (flat_map-append entry_bytes (take s es) (drop s es))
    ∙ drop_at (flat_map entry_bytes (take s es)) (flat_map entry_bytes (drop s es)) (6 * s) n

-- the entries of a page that is the same up to their end
pub entries_front : (a b : List ℕ) (count : ℕ) → take (8 + 6 * count) b ≡ take (8 + 6 * count) a → take (6 * count) (drop 8 b) ≡ take (6 * count) (drop 8 a)
entries_front a b count same = sym (drop-take 8 (6 * count) b) ∙ ap (drop 8) same ∙ drop-take 8 (6 * count) a

-- the entries with another one written at s
pub entries_set : (es : List Entry) (count s : ℕ) (e : Entry) (image : List ℕ) → length es ≡ count → s < count → 8 + 6 * count ≤ length image →
    take (6 * count) (drop 8 image) ≡ flat_map entry_bytes es →
    take (6 * count) (drop 8 (overwritten (8 + 6 * s) (entry_bytes e) image)) ≡ flat_map entry_bytes (set es s e)
entries_set es count s e image n lt long is =
    let rest = drop 8 image in
    let six = length_entry e in
    let m = 6 * count - 6 * (s + 1) in
    let end : 6 * s + length (entry_bytes e) ≡ 6 * (s + 1) = omega (arith, six) in
    let all : 6 * (s + 1) + m ≡ 6 * count = omega arith in
    let front : take (6 * s) rest ≡ flat_map entry_bytes (take s es) =
    sym (take-take (6 * s) (6 * count) rest (omega arith)) ∙ ap (take (6 * s)) is ∙ take_flat es s (omega arith) in
    let back : take m (drop (6 * (s + 1)) rest) ≡ flat_map entry_bytes (drop (s + 1) es) =
    sym (drop-take (6 * (s + 1)) m rest) ∙ ap (λ (k : ℕ). drop (6 * (s + 1)) (take k rest)) all ∙ ap (drop (6 * (s + 1))) is
    ∙ drop_flat es (s + 1) (omega arith) in
    let written : drop 8 (overwritten (8 + 6 * s) (entry_bytes e) image) ≡ (flat_map entry_bytes (take s es) ++ entry_bytes e) ++ drop (6 * (s + 1)) rest =
    rest-overwritten 8 (6 * s) (entry_bytes e) image (omega arith)
    ∙ rw (front, end) (sym (append_assoc (flat_map entry_bytes (take s es)) (entry_bytes e) (drop (6 * (s + 1)) rest))) in
    let k : length (flat_map entry_bytes (take s es) ++ entry_bytes e) ≡ 6 * (s + 1) =
    omega (arith, length-append (flat_map entry_bytes (take s es)) (entry_bytes e), length_flat (take s es), length-take-le s es (omega arith), six) in
    let split : take (6 * count) ((flat_map entry_bytes (take s es) ++ entry_bytes e) ++ drop (6 * (s + 1)) rest)
    ≡ (flat_map entry_bytes (take s es) ++ entry_bytes e) ++ take m (drop (6 * (s + 1)) rest) =
    ap (λ (j : ℕ). take j ((flat_map entry_bytes (take s es) ++ entry_bytes e) ++ drop (6 * (s + 1)) rest)) (sym all)
    ∙ take-add (6 * (s + 1)) m ((flat_map entry_bytes (take s es) ++ entry_bytes e) ++ drop (6 * (s + 1)) rest)
    ∙ rw (
      take_at (flat_map entry_bytes (take s es) ++ entry_bytes e) (drop (6 * (s + 1)) rest) (6 * (s + 1)) k,
      drop_at (flat_map entry_bytes (take s es) ++ entry_bytes e) (drop (6 * (s + 1)) rest) (6 * (s + 1)) k,
    ) refl in
    let next : s + 1 ≡ suc s = omega arith in
    ap (take (6 * count)) written ∙ split ∙ ap (λ (xs : List ℕ). (flat_map entry_bytes (take s es) ++ entry_bytes e) ++ xs) back
    ∙ append_assoc (flat_map entry_bytes (take s es)) (entry_bytes e) (flat_map entry_bytes (drop (s + 1) es))
    ∙ sym (flat_map-append entry_bytes (take s es) (e ∷ drop (s + 1) es))
    ∙ ap (λ (k : ℕ). flat_map entry_bytes (take s es ++ e ∷ drop k es)) next ∙ ap (flat_map entry_bytes) (sym (set_split es s e (omega arith)))

-- the entries with one more written behind them
pub entries_push : (es : List Entry) (count : ℕ) (e : Entry) (image : List ℕ) → length es ≡ count → 8 + 6 * count ≤ length image →
    take (6 * count) (drop 8 image) ≡ flat_map entry_bytes es →
    take (6 * (count + 1)) (drop 8 (overwritten (8 + 6 * count) (entry_bytes e) image)) ≡ flat_map entry_bytes (es ++ e ∷ [])
entries_push es count e image n long is =
    let rest = drop (6 * count + length (entry_bytes e)) (drop 8 image) in
    let written : drop 8 (overwritten (8 + 6 * count) (entry_bytes e) image) ≡ (flat_map entry_bytes es ++ entry_bytes e) ++ rest =
    rest-overwritten 8 (6 * count) (entry_bytes e) image (omega arith) ∙ rw is (sym (append_assoc (flat_map entry_bytes es) (entry_bytes e) rest)) in
    let k : length (flat_map entry_bytes es ++ entry_bytes e) ≡ 6 * (count + 1) =
    omega (arith, length-append (flat_map entry_bytes es) (entry_bytes e), length_flat es, n, length_entry e) in
    ap (take (6 * (count + 1))) written ∙ take_at (flat_map entry_bytes es ++ entry_bytes e) rest (6 * (count + 1)) k
    ∙ flat_map_more entry_bytes [] es e

pub length_read : (n : ℕ) (bytes : List ℕ) → length (read_entries n bytes) ≡ n
length_read zero bytes = refl
length_read (suc n) bytes = ap suc (length_read n (drop 6 bytes))

pub entries_count : (image : List ℕ) → length (image_entries image) ≡ number_at image 2
entries_count image = length_read (number_at image 2) (drop 8 image)

pub slots_count : (image : List ℕ) → length (slots_in image) ≡ number_at image 2
slots_count image = length-map (image_entries image) (slot_of image) ∙ entries_count image

read_at : (n s : ℕ) (bytes : List ℕ) (d : Entry) → s < n → get_or (read_entries n bytes) s d ≡ first_entry (drop (6 * s) bytes)
read_at zero s bytes d lt = absurd (omega arith)
read_at (suc n) zero bytes d lt = refl
read_at (suc n) (suc s) bytes d lt =
    let k : 6 + 6 * s ≡ 6 * suc s = omega arith in
    read_at n s (drop 6 bytes) d (omega arith) ∙ ap first_entry (drop-drop (6 * s) 6 bytes ∙ ap (λ (x : ℕ). drop x bytes) k)

number_drop : (bytes : List ℕ) (k i : ℕ) → number_at (drop k bytes) i ≡ number_at bytes (k + i)
number_drop bytes k i = ap (big_number 2) (drop-drop i k bytes)

-- the entry of a slot, by the three numbers where it stands
pub entry_of_image : (image : List ℕ) (s o l r : ℕ) → s < length (slots_in image) → o ≡ number_at image (8 + 6 * s + 0) → l ≡ number_at image (8 + 6 * s + 2) →
    r ≡ number_at image (8 + 6 * s + 4) → entry_from o l r ≡ get_or (image_entries image) s Free
entry_of_image image s o l r lt a b c =
    let at = 8 + 6 * s in
    let d = drop at image in
    let x : o ≡ number_at d 0 = a ∙ sym (number_drop image at 0) in
    let y : l ≡ number_at d 2 = b ∙ sym (number_drop image at 2) in
    let z : r ≡ number_at d 4 = c ∙ sym (number_drop image at 4) in
    let e : entry_from o l r ≡ first_entry d =
    ap (λ (n : ℕ). entry_from n l r) x ∙ ap (λ (n : ℕ). entry_from (number_at d 0) n r) y ∙ ap (entry_from (number_at d 0) (number_at d 2)) z in
    e ∙ sym (read_at (number_at image 2) s (drop 8 image) Free (omega (arith, slots_count image)) ∙ ap first_entry (drop-drop (6 * s) 8 image))

-- an entry by its numbers
pub entry_row : (o l r : ℕ) → (o ≡ 0 → ⊥) → entry_from o l r ≡ Row o l r
entry_row o l r nz = rw (ne_eqb o 0 nz) refl

pub entry_held : (o l r : ℕ) → o ≡ 0 → l ≡ 65535 → entry_from o l r ≡ Held r
entry_held o l r z h = rw (z, h) refl

pub entry_free : (o l r : ℕ) → o ≡ 0 → (l ≡ 65535 → ⊥) → entry_from o l r ≡ Free
entry_free o l r z ne = rw (z, ne_eqb l 65535 ne) refl

pub slot_of_image : (image : List ℕ) (s : ℕ) → s < length (slots_in image)
    → get_or (slots_in image) s free ≡ slot_of image (get_or (image_entries image) s Free)
slot_of_image image s lt =
    get_or-map (slot_of image) (image_entries image) s Free free (omega (arith, slots_count image, entries_count image))

-- where the entry of a slot ends
pub entry_within : {image : List ℕ} {s : ℕ} → KeepsFormat image → s < length (slots_in image) → 8 + 6 * s + 6 ≤ 4096
entry_within {image = image} k lt = omega (arith, slots_count image, lt, k.room)
