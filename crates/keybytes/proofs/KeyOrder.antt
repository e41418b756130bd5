-- The bytes of keys compare as the columns do.
use Rattle.std.proofs.Common.{◌≡◌, ℕ, zero, suc, ◌+◌, ◌*◌, ◌/◌, ◌%◌, ◌^◌, ◌<◌, ◌<ℤ◌, ℤ, pos, negsuc, Bool, true, false, List, [], ◌∷◌, ◌++◌, length, FitsSigned, w64, nat_cmp}
use Rattle.std.proofs.Common.{int_cmp, Ordering, Less, Equal, Greater, refl, sym, ap, ap₂, ◌∙◌, arith, append_assoc, pow-suc, mod-eq_of_lt, div-one, lit<}
use Rattle.std.specs.List.{All}
use Rattle.std.specs.Int.{bytes_high_first, byte_at, to_be_bytes}
use Rattle.std.specs.Ordering.{MatchOrdering, ordering_then}
use Rattle.std.specs.Cmp.{nat_cmp_is, int_cmp_is}
use Rattle.std.specs.Cmp.Lexicographic.{slice_cmp}
use Rattle.std.proofs.Math.Arith.{mod-mul}
use Rattle.std.proofs.Math.Nat.{mod-one, pow-succ'}
use Rattle.std.proofs.lemmas.Bool.{and_parts}
use Rattle.std.proofs.lemmas.Bool.Decides.{nat_tests}
use Rattle.std.proofs.lemmas.Cmp.{ranked}
use Rattle.std.proofs.lemmas.Int.{ints}
use Rattle.std.proofs.lemmas.List.Elements.{All-head, All-tail}
use Rattle.std.proofs.lemmas.Nat.{mul-add-lt, mod_below}
use Rattle.keybytes.specs.Cells.{IsCell, fits, fits_kind, cell_cmp, directed, columns_cmp}
use Rattle.keybytes.specs.Keys.{raised_number, text_key, cell_key, column_key, key_bytes}
use Rattle.keybytes.specs.declared.cell.Cell.{Cell}
use Rattle.keybytes.specs.declared.cell.Cell.TheVariants.{Null, Int, Text, Flag}
use Rattle.keybytes.specs.declared.key_col.KeyCol.{KeyCol}
use Rattle.keybytes.specs.declared.kind.Kind.{Kind}
use Rattle.keybytes.specs.declared.kind.Kind.TheVariants.{Int as IntKind, Text as TextKind, Flag as FlagKind}
use Rattle.keybytes.proofs.Complements.{bytes-cell_key, complement-order}

-- ---- orders, one after the other

pub ordering_then-Equal : (o : Ordering) → ordering_then o Equal ≡ o
ordering_then-Equal Less = refl
ordering_then-Equal Equal = refl
ordering_then-Equal Greater = refl

pub ordering_then-assoc : (a b c : Ordering) → ordering_then a (ordering_then b c) ≡ ordering_then (ordering_then a b) c
ordering_then-assoc Less b c = refl
ordering_then-assoc Equal b c = refl
ordering_then-assoc Greater b c = refl

-- what decides first is a tie where the whole is one
pub tied_first : (a b : Ordering) → ordering_then a b ≡ Equal → a ≡ Equal
tied_first Less b tied = cc
tied_first Equal b tied = refl
tied_first Greater b tied = cc

pub tied_second : (a b : Ordering) → ordering_then a b ≡ Equal → b ≡ Equal
tied_second Less b tied = cc
tied_second Equal b tied = tied
tied_second Greater b tied = cc

-- lists that tie are one list, where elements that tie are one
pub slice_cmp-same : {X : Type 0} (R : X → X → Ordering) → ((x y : X) → R x y ≡ Equal → x ≡ y) → (xs ys : List X) → slice_cmp R xs ys ≡ Equal → xs ≡ ys
slice_cmp-same R same [] [] tied = refl
slice_cmp-same R same [] (y ∷ ys) tied = cc
slice_cmp-same R same (x ∷ xs) [] tied = cc
slice_cmp-same R same (x ∷ xs) (y ∷ ys) tied =
    ap₂ (λ z zs. z ∷ zs) (same x y (tied_first (R x y) _ tied)) (slice_cmp-same R same xs ys (tied_second (R x y) _ tied))

-- ---- numbers

byte_at-is : (k n : ℕ) → byte_at k n ≡ n / 256 ^ k % 256
byte_at-is zero n = rw div-one refl
byte_at-is (suc k) n = refl

digits_match : (c a b p q : ℕ) (high low : Ordering) → p < c → q < c → MatchOrdering high (a < b) (a ≡ b) (b < a) → MatchOrdering low (p < q) (p ≡ q) (q < p)
    → MatchOrdering (ordering_then high low) (a * c + p < b * c + q) (a * c + p ≡ b * c + q) (b * c + q < a * c + p)
digits_match c a b p q Less low in_p in_q h l = omega (arith, mul-add-lt a c p b h in_p)
digits_match c a b p q Equal Less in_p in_q h l = rw h (omega arith)
digits_match c a b p q Equal Equal in_p in_q h l = rw (h, l) refl
digits_match c a b p q Equal Greater in_p in_q h l = rw h (omega arith)
digits_match c a b p q Greater low in_p in_q h l = omega (arith, mul-add-lt b c q a h in_q)

pub one_above : (k : ℕ) → 0 < 256 ^ k
one_above zero = lit< tt
one_above (suc k) = rw (pow-suc 256 k) (omega (arith, one_above k))

-- two numbers of two digits compare by the high digits, then by the low ones
pub nat_cmp-digits : (c a b p q : ℕ) → p < c → q < c → nat_cmp (a * c + p) (b * c + q) ≡ ordering_then (nat_cmp a b) (nat_cmp p q)
nat_cmp-digits c a b p q in_p in_q =
    sym (nat_cmp_is _ _ _ (digits_match c a b p q (nat_cmp a b) (nat_cmp p q) in_p in_q (ranked a b _ refl) (ranked p q _ refl)))

nat_cmp-bytes : (k m n : ℕ) → ordering_then (nat_cmp (byte_at k m) (byte_at k n)) (nat_cmp (m % 256 ^ k) (n % 256 ^ k))
    ≡ nat_cmp (m % 256 ^ suc k) (n % 256 ^ suc k)
nat_cmp-bytes k m n =
    rw (
      byte_at-is k m,
      byte_at-is k n,
      pow-succ' 256 k,
      mod-mul m {m = 256} {c = 256 ^ k} (lit< tt) (one_above k),
      mod-mul n {m = 256} {c = 256 ^ k} (lit< tt) (one_above k),
    )
    (sym (nat_cmp-digits (256 ^ k) (m / 256 ^ k % 256) (n / 256 ^ k % 256) (m % 256 ^ k) (n % 256 ^ k) (mod_below m (256 ^ k) (one_above k))
    (mod_below n (256 ^ k) (one_above k))))

-- bytes of numbers, the highest first, compare as the numbers do, and then what follows them
bytes_high_first-order : (k m n : ℕ) (xs ys : List ℕ)
    → slice_cmp nat_cmp (bytes_high_first k m ++ xs) (bytes_high_first k n ++ ys)
    ≡ ordering_then (nat_cmp (m % 256 ^ k) (n % 256 ^ k)) (slice_cmp nat_cmp xs ys)
bytes_high_first-order zero m n xs ys = rw (mod-one m, mod-one n) refl
bytes_high_first-order (suc k) m n xs ys =
    ap (ordering_then (nat_cmp (byte_at k m) (byte_at k n))) (bytes_high_first-order k m n xs ys)
    ∙ ordering_then-assoc (nat_cmp (byte_at k m) (byte_at k n)) _ _
    ∙ ap (λ o. ordering_then o (slice_cmp nat_cmp xs ys)) (nat_cmp-bytes k m n)

-- numbers compare as they do moved up
raised_match : (m n : ℤ) → FitsSigned w64 m → FitsSigned w64 n → (o : Ordering)
    → MatchOrdering o (raised_number m < raised_number n) (raised_number m ≡ raised_number n) (raised_number n < raised_number m)
    → MatchOrdering o (m <ℤ n) (m ≡ n) (n <ℤ m)
raised_match (pos m) (pos n) fits_m fits_n Less h = omega (arith, ints)
raised_match (pos m) (pos n) fits_m fits_n Equal h = ap pos (omega arith)
raised_match (pos m) (pos n) fits_m fits_n Greater h = omega (arith, ints)
raised_match (pos m) (negsuc n) fits_m fits_n Less h = absurd (omega (arith, fits_m.sfits, fits_n.sfits))
raised_match (pos m) (negsuc n) fits_m fits_n Equal h = absurd (omega (arith, fits_m.sfits, fits_n.sfits))
raised_match (pos m) (negsuc n) fits_m fits_n Greater h = omega (arith, ints)
raised_match (negsuc m) (pos n) fits_m fits_n Less h = omega (arith, ints)
raised_match (negsuc m) (pos n) fits_m fits_n Equal h = absurd (omega (arith, fits_m.sfits, fits_n.sfits))
raised_match (negsuc m) (pos n) fits_m fits_n Greater h = absurd (omega (arith, fits_m.sfits, fits_n.sfits))
raised_match (negsuc m) (negsuc n) fits_m fits_n Less h = omega (arith, ints, fits_m.sfits, fits_n.sfits)
raised_match (negsuc m) (negsuc n) fits_m fits_n Equal h = ap negsuc (omega (arith, fits_m.sfits, fits_n.sfits))
raised_match (negsuc m) (negsuc n) fits_m fits_n Greater h = omega (arith, ints, fits_m.sfits, fits_n.sfits)

raised_number-order : (m n : ℤ) → FitsSigned w64 m → FitsSigned w64 n → nat_cmp (raised_number m) (raised_number n) ≡ int_cmp m n
raised_number-order m n fits_m fits_n = int_cmp_is m n _ (raised_match m n fits_m fits_n _ (ranked (raised_number m) (raised_number n) _ refl))

pub raised_number-lt : (n : ℤ) → FitsSigned w64 n → raised_number n < 2 ^ 64
raised_number-lt (pos n) fits_n = omega (arith, fits_n.sfits)
raised_number-lt (negsuc n) fits_n = omega (arith, fits_n.sfits)

int_key-order : (m n : ℤ) (xs ys : List ℕ) → FitsSigned w64 m → FitsSigned w64 n
    → slice_cmp nat_cmp (to_be_bytes w64 (raised_number m) ++ xs) (to_be_bytes w64 (raised_number n) ++ ys)
    ≡ ordering_then (int_cmp m n) (slice_cmp nat_cmp xs ys)
int_key-order m n xs ys fits_m fits_n =
    let whole_m : raised_number m % 256 ^ 8 ≡ raised_number m = mod-eq_of_lt (raised_number-lt m fits_m) in
    let whole_n : raised_number n % 256 ^ 8 ≡ raised_number n = mod-eq_of_lt (raised_number-lt n fits_n) in
    bytes_high_first-order 8 (raised_number m) (raised_number n) xs ys
    ∙ ap (λ o. ordering_then o (slice_cmp nat_cmp xs ys)) (ap₂ nat_cmp whole_m whole_n ∙ raised_number-order m n fits_m fits_n)

-- ---- texts

then_less : (o q : Ordering) → o ≡ Less → ordering_then o q ≡ Less
then_less o q less = rw less refl

then_greater : (o q : Ordering) → o ≡ Greater → ordering_then o q ≡ Greater
then_greater o q greater = rw greater refl

zero_before : (b : ℕ) → nat_cmp 0 (suc b) ≡ Less
zero_before b = grind (arith, nat_tests)

zero_behind : (a : ℕ) → nat_cmp (suc a) 0 ≡ Greater
zero_behind a = grind (arith, nat_tests)

-- texts compare as their keys do, and then what follows them: the end and a byte 0 of a text differ in the second byte
text_key-order : (s t xs ys : List ℕ) → slice_cmp nat_cmp (text_key s ++ xs) (text_key t ++ ys)
    ≡ ordering_then (slice_cmp nat_cmp s t) (slice_cmp nat_cmp xs ys)
text_key-order [] [] xs ys = refl
text_key-order [] (zero ∷ t) xs ys = refl
text_key-order [] (suc b ∷ t) xs ys = then_less _ _ (zero_before b)
text_key-order (zero ∷ s) [] xs ys = refl
text_key-order (suc a ∷ s) [] xs ys = then_greater _ _ (zero_behind a)
text_key-order (zero ∷ s) (zero ∷ t) xs ys = text_key-order s t xs ys
text_key-order (zero ∷ s) (suc b ∷ t) xs ys =
    then_less _ _ (zero_before b) ∙ sym (then_less _ (slice_cmp nat_cmp xs ys) (then_less _ (slice_cmp nat_cmp s t) (zero_before b)))
text_key-order (suc a ∷ s) (zero ∷ t) xs ys =
    then_greater _ _ (zero_behind a) ∙ sym (then_greater _ (slice_cmp nat_cmp xs ys) (then_greater _ (slice_cmp nat_cmp s t) (zero_behind a)))
text_key-order (suc a ∷ s) (suc b ∷ t) xs ys =
    ap (ordering_then (nat_cmp (suc a) (suc b))) (text_key-order s t xs ys) ∙ ordering_then-assoc (nat_cmp (suc a) (suc b)) _ _

-- ---- cells and columns

-- the keys of two cells of one column compare as the cells do, and then what follows them
pub cell_key-order : (kind : Kind) (a b : Cell) (xs ys : List ℕ) → fits_kind kind a ≡ true → fits_kind kind b ≡ true → IsCell a → IsCell b
    → slice_cmp nat_cmp (cell_key a ++ xs) (cell_key b ++ ys) ≡ ordering_then (cell_cmp a b) (slice_cmp nat_cmp xs ys)
cell_key-order kind Null Null xs ys fits_a fits_b is_a is_b = refl
cell_key-order kind Null (Int n) xs ys fits_a fits_b is_a is_b = refl
cell_key-order kind Null (Text t) xs ys fits_a fits_b is_a is_b = refl
cell_key-order kind Null (Flag b) xs ys fits_a fits_b is_a is_b = refl
cell_key-order kind (Int m) Null xs ys fits_a fits_b is_a is_b = refl
cell_key-order kind (Text s) Null xs ys fits_a fits_b is_a is_b = refl
cell_key-order kind (Flag a) Null xs ys fits_a fits_b is_a is_b = refl
cell_key-order kind (Int m) (Int n) xs ys fits_a fits_b is_a is_b = int_key-order m n xs ys is_a is_b
cell_key-order kind (Text s) (Text t) xs ys fits_a fits_b is_a is_b = text_key-order s t xs ys
cell_key-order kind (Flag true) (Flag true) xs ys fits_a fits_b is_a is_b = refl
cell_key-order kind (Flag true) (Flag false) xs ys fits_a fits_b is_a is_b = refl
cell_key-order kind (Flag false) (Flag true) xs ys fits_a fits_b is_a is_b = refl
cell_key-order kind (Flag false) (Flag false) xs ys fits_a fits_b is_a is_b = refl
cell_key-order IntKind a b xs ys fits_a fits_b is_a is_b = cc
cell_key-order TextKind a b xs ys fits_a fits_b is_a is_b = cc
cell_key-order FlagKind a b xs ys fits_a fits_b is_a is_b = cc

-- the same of columns: each compares in its direction
pub column_key-order : (descending : Bool) (kind : Kind) (a b : Cell) (xs ys : List ℕ) → fits_kind kind a ≡ true → fits_kind kind b ≡ true
    → IsCell a → IsCell b → slice_cmp nat_cmp (column_key descending a ++ xs) (column_key descending b ++ ys)
    ≡ ordering_then (directed descending (cell_cmp a b)) (slice_cmp nat_cmp xs ys)
column_key-order false kind a b xs ys fits_a fits_b is_a is_b = cell_key-order kind a b xs ys fits_a fits_b is_a is_b
column_key-order true kind a b xs ys fits_a fits_b is_a is_b =
    complement-order (cell_key a) (cell_key b) (cell_cmp a b) (bytes-cell_key a is_a) (bytes-cell_key b is_b)
    (λ xs ys. cell_key-order kind a b xs ys fits_a fits_b is_a is_b) xs ys

-- the keys of two lists of columns compare as the lists do, and then what follows them
pub key_bytes-order : (columns : List KeyCol) (kinds : List Kind) (us bs : List Cell) (xs ys : List ℕ) → length columns ≡ length kinds
    → fits kinds us ≡ true → fits kinds bs ≡ true → All IsCell us → All IsCell bs
    → slice_cmp nat_cmp (key_bytes columns us ++ xs) (key_bytes columns bs ++ ys) ≡ ordering_then (columns_cmp columns us bs) (slice_cmp nat_cmp xs ys)
key_bytes-order [] kinds us bs xs ys many fits_as fits_bs are_as are_bs = refl
key_bytes-order (column ∷ columns) [] us bs xs ys many fits_as fits_bs are_as are_bs = absurd (omega (arith, many))
key_bytes-order (column ∷ columns) (kind ∷ kinds) [] bs xs ys many fits_as fits_bs are_as are_bs = cc
key_bytes-order (column ∷ columns) (kind ∷ kinds) (a ∷ us) [] xs ys many fits_as fits_bs are_as are_bs = cc
key_bytes-order (column ∷ columns) (kind ∷ kinds) (a ∷ us) (b ∷ bs) xs ys many fits_as fits_bs are_as are_bs =
    let parts_a = and_parts (fits_kind kind a) (fits kinds us) fits_as in
    let parts_b = and_parts (fits_kind kind b) (fits kinds bs) fits_bs in
    let descending = column.descending in
    ap₂ (slice_cmp nat_cmp) (append_assoc (column_key descending a) (key_bytes columns us) xs) (append_assoc (column_key descending b) (key_bytes columns bs) ys)
    ∙ column_key-order descending kind a b (key_bytes columns us ++ xs) (key_bytes columns bs ++ ys) parts_a.0 parts_b.0 (All-head IsCell a us are_as)
    (All-head IsCell b bs are_bs)
    ∙ ap (ordering_then (directed descending (cell_cmp a b)))
    (key_bytes-order columns kinds us bs xs ys (omega (arith, many)) parts_a.1 parts_b.1 (All-tail IsCell a us are_as) (All-tail IsCell b bs are_bs))
    ∙ ordering_then-assoc (directed descending (cell_cmp a b)) (columns_cmp columns us bs) (slice_cmp nat_cmp xs ys)
