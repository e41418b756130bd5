-- Lists of bytes that are complemented: they compare the other way round, and complementing them once more gives them back.
use Rattle.std.proofs.Common.{◌≡◌, ℕ, zero, suc, ◌+◌, ◌/◌, ◌%◌, ◌<◌, Bool, true, false, cond, List, [], ◌∷◌, ◌++◌, map, w64, IsUtf8}
use Rattle.std.proofs.Common.{nat_cmp, Ordering, Less, Equal, Greater, inl, inr, refl, sym, ap, ap₂, ◌∙◌, subst, arith, lit<, ltb-true, ◌-◌}
use Rattle.std.specs.List.{All, flat_map}
use Rattle.std.specs.Int.{bytes_high_first, byte_at, to_be_bytes}
use Rattle.std.specs.Ordering.{MatchOrdering, ordering_then, ordering_reverse}
use Rattle.std.specs.Cmp.{nat_cmp_is}
use Rattle.std.specs.Cmp.Lexicographic.{slice_cmp}
use Rattle.std.proofs.lemmas.Bool.{and_parts}
use Rattle.std.proofs.lemmas.Bool.Decides.{nat_tests}
use Rattle.std.proofs.lemmas.Cmp.{ranked}
use Rattle.std.proofs.lemmas.List.Elements.{All-head, All-tail, All-cons, All-nil, All-append}
use Rattle.std.proofs.lemmas.Nat.{mod_below}
use lib.Dec.{ltb}
use lib.Utf8.{scalar, scalars, encode, encodes, scalar_cases}
use Rattle.keybytes.specs.Cells.{IsCell}
use Rattle.keybytes.specs.Keys.{escaped_byte, text_key, cell_key, complement, raised_number}
use Rattle.keybytes.specs.declared.cell.Cell.{Cell}
use Rattle.keybytes.specs.declared.cell.Cell.TheVariants.{Null, Int, Text, Flag}

abbrev pub IsByte : ℕ → Type 0
IsByte b = b < 256

-- ---- the bytes of a cell's key

either : (b : Bool) (xs ys : List ℕ) → (b ≡ true → All IsByte xs) → (b ≡ false → All IsByte ys) → All IsByte (cond b xs ys)
either true xs ys of_true of_false = of_true refl
either false xs ys of_true of_false = of_false refl

one : (a : ℕ) → IsByte a → All IsByte (a ∷ [])
one a byte = All-cons IsByte a [] byte (All-nil IsByte)

two : (a b : ℕ) → IsByte a → IsByte b → All IsByte (a ∷ b ∷ [])
two a b byte_a byte_b = All-cons IsByte a (b ∷ []) byte_a (one b byte_b)

next-byte : (n : ℕ) → 128 + n % 64 < 256
next-byte n = omega (arith, mod_below n 64 (lit< tt))

-- the bytes of a character behind its first
tail_one : (c : ℕ) → All IsByte ((128 + c % 64) ∷ [])
tail_one c = one (128 + c % 64) (next-byte c)

tail_two : (c : ℕ) → All IsByte ((128 + c / 64 % 64) ∷ (128 + c % 64) ∷ [])
tail_two c = All-cons IsByte (128 + c / 64 % 64) ((128 + c % 64) ∷ []) (next-byte (c / 64)) (tail_one c)

tail_three : (c : ℕ) → All IsByte ((128 + c / 4096 % 64) ∷ (128 + c / 64 % 64) ∷ (128 + c % 64) ∷ [])
tail_three c = All-cons IsByte (128 + c / 4096 % 64) ((128 + c / 64 % 64) ∷ (128 + c % 64) ∷ []) (next-byte (c / 4096)) (tail_two c)

below_all : (c : ℕ) → scalar c ≡ true → c < 1114112
below_all c ok = elim (scalar_cases c ok) [ inl low ↦ omega (arith, low) | inr high ↦ high.1 ]

bytes-encode : (c : ℕ) → scalar c ≡ true → All IsByte (encode c)
unfolding encode
bytes-encode c ok =
    either (ltb c 128) _ _ (λ small. one c (omega (arith, ltb-true c 128 small)))
    (λ wide. either (ltb c 2048) _ _
    (λ small. All-cons IsByte (192 + c / 64) ((128 + c % 64) ∷ []) (omega (arith, ltb-true c 2048 small)) (tail_one c))
    (λ wider. either (ltb c 65536) _ _
    (λ small. All-cons IsByte (224 + c / 4096) ((128 + c / 64 % 64) ∷ (128 + c % 64) ∷ []) (omega (arith, ltb-true c 65536 small)) (tail_two c))
    (λ widest. All-cons IsByte (240 + c / 262144) ((128 + c / 4096 % 64) ∷ (128 + c / 64 % 64) ∷ (128 + c % 64) ∷ []) (omega (arith, below_all c ok))
    (tail_three c))))

bytes-encodes : (cs : List ℕ) → scalars cs ≡ true → All IsByte (encodes cs)
bytes-encodes [] ok = All-nil IsByte
bytes-encodes (c ∷ cs) ok =
    let parts = and_parts (scalar c) (scalars cs) ok in
    All-append IsByte (encode c) (encodes cs) (bytes-encode c parts.0) (bytes-encodes cs parts.1)

bytes-text : (text : List ℕ) → IsUtf8 text → All IsByte text
bytes-text text utf8 = subst (All IsByte) utf8.1.1 (bytes-encodes utf8.0 utf8.1.0)

bytes-escaped : (text : List ℕ) → All IsByte text → All IsByte (flat_map escaped_byte text)
bytes-escaped [] bytes = All-nil IsByte
bytes-escaped (zero ∷ text) bytes =
    All-append IsByte (0 ∷ 255 ∷ []) (flat_map escaped_byte text) (two 0 255 (lit< tt) (lit< tt)) (bytes-escaped text (All-tail IsByte zero text bytes))
bytes-escaped (suc b ∷ text) bytes =
    All-cons IsByte (suc b) (flat_map escaped_byte text) (All-head IsByte (suc b) text bytes) (bytes-escaped text (All-tail IsByte (suc b) text bytes))

byte_at-below : (k n : ℕ) → byte_at k n < 256
byte_at-below zero n = mod_below n 256 (lit< tt)
byte_at-below (suc k) n = mod_below _ 256 (lit< tt)

bytes-high_first : (k n : ℕ) → All IsByte (bytes_high_first k n)
bytes-high_first zero n = All-nil IsByte
bytes-high_first (suc k) n = All-cons IsByte (byte_at k n) (bytes_high_first k n) (byte_at-below k n) (bytes-high_first k n)

pub bytes-cell_key : (cell : Cell) → IsCell cell → All IsByte (cell_key cell)
bytes-cell_key Null valid = one 0 (lit< tt)
bytes-cell_key (Int number) valid = All-cons IsByte 1 (to_be_bytes w64 (raised_number number)) (lit< tt) (bytes-high_first 8 (raised_number number))
bytes-cell_key (Text text) valid =
    All-cons IsByte 1 (text_key text) (lit< tt)
    (All-append IsByte (flat_map escaped_byte text) (0 ∷ 1 ∷ []) (bytes-escaped text (bytes-text text valid.0)) (two 0 1 (lit< tt) (lit< tt)))
bytes-cell_key (Flag true) valid = two 1 1 (lit< tt) (lit< tt)
bytes-cell_key (Flag false) valid = two 1 0 (lit< tt) (lit< tt)

-- ---- complements

pub complement-twice : (bytes : List ℕ) → All IsByte bytes → map complement (map complement bytes) ≡ bytes
complement-twice [] are = refl
complement-twice (b ∷ bytes) are =
    let byte : b < 256 = All-head IsByte b bytes are in
    let back : 255 - (255 - b) ≡ b = omega (arith, byte) in
    ap₂ (λ (x : ℕ) (xs : List ℕ). x ∷ xs) back (complement-twice bytes (All-tail IsByte b bytes are))

-- two bytes turn their order round
turned_match : (a b : ℕ) → a < 256 → b < 256 → (o : Ordering) → MatchOrdering o (a < b) (a ≡ b) (b < a)
    → MatchOrdering (ordering_reverse o) (complement a < complement b) (complement a ≡ complement b) (complement b < complement a)
turned_match a b byte_a byte_b Less less = omega (arith, less, byte_a, byte_b)
turned_match a b byte_a byte_b Equal same = ap complement same
turned_match a b byte_a byte_b Greater more = omega (arith, more, byte_a, byte_b)

turned : (a b : ℕ) → a < 256 → b < 256 → nat_cmp (complement a) (complement b) ≡ ordering_reverse (nat_cmp a b)
turned a b byte_a byte_b = sym (nat_cmp_is _ _ _ (turned_match a b byte_a byte_b _ (ranked a b _ refl)))

-- how lists compare that both end tells how they compare whatever follows
ended : (o q : Ordering) → Equal ≡ ordering_then o Equal → q ≡ ordering_then (ordering_reverse o) q
ended Less q tied = cc
ended Equal q tied = refl
ended Greater q tied = cc

not_before : (o : Ordering) → Less ≡ ordering_then o Equal → Greater ≡ ordering_then o Greater → ⊥
not_before Less less more = absurd cc
not_before Equal less more = absurd cc
not_before Greater less more = absurd cc

not_behind : (o : Ordering) → Greater ≡ ordering_then o Equal → Less ≡ ordering_then o Less → ⊥
not_behind Less more less = absurd cc
not_behind Equal more less = absurd cc
not_behind Greater more less = absurd cc

then_less : (o q : Ordering) → o ≡ Less → ordering_then o q ≡ Less
then_less o q less = rw less refl

then_greater : (o q : Ordering) → o ≡ Greater → ordering_then o q ≡ Greater
then_greater o q greater = rw greater refl

next-above : (a : ℕ) → nat_cmp (suc a) a ≡ Greater
next-above a = grind (arith, nat_tests)

next-below : (a : ℕ) → nat_cmp a (suc a) ≡ Less
next-below a = grind (arith, nat_tests)

is_less : (o : Ordering) → Less ≡ ordering_then o Equal → o ≡ Less
is_less Less tells = refl
is_less Equal tells = cc
is_less Greater tells = cc

is_greater : (o : Ordering) → Greater ≡ ordering_then o Equal → o ≡ Greater
is_greater Less tells = cc
is_greater Equal tells = cc
is_greater Greater tells = refl

-- lists of bytes that compare so whatever follows them: complemented they compare the other way round, whatever follows
abbrev pub Compare : Ordering → List ℕ → List ℕ → Type 0
Compare o us vs = (xs ys : List ℕ) → slice_cmp nat_cmp (us ++ xs) (vs ++ ys) ≡ ordering_then o (slice_cmp nat_cmp xs ys)

by_first : (u v : ℕ) (us vs : List ℕ) (o q : Ordering) → nat_cmp u v ≡ q → Compare o (u ∷ us) (v ∷ vs)
    → (Compare o us vs → Compare (ordering_reverse o) (map complement us) (map complement vs)) → (xs ys : List ℕ)
    → ordering_then (ordering_reverse q) (slice_cmp nat_cmp (map complement us ++ xs) (map complement vs ++ ys))
    ≡ ordering_then (ordering_reverse o) (slice_cmp nat_cmp xs ys)
by_first u v us vs o Less is tells rest xs ys =
    ap (λ (q : Ordering). ordering_then (ordering_reverse q) (slice_cmp nat_cmp xs ys)) (sym (is_less o (sym (then_less _ _ is) ∙ tells [] [])))
by_first u v us vs o Equal is tells rest xs ys =
    rest (λ xs ys. sym (ap (λ (q : Ordering). ordering_then q (slice_cmp nat_cmp (us ++ xs) (vs ++ ys))) is) ∙ tells xs ys) xs ys
by_first u v us vs o Greater is tells rest xs ys =
    ap (λ (q : Ordering). ordering_then (ordering_reverse q) (slice_cmp nat_cmp xs ys)) (sym (is_greater o (sym (then_greater _ _ is) ∙ tells [] [])))

pub complement-order : (us vs : List ℕ) (o : Ordering) → All IsByte us → All IsByte vs → Compare o us vs
    → Compare (ordering_reverse o) (map complement us) (map complement vs)
complement-order [] [] o bytes_u bytes_v tells = λ xs ys. ended o _ (tells [] [])
complement-order [] (v ∷ vs) o bytes_u bytes_v tells =
    absurd (not_before o (tells [] []) (sym (then_greater _ _ (next-above v)) ∙ tells (suc v ∷ []) []))
complement-order (u ∷ us) [] o bytes_u bytes_v tells =
    absurd (not_behind o (tells [] []) (sym (then_less _ _ (next-below u)) ∙ tells [] (suc u ∷ [])))
complement-order (u ∷ us) (v ∷ vs) o bytes_u bytes_v tells = λ xs ys.
    rw (turned u v (All-head IsByte u us bytes_u) (All-head IsByte v vs bytes_v))
    (by_first u v us vs o (nat_cmp u v) refl tells
    (λ both. complement-order us vs o (All-tail IsByte u us bytes_u) (All-tail IsByte v vs bytes_v) both) xs ys)
