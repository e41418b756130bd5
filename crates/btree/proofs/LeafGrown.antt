-- A leaf that is inserted into.
use Rattle.std.proofs.Common.{◌≡◌, ℕ, ◌+◌, ◌≤◌, true, false, List, [], ◌∷◌, ◌++◌, length, get_or, take, drop, refl, sym, ap, ◌∙◌, subst, arith, length-drop}
use Rattle.std.specs.List.{insert}
use Rattle.std.proofs.lemmas.List.{take-append-drop, length-take}
use Rattle.std.proofs.lemmas.List.Edits.{insert_end}
use Rattle.keybytes.specs.declared.pair.Pair.{Pair}
use Rattle.tree_nodes.specs.Lists.{IsRising, put, has, front_count}
use Rattle.tree_nodes.specs.Order.{is_before, PairsRise}
use Rattle.btree.specs.Marks.{Mark, Item, Between, items_of, mark_before}
use Rattle.btree.specs.Grown.{GrownBy}
use Rattle.tree_nodes.proofs.Strict.{before-strict, pair_same}
use Rattle.tree_nodes.proofs.Places.{put_present}
use Rattle.tree_nodes.proofs.Rising.{rising_parts, rising_put}
use Rattle.btree.proofs.MarksGrown.{grown_leaf, grown_lower, grown_upper, Parted, parted_leaf}
use Rattle.tree_nodes.proofs.Counts.{below_more}
use Rattle.tree_nodes.proofs.Fronts.{front_count-le-length}
use Rattle.tree_nodes.proofs.LeafFacts.{leaf_here}

pub grown_same : (p : Pair) (ps : List Pair) → PairsRise ps → has is_before p ps ≡ true → GrownBy p (items_of ps) (items_of ps)
grown_same p ps o h =
    let P : List Pair → Type 0 = λ qs. GrownBy p (items_of ps) (items_of qs) in
    subst P (put_present before-strict p ps o.rising h) (grown_leaf p ps o.rising)

pub grown_put : (p : Pair) (ps new : List Pair) → PairsRise ps → new ≡ put is_before p ps → GrownBy p (items_of ps) (items_of new)
grown_put p ps new o e =
    let P : List Pair → Type 0 = λ qs. GrownBy p (items_of ps) (items_of qs) in
    subst P (sym e) (grown_leaf p ps o.rising)

-- a full leaf is split, and its upper half begins with first
pub record Halved (ps lo hi : List Pair) (first : Pair) : Type 0 where
  pub ordered : PairsRise ps
  pub full : length ps ≡ 32
  pub kept : lo ≡ take 16 ps
  pub moved : hi ≡ drop 16 ps
  pub at_front : first ≡ get_or hi 0 first

whole : {ps lo hi : List Pair} {first : Pair} → Halved ps lo hi first → lo ++ hi ≡ ps
whole {ps} {lo} {hi} h = ap (λ (a : List Pair). a ++ hi) h.kept ∙ ap (λ (b : List Pair). take 16 ps ++ b) h.moved ∙ take-append-drop 16 ps

pub split_lower : {ps lo hi : List Pair} {first : Pair} → Halved ps lo hi first → (p : Pair) (key : List ℕ) → key ≡ first.key
    → is_before p (record { key = key; rid = first.rid }) ≡ true → (new : List Pair) (marks : List Mark) → new ≡ put is_before p lo → marks ≡ items_of hi
    → GrownBy p (items_of ps) (items_of new ++ Between (record { key = key; rid = first.rid }) ∷ marks)
split_lower {ps} {lo} {hi} {first} h p key is lt new marks e m =
    let sep : Pair = record { key = key; rid = first.rid } in
    let same : sep ≡ first = pair_same sep first is refl in
    let a : length lo ≡ 16 = omega (arith, ap length h.kept, length-take 16 ps, h.full) in
    let b : length hi ≡ 16 = omega (arith, ap length h.moved, h.full, length-drop 16 ps) in
    let P : List Pair → Type 0 = λ qs. GrownBy p (items_of qs) (items_of new ++ Between sep ∷ marks) in
    let R : List Pair → Type 0 = λ qs. IsRising is_before qs in
    let F : Pair → Type 0 = λ t. t ≡ get_or hi 0 t in
    let Q : List Pair → Type 0 = λ qs. GrownBy p (items_of (lo ++ hi)) (items_of qs ++ Between sep ∷ marks) in
    let S : List Mark → Type 0 = λ ms. GrownBy p (items_of (lo ++ hi)) (items_of (put is_before p lo) ++ Between sep ∷ ms) in
    let g = grown_lower p sep lo hi (subst R (sym (whole h)) h.ordered.rising) (omega (arith, a)) (omega (arith, b)) (subst F (sym same) h.at_front) lt in
    subst P (whole h) (subst Q (sym e) (subst S (sym m) g))

pub split_upper : {ps lo hi : List Pair} {first : Pair} → Halved ps lo hi first → (p : Pair) (key : List ℕ) → key ≡ first.key
    → is_before p (record { key = key; rid = first.rid }) ≡ false → (new : List Pair) (marks : List Mark) → new ≡ put is_before p hi → marks ≡ items_of new
    → GrownBy p (items_of ps) (items_of lo ++ Between (record { key = key; rid = first.rid }) ∷ marks)
split_upper {ps} {lo} {hi} {first} h p key is lt new marks e m =
    let sep : Pair = record { key = key; rid = first.rid } in
    let same : sep ≡ first = pair_same sep first is refl in
    let a : length lo ≡ 16 = omega (arith, ap length h.kept, length-take 16 ps, h.full) in
    let b : length hi ≡ 16 = omega (arith, ap length h.moved, h.full, length-drop 16 ps) in
    let P : List Pair → Type 0 = λ qs. GrownBy p (items_of qs) (items_of lo ++ Between sep ∷ marks) in
    let R : List Pair → Type 0 = λ qs. IsRising is_before qs in
    let F : Pair → Type 0 = λ t. t ≡ get_or hi 0 t in
    let S : List Mark → Type 0 = λ ms. GrownBy p (items_of (lo ++ hi)) (items_of lo ++ Between sep ∷ ms) in
    let g = grown_upper p sep lo hi (subst R (sym (whole h)) h.ordered.rising) (omega (arith, a)) (omega (arith, b)) (subst F (sym same) h.at_front) lt in
    subst P (whole h) (subst S (sym (m ∙ ap items_of e)) g)

-- a node that something was split off rises too
pub rising_left : (p : Pair) (old marks : List Mark) (s : Mark) (rest : List Mark) → GrownBy p old (marks ++ s ∷ rest) → IsRising mark_before marks
rising_left p old marks s rest g = (rising_parts mark_before marks (s ∷ rest) g.rising).left

pub grown_then_parted : (p : Pair) (old mid new : List Mark) → GrownBy p old mid → Parted mid new → GrownBy p old new
grown_then_parted p old mid new g a = record {
  rising = a.rising;
  pairs = a.pairs ∙ g.pairs;
  above = λ m h u. a.above m (g.above m h u);
  below = λ m h u. a.below m (g.below m h u);
}

put_end :
    (p last : Pair) (ps : List Pair) → PairsRise ps → length ps ≡ 32 → last ≡ get_or ps 31 last → is_before last p ≡ true
    → put is_before p ps ≡ ps ++ p ∷ []
put_end p last ps o full is lt =
    let n = front_count (λ q. is_before q p) ps in
    let reach : 31 + 1 ≤ n = below_more ps p last 31 o (omega (arith, full)) is lt in
    let most = front_count-le-length (λ q. is_before q p) ps in
    let all : n ≡ length ps = omega (arith, full, reach, most) in
    let h = leaf_here p ps n o refl in
    (h.last (omega (arith, all))).put ∙ ap (λ (k : ℕ). insert ps k p) all ∙ insert_end ps p

-- a pair behind all others starts a leaf of its own
pub grown_end :
    (p last sep : Pair) (ps : List Pair) (marks : List Mark) → PairsRise ps → length ps ≡ 32 → last ≡ get_or ps 31 last → is_before last p ≡ true → sep ≡ p
    → marks ≡ Item p ∷ [] → GrownBy p (items_of ps) (items_of ps ++ Between sep ∷ marks)
grown_end p last sep [] marks o full is lt same m = absurd (omega arith)
grown_end p last sep (z ∷ lo) marks o full is lt same m =
    let e = put_end p last (z ∷ lo) o full is lt in
    let g = grown_put p (z ∷ lo) ((z ∷ lo) ++ p ∷ []) o (sym e) in
    let r : IsRising is_before ((z ∷ lo) ++ p ∷ []) = let R : List Pair
    → Type 0 = λ qs. IsRising is_before qs in subst R e (rising_put before-strict p (z ∷ lo) o.rising) in
    let S : Pair → Type 0 = λ t. GrownBy p (items_of (z ∷ lo)) (items_of (z ∷ lo) ++ Between t ∷ marks) in
    let M : List Mark → Type 0 = λ ms. GrownBy p (items_of (z ∷ lo)) (items_of (z ∷ lo) ++ Between p ∷ ms) in
    subst S (sym same) (subst M (sym m) (grown_then_parted p _ _ _ g (parted_leaf z lo p [] r)))
