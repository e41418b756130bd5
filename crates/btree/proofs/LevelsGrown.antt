-- Levels of nodes side by side that grow by a leaf behind all others.
use Rattle.std.proofs.Common.{◌≡◌, ℕ, ◌+◌, ◌<◌, List, [], ◌∷◌, ◌++◌, refl, sym, ap, ◌∙◌, inl, inr, append_assoc}
use Rattle.btree.specs.TreeValue.{Level}
use Rattle.btree.specs.Levels.{alone, joined, beside}
use Rattle.btree.specs.Growing.{AreFull, begun, HaveGrown}

pub grown_append : (olds news top : List Level) → HaveGrown olds news → HaveGrown (olds ++ top) (news ++ top)
grown_append [] news top h = absurd h
grown_append (o ∷ olds) [] top h = absurd h
grown_append (o ∷ olds) (n ∷ news) top h = elim h [
  | inl w ↦ inl (w.0, w.1, ap (λ (ls : List Level). ls ++ top) w.2)
  | inr w ↦ inr (w.0, w.1, grown_append olds news top w.2)
]

joined_behind : (l o : Level) → joined l (joined o (alone 1)) ≡ joined (joined l o) (alone 1)
joined_behind l o =
    let L : List ℕ → Level = λ ns. record { before = ns; last = 1 } in
    ap L (sym (append_assoc l.before (l.last ∷ o.before) (o.last ∷ [])))

-- what grows on the right grows
pub grown_beside : (left olds news : List Level) → HaveGrown olds news → HaveGrown (beside left olds) (beside left news)
grown_beside [] olds news h = h
grown_beside (l ∷ left) [] news h = absurd h
grown_beside (l ∷ left) (o ∷ olds) [] h = absurd h
grown_beside (l ∷ left) (o ∷ olds) (n ∷ news) h = elim h [
  | inl w ↦ inl (w.0, ap (joined l) w.1, ap (beside left) w.2)
  | inr w ↦ inr (w.0, ap (joined l) w.1 ∙ joined_behind l o, grown_beside left olds news w.2)
]

pub full_beside : (left right : List Level) → AreFull right → AreFull (beside left right)
full_beside [] right h = h
full_beside (l ∷ left) [] h = tt
full_beside (l ∷ left) (r ∷ right) h = (h.0, full_beside left right h.1)

pub full_end : (levels : List Level) (n : ℕ) → AreFull levels → n ≡ 32 → AreFull (levels ++ alone n ∷ [])
full_end [] n h e = (e, tt)
full_end (l ∷ levels) n h e = (h.0, full_end levels n h.1 e)

pub begun_beside : (left right : List Level) → begun (beside left right) ≡ begun right
begun_beside [] right = refl
begun_beside (l ∷ left) [] = refl
begun_beside (l ∷ left) (r ∷ right) = ap (λ (ls : List Level). alone 1 ∷ ls) (begun_beside left right)

pub begun_end : (levels : List Level) (l : Level) → begun (levels ++ l ∷ []) ≡ begun levels ++ alone 1 ∷ []
begun_end [] l = refl
begun_end (k ∷ levels) l = ap (λ (ls : List Level). alone 1 ∷ ls) (begun_end levels l)

-- a node has one child more, and below it nodes are begun behind full ones
pub grown_end :
    (levels : List Level) (n : ℕ) → AreFull levels → n < 32
    → HaveGrown (levels ++ alone n ∷ []) (beside levels (begun levels) ++ alone (n + 1) ∷ [])
grown_end [] n h few = inl (few, refl, refl)
grown_end (l ∷ levels) n h few = inr (h.0, refl, grown_end levels n h.1 few)
