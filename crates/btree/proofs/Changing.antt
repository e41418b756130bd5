-- Changes that are made one after another.
use Rattle.std.proofs.Common.{◌≡◌, ℕ, ◌+◌, ◌≤◌, true, List, [], ◌∷◌, ◌++◌, length, refl, sym, ap, ◌∙◌, inl, inr, arith, append_assoc, length-append}
use Rattle.std.proofs.lemmas.Bool.{cases_Bool}
use Rattle.std.specs.FinSet.{FinSet}
use Rattle.keybytes.specs.Pairs.{pair_cmp, set_of}
use Rattle.keybytes.specs.declared.pair.Pair.{Pair}
use Rattle.tree_nodes.specs.Lists.{In, IsRising, has, put}
use Rattle.tree_nodes.specs.Order.{is_before}
use Rattle.tree_nodes.proofs.Rising.{rising_put, rising_without}
use Rattle.btree.specs.declared.change.Change.{Change}
use Rattle.btree.specs.declared.change.Steps.{Steps}
use Rattle.btree.specs.Changes.{changed_by, changed, Made, marks_by, marks_changed, both, Walked}
use Rattle.btree.specs.Marks.{Mark, Item, Between, mark_before, items_of, pairs_in}
use Rattle.btree.proofs.Middles.{put-middle, without-middle}
use Rattle.btree.proofs.MarkFacts.{mark_before-strict, in-pairs_in}
use Rattle.btree.proofs.Sets.{put_is, without_is}
use Rattle.btree.proofs.TreeFacts.{removed_pairs, rising_pairs}

-- ---- marks rise

rising_by : (c : Change) (m : List Mark) → IsRising mark_before m → IsRising mark_before (marks_by c m)
rising_by c m r = elim (cases_Bool c.puts_in) [
  | inl e ↦ rw e (rising_put mark_before-strict (Item c.pair) m r)
  | inr e ↦ rw e (rising_without mark_before (Item c.pair) m r)
]

pub rising_changed : (cs : List Change) (m : List Mark) → IsRising mark_before m → IsRising mark_before (marks_changed cs m)
rising_changed [] m r = r
rising_changed (c ∷ cs) m r = rising_changed cs (marks_by c m) (rising_by c m r)

-- ---- the pairs among them, as a set

put_front : (p : Pair) (ps : List Pair) → ((q : Pair) → In q ps → is_before p q ≡ true) → put is_before p ps ≡ p ∷ ps
put_front p [] h = refl
put_front p (q ∷ ps) h = rw (h q (inl refl)) refl

put_pairs : (p : Pair) (m : List Mark) → IsRising mark_before m → pairs_in (put mark_before (Item p) m) ≡ put is_before p (pairs_in m)
put_pairs p [] r = refl
put_pairs p (Item q ∷ m) r = elim (cases_Bool (is_before p q)) [
  | inl e ↦ rw e refl
  | inr e ↦ elim (cases_Bool (is_before q p)) [
    | inl f ↦ rw (e, f) (ap (λ (ps : List Pair). q ∷ ps) (put_pairs p m r.1))
    | inr f ↦ rw (e, f) refl
  ]
]
put_pairs p (Between s ∷ m) r = elim (cases_Bool (is_before p s)) [
  | inl e ↦
      let front = put_front p (pairs_in m) (λ q i. mark_before-strict.onward (Item p) (Between s) (Item q) e (r.0 (Item q) (in-pairs_in q m i))) in
      rw e (sym front)
  | inr e ↦ rw e (put_pairs p m r.1)
]

set_by : (c : Change) (m : List Mark) → IsRising mark_before m → set_of (pairs_in (marks_by c m)) ≡ changed_by c (set_of (pairs_in m))
set_by c m r = elim (cases_Bool c.puts_in) [
  | inl e ↦ rw e (ap set_of (put_pairs c.pair m r) ∙ put_is c.pair (pairs_in m))
  | inr e ↦ rw e (ap set_of (removed_pairs c.pair m) ∙ without_is c.pair (pairs_in m) (rising_pairs m r))
]

pub set_changed : (cs : List Change) (m : List Mark) → IsRising mark_before m → set_of (pairs_in (marks_changed cs m)) ≡ changed cs (set_of (pairs_in m))
set_changed [] m r = refl
set_changed (c ∷ cs) m r = set_changed cs (marks_by c m) (rising_by c m r) ∙ ap (changed cs) (set_by c m r)

-- ---- one after another

pub marks_changed-append : (a b : List Change) (m : List Mark) → marks_changed (a ++ b) m ≡ marks_changed b (marks_changed a m)
marks_changed-append [] b m = refl
marks_changed-append (c ∷ a) b m = marks_changed-append a b (marks_by c m)

pub changed-append : (a b : List Change) (s : FinSet pair_cmp) → changed (a ++ b) s ≡ changed b (changed a s)
changed-append [] b s = refl
changed-append (c ∷ a) b s = changed-append a b (changed_by c s)

-- none as yet
pub none_walked : (n : ℕ) (m : List Mark) (queue : List Change) → Walked n m m queue queue (record { taken = 0; added = 0; removed = 0 })
none_walked n m queue = record {
  made = [];
  queue_is = refl;
  marks = refl;
  taken = refl;
  within = omega arith;
  counted = refl;
  few_added = omega arith;
  few_removed = omega arith;
}

pub walked_on :
    {n k l : ℕ} {old mid new : List Mark} {queue rest left : List Change} {a b : Steps} → Walked n old mid queue rest a → Walked k mid new rest left b
    → a.taken + b.taken ≤ l → Walked l old new queue left (both a b)
walked_on {n} {k} {l} {old} {mid} {new} {queue} {rest} {left} {a} {b} w v h = record {
  made = w.made ++ v.made;
  queue_is = w.queue_is ∙ ap (λ (cs : List Change). w.made ++ cs) v.queue_is ∙ sym (append_assoc w.made v.made left);
  marks = v.marks ∙ ap (marks_changed v.made) w.marks ∙ sym (marks_changed-append w.made v.made old);
  taken = omega (arith, w.taken, v.taken, length-append {A = Change});
  within = h;
  counted = omega (arith, w.counted, v.counted);
  few_added = omega (arith, w.few_added, v.few_added);
  few_removed = omega (arith, w.few_removed, v.few_removed);
}

-- the queue has what isn't taken yet
pub walked_length : {n : ℕ} {old new : List Mark} {queue rest : List Change} {s : Steps} → Walked n old new queue rest s → length rest + s.taken ≡ length queue
walked_length {n} {old} {new} {queue} {rest} {s} w = omega (arith, ap length w.queue_is, length-append w.made rest, w.taken)

pub none_made : (ps : List Pair) (queue : List Change) → Made ps ps queue queue
none_made ps queue = record { made = []; queue_is = refl; pairs = refl }

pub made_on : {old mid new : List Pair} {queue rest left : List Change} → Made old mid queue rest → Made mid new rest left → Made old new queue left
made_on {old} {mid} {new} {queue} {rest} {left} w v = record {
  made = w.made ++ v.made;
  queue_is = w.queue_is ∙ ap (λ (cs : List Change). w.made ++ cs) v.queue_is ∙ sym (append_assoc w.made v.made left);
  pairs = v.pairs ∙ ap (changed v.made) w.pairs ∙ sym (changed-append w.made v.made (set_of old));
}

-- what is left does to the pairs what the whole did
pub made_whole : {old new : List Pair} {queue rest : List Change} → Made old new queue rest → changed rest (set_of new) ≡ changed queue (set_of old)
made_whole {old} {new} {queue} {rest} w =
    ap (changed rest) w.pairs ∙ sym (changed-append w.made rest (set_of old)) ∙ ap (λ (cs : List Change). changed cs (set_of old)) (sym w.queue_is)

-- ---- in a leaf

pub put-items_of : (p : Pair) (ps : List Pair) → put mark_before (Item p) (items_of ps) ≡ items_of (put is_before p ps)
put-items_of p [] = refl
put-items_of p (q ∷ ps) = elim (cases_Bool (is_before p q)) [
  | inl e ↦ rw e refl
  | inr e ↦ elim (cases_Bool (is_before q p)) [
    | inl f ↦ rw (e, f) (ap (λ (ms : List Mark). Item q ∷ ms) (put-items_of p ps))
    | inr f ↦ rw (e, f) refl
  ]
]

-- ---- in the middle

by_middle :
    (c : Change) (l w r : List Mark) → ((y : Mark) → In y l → mark_before y (Item c.pair) ≡ true) → ((y : Mark) → In y r → mark_before (Item c.pair) y ≡ true)
    → marks_by c (l ++ (w ++ r)) ≡ l ++ (marks_by c w ++ r)
by_middle c l w r h k = elim (cases_Bool c.puts_in) [
  | inl e ↦ rw e (put-middle mark_before-strict (Item c.pair) l w r h k)
  | inr e ↦ rw e (without-middle mark_before-strict (Item c.pair) l w r h k)
]

-- changes whose pairs belong between l and r
pub record Belong (cs : List Change) (l r : List Mark) : Type 0 where
  pub below : (c : Change) → In c cs → (y : Mark) → In y l → mark_before y (Item c.pair) ≡ true
  pub above : (c : Change) → In c cs → (y : Mark) → In y r → mark_before (Item c.pair) y ≡ true

pub changed-middle : (cs : List Change) (l w r : List Mark) → Belong cs l r → marks_changed cs (l ++ (w ++ r)) ≡ l ++ (marks_changed cs w ++ r)
changed-middle [] l w r b = refl
changed-middle (c ∷ cs) l w r b =
    ap (marks_changed cs) (by_middle c l w r (b.below c (inl refl)) (b.above c (inl refl)))
    ∙ changed-middle cs l (marks_by c w) r (record { below = λ d i. b.below d (inr i); above = λ d i. b.above d (inr i) })
