-- Changes of a tree, made one after another.
use Rattle.std.specs.Prelude.{◌≡◌, ◌≤◌, ◌<◌, ◌+◌, ℕ, suc, Bool, true, false, not, if◌then◌else◌, List, [], ◌∷◌, ◌++◌, Some, length, take, get_or}
use Rattle.std.specs.FinSet.{FinSet}
use Rattle.keybytes.specs.Pairs.{pair_cmp, set_of, with_pair, without_pair}
use Rattle.keybytes.specs.declared.pair.Pair.{Pair}
use Rattle.tree_nodes.specs.Lists.{In, IsRising, front_count, has, put, without}
use Rattle.tree_nodes.specs.Order.{is_before}
use Rattle.btree.specs.declared.change.Change.{Change}
use Rattle.btree.specs.declared.change.Steps.{Steps}
use Rattle.btree.specs.declared.walking.Share.{Share}
use Rattle.btree.specs.Marks.{Mark, Item, Between, mark_before, pairs_in}

-- a set of pairs once a change is made
abbrev pub changed_by : Change → FinSet pair_cmp → FinSet pair_cmp
changed_by change pairs = if change.puts_in then with_pair (Some change.pair) pairs else without_pair (Some change.pair) pairs

-- and once all are, in order
abbrev pub changed : List Change → FinSet pair_cmp → FinSet pair_cmp
changed [] pairs = pairs
changed (change ∷ changes) pairs = changed changes (changed_by change pairs)

-- changes from the front of the queue were made, in order, and the rest is left
pub record Made (old new : List Pair) (queue rest : List Change) : Type 0 where
  pub made : List Change
  pub queue_is : queue ≡ made ++ rest
  pub pairs : set_of new ≡ changed made (set_of old)

-- the first isn't behind the second
abbrev pub not_behind : Change → Change → Bool
not_behind a b = not (is_before b.pair a.pair)

-- they stand in the order of their pairs
abbrev pub AreInOrder : List Change → Type 0
AreInOrder changes = IsRising not_behind changes

-- how many changes at the front stand before a pair
abbrev pub count_lower : Pair → List Change → ℕ
count_lower pair changes = front_count (λ change. is_before change.pair pair) changes

-- a node's marks once a change is made
abbrev pub marks_by : Change → List Mark → List Mark
marks_by change marks = if change.puts_in then put mark_before (Item change.pair) marks else without mark_before (Item change.pair) marks

-- and once all are, in order
abbrev pub marks_changed : List Change → List Mark → List Mark
marks_changed [] marks = marks
marks_changed (change ∷ changes) marks = marks_changed changes (marks_by change marks)

-- steps, and then more
abbrev pub both : Steps → Steps → Steps
both a b = record { taken = a.taken + b.taken; added = a.added + b.added; removed = a.removed + b.removed }

-- changes from the front of the queue were made in a node, in order, at most that many, and the rest is left
pub record Walked (count : ℕ) (old new : List Mark) (queue rest : List Change) (steps : Steps) : Type 0 where
  pub made : List Change
  pub queue_is : queue ≡ made ++ rest
  pub marks : new ≡ marks_changed made old
  pub taken : steps.taken ≡ length made
  pub within : steps.taken ≤ count
  pub counted : length (pairs_in new) + steps.removed ≡ length (pairs_in old) + steps.added
  pub few_added : steps.added ≤ steps.taken
  pub few_removed : steps.removed ≤ steps.taken

-- how many pairs stand in the leaf that a pair belongs to, with n of them in front of these marks
abbrev pub leaf_count : ℕ → Pair → List Mark → ℕ
leaf_count n p [] = n
leaf_count n p (Item q ∷ marks) = leaf_count (suc n) p marks
leaf_count n p (Between s ∷ marks) = if is_before p s then n else leaf_count 0 p marks

-- the first change puts in a pair that isn't there, into a leaf of 32 pairs
abbrev pub WantsSplit : List Change → List Mark → Type 0
WantsSplit [] marks = ⊥
WantsSplit (change ∷ changes) marks =
    (change.puts_in ≡ true) × (has mark_before (Item change.pair) marks ≡ false) × (leaf_count 0 change.pair marks ≡ 32)

-- the first change belongs to the child at that place, and so do those before the separator behind it
pub record IsShare (separators : List Pair) (changes : List Change) (count : ℕ) (share : Share) : Type 0 where
  pub some : 1 ≤ share.count
  pub few : share.count ≤ count
  pub place : (d : Change) → share.place ≡ front_count (λ pair. not (is_before (get_or changes 0 d).pair pair)) separators
  pub before : (c : Change) → In c (take share.count changes) → (d : Pair) → share.place < length separators
      → is_before c.pair (get_or separators share.place d) ≡ true
