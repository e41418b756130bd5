-- The levels of a fan to whose last child a leaf went.
use Rattle.std.proofs.Common.{◌≡◌, ℕ, zero, suc, ◌+◌, ◌<◌, List, [], ◌∷◌, ◌++◌, Option, Some, None, length, length-append, get_or, take, refl, sym, ap, ◌∙◌, subst, arith}
use Rattle.std.proofs.Math.ListN.{set, length-set}
use Rattle.tree_nodes.specs.declared.fan.Fan.{Fan}
use Rattle.tree_nodes.specs.Fans.{children_of}
use Rattle.tree_nodes.specs.Lending.{with_child}
use Rattle.btree.specs.declared.node.Kind.TheVariants as kind
use Rattle.btree.specs.declared.split.Split.{Split}
use Rattle.btree.specs.Seen.{Seen}
use Rattle.btree.specs.Nodes.{seen_kind}
use Rattle.btree.specs.TreeValue.{Level}
use Rattle.btree.specs.Levels.{alone, beside, levels_of, levels_over}
use Rattle.btree.specs.Growing.{AreFull, begun, HaveGrown, LevelsAfter, PutLast}
use Rattle.btree.proofs.FanFacts.{AtFan}
use Rattle.btree.proofs.LevelsFilled.{fold_end}
use Rattle.btree.proofs.LevelsGrown.{grown_append, grown_beside, full_beside, full_end, begun_beside, begun_end, grown_end}

last_is : (cs : List Seen) (i : ℕ) (old : Seen) → i + 1 ≡ length cs → old ≡ get_or cs i old → cs ≡ take i cs ++ old ∷ []
last_is [] i old e is = absurd (omega arith)
last_is (c ∷ []) zero old e is = ap (λ (k : Seen). k ∷ []) (sym is)
last_is (c ∷ d ∷ cs) zero old e is = absurd (omega arith)
last_is (c ∷ cs) (suc i) old e is = ap (λ (ks : List Seen). c ∷ ks) (last_is cs i old (omega arith) is)

last_set : (cs : List Seen) (i : ℕ) (new : Seen) → i + 1 ≡ length cs → set cs i new ≡ take i cs ++ new ∷ []
last_set [] i new e = absurd (omega arith)
last_set (c ∷ []) zero new e = refl
last_set (c ∷ d ∷ cs) zero new e = absurd (omega arith)
last_set (c ∷ cs) (suc i) new e = ap (λ (ks : List Seen). c ∷ ks) (last_set cs i new (omega arith))

levels_end : (front : List Seen) (last : Seen) → levels_of (front ++ last ∷ []) ≡ beside (levels_of front) last.levels
levels_end front last = fold_end (λ (levels : List Level) (child : Seen). beside levels child.levels) [] front last

-- the last child, as it was and as it is
pub record AtLast (cs : List Seen) (i : ℕ) (old new : Seen) : Type 0 where
  pub last : i + 1 ≡ length cs
  pub old_is : old ≡ get_or cs i old

pub at_last : {cs : List Seen} {i : ℕ} {old new : Seen} → i + 1 ≡ length cs → old ≡ get_or cs i old → AtLast cs i old new
at_last e is = record { last = e; old_is = is }

module _ {cs : List Seen} {i : ℕ} {old new : Seen} (b : AtLast cs i old new) where
  pub over_old : levels_over cs ≡ beside (levels_of (take i cs)) old.levels ++ alone (length cs) ∷ []
  over_old = ap (λ (ls : List Level). ls ++ alone (length cs) ∷ []) (ap levels_of (last_is cs i old b.last b.old_is) ∙ levels_end (take i cs) old)

  pub of_new : levels_of (set cs i new) ≡ beside (levels_of (take i cs)) new.levels
  of_new = ap levels_of (last_set cs i new b.last) ∙ levels_end (take i cs) new

  pub over_new : levels_over (set cs i new) ≡ beside (levels_of (take i cs)) new.levels ++ alone (length cs) ∷ []
  over_new =
      ap (λ (ls : List Level). ls ++ alone (length (set cs i new)) ∷ []) of_new
      ∙ ap (λ (n : ℕ). beside (levels_of (take i cs)) new.levels ++ alone n ∷ []) (length-set cs i new)

  pub grows : HaveGrown old.levels new.levels → HaveGrown (levels_over cs) (levels_over (set cs i new))
  grows h =
      let top : List Level = alone (length cs) ∷ [] in
      let O : List Level → Type 0 = λ ls. HaveGrown ls (beside (levels_of (take i cs)) new.levels ++ top) in
      let N : List Level → Type 0 = λ ls. HaveGrown (levels_over cs) ls in
      subst N (sym over_new) (subst O (sym over_old) (grown_append _ _ top (grown_beside (levels_of (take i cs)) _ _ h)))

-- what was split off the child, which is full, stands in a fan that has room for it
put_in :
    {cs : List Seen} {i : ℕ} {old new : Seen} → AtLast cs i old new → (node : Seen) (after : List Seen) → AreFull old.levels → new.levels ≡ old.levels
    → node.levels ≡ begun old.levels → PutLast (set cs i new) node after None → HaveGrown (levels_over cs) (levels_over after)
put_in {cs} {i} {old} {new} b node after full same started put =
    let under : List Level = beside (levels_of (take i cs)) old.levels in
    let few : length cs < 32 = omega (arith, put.0, length-set cs i new) in
    let more : length (set cs i new ++ node ∷ []) ≡ length cs + 1 = length-append (set cs i new) (node ∷ []) ∙ ap (λ (n : ℕ). n + 1) (length-set cs i new) in
    let of : levels_of (set cs i new ++ node ∷ []) ≡ beside under (begun under) =
    levels_end (set cs i new) node
    ∙ ap (λ (ls : List Level). beside ls node.levels) (of_new b ∙ ap (beside (levels_of (take i cs))) same)
    ∙ ap (beside under) (started ∙ sym (begun_beside (levels_of (take i cs)) old.levels)) in
    let over : levels_over after ≡ beside under (begun under) ++ alone (length cs + 1) ∷ [] =
    ap levels_over put.1
    ∙ ap (λ (ls : List Level). ls ++ alone (length (set cs i new ++ node ∷ [])) ∷ []) of
    ∙ ap (λ (n : ℕ). beside under (begun under) ++ alone n ∷ []) more in
    let O : List Level → Type 0 = λ ls. HaveGrown ls (beside under (begun under) ++ alone (length cs + 1) ∷ []) in
    let N : List Level → Type 0 = λ ls. HaveGrown (levels_over cs) ls in
    subst N (sym over) (subst O (sym (over_old b)) (grown_end under (length cs) (full_beside (levels_of (take i cs)) old.levels full) few))

-- it stands in a fan of its own
put_off :
    {cs : List Seen} {i : ℕ} {old new : Seen} → AtLast cs i old new → (node : Seen) (after : List Seen) (split : Split) → AreFull old.levels
    → new.levels ≡ old.levels → node.levels ≡ begun old.levels → PutLast (set cs i new) node after (Some split)
    → LevelsAfter (levels_over cs) (levels_over after) (Some split)
put_off {cs} {i} {old} {new} b node after split full same started put =
    let under : List Level = beside (levels_of (take i cs)) old.levels in
    let all : length cs ≡ 32 = sym (length-set cs i new) ∙ put.0 in
    let F : List Level → Type 0 = λ ls. AreFull ls in
    let ends : begun (levels_over cs) ≡ begun old.levels ++ alone 1 ∷ [] =
    ap begun (over_old b) ∙ begun_end under (alone (length cs))
    ∙ ap (λ (ls : List Level). ls ++ alone 1 ∷ []) (begun_beside (levels_of (take i cs)) old.levels) in (
      subst F (sym (over_old b)) (full_end under (length cs) (full_beside (levels_of (take i cs)) old.levels full) all),
      ap levels_over put.1 ∙ over_new b ∙ ap (λ (ls : List Level). beside (levels_of (take i cs)) ls ++ alone (length cs) ∷ []) same ∙ sym (over_old b),
      put.2 ∙ ap (λ (ls : List Level). ls ++ alone 1 ∷ []) started ∙ sym ends,
    )

put_last :
    {cs : List Seen} {i : ℕ} {old new : Seen} → AtLast cs i old new → (node : Seen) (after : List Seen) (result : Option Split) → AreFull old.levels
    → new.levels ≡ old.levels → node.levels ≡ begun old.levels → PutLast (set cs i new) node after result
    → LevelsAfter (levels_over cs) (levels_over after) result
put_last b node after None full same started put = put_in b node after full same started put
put_last b node after (Some split) full same started put = put_off b node after split full same started put

-- nothing was split off the child
pub levels_end_with :
    {seen : Seen} {fan : Fan Seen} {i : ℕ} {old new : Seen} {was : Option Split} → AtFan seen fan → AtLast (children_of fan) i old new
    → LevelsAfter old.levels new.levels was → was ≡ None → LevelsAfter seen.levels (seen_kind (kind.Fan (with_child fan i new))).levels None
levels_end_with {seen} {fan} {i} {old} {new} {was} f b h none =
    let W : Option Split → Type 0 = λ s. LevelsAfter old.levels new.levels s in
    let S : List Level → Type 0 = λ ls. HaveGrown ls (levels_over (set (children_of fan) i new)) in
    subst S (sym f.levels) (grows b (subst W none h))

pub levels_end_split :
    {seen : Seen} {fan : Fan Seen} {i : ℕ} {old new : Seen} {was : Option Split} {split : Split} → AtFan seen fan → AtLast (children_of fan) i old new
    → LevelsAfter old.levels new.levels was → was ≡ Some split → (after : Fan Seen) (result : Option Split)
    → (i + 1 ≡ length (set (children_of fan) i new) → PutLast (set (children_of fan) i new) split.node (children_of after) result)
    → LevelsAfter seen.levels (seen_kind (kind.Fan after)).levels result
levels_end_split {seen} {fan} {i} {old} {new} {was} {split} f b h some after result put =
    let W : Option Split → Type 0 = λ s. LevelsAfter old.levels new.levels s in
    let S : List Level → Type 0 = λ ls. LevelsAfter ls (levels_over (children_of after)) result in
    let w : LevelsAfter old.levels new.levels (Some split) = subst W some h in
    subst S (sym f.levels) (put_last b split.node (children_of after) result w.0 w.1 w.2 (put (b.last ∙ sym (length-set (children_of fan) i new))))
