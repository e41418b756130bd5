-- The entries of a change, appended to one side-file after another.
use Rattle.std.proofs.Common.{◌≡◌, ℕ, zero, suc, ◌≤◌, List, [], ◌∷◌, ◌++◌, length, map, set, append-nil, Option, Some, None, refl, sym, ap, ◌∙◌, subst, arith}
use Rattle.std.proofs.Common.{inl, inr, length-append}
use Rattle.std.specs.List.{slice_get}
use Rattle.std.proofs.lemmas.Option.{same_Some}
use Rattle.keybytes.specs.declared.rid.Rid.{Rid}
use Rattle.heap_table.specs.declared.ready.Ready.{Ready}
use Rattle.side_file.specs.Entries.{entry_of}
use Rattle.side_file.specs.SideFileValue.{SideFileValue}
use Rattle.visibility.specs.SideEntries.{entries_of_change}
use Rattle.visibility.specs.declared.change.Change.{Change}
use Rattle.table_scan.specs.SideFiles.{noted}
use Rattle.table_scan.specs.Noting.{without_room, IsChangeOf, AreChangesOf, IsLonger, HaveAppended, HaveNoted, OthersStay, change_entries}
use Rattle.build_events.specs.CoreState.{BuildState}
use Rattle.page_workers.proofs.Places.{at_set, below, same_at, there_is}

-- the place behind a list, and those of the list
pub last_at : {X : Type 0} (xs : List X) (x : X) (i : ℕ) → i ≡ length xs → slice_get (xs ++ x ∷ []) i ≡ Some x
last_at xs x i is = rw is (at xs) where
  at : (ys : List _) → slice_get (ys ++ x ∷ []) (length ys) ≡ Some x
  at [] = refl
  at (y ∷ ys) = at ys

pub others_at : {X : Type 0} (xs : List X) (x : X) (i : ℕ) → (i ≡ length xs → ⊥) → slice_get (xs ++ x ∷ []) i ≡ slice_get xs i
others_at [] x zero other = absurd (other refl)
others_at [] x (suc i) other = refl
others_at (y ∷ xs) x zero other = refl
others_at (y ∷ xs) x (suc i) other = others_at xs x i (λ same. other (ap suc same))

pub nothing_at : {X : Type 0} (xs : List X) (i : ℕ) → length xs ≤ i → slice_get xs i ≡ None
nothing_at [] i behind = refl
nothing_at (x ∷ xs) zero behind = absurd (omega (arith, behind))
nothing_at (x ∷ xs) (suc i) behind = nothing_at xs i (omega (arith, behind))

-- a side-file to which nothing was appended
not_longer : (side : SideFileValue) → IsLonger [] side side
not_longer side = record { fed = refl; left = sym (append-nil side.left); end = refl }

pub none_appended : (number : ℕ) (rid : Rid) (sides : List SideFileValue) → HaveAppended number rid [] sides sides
none_appended number rid sides = λ k old new at there.
    subst (IsLonger [] old) (same_Some old new (sym at ∙ there)) (not_longer old)

-- one change more
pub more_appended :
    (number : ℕ) (rid : Rid) (changes : List Change) (change : Change) (olds mids : List SideFileValue) (k : ℕ) (mid new : SideFileValue) → k ≡ length changes
    → HaveAppended number rid changes olds mids → slice_get mids k ≡ Some mid → new.fed ≡ mid.fed → new.left ≡ mid.left ++ map (entry_of number) (entries_of_change rid change)
    → new.end ≡ mid.end → HaveAppended number rid (changes ++ change ∷ []) olds (set mids k new)
more_appended number rid changes change olds mids k mid new counted done there fed left ends = λ i old side at now. elim (at_set mids k new i side now) [
  | inl here ↦
      let place : i ≡ length changes = here.0 ∙ counted in
      let was = done i old mid at (ap (slice_get mids) here.0 ∙ there) in
      let none : change_entries number rid (slice_get changes i) ≡ [] = ap (change_entries number rid) (nothing_at changes i (omega (arith, place))) in
      let old_left : mid.left ≡ old.left = was.left ∙ ap (λ es. old.left ++ es) none ∙ append-nil old.left in
      rw (here.1, last_at changes change i place) (record {
        fed = fed ∙ was.fed;
        left = left ∙ ap (λ es. es ++ map (entry_of number) (entries_of_change rid change)) old_left;
        end = ends ∙ was.end;
      })
  | inr other ↦
      rw (others_at changes change i (λ same. other.0 (same ∙ sym counted))) (done i old side at other.1)
]

-- all changes together are what the build notes
pub all_noted :
    (b : BuildState) (ready : Ready) (changes : List Change) (olds news : List SideFileValue) → length changes ≡ length b.specs → AreChangesOf b ready changes
    → HaveAppended b.number ready.rid changes olds news → HaveNoted b ready olds news
all_noted b ready changes olds news many are done = λ k spec old new at was now.
    let less = below b.specs k spec at in
    let change = there_is changes k (omega (arith, less, many)) in
    let entries : entries_of_change ready.rid change.0 ≡ _ = are k change.0 change.1 spec at in
    subst (λ es. IsLonger (map (entry_of b.number) es) old new) entries
    (subst (λ o. IsLonger (change_entries b.number ready.rid o) old new) change.1 (done k old new was now))

-- and nothing else was noted
pub others_stay :
    (number : ℕ) (rid : Rid) (changes : List Change) (olds mids news : List SideFileValue) (used : ℕ) → length changes ≡ used
    → map without_room mids ≡ map without_room olds → HaveAppended number rid changes mids news → OthersStay used olds news
others_stay number rid changes olds mids news used many same done = λ k old new behind was now.
    let mid = same_at without_room mids olds k old same was in
    let longer = done k mid.0 new mid.1 now in
    let none : change_entries number rid (slice_get changes k) ≡ [] = ap (change_entries number rid) (nothing_at changes k (omega (arith, many, behind))) in
    record {
      fed = longer.fed ∙ ap (λ (s : SideFileValue). s.fed) mid.2;
      left = longer.left ∙ ap (λ es. mid.0.left ++ es) none ∙ ap (λ (s : SideFileValue). s.left ++ []) mid.2;
      end = longer.end ∙ ap (λ (s : SideFileValue). s.end) mid.2;
    }

-- where no build runs
pub none_noted : (used : ℕ) (sides : List SideFileValue) → OthersStay used sides sides
none_noted used sides = λ k old new behind was now. subst (IsLonger [] old) (same_Some old new (sym was ∙ now)) (not_longer old)

-- a change made for one index more
pub more_changes :
    (b : BuildState) (ready : Ready) (changes : List Change) (change : Change) → AreChangesOf b ready changes → IsChangeOf b (length changes) ready change
    → AreChangesOf b ready (changes ++ change ∷ [])
more_changes b ready changes change are is = λ index it at. by_place index it at (slice_get changes index) refl where
  by_place : (index : ℕ) (it : Change) → slice_get (changes ++ change ∷ []) index ≡ Some it → (o : Option Change) → slice_get changes index ≡ o → IsChangeOf b index ready it
  by_place index it at (Some other) is_there =
      let less = below changes index other is_there in
      let same : slice_get changes index ≡ Some it = sym (others_at changes change index (λ e. omega (arith, e, less))) ∙ at in
      are index it same
  by_place index it at None gone =
      let last = below (changes ++ change ∷ []) index it at in
      let whole = length-append changes (change ∷ []) in
      let place : index ≡ length changes = behind changes index gone (omega (arith, last, whole)) in
      let same : change ≡ it = same_Some change it (sym (last_at changes change index place) ∙ at) in
      subst (IsChangeOf b index ready) same (subst (λ i. IsChangeOf b i ready change) (sym place) is) where
        behind : {X : Type 0} (xs : List X) (i : ℕ) → slice_get xs i ≡ None → i ≤ length xs → i ≡ length xs
        behind [] i gone most = omega (arith, most)
        behind (x ∷ xs) zero gone most = absurd (cc)
        behind (x ∷ xs) (suc i) gone most = let rest = behind xs i gone (omega (arith, most)) in omega (arith, rest)

pub no_changes : (b : BuildState) (ready : Ready) → AreChangesOf b ready []
no_changes b ready = λ index change at. absurd (let bad : None ≡ Some change = at in cc)

-- what room a side-file had changes nothing of what was appended
pub noted_over :
    (b : BuildState) (ready : Ready) (olds mids news : List SideFileValue) → map without_room mids ≡ map without_room olds → HaveNoted b ready mids news
    → HaveNoted b ready olds news
noted_over b ready olds mids news same have = λ k spec old new at was now.
    let mid = same_at without_room mids olds k old same was in
    let longer = have k spec mid.0 new at mid.1 now in
    record {
      fed = longer.fed ∙ ap (λ (s : SideFileValue). s.fed) mid.2;
      left = longer.left ∙ ap (λ (s : SideFileValue). s.left ++ map (entry_of b.number) (noted b spec ready.rid ready.old ready.new)) mid.2;
      end = longer.end ∙ ap (λ (s : SideFileValue). s.end) mid.2;
    }
