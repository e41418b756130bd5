-- What the entries of one RID do to a set of pairs.
use Rattle.std.proofs.Common.{◌≡◌, ℕ, zero, suc, ◌+◌, take, Bool, true, false, List, [], ◌∷◌, ◌++◌, Option, Some, None, refl, sym, ap, ◌∙◌, subst, inl, inr}
use Rattle.std.proofs.Common.{arith}
use Rattle.std.specs.Prelude.{◌||◌, ◌&&◌, not, nat_eq}
use Rattle.std.specs.List.{slice_get}
use Rattle.std.specs.Ordering.{nat_cmp, eq_by_cmp}
use Rattle.std.specs.Cmp.{Equal-is}
use Rattle.std.specs.Cmp.Lexicographic.{pointwise, texts_ties, slice_cmp}
use Rattle.std.specs.FinSet.{FinSet}
use Rattle.std.specs.FinMap.{contains_key, slice_cmp-IsAntisymmetric, nat_cmp-IsAntisymmetric}
use Rattle.std.proofs.lemmas.Bool.{cases_Bool, cond-true, cond-false, not-true}
use Rattle.std.proofs.lemmas.Option.{same_Some}
use Rattle.keybytes.specs.Pairs.{pair_cmp, without_pair}
use Rattle.keybytes.specs.declared.pair.Pair.{Pair}
use Rattle.keybytes.specs.declared.rid.Rid.{Rid}
use Rattle.keybytes.proofs.PairSets.{is_pair, IsOwn, contains-insert, contains-remove, itself, apart}
use Rattle.visibility.specs.SideEntries.{SideEntry, delete, insert, changes}
use Rattle.visibility.specs.Applied.{apply_entry, apply_entries, HasEffect, HaveEffect}

-- entries in two parts
pub apply-append : (es fs : List SideEntry) (s : FinSet pair_cmp) → apply_entries (es ++ fs) s ≡ apply_entries fs (apply_entries es s)
apply-append [] fs s = refl
apply-append (e ∷ es) fs s = apply-append es fs (apply_entry e s)

pub effect-append :
    (es fs : List SideEntry) (s : FinSet pair_cmp) → HaveEffect es s → HaveEffect fs (apply_entries es s)
    → HaveEffect (es ++ fs) s
effect-append [] fs s a b = b
effect-append (e ∷ es) fs s a b = (a.0, effect-append es fs (apply_entry e s) a.1 b)

-- an entry has effect at its turn
pub effect_at :
    (es : List SideEntry) (k : ℕ) (e : SideEntry) (s : FinSet pair_cmp) → HaveEffect es s → slice_get es k ≡ Some e
    → HasEffect e (apply_entries (take k es) s)
effect_at [] k e s all is = absurd (cc)
effect_at (x ∷ es) zero e s all is = subst (λ y. HasEffect y s) (same_Some x e is) all.0
effect_at (x ∷ es) (suc k) e s all is = effect_at es k e (apply_entry x s) all.1 is

-- one entry more is applied
pub apply_next :
    (es : List SideEntry) (k : ℕ) (e : SideEntry) (s : FinSet pair_cmp) → slice_get es k ≡ Some e
    → apply_entries (take (k + 1) es) s ≡ apply_entry e (apply_entries (take k es) s)
apply_next [] k e s is = absurd (cc)
apply_next (x ∷ es) zero e s is = ap (λ y. apply_entry y s) (same_Some x e is)
apply_next (x ∷ es) (suc k) e s is =
    let next : suc k + 1 ≡ suc (k + 1) = omega arith in
    ap (λ n. apply_entries (take n (x ∷ es)) s) next ∙ apply_next es k e (apply_entry x s) is

-- the entries have effect, the new pair stands at the RID, and elsewhere nothing changed
pub record Turns (rid : Rid) (new : Option Pair) (es : List SideEntry) (s : FinSet pair_cmp) : Type 0 where
  pub effect : HaveEffect es s
  pub here : (q : Pair) → q.rid ≡ rid → contains_key (apply_entries es s) q ≡ is_pair new q
  pub elsewhere : (q : Pair) → (q.rid ≡ rid → ⊥) → contains_key (apply_entries es s) q ≡ contains_key s q

same_key-true : (a b : List ℕ) → pointwise nat_eq a b ≡ true → a ≡ b
same_key-true a b e = slice_cmp-IsAntisymmetric nat_cmp-IsAntisymmetric a b ((Equal-is (slice_cmp nat_cmp a b)).0 (sym (texts_ties a b) ∙ e))

same_pair : (a b : Pair) → a.key ≡ b.key → a.rid ≡ b.rid → a ≡ b
same_pair a b key rid =
    let make : List ℕ → Rid → Pair = λ k r. record { key = k; rid = r } in
    ap (λ k. make k a.rid) key ∙ ap (make b.key) rid

or_no : (x : Bool) → (x || false) ≡ x
or_no true = refl
or_no false = refl

no_longer : (x : Bool) → (not x && x) ≡ false
no_longer true = refl
no_longer false = refl

insert_turns :
    (rid : Rid) (new : Pair) (s : FinSet pair_cmp) → new.rid ≡ rid
    → ((q : Pair) → q.rid ≡ rid → contains_key s q ≡ false) → Turns rid (Some new) (insert new ∷ []) s
insert_turns rid new s own was = record {
  effect = (was new own, tt);
  here = λ q at. contains-insert s new q ∙ ap (λ x. eq_by_cmp pair_cmp q new || x) (was q at) ∙ or_no (eq_by_cmp pair_cmp q new);
  elsewhere = λ q other. contains-insert s new q ∙ ap (λ x. x || contains_key s q) (apart q new (λ e. other (e ∙ own)));
}

delete_turns :
    (rid : Rid) (old : Pair) (s : FinSet pair_cmp) → old.rid ≡ rid
    → ((q : Pair) → q.rid ≡ rid → contains_key s q ≡ eq_by_cmp pair_cmp q old) → Turns rid None (delete old ∷ []) s
delete_turns rid old s own was = record {
  effect = (was old own ∙ itself old, tt);
  here = λ q at.
      contains-remove s old q ∙ ap (λ x. not (eq_by_cmp pair_cmp q old) && x) (was q at) ∙ no_longer (eq_by_cmp pair_cmp q old);
  elsewhere = λ q other. contains-remove s old q ∙ ap (λ x. not x && contains_key s q) (apart q old (λ e. other (e ∙ own)));
}

stay_turns :
    (rid : Rid) (new : Option Pair) (s : FinSet pair_cmp)
    → ((q : Pair) → q.rid ≡ rid → contains_key s q ≡ is_pair new q) → Turns rid new [] s
stay_turns rid new s was = record { effect = tt; here = was; elsewhere = λ q other. refl }

both_turn :
    (rid : Rid) (old new : Pair) (s : FinSet pair_cmp) → old.rid ≡ rid → new.rid ≡ rid
    → ((q : Pair) → q.rid ≡ rid → contains_key s q ≡ eq_by_cmp pair_cmp q old)
    → Turns rid (Some new) (delete old ∷ insert new ∷ []) s
both_turn rid old new s own_old own_new was =
    let first : Turns rid None (delete old ∷ []) s = delete_turns rid old s own_old was in
    let left : FinSet pair_cmp = without_pair (Some old) s in
    let second : Turns rid (Some new) (insert new ∷ []) left = insert_turns rid new left own_new first.here in
    record {
      effect = (first.effect.0, second.effect);
      here = second.here;
      elsewhere = λ q other. second.elsewhere q other ∙ first.elsewhere q other;
    }

-- what changes a RID's pair turns a set with the old one into one with the new one
pub changes_turn :
    (rid : Rid) (old new : Option Pair) (s : FinSet pair_cmp) → IsOwn rid old → IsOwn rid new
    → ((q : Pair) → q.rid ≡ rid → contains_key s q ≡ is_pair old q) → Turns rid new (changes old new) s
changes_turn rid None None s own_old own_new was = stay_turns rid None s was
changes_turn rid None (Some new) s own_old own_new was = insert_turns rid new s (own_new new refl) was
changes_turn rid (Some old) None s own_old own_new was = delete_turns rid old s (own_old old refl) was
changes_turn rid (Some old) (Some new) s own_old own_new was =
    let P : List SideEntry → Type 0 = λ es. Turns rid (Some new) es s in
    let same_key : Bool = pointwise nat_eq old.key new.key in
    elim (cases_Bool same_key) [
      | inl same ↦
          let pair : old ≡ new = same_pair old new (same_key-true old.key new.key same) (own_old old refl ∙ sym (own_new new refl)) in
          subst P (sym (cond-true same_key [] (delete old ∷ insert new ∷ []) same))
          (stay_turns rid (Some new) s (λ q at. was q at ∙ ap (λ x. eq_by_cmp pair_cmp q x) pair))
      | inr differ ↦
          subst P (sym (cond-false same_key [] (delete old ∷ insert new ∷ []) differ))
          (both_turn rid old new s (own_old old refl) (own_new new refl) was)
    ]

-- where the keys differ, the old pair goes and the new one comes
pub changes_differ :
    (old new : Pair) → true ≡ not (pointwise nat_eq old.key new.key)
    → changes (Some old) (Some new) ≡ delete old ∷ insert new ∷ []
changes_differ old new e =
    cond-false (pointwise nat_eq old.key new.key) [] (delete old ∷ insert new ∷ []) (not-true (pointwise nat_eq old.key new.key) (sym e))
