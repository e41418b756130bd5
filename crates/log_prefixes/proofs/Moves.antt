-- Each step keeps the rule.
use Rattle.std.proofs.Common.{◌≡◌, ◌≢◌, ℕ, zero, suc, ◌+◌, ◌%◌, ◌^◌, ◌<◌, ◌==◌, eq-eqb, List, [], ◌∷◌, ◌++◌, length, true, refl, sym, ap, ◌∙◌, subst, ⊎_elim, arith, length-append, set}
use Rattle.std.specs.Prelude.{slice_index}
use mathlib.Core.Option.{none, some, some-injective, some-ne-none}
use mathlib.Core.List.{IsPrefix}
use lib.ListN.{get_elem?}
use prog.Atomic.{either}
use Rattle.atomic_table.specs.Table.{step, keeps, Me, Allows, Splits, Joins}
use Rattle.atomic_table.proofs.Lists.{at_set, at_snoc, at_longer, set_again}
use Rattle.log_prefixes.proofs.Beginnings.{prefix_self, prefix_none, prefix_more}
use Rattle.log_prefixes.specs.declared.view.View.{View}
use Rattle.log_prefixes.specs.Knowledge.{knower, Kept, Appended, Compared}

word_after : (words : List ℕ) (old now len next : ℕ) → words ≡ (old % 2 ^ 64) ∷ [] → len ≡ old → len < 2 ^ 64 → next ≡ (len + 1) % 2 ^ 64 → now ≡ old + 1
    → set words 0 (either (slice_index words 0 == len) next (slice_index words 0)) ≡ (now % 2 ^ 64) ∷ []
word_after words old now len next is same fits nx more =
    let P : List ℕ → Type 0 = λ ws. set ws 0 (either (slice_index ws 0 == len) next (slice_index ws 0)) ≡ (now % 2 ^ 64) ∷ [] in
    let here : old % 2 ^ 64 ≡ len = omega arith in
    let hit : (old % 2 ^ 64 == len) ≡ true = eq-eqb (old % 2 ^ 64) len here in
    let value : next ≡ now % 2 ^ 64 = nx ∙ ap (λ k. k % 2 ^ 64) (omega arith) in
    subst P (sym is) (rw hit (ap (λ k. k ∷ []) value))

set_first : (words : List ℕ) (n : ℕ) → words ≡ n ∷ [] → set words 0 (slice_index words 0) ≡ n ∷ []
set_first words n is = subst (λ (ws : List ℕ). set ws 0 (slice_index ws 0) ≡ n ∷ []) (sym is) refl

module _ {R : Type 0} where
  -- what the rule says of one view
  abbrev Fits : List R → View R → Type 0
  Fits log v = IsPrefix v.log log × IsPrefix v.beside log

  Each : List R → List (View R) → Type 0
  Each log views = (by : ℕ) (v : View R) → get_elem? views by ≡ some v → Fits log v

  fits_set : (now : List R) (views : List (View R)) (id : ℕ) (w : View R)
      → ((j : ℕ) (u : View R) → get_elem? views j ≡ some u → Fits now u) → Fits now w
      → (j : ℕ) (u : View R) → get_elem? (set views id w) j ≡ some u → Fits now u
  fits_set now views id w others mine j u e =
      ⊎_elim
      (λ (x : (j ≡ id) × (w ≡ u)). subst (Fits now) x.1 mine)
      (λ (x : (j ≢ id) × (get_elem? views j ≡ some u)). others j u x.1)
      (at_set views id j w u e)

  -- the first view, after the change of it
  first_set : (views : List (View R)) (w u : View R) → get_elem? (set views 0 w) 0 ≡ some u → w ≡ u
  first_set views w u e =
      ⊎_elim
      (λ (x : (0 ≡ 0) × (w ≡ u)). x.1)
      (λ (x : (0 ≢ 0) × (get_elem? views 0 ≡ some u)). absurd (x.0 refl))
      (at_set views 0 0 w u e)

  pub appends : (id : ℕ) (log : List R) (x : R) (slots len next : ℕ) → id ≡ 0 → len ≡ length log → len < 2 ^ 64 → next ≡ (len + 1) % 2 ^ 64
      → Allows (λ s. Kept s.words s.views) slots id (knower log, []) 0 (λ n. either (n == len) next n) (Appended (step slots 0 len next (some x)) (knower log, []))
  appends id log x slots len next zeroth is fits nx s h homes at word =
      let P : ℕ → Type 0 = λ k. get_elem? s.views k ≡ some (knower log) in
      let same : log ≡ h.0 = h.2 (knower log) (subst P zeroth at) in
      let now = log ++ x ∷ [] in
      let w = knower now in
      let first : (v : View R) → get_elem? (set s.views id w) 0 ≡ some v → v.log ≡ now =
      λ v e. sym (ap (λ (u : View R). u.log) (first_set s.views w v (subst (λ (k : ℕ). get_elem? (set s.views k w) 0 ≡ some v) zeroth e))) in
      let each : (j : ℕ) (u : View R) → get_elem? (set s.views id w) j ≡ some u → Fits now u =
      fits_set now s.views id w
      (λ j u e. (subst (λ (l : List R). IsPrefix u.log (l ++ x ∷ [])) (sym same) (prefix_more u.log h.0 (x ∷ []) ((h.3 j u e).0)), subst (λ (l : List R). IsPrefix u.beside (l ++ x ∷ [])) (sym same) (prefix_more u.beside h.0 (x ∷ []) ((h.3 j u e).1))))
      (prefix_self now, prefix_none now) in (
        w,
        keeps,
        tt,
        (now, word_after s.words (length h.0) (length now) len next h.1 (is ∙ ap length same) fits nx (omega (arith, length-append log (x ∷ []), ap length same)), first, each),
        (λ y e. ap (λ (z : R). (knower (log ++ z ∷ []), [])) (some-injective x y e)),
      )

  -- the same at a seat of which it is known that it knows the log
  pub appends_as : (id : ℕ) (me : Me R (View R)) (log : List R) (x : R) (slots len next : ℕ) → me ≡ (knower log, []) → id ≡ 0 → len ≡ length log → len < 2 ^ 64 → next ≡ (len + 1) % 2 ^ 64
      → Allows (λ s. Kept s.words s.views) slots id me 0 (λ n. either (n == len) next n) (Appended (step slots 0 len next (some x)) me)
  appends_as id me log x slots len next knows zeroth is fits nx =
      subst (λ (m : Me R (View R)). Allows (λ s. Kept s.words s.views) slots id m 0 (λ n. either (n == len) next n) (Appended (step slots 0 len next (some x)) m)) (sym knows) (appends id log x slots len next zeroth is fits nx)

  -- a new seat knows what this one does
  pub tells : (id : ℕ) (v : View R) → id ≡ 0 → Splits {S = R} (λ s. Kept s.words s.views) id v v (knower v.log)
  tells id v zeroth s h at =
      let P : ℕ → Type 0 = λ k. get_elem? s.views k ≡ some v in
      let same : set s.views id v ≡ s.views = set_again s.views id v at in
      let w = knower v.log in
      let mine : Fits h.0 v = h.3 id v at in
      let first : (u : View R) → get_elem? (set s.views id v ++ w ∷ []) 0 ≡ some u → u.log ≡ h.0 =
      λ u e. ap (λ (y : View R). y.log) (some-injective u v (sym e ∙ (ap (λ (l : List (View R)). get_elem? (l ++ w ∷ []) 0) same ∙ at_longer s.views (w ∷ []) 0 v (subst P zeroth at)))) ∙ h.2 v (subst P zeroth at) in
      let each : (j : ℕ) (u : View R) → get_elem? (set s.views id v ++ w ∷ []) j ≡ some u → Fits h.0 u =
      λ j u e. ⊎_elim
      (λ (was : get_elem? (set s.views id v) j ≡ some u). h.3 j u (subst (λ (l : List (View R)). get_elem? l j ≡ some u) same was))
      (λ (new : w ≡ u). subst (Fits h.0) new (mine.0, prefix_none h.0))
      (at_snoc (set s.views id v) w u j e) in
      (h.0, h.1, first, each)

  -- what another knows is put beside the log
  pub joins : (id : ℕ) (log : List R) (other : ℕ) (u : View R) → id ≡ 0
      → Joins {S = R} (λ s. Kept s.words s.views) id (knower log) other u (record { log = log; beside = u.log }) (knower [])
  joins id log other u zeroth s h at apart there =
      let P : ℕ → Type 0 = λ k. get_elem? s.views k ≡ some (knower log) in
      let w : View R = record { log = log; beside = u.log } in
      let blank : View R = knower [] in
      let same : log ≡ h.0 = h.2 (knower log) (subst P zeroth at) in
      let theirs : Fits h.0 u =
      ⊎_elim
      (λ (t : (other ≡ id) × (w ≡ u)). absurd (apart t.0))
      (λ (t : (other ≢ id) × (get_elem? s.views other ≡ some u)). h.3 other u t.1)
      (at_set s.views id other w u there) in
      let mine : Fits h.0 w = (subst (λ (l : List R). IsPrefix l h.0) (sym same) (prefix_self h.0), theirs.0) in
      let zero_at : (v : View R) → get_elem? (set s.views id w) 0 ≡ some v → v.log ≡ h.0 =
      λ v e. ap (λ (y : View R). y.log) (sym (first_set s.views w v (subst (λ (k : ℕ). get_elem? (set s.views k w) 0 ≡ some v) zeroth e))) ∙ same in
      let first : (v : View R) → get_elem? (set (set s.views id w) other blank) 0 ≡ some v → v.log ≡ h.0 =
      λ v e. ⊎_elim
      (λ (t : (0 ≡ other) × (blank ≡ v)). absurd (apart (sym t.0 ∙ sym zeroth)))
      (λ (t : (0 ≢ other) × (get_elem? (set s.views id w) 0 ≡ some v)). zero_at v t.1)
      (at_set (set s.views id w) other 0 blank v e) in
      let each = fits_set h.0 (set s.views id w) other blank (fits_set h.0 s.views id w h.3 mine) (prefix_none h.0, prefix_none h.0) in
      (h.0, h.1, first, each)

  pub joins_as : (id : ℕ) (v : View R) (log : List R) (other : ℕ) (u : View R) → v ≡ knower log → id ≡ 0
      → Joins {S = R} (λ s. Kept s.words s.views) id v other u (record { log = v.log; beside = u.log }) (knower [])
  joins_as id v log other u knows zeroth =
      subst (λ (x : View R). Joins {S = R} (λ s. Kept s.words s.views) id x other u (record { log = x.log; beside = u.log }) (knower [])) (sym knows) (joins id log other u zeroth)

  -- what stands beside the log is a beginning of it
  pub compares : (id : ℕ) (v : View R) (slots : ℕ) → id ≡ 0
      → Allows (λ s. Kept s.words s.views) slots id (v, []) 0 (λ n. n) (Compared (step slots 0 0 0 none) (v, []))
  compares id v slots zeroth s h homes at word =
      let P : ℕ → Type 0 = λ k. get_elem? s.views k ≡ some v in
      let same : v.log ≡ h.0 = h.2 v (subst P zeroth at) in
      let w = knower v.log in
      let mine : Fits h.0 v = h.3 id v at in
      let first : (u : View R) → get_elem? (set s.views id w) 0 ≡ some u → u.log ≡ h.0 =
      λ u e. ap (λ (y : View R). y.log) (sym (first_set s.views w u (subst (λ (k : ℕ). get_elem? (set s.views k w) 0 ≡ some u) zeroth e))) ∙ same in (
        w,
        keeps,
        tt,
        (h.0, set_first s.words (length h.0 % 2 ^ 64) h.1, first, fits_set h.0 s.views id w h.3 (mine.0, prefix_none h.0)),
        (refl, subst (λ (l : List R). IsPrefix v.beside l) (sym same) mine.1),
      )

  pub compares_as : (id : ℕ) (me : Me R (View R)) (slots : ℕ) → me.1 ≡ [] → id ≡ 0
      → Allows (λ s. Kept s.words s.views) slots id me 0 (λ n. n) (Compared (step slots 0 0 0 none) me)
  compares_as id me slots bare zeroth =
      subst (λ (c : List (ℕ × R)). Allows (λ s. Kept s.words s.views) slots id (me.0, c) 0 (λ n. n) (Compared (step slots 0 0 0 none) (me.0, c))) (sym bare) (compares id me.0 slots zeroth)

  -- a seat that knows a log, in terms of itself
  pub still_knows : (me : Me R (View R)) (log : List R) (carried : List (ℕ × R)) → me ≡ (knower log, carried) → carried ≡ [] → me ≡ (knower me.0.log, [])
  still_knows me log carried knows bare = knows ∙ (λ i. (knower (sym (ap (λ (m : Me R (View R)). m.0.log) knows) i), bare i))

  -- the table at the start
  pub begins : (log : List R) (len : ℕ) → len ≡ length log → len < 2 ^ 64 → Kept (len ∷ []) (knower log ∷ [])
  begins log len is fits =
      (log, ap (λ k. k ∷ []) (omega arith), (λ v e. sym (ap (λ (y : View R). y.log) (some-injective (knower log) v e))), one)
    where
      one : (by : ℕ) (v : View R) → get_elem? (knower log ∷ []) by ≡ some v → Fits log v
      one zero v e = subst (Fits log) (some-injective (knower log) v e) (prefix_self log, prefix_none log)
      one (suc by) v e = absurd (some-ne-none v (sym e))
