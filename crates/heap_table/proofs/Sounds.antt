-- A table stays sound.
use Rattle.std.proofs.Common.{◌≡◌, ◌≢◌, ◌⊎◌, inl, inr, ℕ, ◌+◌, ◌≤◌, Bool, true, false, List, [], ◌∷◌, ◌++◌, length, Option, Some, None, refl, sym, ap, ◌∙◌}
use Rattle.std.proofs.Common.{subst, arith}
use Rattle.std.proofs.Math.Bool.{and-false, and-true, or-false, or-true}
use Rattle.std.specs.Prelude.{◌||◌, ◌&&◌, not, nat_lt, ◌==◌, if◌then◌else◌}
use Rattle.std.proofs.lemmas.Bool.{cases_Bool, cases_eq, cases_lt, false≢true, eqb-true, eq-eqb, ne_eqb, or_cases, and_parts, or_from}
use Rattle.std.proofs.lemmas.Bool.Decides.{nat_tests}
use Rattle.keybytes.specs.declared.cell.Cell.{Cell}
use Rattle.keybytes.specs.declared.fault.Fault.TheVariants.{RowHeld}
use Rattle.keybytes.specs.declared.rid.Rid.{Rid}
use Rattle.heap_log.specs.declared.outcome.Outcome.{Outcome}
use Rattle.heap_log.specs.declared.record.LogRec.{LogRec}
use Rattle.heap_log.specs.declared.record.LogRec.TheVariants.{Write, Undo, Commit, Switch}
use Rattle.keybytes.specs.Rids.{same_rid}
use Rattle.heap_log.specs.Standing.{record_at, is_write_of, is_write_at, stands_of, newest_standing, standing_count}
use Rattle.heap_log.proofs.Numbers.{write_at, newest_standing-of}
use Rattle.heap_table.specs.HeapState.{HeapState, is_open, held_refusal, without, still_open}
use Rattle.heap_table.specs.Holders.{writes, wrote, is_commit_of, committed, is_busy, holder}
use Rattle.heap_table.specs.Sound.{IsSound}
use Rattle.heap_log.proofs.Growing.{Grows}
use Rattle.keybytes.proofs.SameRids.{same_rid-true}
use Rattle.heap_log.proofs.Records.{one_writer}
use Rattle.heap_table.proofs.LogRows.{length_grown}
use Rattle.heap_table.proofs.Holding.{holder_is, none_standing}
use Rattle.heap_table.proofs.OpenOnes.{open_without_self, open_without_other, without_fewer, open_marked, open_begun, open_still_other, still_fewer}
use Rattle.heap_table.proofs.Writers.{HasWrite, wrote_from, wrote-added, committed-added}

-- a record may be added: its transaction was begun, no other open one has a write at its RID, and the open
-- transactions among those that wrote are the busy ones then
pub record MayAdd (s : HeapState) (rec : LogRec) (t : HeapState) : Type 0 where
  pub known : (txn : ℕ) (rid : Rid) → writes txn rid rec ≡ true → txn ≤ s.begun
  pub commits : (txn : ℕ) → is_commit_of txn rec ≡ true → (txn ≤ s.begun) × (is_open t.active txn ≡ false)
  pub alone : (txn : ℕ) (rid : Rid) → is_open s.active txn ≡ true → is_write_at rid (Some rec) ≡ true → HasWrite s.log txn rid
      → is_write_of txn (Some rec) ≡ true
  pub busy : (txn : ℕ) (rid : Rid) → wrote t.log txn rid ≡ true → is_busy t.log txn ≡ is_open t.active txn

pub wrote_then : (log new : List LogRec) (rec : LogRec) (txn : ℕ) (rid : Rid) → new ≡ log ++ rec ∷ []
    → wrote new txn rid ≡ (wrote log txn rid || writes txn rid rec)
wrote_then log new rec txn rid is = ap (λ (l : List LogRec). wrote l txn rid) is ∙ wrote-added log rec txn rid

committed_then : (log new : List LogRec) (rec : LogRec) (txn : ℕ) → new ≡ log ++ rec ∷ [] → committed new txn ≡ (committed log txn || is_commit_of txn rec)
committed_then log new rec txn is = ap (λ (l : List LogRec). committed l txn) is ∙ committed-added log rec txn

sound_added :
    (s t : HeapState) (rec : LogRec) → IsSound s → Grows s.log rec t.log → t.begun ≡ s.begun
    → ((txn : ℕ) → is_open t.active txn ≡ true → is_open s.active txn ≡ true) → MayAdd s rec t → IsSound t
sound_added s t rec h added begun fewer may =
    let is = added.is in
    let numbers = added.numbers in
    let count : length t.log ≡ length s.log + 1 = length_grown s.log t.log rec added in
    record {
      writers = λ txn rid e. elim (or_cases (wrote s.log txn rid) (writes txn rid rec) (sym (wrote_then s.log t.log rec txn rid is) ∙ e)) [
        | inl old ↦ rw begun (h.writers txn rid old)
        | inr new ↦ rw begun (may.known txn rid new)
      ];
      committers = λ txn e. elim (or_cases (committed s.log txn) (is_commit_of txn rec) (sym (committed_then s.log t.log rec txn is) ∙ e)) [
        | inl old ↦ rw begun (h.committers txn old)
        | inr new ↦ rw begun (may.commits txn new).0
      ];
      openers = λ txn e. rw begun (h.openers txn (fewer txn e));
      uncommitted = λ txn e. elim (cases_Bool (is_commit_of txn rec)) [
        | inl new ↦ absurd (false≢true (sym (may.commits txn new).1 ∙ e))
        | inr none ↦ committed_then s.log t.log rec txn is ∙ or_from (committed s.log txn) (is_commit_of txn rec) (h.uncommitted txn (fewer txn e)) none
      ];
      busy = may.busy;
      held = λ txn n m rid e l by there at.
          let within = write_at t.log rid m at in
          let n_is : record_at t.log n ≡ record_at s.log n = numbers.earlier n (omega (arith, within.high, count, l)) in
          elim (cases_lt (length s.log) m) [
            | inl last ↦
                let m_is : m ≡ length s.log + 1 = omega (arith, within.high, count, last) in
                let m_rec : record_at t.log m ≡ Some rec = ap (record_at t.log) m_is ∙ numbers.here in
                let has : HasWrite s.log txn rid =
                record { number = n; by = ap (is_write_of txn) (sym n_is) ∙ by; there = ap (is_write_at rid) (sym n_is) ∙ there } in
                ap (is_write_of txn) m_rec ∙ may.alone txn rid (fewer txn e) (ap (is_write_at rid) (sym m_rec) ∙ at) has
            | inr old ↦
                let m_is : record_at t.log m ≡ record_at s.log m = numbers.earlier m (omega (arith, old)) in
                ap (is_write_of txn) m_is ∙ h.held txn n m rid (fewer txn e) l (ap (is_write_of txn) (sym n_is) ∙ by)
                (ap (is_write_at rid) (sym n_is) ∙ there) (ap (is_write_at rid) (sym m_is) ∙ at)
          ];
    }

-- whether a transaction is busy, from what it is told by
busy_from : (log : List LogRec) (txn count : ℕ) (ended : Bool) → standing_count log txn ≡ count → committed log txn ≡ ended
    → is_busy log txn ≡ (nat_lt 0 count && not ended)
busy_from log txn count ended is_count is_ended = rw (is_count, is_ended) refl

-- the transaction that writes next may: nobody else holds the RID
unheld : (txn other : ℕ) → held_refusal txn (Some other) ≡ None → other ≡ txn
unheld txn other e = elim (cases_Bool (other == txn)) [
  | inl same ↦ eqb-true other txn same
  | inr differs ↦ absurd (refused (sym (ap (λ (b : Bool). if b then None else Some (RowHeld other)) differs) ∙ e))
] where
  refused : Some (RowHeld other) ≡ None → ⊥
  refused f = cc

pub free_for : (s : HeapState) → IsSound s → (txn other : ℕ) (rid : Rid) → held_refusal txn (holder s.log rid) ≡ None → is_open s.active other ≡ true
    → wrote s.log other rid ≡ true → other ≡ txn
free_for s h txn other rid free is has = unheld txn other (ap (held_refusal txn) (sym (holder_is s h rid other is has)) ∙ free)

-- who is busy after a write
pub busy_write :
    (s t : HeapState) (txn : ℕ) (rid : Rid) (row : Option (List Cell)) → IsSound s → Grows s.log (Write txn rid row) t.log
    → is_open s.active txn ≡ true → (other : ℕ)
    → is_busy t.log other ≡ (if txn == other then true else is_busy s.log other)
busy_write s t txn rid row h added opened other =
    let ended : committed t.log other ≡ committed s.log other =
    committed_then s.log t.log (Write txn rid row) other added.is ∙ or-false (committed s.log other) in
    elim (cases_Bool (txn == other)) [
      | inl same ↦
          let is_txn : txn ≡ other = eqb-true txn other same in
          let count : standing_count t.log other ≡ standing_count s.log other + 1 = added.standing.count other ∙ rw same refl in
          let fresh : committed s.log other ≡ false = ap (committed s.log) (sym is_txn) ∙ h.uncommitted txn opened in
          busy_from t.log other (standing_count s.log other + 1) false count (ended ∙ fresh)
          ∙ (let some : nat_lt 0 (standing_count s.log other + 1) ≡ true = grind (arith, nat_tests) in rw (some, same) refl)
      | inr differs ↦
          let count : standing_count t.log other ≡ standing_count s.log other = added.standing.count other ∙ rw differs refl in
          busy_from t.log other (standing_count s.log other) (committed s.log other) count ended ∙ rw differs refl
    ]

pub sound_write :
    (s t : HeapState) (txn : ℕ) (rid : Rid) (row : Option (List Cell)) → IsSound s → Grows s.log (Write txn rid row) t.log
    → t.active ≡ s.active → t.begun ≡ s.begun → is_open s.active txn ≡ true → held_refusal txn (holder s.log rid) ≡ None → IsSound t
sound_write s t txn rid row h added active begun opened free =
    sound_added s t (Write txn rid row) h added begun (λ u e. sym (ap (λ a. is_open a u) active) ∙ e) (record {
      known = λ u place e.
          let same : txn ≡ u = eqb-true txn u (and_parts (txn == u) (same_rid rid place) e).0 in
          rw (sym same) (h.openers txn opened);
      commits = λ u e. absurd (false≢true e);
      alone = λ u place open_u at has.
          let same : rid ≡ place = same_rid-true rid place at in
          let by : wrote s.log u rid ≡ true = ap (wrote s.log u) same ∙ wrote_from s.log u place has.number has.by has.there in
          eq-eqb txn u (sym (free_for s h txn u rid free open_u by));
      busy = λ u place e.
          busy_write s t txn rid row h added opened u ∙ (elim (cases_Bool (txn == u)) [
            | inl same ↦ rw same (sym (ap (λ a. is_open a u) active ∙ (ap (is_open s.active) (sym (eqb-true txn u same)) ∙ opened)))
            | inr differs ↦
                let old : wrote s.log u place ≡ true = elim
                (or_cases (wrote s.log u place) (writes u place (Write txn rid row))
                (sym (wrote_then s.log t.log (Write txn rid row) u place added.is) ∙ e)) [
                  | inl old ↦ old
                  | inr new ↦ absurd (false≢true (sym differs ∙ (and_parts (txn == u) (same_rid rid place) new).0))
                ] in
                rw differs (h.busy u place old ∙ sym (ap (λ a. is_open a u) active))
          ]);
    })

-- who wrote there before a record that is no write of it there
pub wrote_still : (log new : List LogRec) (rec : LogRec) (txn : ℕ) (rid : Rid) → new ≡ log ++ rec ∷ [] → writes txn rid rec ≡ false
    → wrote new txn rid ≡ wrote log txn rid
wrote_still log new rec txn rid is none = wrote_then log new rec txn rid is ∙ rw none (or-false (wrote log txn rid))

-- who is busy after a commit
busy_commit :
    (s t : HeapState) (txn : ℕ) → Grows s.log (Commit txn) t.log → (other : ℕ)
    → is_busy t.log other ≡ (if txn == other then false else is_busy s.log other)
busy_commit s t txn added other = elim (cases_Bool (txn == other)) [
  | inl same ↦
      let ended : committed t.log other ≡ true = committed_then s.log t.log (Commit txn) other added.is ∙ rw same (or-true (committed s.log other)) in
      busy_from t.log other (standing_count t.log other) true refl ended ∙ rw same (and-false (nat_lt 0 (standing_count t.log other)))
  | inr differs ↦
      let ended : committed t.log other ≡ committed s.log other =
      committed_then s.log t.log (Commit txn) other added.is ∙ rw differs (or-false (committed s.log other)) in
      busy_from t.log other (standing_count s.log other) (committed s.log other) (added.standing.count other) ended ∙ rw differs refl
]

eq_turned : (a b : ℕ) → (a == b) ≡ false → b ≢ a
eq_turned a b e same = false≢true (sym e ∙ eq-eqb a b (sym same))

pub sound_commit :
    (s t : HeapState) (txn : ℕ) → IsSound s → Grows s.log (Commit txn) t.log → t.active ≡ without txn s.active → t.begun ≡ s.begun
    → is_open s.active txn ≡ true → IsSound t
sound_commit s t txn h added active begun opened =
    sound_added s t (Commit txn) h added begun (λ u e. without_fewer txn u s.active (sym (ap (λ a. is_open a u) active) ∙ e)) (record {
      known = λ u place e. absurd (false≢true e);
      commits = λ u e.
          let same : txn ≡ u = eqb-true txn u e in (
            rw (sym same) (h.openers txn opened),
            ap (λ a. is_open a u) active
                ∙ (ap (λ (v : ℕ). is_open (without v s.active) u) same ∙ open_without_self u s.active),
          );
      alone = λ u place open_u at has. absurd (false≢true at);
      busy = λ u place e.
          let old : wrote s.log u place ≡ true = sym (wrote_still s.log t.log (Commit txn) u place added.is refl) ∙ e in
          busy_commit s t txn added u ∙ (elim (cases_Bool (txn == u)) [
            | inl same ↦
                rw same (sym (ap (λ a. is_open a u) active
                ∙ (ap (λ (v : ℕ). is_open (without v s.active) u) (eqb-true txn u same) ∙ open_without_self u s.active)))
            | inr differs ↦
                rw differs (h.busy u place old ∙ sym (ap (λ a. is_open a u) active ∙ open_without_other txn u s.active (eq_turned txn u differs)))
          ]);
    })

pub sound_switch :
    (s t : HeapState) (verdicts : List Outcome) → IsSound s → Grows s.log (Switch verdicts) t.log → t.active ≡ s.active → t.begun ≡ s.begun → IsSound t
sound_switch s t verdicts h added active begun =
    sound_added s t (Switch verdicts) h added begun (λ u e. sym (ap (λ a. is_open a u) active) ∙ e) (record {
      known = λ u place e. absurd (false≢true e);
      commits = λ u e. absurd (false≢true e);
      alone = λ u place open_u at has. absurd (false≢true at);
      busy = λ u place e.
          let old : wrote s.log u place ≡ true = sym (wrote_still s.log t.log (Switch verdicts) u place added.is refl) ∙ e in
          let ended : committed t.log u ≡ committed s.log u = committed_then s.log t.log (Switch verdicts) u added.is ∙ or-false (committed s.log u) in
          busy_from t.log u (standing_count s.log u) (committed s.log u) (added.standing.count u) ended
          ∙ (h.busy u place old ∙ sym (ap (λ a. is_open a u) active));
    })

-- a write that stands is of its own transaction alone
stands_other : (log : List LogRec) (txn other n : ℕ) → is_write_of txn (record_at log n) ≡ true → (txn == other) ≡ false → stands_of log other n ≡ false
stands_other log txn other n by differs = elim (cases_Bool (is_write_of other (record_at log n))) [
  | inl also ↦ absurd (false≢true (sym differs ∙ eq-eqb txn other (one_writer txn other (record_at log n) by also)))
  | inr none ↦ rw none refl
]

-- who is busy after an undo of the transaction's newest standing write
busy_undo :
    (s t : HeapState) (txn n : ℕ) → IsSound s → Grows s.log (Undo txn n) t.log
    → newest_standing s.log txn ≡ Some n → is_open s.active txn ≡ true → (other : ℕ)
    → is_busy t.log other ≡ (if txn == other then nat_lt 0 (standing_count t.log txn) else is_busy s.log other)
busy_undo s t txn n h added newest opened other =
    let ended : committed t.log other ≡ committed s.log other = committed_then s.log t.log (Undo txn n) other added.is ∙ or-false (committed s.log other) in
    elim (cases_Bool (txn == other)) [
      | inl same ↦
          let is_txn : txn ≡ other = eqb-true txn other same in
          let fresh : committed s.log other ≡ false = ap (committed s.log) (sym is_txn) ∙ h.uncommitted txn opened in
          busy_from t.log other (standing_count t.log txn) false (ap (standing_count t.log) (sym is_txn)) (ended ∙ fresh)
          ∙ rw same (and-true (nat_lt 0 (standing_count t.log txn)))
      | inr differs ↦
          let other_stands : stands_of s.log other n ≡ false = stands_other s.log txn other n (newest_standing-of s.log txn n newest) differs in
          let count : standing_count t.log other ≡ standing_count s.log other = added.standing.count other ∙ rw other_stands refl in
          busy_from t.log other (standing_count s.log other) (committed s.log other) count ended ∙ rw differs refl
    ]

pub sound_undo :
    (s t : HeapState) (txn n : ℕ) → IsSound s → Grows s.log (Undo txn n) t.log
    → t.active ≡ still_open txn (standing_count t.log txn) s.active → t.begun ≡ s.begun
    → newest_standing s.log txn ≡ Some n → is_open s.active txn ≡ true → IsSound t
sound_undo s t txn n h added active begun newest opened =
    sound_added s t (Undo txn n) h added begun (λ u e. still_fewer txn u (standing_count t.log txn) s.active opened (sym (ap (λ a. is_open a u) active) ∙ e))
    (record {
      known = λ u place e. absurd (false≢true e);
      commits = λ u e. absurd (false≢true e);
      alone = λ u place open_u at has. absurd (false≢true at);
      busy = λ u place e.
          let old : wrote s.log u place ≡ true = sym (wrote_still s.log t.log (Undo txn n) u place added.is refl) ∙ e in
          busy_undo s t txn n h added newest opened u ∙ (elim (cases_Bool (txn == u)) [
            | inl same ↦ rw same (sym (ap (λ a. is_open a u) active
                ∙ (ap (is_open (still_open txn (standing_count t.log txn) s.active)) (sym (eqb-true txn u same)) ∙ still (standing_count t.log txn))))
            | inr differs ↦
                rw differs (h.busy u place old ∙ sym (ap (λ a. is_open a u) active
                ∙ open_still_other txn u (standing_count t.log txn) s.active (eq_turned txn u differs)))
          ]);
    }) where
      still : (left : ℕ) → is_open (still_open txn left s.active) txn ≡ nat_lt 0 left
      still left = elim (cases_Bool (left == 0)) [
        | inl ended ↦ let none : nat_lt 0 left ≡ false = grind (arith, nat_tests, ended) in rw (ended, none) (open_without_self txn s.active)
        | inr more ↦ let some : nat_lt 0 left ≡ true = grind (arith, nat_tests, more) in rw (more, some) (open_marked txn txn s.active ∙ opened)
      ]

-- a transaction without a standing write ends
pub sound_ended :
    (s t : HeapState) (txn : ℕ) → IsSound s → t.log ≡ s.log → t.active ≡ without txn s.active → t.begun ≡ s.begun
    → newest_standing s.log txn ≡ None → IsSound t
sound_ended s t txn h is active begun newest = record {
  writers = λ u rid e. rw begun (h.writers u rid (sym (ap (λ (l : List LogRec). wrote l u rid) is) ∙ e));
  committers = λ u e. rw begun (h.committers u (sym (ap (λ (l : List LogRec). committed l u) is) ∙ e));
  openers = λ u e. rw begun (h.openers u (was_open u e));
  uncommitted = λ u e. ap (λ (l : List LogRec). committed l u) is ∙ h.uncommitted u (was_open u e);
  busy = λ u rid e.
      let old : wrote s.log u rid ≡ true = sym (ap (λ (l : List LogRec). wrote l u rid) is) ∙ e in
      ap (λ (l : List LogRec). is_busy l u) is ∙ (elim (cases_eq u txn) [
        | inl same ↦
            ap (is_busy s.log) same ∙ (busy_from s.log txn 0 (committed s.log txn) (none_standing s.log txn newest) refl
            ∙ sym (ap (λ a. is_open a u) active ∙ (ap (is_open (without txn s.active)) same ∙ open_without_self txn s.active)))
        | inr differs ↦ h.busy u rid old ∙ sym (ap (λ a. is_open a u) active ∙ open_without_other txn u s.active differs)
      ]);
  held = λ u n m rid e l by there at.
      let P : List LogRec → Type 0 = λ log. is_write_of u (record_at log n) ≡ true → is_write_at rid (record_at log n) ≡ true
      → is_write_at rid (record_at log m) ≡ true → is_write_of u (record_at log m) ≡ true in
      subst P (sym is) (h.held u n m rid (was_open u e) l) by there at;
} where
  was_open : (u : ℕ) → is_open t.active u ≡ true → is_open s.active u ≡ true
  was_open u e = without_fewer txn u s.active (sym (ap (λ a. is_open a u) active) ∙ e)

-- a transaction is begun
pub sound_begin :
    (s t : HeapState) → IsSound s → t.log ≡ s.log → t.active ≡ s.active ++ record { txn = s.begun + 1; ending = false } ∷ [] → t.begun ≡ s.begun + 1
    → IsSound t
sound_begin s t h is active begun = record {
  writers = λ u rid e. let l = h.writers u rid (sym (ap (λ (l : List LogRec). wrote l u rid) is) ∙ e) in omega (arith, l, begun);
  committers = λ u e. let l = h.committers u (sym (ap (λ (l : List LogRec). committed l u) is) ∙ e) in omega (arith, l, begun);
  openers = λ u e. elim (old_or_new u e) [
    | inl old ↦ let l = h.openers u old in omega (arith, l, begun)
    | inr new ↦ omega (arith, new, begun)
  ];
  uncommitted = λ u e. ap (λ (l : List LogRec). committed l u) is ∙ (elim (old_or_new u e) [
    | inl old ↦ h.uncommitted u old
    | inr new ↦ elim (cases_Bool (committed s.log u)) [
      | inl ended ↦ let l = h.committers u ended in absurd (omega (arith, l, new))
      | inr fresh ↦ fresh
    ]
  ]);
  busy = λ u rid e.
      let old : wrote s.log u rid ≡ true = sym (ap (λ (l : List LogRec). wrote l u rid) is) ∙ e in
      let l = h.writers u rid old in
      let apart : (s.begun + 1 == u) ≡ false = ne_eqb (s.begun + 1) u (λ same. absurd (omega (arith, l, same))) in
      ap (λ (log : List LogRec). is_busy log u) is
      ∙ (h.busy u rid old ∙ sym (ap (λ a. is_open a u) active ∙ (open_begun (s.begun + 1) u s.active ∙ rw apart (or-false (is_open s.active u)))));
  held = λ u n m rid e l by there at.
      let P : List LogRec → Type 0 = λ log. is_write_of u (record_at log n) ≡ true → is_write_at rid (record_at log n) ≡ true
      → is_write_at rid (record_at log m) ≡ true → is_write_of u (record_at log m) ≡ true in
      subst P (sym is) (λ by there at. elim (old_or_new u e) [
        | inl old ↦ h.held u n m rid old l by there at
        | inr new ↦ let before = h.writers u rid (wrote_from s.log u rid n by there) in absurd (omega (arith, before, new))
      ]) by there at;
} where
  old_or_new : (u : ℕ) → is_open t.active u ≡ true → (is_open s.active u ≡ true) ⊎ (u ≡ s.begun + 1)
  old_or_new u e = elim (or_cases (is_open s.active u) (s.begun + 1 == u) (sym (ap (λ a. is_open a u) active ∙ open_begun (s.begun + 1) u s.active) ∙ e)) [
    | inl old ↦ inl old
    | inr new ↦ inr (sym (eqb-true (s.begun + 1) u new))
  ]

-- the same log and transactions
pub sound_same : (s t : HeapState) → t.log ≡ s.log → t.active ≡ s.active → t.begun ≡ s.begun → IsSound s → IsSound t
sound_same s t log active begun h = record {
  writers = rw (log, begun) h.writers;
  committers = rw (log, begun) h.committers;
  openers = rw (active, begun) h.openers;
  uncommitted = rw (log, active) h.uncommitted;
  busy = rw (log, active) h.busy;
  held = rw (log, active) h.held;
}
