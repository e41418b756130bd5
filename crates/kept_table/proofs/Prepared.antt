-- What a look at a build tells, and that a build that is prepared stays so.
use Rattle.std.proofs.Common.{◌≡◌, ◌<◌, ℕ, ◌+◌, Bool, true, false, List, [], ◌∷◌, length, Option, Some, None, All, refl, sym, ap, ap₂, ◌∙◌, subst, inl, inr, arith}
use Rattle.std.specs.Prelude.{◌%◌, IfSome, not, nat_lt, is_some, set, if◌then◌else◌}
use Rattle.std.specs.List.{position, position_or_len}
use Rattle.std.proofs.lemmas.Bool.{cases_lt, cond-true, lt-ltb, not-false}
use Rattle.std.proofs.lemmas.List.{length-set}
use Rattle.std.proofs.lemmas.List.Elements.{All-head, All-tail}
use Rattle.std.proofs.lemmas.List.Folds.{position_or_len-set}
use Rattle.std.proofs.lemmas.List.Quantifiers.{position-Some}
use Rattle.std.proofs.lemmas.List.Sums.{fails_before_first}
use Rattle.build_events.specs.BuildSteps.{OnBuild, after_apply, after_feed, next_applied, next_fed}
use Rattle.build_events.specs.CoreState.{BuildState, CoreState, IndexState, with_live}
use Rattle.build_events.specs.Ranges.{next_page, open_range}
use Rattle.build_events.specs.Steps.{Run, Step}
use Rattle.build_events.specs.Workers.{index_at, unloaded_index}
use Rattle.build_events.specs.declared.event.Event.{Event}
use Rattle.build_events.specs.declared.event.Event.TheVariants.{Begin, Insert, Update, Delete, Undo, Commit, Start, Scan, Digest, Seal, Load, Feed, Apply, Fence, Switch, Abandon}
use Rattle.build_events.specs.declared.reply.Reply.{Reply}
use Rattle.kept_table.specs.CatchingUp.{MovesEntries}
use Rattle.kept_table.specs.Counts.{HasLaws}
use Rattle.kept_table.specs.Pieces.{IsDone, IsPrepared, WorksOn}
use Rattle.kept_table.specs.Progresses.{index_count}
use Rattle.kept_table.specs.Shapes.{HasIndex, HasLoaded, HasOpenRange, HasPageIn, HasWorker, HasWorkers}
use Rattle.kept_table.proofs.Counts.{laws_of, on_build}
use Rattle.kept_table.proofs.Shapes.{found}

-- What a look at a build tells.

-- the lowest range with a page is there, and has one
pub page_in : (s : CoreState) (range : ℕ) → HasOpenRange (Some range) s → HasPageIn range s
page_in s range open_at = at_build s.live.build open_at where
  at_build :
      (o : Option BuildState) → OnBuild o (λ b. Some range ≡ open_range b)
      → OnBuild o (λ b. (range < length b.ends) × (is_some (next_page b range) ≡ true))
  at_build None is = absurd is
  at_build (Some b) is =
      let it = found (λ r. is_some (next_page b r)) 0 (length b.ends) range (sym is) in
      (omega (arith, it.0), it.1)

-- the build has a worker by each number modulo how many there are
pub worker_of : (s : CoreState) (workers range : ℕ) → HasLaws s → HasWorkers workers s → (0 < workers) × (range % workers < workers → HasWorker (range % workers) s)
worker_of s workers range laws many = at s.live.build refl where
  at : (o : Option BuildState) → s.live.build ≡ o → (0 < workers) × (range % workers < workers → HasWorker (range % workers) s)
  at None none = absurd (subst (λ (o : Option BuildState). OnBuild o (λ b. workers ≡ b.workers)) none many)
  at (Some b) runs =
      let are : workers ≡ b.workers = subst (λ (o : Option BuildState). OnBuild o (λ it. workers ≡ it.workers)) runs many in (
        omega (arith, are, (laws_of s b runs laws).some_workers),
        λ less. subst (λ (o : Option BuildState). OnBuild o (λ it. range % workers < it.workers)) (sym runs) (omega (arith, are, less)),
      )

-- an index that isn't in order is there
pub unloaded_there :
    (s : CoreState) (index : ℕ) → HasLaws s → HasOpenRange None s → unloaded_index s.work ≡ Some index → HasIndex index s
unloaded_there s index laws scanned lowest = at s.live.build refl where
  at : (o : Option BuildState) → s.live.build ≡ o → HasIndex index s
  at None none = absurd (subst (λ (o : Option BuildState). OnBuild o (λ b. None ≡ open_range b)) none scanned)
  at (Some b) runs =
      let less = (position-Some (λ (it : IndexState). not it.loaded) s.work.indexes index (record { loaded = false; applied = 0 }) lowest).0 in
      subst (λ (o : Option BuildState). OnBuild o (λ it. index < length it.specs)) (sym runs) (omega (arith, less, (laws_of s b runs laws).indexes))

-- nothing is left to prepare
pub prepared_at : (s : CoreState) → HasOpenRange None s → unloaded_index s.work ≡ None → IsPrepared s
prepared_at s scanned none = at s.live.build scanned where
  at : (o : Option BuildState) → OnBuild o (λ b. None ≡ open_range b) → IfSome o (λ b. (open_range b ≡ None) × (unloaded_index s.work ≡ None))
  at None is = absurd is
  at (Some b) is = (sym is, none)

pub prepared_without : (s : CoreState) → s.live.build ≡ None → IsPrepared s
prepared_without s none =
    subst (λ (o : Option BuildState). IfSome o (λ b. (open_range b ≡ None) × (unloaded_index s.work ≡ None))) (sym none) tt

-- where none is the lowest that isn't in order each is
each_loaded :
    (indexes : List IndexState) (index : ℕ) → position (λ (it : IndexState). not it.loaded) indexes ≡ None → index < length indexes
    → (index_at indexes index).loaded ≡ true
each_loaded indexes index none less =
    not-false (index_at indexes index).loaded (elim (cases_lt (position_or_len (λ (it : IndexState). not it.loaded) indexes) (length indexes)) [
      | inl some ↦ absurd (let place : ℕ = position_or_len (λ (it : IndexState). not it.loaded) indexes in
          let bad : Some place ≡ None = sym (cond-true (nat_lt place (length indexes)) (Some place) None (lt-ltb place (length indexes) some)) ∙ none in cc)
      | inr all ↦ fails_before_first (λ (it : IndexState). not it.loaded) indexes index (record { loaded = false; applied = 0 }) (omega (arith, all, less))
    ])

-- so each index of a build that is prepared is in order
pub loaded_of : (s : CoreState) (index : ℕ) → IsPrepared s → HasLaws s → index < index_count s.live.build → HasLoaded index s
loaded_of s index prepared laws less = at s.live.build refl where
  at : (o : Option BuildState) → s.live.build ≡ o → HasLoaded index s
  at None none = absurd (omega (arith, less, ap index_count none))
  at (Some b) runs =
      let below : index < length b.specs = omega (arith, less, ap index_count runs) in
      let none = subst (λ (o : Option BuildState). IfSome o (λ it. (open_range it ≡ None) × (unloaded_index s.work ≡ None))) runs prepared in (
        subst (λ (o : Option BuildState). OnBuild o (λ it. index < length it.specs)) (sym runs) below,
        each_loaded s.work.indexes index none.1 (omega (arith, below, (laws_of s b runs laws).indexes)),
      )

-- Entries that are fed and applied leave a prepared build prepared.

prepared_of :
    (s : CoreState) (b : BuildState) → s.live.build ≡ Some b → IsPrepared s → (open_range b ≡ None) × (unloaded_index s.work ≡ None)
prepared_of s b runs prepared =
    subst (λ (o : Option BuildState). IfSome o (λ it. (open_range it ≡ None) × (unloaded_index s.work ≡ None))) runs prepared

prepared_if :
    (new : CoreState) (b : BuildState) → new.live.build ≡ Some b → open_range b ≡ None → unloaded_index new.work ≡ None → IsPrepared new
prepared_if new b runs scanned none =
    subst (λ (o : Option BuildState). IfSome o (λ it. (open_range it ≡ None) × (unloaded_index new.work ≡ None))) (sym runs) (scanned, none)

prepared_fed :
    (s new : CoreState) (index most : ℕ) (reply : Reply) → IsDone reply → Step s (Feed index most) reply new → IsPrepared s → IsPrepared new
prepared_fed s new index most reply done (inl (fault, is, refused)) prepared = absurd (done fault is)
prepared_fed s new index most reply done (inr (none, does)) prepared =
    let at = on_build s.live.build (λ b.
    (does.0 ≡ next_fed b s.live.heap.log s.work index most)
    × (new ≡ with_live s (record s.live { build = Some (after_feed b index does.0) }))) does.2 in
    let was = prepared_of s at.0 at.1 prepared in
    prepared_if new (after_feed at.0 index does.0) (ap (λ (c : CoreState). c.live.build) at.2.1) was.0
    (ap (λ (c : CoreState). unloaded_index c.work) at.2.1 ∙ was.1)

-- an index that is changed, but for whether it is in order
same_unloaded :
    (indexes : List IndexState) (index : ℕ) (it : IndexState) → it.loaded ≡ (index_at indexes index).loaded
    → position (λ (i : IndexState). not i.loaded) (set indexes index it) ≡ position (λ (i : IndexState). not i.loaded) indexes
same_unloaded indexes index it same =
    let test : IndexState → Bool = λ i. not i.loaded in
    ap₂ (λ (place many : ℕ). if nat_lt place many then Some place else None)
    (position_or_len-set test indexes index it (record { loaded = false; applied = 0 }) (ap not same)) (length-set indexes index it)

prepared_applied :
    (s new : CoreState) (index most : ℕ) (reply : Reply) → IsDone reply → Step s (Apply index most) reply new → IsPrepared s → IsPrepared new
prepared_applied s new index most reply done (inl (fault, is, refused)) prepared = absurd (done fault is)
prepared_applied s new index most reply done (inr (none, does)) prepared =
    let at = on_build s.live.build (λ b. (does.0 ≡ next_applied b s.work index most) × (new ≡ record s { work = after_apply s.work index does.0 })) does.2 in
    let was = prepared_of s at.0 at.1 prepared in
    let it : IndexState = index_at s.work.indexes index in
    prepared_if new at.0 (ap (λ (c : CoreState). c.live.build) at.2.1 ∙ at.1) was.0
    (ap (λ (c : CoreState). unloaded_index c.work) at.2.1
    ∙ same_unloaded s.work.indexes index (record it { applied = it.applied + does.0 }) refl ∙ was.1)

prepared_step :
    (s new : CoreState) (event : Event) (reply : Reply) → MovesEntries event → IsDone reply → Step s event reply new → IsPrepared s → IsPrepared new
prepared_step s new Begin reply moves done step prepared = absurd moves
prepared_step s new (Insert txn row) reply moves done step prepared = absurd moves
prepared_step s new (Update txn rid row) reply moves done step prepared = absurd moves
prepared_step s new (Delete txn rid) reply moves done step prepared = absurd moves
prepared_step s new (Undo txn) reply moves done step prepared = absurd moves
prepared_step s new (Commit txn) reply moves done step prepared = absurd moves
prepared_step s new (Start plan) reply moves done step prepared = absurd moves
prepared_step s new (Scan range worker) reply moves done step prepared = absurd moves
prepared_step s new (Digest worker) reply moves done step prepared = absurd moves
prepared_step s new (Seal worker) reply moves done step prepared = absurd moves
prepared_step s new (Load index) reply moves done step prepared = absurd moves
prepared_step s new (Feed index most) reply moves done step prepared = prepared_fed s new index most reply done step prepared
prepared_step s new (Apply index most) reply moves done step prepared = prepared_applied s new index most reply done step prepared
prepared_step s new Fence reply moves done step prepared = absurd moves
prepared_step s new Switch reply moves done step prepared = absurd moves
prepared_step s new Abandon reply moves done step prepared = absurd moves

run_prepared :
    (s new : CoreState) (events : List Event) (replies : List Reply) → All MovesEntries events → All IsDone replies
    → Run (λ s event. Unit {0}) s events replies new → IsPrepared s → IsPrepared new
run_prepared s new [] [] moves done run prepared = subst IsPrepared (sym run) prepared
run_prepared s new [] (reply ∷ replies) moves done run prepared = absurd run
run_prepared s new (event ∷ events) [] moves done run prepared = absurd run
run_prepared s new (event ∷ events) (reply ∷ replies) moves done run prepared =
    run_prepared run.0 new events replies (All-tail MovesEntries event events moves) (All-tail IsDone reply replies done) run.3
    (prepared_step s run.0 event reply (All-head MovesEntries event events moves) (All-head IsDone reply replies done) run.1 prepared)

pub prepared_moved : (s new : CoreState) (works : WorksOn s new) → All MovesEntries works.events → IsPrepared s → IsPrepared new
prepared_moved s new works moves prepared = run_prepared s new works.events works.replies moves works.done works.run prepared
