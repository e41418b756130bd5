-- Rounds of an index, and the turns of all.
use Rattle.std.proofs.Common.{◌≡◌, ◌≢◌, ℕ, ◌+◌, ◌-◌, ◌<◌, ◌≤◌, List, [], ◌∷◌, ◌++◌, min, Option, Some, None, All, refl, sym, ap, ◌∙◌, subst, inl, inr, arith}
use Rattle.std.specs.Prelude.{get_or}
use Rattle.std.proofs.lemmas.Bool.{cases_eq, cases_lt}
use Rattle.std.proofs.lemmas.List.Elements.{All-append, All-nil, All-push}
use Rattle.keybytes.specs.declared.fault.Fault.{Fault}
use Rattle.build_events.specs.BuildSteps.{ring_most}
use Rattle.build_events.specs.CoreState.{BuildState, CoreState}
use Rattle.build_events.specs.declared.event.Event.{Event}
use Rattle.build_events.specs.declared.event.Event.TheVariants.{Feed, Apply}
use Rattle.build_events.specs.Steps.{Step}
use Rattle.build_events.specs.declared.reply.Reply.TheVariants.{Refused}
use Rattle.live_lemmas.specs.CatchingUp.{left_at}
use Rattle.live_lemmas.specs.Settling.{ring_at}
use Rattle.kept_table.specs.CatchingUp.{AreKept, Leaves, LeavesNoFewer, MovesEntries, left_over, to_leave, unfed_of, waited_of}
use Rattle.kept_table.specs.Counts.{HasLaws}
use Rattle.kept_table.specs.Pieces.{CatchesUpBy, IsPrepared, StopsWork, WorksOn}
use Rattle.kept_table.specs.Progresses.{index_count}
use Rattle.kept_table.specs.Rounds.{AppliesRing, DoesRound, FeedsRing, Moves, MovesEach, MovesTo, StopsEach, StopsMoving, StopsRound}
use Rattle.kept_table.specs.Shapes.{DoesAll, HasLoaded}
use Rattle.kept_table.proofs.Counts.{laws_of}
use Rattle.kept_table.proofs.Entries.{apply_refused, feed_refused, more_left, settled_left}
use Rattle.kept_table.proofs.Pieces.{does_none, does_then, some_behind, stops_after}
use Rattle.kept_table.proofs.Prepared.{prepared_moved}
use Rattle.kept_table.proofs.Shapes.{keeps_loaded}

-- events after others
joined : (old mid new : CoreState) (works : WorksOn old mid) (more : WorksOn mid new) → DoesAll (works.events ++ more.events) old new
joined old mid new works more = does_then works.events more.events old mid new (works, refl) (more, refl)

-- which all move entries on
all_joined :
    (old mid new : CoreState) (works : WorksOn old mid) (more : WorksOn mid new) → All MovesEntries works.events → All MovesEntries more.events
    → All MovesEntries (joined old mid new works more).0.events
all_joined old mid new works more first then =
    subst (λ (events : List Event). All MovesEntries events) (sym (joined old mid new works more).1)
    (All-append MovesEntries works.events more.events first then)

some_joined :
    (old mid new : CoreState) (works : WorksOn old mid) (more : WorksOn mid new) → more.events ≢ [] → (joined old mid new works more).0.events ≢ []
some_joined old mid new works more some none =
    some_behind works.events more.events some (sym (joined old mid new works more).1 ∙ none)

none_move : (s : CoreState) → All MovesEntries (does_none s).0.events
none_move s = subst (λ (events : List Event). All MovesEntries events) (sym (does_none s).1) (All-nil MovesEntries)

one_moves : (event : Event) → MovesEntries event → All MovesEntries (event ∷ [])
one_moves event moves = All-push MovesEntries [] event (All-nil MovesEntries) moves

-- One round.

pub does_round :
    (index most applied : ℕ) (old mid new : CoreState) → FeedsRing index most old mid → AppliesRing index mid applied new
    → DoesRound index most old applied new
does_round index most applied old mid new fed done = record {
  done = does_then (Feed index most ∷ []) (Apply index ring_most ∷ []) old mid new fed.done done.done;
  fed = fed.fed;
  fed_is = fed.fed_is;
  applied_is = done.applied_is ∙ ap (λ (n : ℕ). min ring_most n) fed.ring;
  unfed = done.unfed ∙ fed.unfed;
  ring = done.ring ∙ ap (λ (n : ℕ). n - applied) fed.ring;
  others = λ other differs. record {
    unfed = (done.others other differs).unfed ∙ (fed.others other differs).unfed;
    ring = (done.others other differs).ring ∙ (fed.others other differs).ring;
  };
}

pub stops_at_feed :
    (index most : ℕ) (old new : CoreState) (fault : Fault) → StopsWork (Feed index most ∷ []) old fault new
    → Step old (Feed index most) (Refused fault) new → StopsRound index most old fault new
stops_at_feed index most old new fault stops step = record {
  due = Feed index most ∷ [];
  entries = one_moves (Feed index most) tt;
  stops = stops;
  unfed = omega (arith, feed_refused index most old new fault step index);
  others = λ other differs. feed_refused index most old new fault step other;
}

pub stops_at_apply :
    (index : ℕ) (old new : CoreState) (fault : Fault) → StopsWork (Apply index ring_most ∷ []) old fault new
    → Step old (Apply index ring_most) (Refused fault) new → StopsRound index 0 old fault new
stops_at_apply index old new fault stops step = record {
  due = Apply index ring_most ∷ [];
  entries = one_moves (Apply index ring_most) tt;
  stops = stops;
  unfed = omega (arith, apply_refused index ring_most old new fault step index);
  others = λ other differs. apply_refused index ring_most old new fault step other;
}

pub stops_behind_feed :
    (index most : ℕ) (old mid new : CoreState) (fault : Fault) → FeedsRing index most old mid → StopsRound index 0 mid fault new
    → StopsRound index most old fault new
stops_behind_feed index most old mid new fault fed stops = record {
  due = Feed index most ∷ stops.due;
  entries = All-append MovesEntries (Feed index most ∷ []) stops.due (one_moves (Feed index most) tt) stops.entries;
  stops = stops_after (Feed index most ∷ []) stops.due old mid new fault fed.done stops.stops;
  unfed = omega (arith, stops.unfed, fed.unfed, fed.fed_is);
  others = λ other differs. stops.others other differs ∙ (fed.others other differs).unfed;
}

-- The rounds of an index.

pub no_moves : (index least : ℕ) (s : CoreState) → least ≤ unfed_of s index → Moves index least s s
no_moves index least s some =
    record { works = (does_none s).0; entries = none_move s; left = some; others = λ other differs. record { unfed = refl; ring = refl } }

round_moves : (index most : ℕ) (events : List Event) → events ≡ Feed index most ∷ Apply index ring_most ∷ [] → All MovesEntries events
round_moves index most events are =
    subst (λ (es : List Event). All MovesEntries es) (sym are)
    (All-push MovesEntries (Feed index most ∷ []) (Apply index ring_most) (one_moves (Feed index most) tt) tt)

-- so many are to be fed
abbrev pub IsMore : ℕ → ℕ → CoreState → ℕ → Type 0
IsMore index least s more = more ≡ min (unfed_of s index - least) ring_most

pub moves_round :
    (index least more applied : ℕ) (old mid new : CoreState) → Moves index least old mid → IsMore index least mid more
    → DoesRound index more mid applied new → Moves index least old new
moves_round index least more applied old mid new moves is round = record {
  works = (joined old mid new moves.works round.done.0).0;
  entries = all_joined old mid new moves.works round.done.0 moves.entries (round_moves index more round.done.0.events round.done.1);
  left = omega (arith, moves.left, is, round.fed_is, round.unfed);
  others = λ other differs. record {
    unfed = (round.others other differs).unfed ∙ (moves.others other differs).unfed;
    ring = (round.others other differs).ring ∙ (moves.others other differs).ring;
  };
}

-- while a whole ring is applied fewer are left
pub round_less :
    (index more applied : ℕ) (old new : CoreState) → DoesRound index more old applied new → ring_most ≤ applied
    → unfed_of new index + ring_at index new < unfed_of old index + ring_at index old
round_less index more applied old new round full = omega (arith, round.fed_is, round.applied_is, round.unfed, round.ring, full)

pub moves_to :
    (index least more applied : ℕ) (old mid new : CoreState) → Moves index least old mid → IsMore index least mid more
    → DoesRound index more mid applied new → applied < ring_most → MovesTo index least old new
unfolding moves_round
moves_to index least more applied old mid new moves is round few = record {
  moves = moves_round index least more applied old mid new moves is round;
  some = some_joined old mid new moves.works round.done.0
      (λ none. let bad : Feed index more ∷ Apply index ring_most ∷ [] ≡ [] = sym round.done.1 ∙ none in cc);
  unfed = omega (arith, moves.left, is, round.fed_is, round.applied_is, round.unfed, few);
  ring = omega (arith, round.applied_is, round.ring, few);
}

pub stops_moving :
    (index least more : ℕ) (old mid new : CoreState) (fault : Fault) → Moves index least old mid → IsMore index least mid more
    → StopsRound index more mid fault new → StopsMoving index least old fault new
stops_moving index least more old mid new fault moves is stops = record {
  due = moves.works.events ++ stops.due;
  entries = All-append MovesEntries moves.works.events stops.due moves.entries stops.entries;
  stops = stops_after moves.works.events stops.due old mid new fault (moves.works, refl) stops.stops;
  left = omega (arith, moves.left, is, stops.unfed);
  others = λ other differs. stops.others other differs ∙ (moves.others other differs).unfed;
}

pub loaded_moved : (index least : ℕ) (old mid : CoreState) → Moves index least old mid → HasLoaded index old → HasLoaded index mid
loaded_moved index least old mid moves has = keeps_loaded old mid index moves.works has

-- The turns of all indexes.

-- the first so many had their turn
pub record HadTurns (most : ℕ) (waited : Option (List ℕ)) (count : ℕ) (old new : CoreState) : Type 0 where
  pub works : WorksOn old new
  pub entries : All MovesEntries works.events
  pub some : 0 < count → works.events ≢ []
  pub unfed : (k : ℕ) → k < count → unfed_of new k ≡ to_leave most waited old k
  pub ring : (k : ℕ) → k < count → ring_at k new ≡ 0
  pub rest : (k : ℕ) → count ≤ k → unfed_of new k ≡ unfed_of old k
  pub prepared : IsPrepared new

pub no_turns : (most : ℕ) (waited : Option (List ℕ)) (s : CoreState) → IsPrepared s → HadTurns most waited 0 s s
no_turns most waited s prepared = record {
  works = (does_none s).0;
  entries = none_move s;
  some = λ some none. omega (arith, some);
  unfed = λ k less. absurd (omega (arith, less));
  ring = λ k less. absurd (omega (arith, less));
  rest = λ k from. refl;
  prepared = prepared;
}

-- so many are to be left of the next
abbrev pub IsLeast : ℕ → Option (List ℕ) → ℕ → CoreState → ℕ → Type 0
IsLeast most waited index s least = least ≡ left_over most waited index (unfed_of s index)

least_is :
    (most : ℕ) (waited : Option (List ℕ)) (index least : ℕ) (old mid : CoreState) → HadTurns most waited index old mid
    → IsLeast most waited index mid least → least ≡ to_leave most waited old index
least_is most waited index least old mid had is = is ∙ ap (λ (n : ℕ). left_over most waited index n) (had.rest index (omega arith))

pub next_turn :
    (most : ℕ) (waited : Option (List ℕ)) (index least : ℕ) (old mid new : CoreState) → HadTurns most waited index old mid
    → IsLeast most waited index mid least → MovesTo index least mid new → HadTurns most waited (index + 1) old new
next_turn most waited index least old mid new had is turn = record {
  works = (joined old mid new had.works turn.moves.works).0;
  entries = all_joined old mid new had.works turn.moves.works had.entries turn.moves.entries;
  some = λ _. some_joined old mid new had.works turn.moves.works turn.some;
  unfed = λ k less. elim (cases_eq k index) [
    | inl same ↦ ap (λ (n : ℕ). unfed_of new n) same ∙ turn.unfed ∙ least_is most waited index least old mid had is
        ∙ ap (λ (n : ℕ). to_leave most waited old n) (sym same)
    | inr other ↦ (turn.moves.others k other).unfed ∙ had.unfed k (omega (arith, less, other))
  ];
  ring = λ k less. elim (cases_eq k index) [
    | inl same ↦ ap (λ (n : ℕ). ring_at n new) same ∙ turn.ring
    | inr other ↦ (turn.moves.others k other).ring ∙ had.ring k (omega (arith, less, other))
  ];
  rest = λ k from. (turn.moves.others k (λ same. omega (arith, from, same))).unfed ∙ had.rest k (omega (arith, from));
  prepared = prepared_moved mid new turn.moves.works turn.moves.entries had.prepared;
}

-- no more are left than there are
pub few_left : (most : ℕ) (waited : Option (List ℕ)) (index unfed : ℕ) → left_over most waited index unfed ≤ unfed
few_left most waited index unfed = omega arith

pub stops_each :
    (most : ℕ) (waited : Option (List ℕ)) (index least : ℕ) (old mid new : CoreState) (fault : Fault) → HadTurns most waited index old mid
    → index < index_count old.live.build → IsLeast most waited index mid least → StopsMoving index least mid fault new → StopsEach most waited old fault new
stops_each most waited index least old mid new fault had there is stops = record {
  some_indexes = omega (arith, there);
  due = had.works.events ++ stops.due;
  entries = All-append MovesEntries had.works.events stops.due had.entries stops.entries;
  stops = stops_after had.works.events stops.due old mid new fault (had.works, refl) stops.stops;
  unfed = λ k less. elim (cases_eq k index) [
    | inl same ↦ omega (
      arith,
      stops.left,
      least_is most waited index least old mid had is,
      ap (λ (n : ℕ). unfed_of new n) same,
      ap (λ (n : ℕ). to_leave most waited old n) same,
    )
    | inr other ↦ elim (cases_lt k index) [
      | inl before ↦ omega (arith, stops.others k other, had.unfed k before)
      | inr behind ↦ omega (arith, stops.others k other, had.rest k behind, few_left most waited k (unfed_of old k))
    ]
  ];
}

pub all_turns :
    (most : ℕ) (waited : Option (List ℕ)) (count : ℕ) (old new : CoreState) → HadTurns most waited count old new → count ≡ index_count old.live.build
    → MovesEach most waited old new
all_turns most waited count old new had all = record {
  works = had.works;
  entries = had.entries;
  some = λ some. had.some (omega (arith, some, all));
  unfed = λ k less. had.unfed k (omega (arith, less, all));
  ring = λ k less. had.ring k (omega (arith, less, all));
}

-- What is left behind them.

waited_less :
    (most : ℕ) (waited : Option (List ℕ)) (index unfed left : ℕ) → unfed ≤ left
    → left_over most waited index unfed ≤ waited_of waited index left - most
waited_less most None index unfed left more = omega (arith, more)
waited_less most (Some waits) index unfed left more = omega arith

pub leaves_all :
    (most : ℕ) (waited : Option (List ℕ)) (old new : CoreState) → HasLaws old → HasLaws new → MovesEach most waited old new → Leaves most waited old new
leaves_all most waited old new laws kept moved = record {
  each = λ index less. settled_left new index kept (moved.ring index less) ∙ moved.unfed index less;
  fewer = λ index less. omega (
    arith,
    settled_left new index kept (moved.ring index less),
    moved.unfed index less,
    waited_less most waited index (unfed_of old index) (left_at index old) (more_left old index laws),
  );
}

pub catches_up :
    (most : ℕ) (waited : Option (List ℕ)) (old new : CoreState) → HasLaws old → HasLaws new → MovesEach most waited old new
    → CatchesUpBy most waited old new
catches_up most waited old new laws kept moved =
    record { works = moved.works; entries = moved.entries; leaves = leaves_all most waited old new laws kept moved }

pub leaves_no_fewer :
    (most : ℕ) (waited : Option (List ℕ)) (old new : CoreState) (fault : Fault) → HasLaws new → StopsEach most waited old fault new
    → LeavesNoFewer most waited old new
leaves_no_fewer most waited old new fault kept stops = λ index less. omega (arith, stops.unfed index less, more_left new index kept)

-- a build has as many indexes as are kept
few_indexes : (s : CoreState) (index : ℕ) → HasLaws s → index < index_count s.live.build → index < 8
few_indexes s index laws less = at s.live.build refl where
  at : (o : Option BuildState) → s.live.build ≡ o → index < 8
  at None none = absurd (omega (arith, less, ap index_count none))
  at (Some b) runs = omega (arith, less, ap index_count runs, (laws_of s b runs laws).few_indexes)

pub are_kept :
    (most : ℕ) (waited : Option (List ℕ)) (old new : CoreState) (waits : List ℕ) (kept : Option (List ℕ)) → HasLaws new
    → index_count new.live.build ≡ index_count old.live.build → MovesEach most waited old new
    → ((index : ℕ) → index < 8 → get_or waits index 0 ≡ unfed_of new index) → kept ≡ Some waits → AreKept new kept
are_kept most waited old new waits kept laws same moved told is =
    subst (λ (o : Option (List ℕ)). AreKept new o) (sym is) (λ index less.
    told index (few_indexes new index laws less) ∙ sym (settled_left new index laws (moved.ring index (omega (arith, less, same)))))
