-- Which piece of a build is due, and that it is done or stops.
use Rattle.std.proofs.Common.{◌≡◌, ◌≢◌, ℕ, List, [], ◌∷◌, Option, None, Some, All, refl, sym, ap, ◌∙◌, subst, inl, inr, arith}
use Rattle.std.specs.Prelude.{◌%◌, IfSome}
use Rattle.keybytes.specs.declared.fault.Fault.{Fault}
use Rattle.build_events.specs.BuildSteps.{OnBuild}
use Rattle.build_events.specs.CoreState.{BuildState, CoreState}
use Rattle.build_events.specs.Ranges.{open_range}
use Rattle.build_events.specs.Workers.{unloaded_index}
use Rattle.build_events.specs.declared.event.Event.{Event}
use Rattle.build_events.specs.declared.event.Event.TheVariants.{Scan, Digest, Seal, Load}
use Rattle.kept_table.specs.CatchingUp.{MovesEntries}
use Rattle.kept_table.specs.Counts.{HasLaws}
use Rattle.kept_table.specs.Pieces.{DoesPiece, IsCopy, IsDue, IsOrdering, IsPiece, IsPrepared, StopsPiece, StopsWork, most_of}
use Rattle.kept_table.specs.Progresses.{index_count}
use Rattle.kept_table.specs.Rounds.{StopsEach}
use Rattle.kept_table.specs.Shapes.{DoesAll, DoesCopy, HasOpenRange, HasWorker, HasWorkers, IsUnsealed, PutsInOrder, ScansIfRoom, StopsCopy, StopsOrdering}
use Rattle.kept_table.proofs.Pieces.{does_then, stops_after, stops_before}
use Rattle.kept_table.proofs.Rounds.{leaves_no_fewer}

-- A copy, and what is put in order.

pub copies :
    (range worker : ℕ) (old mid new : CoreState) → ScansIfRoom range worker old mid → DoesAll (Digest worker ∷ []) mid new → DoesCopy range worker old new
copies range worker old mid new (inl scanned) made =
    let both = does_then (Scan range worker ∷ []) (Digest worker ∷ []) old mid new scanned made in (both.0, inl both.1)
copies range worker old mid new (inr (full, same)) made =
    let here = subst (λ (s : CoreState). DoesAll (Digest worker ∷ []) s new) same made in (here.0, inr (full, here.1))

pub stops_at_scan :
    (range worker : ℕ) (old new : CoreState) (fault : Fault) → StopsWork (Scan range worker ∷ []) old fault new → StopsCopy range worker old fault new
stops_at_scan range worker old new fault stops =
    (Scan range worker ∷ Digest worker ∷ [], inl refl, stops_before (Scan range worker ∷ []) (Digest worker ∷ []) old new fault stops)

pub stops_at_digest :
    (range worker : ℕ) (old mid new : CoreState) (fault : Fault) → ScansIfRoom range worker old mid → StopsWork (Digest worker ∷ []) mid fault new
    → StopsCopy range worker old fault new
stops_at_digest range worker old mid new fault (inl scanned) stops =
    (Scan range worker ∷ Digest worker ∷ [], inl refl, stops_after (Scan range worker ∷ []) (Digest worker ∷ []) old mid new fault scanned stops)
stops_at_digest range worker old mid new fault (inr (full, same)) stops =
    (Digest worker ∷ [], inr (full, refl), subst (λ (s : CoreState). StopsWork (Digest worker ∷ []) s fault new) same stops)

pub orders_by_load : (index : ℕ) (old new : CoreState) → DoesAll (Load index ∷ []) old new → PutsInOrder index old new
orders_by_load index old new loaded = (loaded.0, inl loaded.1)

pub orders_by_seal :
    (index worker : ℕ) (old mid new : CoreState) → IsUnsealed index worker old → mid ≡ old → DoesAll (Seal worker ∷ []) mid new → PutsInOrder index old new
orders_by_seal index worker old mid new unsealed same sealed =
    let here = subst (λ (s : CoreState). DoesAll (Seal worker ∷ []) s new) same sealed in (here.0, inr (worker, unsealed, here.1))

pub orders_if_unsealed :
    (unsealed : Option ℕ) (index worker : ℕ) (old mid new : CoreState) → unsealed ≡ Some worker
    → IfSome unsealed (λ it. IsUnsealed index it old × HasWorker it old × (mid ≡ old)) → DoesAll (Seal worker ∷ []) mid new → PutsInOrder index old new
orders_if_unsealed unsealed index worker old mid new is off sealed =
    let told = subst (λ (o : Option ℕ). IfSome o (λ it. IsUnsealed index it old × HasWorker it old × (mid ≡ old))) is off in
    orders_by_seal index worker old mid new told.0 told.2 sealed

pub stops_at_load :
    (index : ℕ) (old new : CoreState) (fault : Fault) → StopsWork (Load index ∷ []) old fault new → StopsOrdering index old fault new
stops_at_load index old new fault stops = (Load index ∷ [], inl refl, stops)

pub stops_at_seal :
    (index worker : ℕ) (old mid new : CoreState) (fault : Fault) → IsUnsealed index worker old → mid ≡ old → StopsWork (Seal worker ∷ []) mid fault new
    → StopsOrdering index old fault new
stops_at_seal index worker old mid new fault unsealed same stops =
    (Seal worker ∷ [], inr (worker, unsealed, refl), subst (λ (s : CoreState). StopsWork (Seal worker ∷ []) s fault new) same stops)

-- What is due.

-- what was found of the build decides which piece is next
copy_due :
    (range workers : ℕ) (s : CoreState) (events : List Event) → HasOpenRange (Some range) s → HasWorkers workers s
    → IsCopy range (range % workers) s events → IsDue s events
copy_due range workers s events open_at many copy = at s.live.build open_at many where
  at :
      (o : Option BuildState) → OnBuild o (λ b. Some range ≡ open_range b) → OnBuild o (λ b. workers ≡ b.workers)
      → OnBuild o (λ b. IsPiece b s (open_range b) (unloaded_index s.work) events)
  at None is are = absurd is
  at (Some b) is are =
      subst (λ (r : Option ℕ). IsPiece b s r (unloaded_index s.work) events) is
      (subst (λ (n : ℕ). IsCopy range (range % n) s events) are copy)

ordering_due :
    (index : ℕ) (s : CoreState) (events : List Event) → HasOpenRange None s → unloaded_index s.work ≡ Some index → IsOrdering index s events
    → IsDue s events
ordering_due index s events scanned lowest ordering = at s.live.build scanned where
  at :
      (o : Option BuildState) → OnBuild o (λ b. None ≡ open_range b)
      → OnBuild o (λ b. IsPiece b s (open_range b) (unloaded_index s.work) events)
  at None is = absurd is
  at (Some b) is =
      subst (λ (r : Option ℕ). IsPiece b s r (unloaded_index s.work) events) is
      (subst (λ (i : Option ℕ). IsPiece b s None i events) (sym lowest) ordering)

pub moves_due :
    (s : CoreState) (b : BuildState) (events : List Event) → s.live.build ≡ Some b → IsPrepared s → All MovesEntries events → IsDue s events
moves_due s b events runs prepared moves =
    let none = subst (λ (o : Option BuildState). IfSome o (λ it. (open_range it ≡ None) × (unloaded_index s.work ≡ None))) runs prepared in
    subst (λ (o : Option BuildState). OnBuild o (λ it. IsPiece it s (open_range it) (unloaded_index s.work) events)) (sym runs)
    (subst (λ (r : Option ℕ). IsPiece b s r (unloaded_index s.work) events) (sym none.0)
    (subst (λ (i : Option ℕ). IsPiece b s None i events) (sym none.1) moves))

some_copy : (range worker : ℕ) (s : CoreState) (events : List Event) → IsCopy range worker s events → events ≢ []
some_copy range worker s events (inl is) none = let bad : Scan range worker ∷ Digest worker ∷ [] ≡ [] = sym is ∙ none in cc
some_copy range worker s events (inr (full, is)) none = let bad : Digest worker ∷ [] ≡ [] = sym is ∙ none in cc

some_ordering : (index : ℕ) (s : CoreState) (events : List Event) → IsOrdering index s events → events ≢ []
some_ordering index s events (inl is) none = let bad : Load index ∷ [] ≡ [] = sym is ∙ none in cc
some_ordering index s events (inr (worker, unsealed, is)) none = let bad : Seal worker ∷ [] ≡ [] = sym is ∙ none in cc

-- there is something to do before entries are moved on
pub not_copied : (range : ℕ) (s : CoreState) → HasOpenRange (Some range) s → IsPrepared s → ⊥
not_copied range s open_at prepared = at s.live.build open_at prepared where
  at : (o : Option BuildState) → OnBuild o (λ b. Some range ≡ open_range b) → IfSome o (λ b. (open_range b ≡ None) × (unloaded_index s.work ≡ None)) → ⊥
  at None is none = is
  at (Some b) is none = let bad : Some range ≡ None = is ∙ none.0 in cc

pub not_ordered : (index : ℕ) (s : CoreState) → HasOpenRange None s → unloaded_index s.work ≡ Some index → IsPrepared s → ⊥
not_ordered index s scanned lowest prepared = at s.live.build scanned prepared where
  at : (o : Option BuildState) → OnBuild o (λ b. None ≡ open_range b) → IfSome o (λ b. (open_range b ≡ None) × (unloaded_index s.work ≡ None)) → ⊥
  at None is none = is
  at (Some b) is none = let bad : Some index ≡ None = sym lowest ∙ none.1 in cc

pub piece_of_copy :
    (range workers : ℕ) (old new : CoreState) → HasOpenRange (Some range) old → HasWorkers workers old → DoesCopy range (range % workers) old new
    → (most : ℕ) (waited : Option (List ℕ)) → DoesPiece most waited old new
piece_of_copy range workers old new open_at many copy most waited = record {
  works = copy.0;
  due = copy_due range workers old copy.0.events open_at many copy.1;
  some = some_copy range (range % workers) old copy.0.events copy.1;
  leaves = λ prepared. absurd (not_copied range old open_at prepared);
  behind = λ prepared. absurd (not_copied range old open_at prepared);
}

pub stops_of_copy :
    (range workers : ℕ) (old new : CoreState) (fault : Fault) → HasOpenRange (Some range) old → HasWorkers workers old
    → StopsCopy range (range % workers) old fault new → (most : ℕ) (waited : Option (List ℕ)) → StopsPiece most waited old fault new
stops_of_copy range workers old new fault open_at many stops most waited = record {
  due = stops.0;
  is_due = copy_due range workers old stops.0 open_at many stops.1;
  stops = stops.2;
  leaves = λ prepared. absurd (not_copied range old open_at prepared);
}

pub piece_of_ordering :
    (index : ℕ) (old new : CoreState) → HasOpenRange None old → unloaded_index old.work ≡ Some index → PutsInOrder index old new
    → (most : ℕ) (waited : Option (List ℕ)) → DoesPiece most waited old new
piece_of_ordering index old new scanned lowest ordering most waited = record {
  works = ordering.0;
  due = ordering_due index old ordering.0.events scanned lowest ordering.1;
  some = some_ordering index old ordering.0.events ordering.1;
  leaves = λ prepared. absurd (not_ordered index old scanned lowest prepared);
  behind = λ prepared. absurd (not_ordered index old scanned lowest prepared);
}

pub stops_of_ordering :
    (index : ℕ) (old new : CoreState) (fault : Fault) → HasOpenRange None old → unloaded_index old.work ≡ Some index → StopsOrdering index old fault new
    → (most : ℕ) (waited : Option (List ℕ)) → StopsPiece most waited old fault new
stops_of_ordering index old new fault scanned lowest stops most waited = record {
  due = stops.0;
  is_due = ordering_due index old stops.0 scanned lowest stops.1;
  stops = stops.2;
  leaves = λ prepared. absurd (not_ordered index old scanned lowest prepared);
}

-- Entries are moved on, up to one event that is refused.

pub stops_in_moving :
    (most : ℕ) (waited : Option (List ℕ)) (old new : CoreState) (fault : Fault) → IsPrepared old → HasLaws new
    → StopsEach (most_of most) waited old fault new → StopsPiece most waited old fault new
stops_in_moving most waited old new fault prepared laws stops = record {
  due = stops.due;
  is_due = at old.live.build refl;
  stops = stops.stops;
  leaves = λ _. leaves_no_fewer (most_of most) waited old new fault laws stops;
} where
  at : (o : Option BuildState) → old.live.build ≡ o → IsDue old stops.due
  at None none = absurd (omega (arith, stops.some_indexes, ap index_count none))
  at (Some b) runs = moves_due old b stops.due runs prepared stops.entries
