-- Events of a build's work, one after another.
use Rattle.std.proofs.Common.{◌≡◌, ◌≢◌, List, [], ◌∷◌, ◌++◌, refl, sym, ap, ap₂, ◌∙◌, subst, inl, inr}
use Rattle.std.proofs.lemmas.List.{append_assoc}
use Rattle.std.proofs.lemmas.List.Elements.{All-nil, All-append, All-push}
use Rattle.keybytes.specs.declared.fault.Fault.{Fault}
use Rattle.build_events.specs.CoreState.{CoreState}
use Rattle.build_events.specs.Steps.{Does, HasPageCause, IsWant, IsWorkWant, Run, Step}
use Rattle.build_events.specs.declared.event.Event.{Event}
use Rattle.build_events.specs.declared.event.Event.TheVariants.{Begin, Insert, Update, Delete, Undo, Commit, Start, Scan, Digest, Seal, Load, Feed, Apply, Fence, Switch, Abandon}
use Rattle.build_events.specs.declared.reply.Reply.{Reply}
use Rattle.build_events.specs.declared.reply.Reply.TheVariants.{Refused}
use Rattle.build_events.proofs.Runs.{run_more}
use Rattle.leased_core.specs.Leasing.{KeepsBuild, WantedLeasedPage}
use Rattle.kept_table.specs.Pieces.{IsDone, IsOfWork, StopsWork, WorksOn}
use Rattle.kept_table.specs.Shapes.{DoesAll}

-- work neither starts a build nor ends one
pub keeps_build : (event : Event) → IsOfWork event → KeepsBuild event
keeps_build Begin work = tt
keeps_build (Insert txn row) work = tt
keeps_build (Update txn rid row) work = tt
keeps_build (Delete txn rid) work = tt
keeps_build (Undo txn) work = tt
keeps_build (Commit txn) work = tt
keeps_build (Start plan) work = absurd work
keeps_build (Scan range worker) work = tt
keeps_build (Digest worker) work = tt
keeps_build (Seal worker) work = tt
keeps_build (Load index) work = tt
keeps_build (Feed index most) work = tt
keeps_build (Apply index most) work = tt
keeps_build Fence work = tt
keeps_build Switch work = absurd work
keeps_build Abandon work = absurd work

-- nothing has happened
pub no_work : (s : CoreState) → WorksOn s s
no_work s = record { events = []; of_work = All-nil IsOfWork; replies = []; done = All-nil IsDone; run = refl }

-- one event more
pub works_more :
    (old mid new : CoreState) (event : Event) (reply : Reply) → WorksOn old mid → IsOfWork event → IsDone reply → Step mid event reply new → WorksOn old new
works_more old mid new event reply works of_work done step = record {
  events = works.events ++ event ∷ [];
  of_work = All-push IsOfWork works.events event works.of_work of_work;
  replies = works.replies ++ reply ∷ [];
  done = All-push IsDone works.replies reply works.done done;
  run = run_more (λ s event. Unit {0}) old mid new works.events event works.replies reply works.run step (λ _ _. tt);
}

pub works_once : (old new : CoreState) (event : Event) (reply : Reply) → IsOfWork event → IsDone reply → Step old event reply new → WorksOn old new
works_once old new event reply of_work done step = works_more old old new event reply (no_work old) of_work done step

run_on :
    (MissedPage : CoreState → Event → Type 0) (s mid new : CoreState) (events more : List Event) (replies told : List Reply)
    → Run MissedPage s events replies mid → Run MissedPage mid more told new → Run MissedPage s (events ++ more) (replies ++ told) new
run_on MissedPage s mid new [] more [] told run next = subst (λ (m : CoreState). Run MissedPage m more told new) run next
run_on MissedPage s mid new [] more (r ∷ replies) told run next = absurd run
run_on MissedPage s mid new (e ∷ events) more [] told run next = absurd run
run_on MissedPage s mid new (e ∷ events) more (r ∷ replies) told run next =
    (run.0, run.1, run.2, run_on MissedPage run.0 mid new events more replies told run.3 next)

-- and then more of them
pub works_further : (old mid new : CoreState) → WorksOn old mid → WorksOn mid new → WorksOn old new
works_further old mid new works more = record {
  events = works.events ++ more.events;
  of_work = All-append IsOfWork works.events more.events works.of_work more.of_work;
  replies = works.replies ++ more.replies;
  done = All-append IsDone works.replies more.replies works.done more.done;
  run = run_on (λ s event. Unit {0}) old mid new works.events more.events works.replies more.replies works.run more.run;
}

pub some_behind : (events more : List Event) → more ≢ [] → events ++ more ≢ []
some_behind [] more some none = some none
some_behind (event ∷ events) more some none = cc

-- Events that are done one after another.

pub does_none : (s : CoreState) → DoesAll [] s s
unfolding no_work
does_none s = (no_work s, refl)

pub does_once : (old new : CoreState) (event : Event) (reply : Reply) → IsOfWork event → IsDone reply → Step old event reply new → DoesAll (event ∷ []) old new
unfolding works_once works_more no_work
does_once old new event reply of_work done step = (works_once old new event reply of_work done step, refl)

pub does_then : (first more : List Event) (old mid new : CoreState) → DoesAll first old mid → DoesAll more mid new → DoesAll (first ++ more) old new
unfolding works_further
does_then first more old mid new done then = (works_further old mid new done.0 then.0, ap₂ ◌++◌ done.1 then.1)

-- where none is done nothing changes
pub nothing_done : (old new : CoreState) → DoesAll [] old new → new ≡ old
nothing_done old new done =
    at done.0.replies (subst (λ (events : List Event). Run (λ s event. Unit {0}) old events done.0.replies new) done.1 done.0.run) where
      at : (replies : List Reply) → Run (λ s event. Unit {0}) old [] replies new → new ≡ old
      at [] run = run
      at (reply ∷ replies) run = absurd run

-- Events of which one is refused.

pub stops_once :
    (old new : CoreState) (event : Event) (fault : Fault) → Step old event (Refused fault) new → HasPageCause WantedLeasedPage old event (Refused fault)
    → IsWorkWant fault → StopsWork (event ∷ []) old fault new
unfolding no_work
stops_once old new event fault step full want =
    record { mid = old; works = no_work old; event = event; rest = []; order = refl; refused = step; want = want; full = full }

-- it is the first of more that were due
pub stops_before : (due more : List Event) (old new : CoreState) (fault : Fault) → StopsWork due old fault new → StopsWork (due ++ more) old fault new
stops_before due more old new fault stops = record {
  mid = stops.mid;
  works = stops.works;
  event = stops.event;
  rest = stops.rest ++ more;
  order = ap (λ (events : List Event). events ++ more) stops.order ∙ append_assoc stops.works.events (stops.event ∷ stops.rest) more;
  refused = stops.refused;
  want = stops.want;
  full = stops.full;
}

-- or it comes after some that were done
pub stops_after :
    (first due : List Event) (old mid new : CoreState) (fault : Fault) → DoesAll first old mid → StopsWork due mid fault new
    → StopsWork (first ++ due) old fault new
unfolding works_further
stops_after first due old mid new fault done stops = record {
  mid = stops.mid;
  works = works_further old mid stops.mid done.0 stops.works;
  event = stops.event;
  rest = stops.rest;
  order = ap₂ ◌++◌ (sym done.1) stops.order ∙ sym (append_assoc done.0.events stops.works.events (stops.event ∷ stops.rest));
  refused = stops.refused;
  want = stops.want;
  full = stops.full;
}

-- what an event of work may want is a page or memory
pub work_want : (event : Event) (fault : Fault) → IsOfWork event → IsWant event fault → IsWorkWant fault
work_want Begin fault of_work want = absurd of_work
work_want (Insert txn row) fault of_work want = absurd of_work
work_want (Update txn rid row) fault of_work want = absurd of_work
work_want (Delete txn rid) fault of_work want = absurd of_work
work_want (Undo txn) fault of_work want = absurd of_work
work_want (Commit txn) fault of_work want = absurd of_work
work_want (Start plan) fault of_work want = absurd of_work
work_want (Scan range worker) fault of_work want = inr want
work_want (Digest worker) fault of_work want = want
work_want (Seal worker) fault of_work want = want
work_want (Load index) fault of_work want = inr want
work_want (Feed index most) fault of_work want = absurd want
work_want (Apply index most) fault of_work want = inr want
work_want Fence fault of_work want = absurd of_work
work_want Switch fault of_work want = absurd of_work
work_want Abandon fault of_work want = absurd of_work

pub done_not_refused : (s : CoreState) (event : Event) (fault : Fault) (new : CoreState) → IsOfWork event → Does s event (Refused fault) new → ⊥
done_not_refused s Begin fault new of_work does = of_work
done_not_refused s (Insert txn row) fault new of_work does = of_work
done_not_refused s (Update txn rid row) fault new of_work does = of_work
done_not_refused s (Delete txn rid) fault new of_work does = of_work
done_not_refused s (Undo txn) fault new of_work does = of_work
done_not_refused s (Commit txn) fault new of_work does = of_work
done_not_refused s (Start plan) fault new of_work does = of_work
done_not_refused s (Scan range worker) fault new of_work does = let is = does.1 in cc
done_not_refused s (Digest worker) fault new of_work does = let is = does.1 in cc
done_not_refused s (Seal worker) fault new of_work does = let is = does.1 in cc
done_not_refused s (Load index) fault new of_work does = let is = does.1 in cc
done_not_refused s (Feed index most) fault new of_work does = let is = does.1 in cc
done_not_refused s (Apply index most) fault new of_work does = let is = does.1 in cc
done_not_refused s Fence fault new of_work does = of_work
done_not_refused s Switch fault new of_work does = of_work
done_not_refused s Abandon fault new of_work does = of_work

-- what isn't refused is done
pub told_does : (s new : CoreState) (event : Event) (reply : Reply) → IsDone reply → Step s event reply new → Does s event reply new
told_does s new event reply done (inl (fault, is, refused)) = absurd (done fault is)
told_does s new event reply done (inr (none, does)) = does

pub same_fault : (fault told : Fault) → Refused fault ≡ Refused told → told ≡ fault
same_fault fault told is = cc

-- an event of work that wants nothing and is refused changes nothing
pub refused_unchanged :
    (s new : CoreState) (event : Event) (fault : Fault) → IsOfWork event → (IsWorkWant fault → ⊥) → Step s event (Refused fault) new → new ≡ s
refused_unchanged s new event fault of_work none (inl (told, is, inl (cause, same))) = same
refused_unchanged s new event fault of_work none (inl (told, is, inr (cause, want, after))) =
    absurd (none (subst IsWorkWant (same_fault fault told is) (work_want event told of_work want)))
refused_unchanged s new event fault of_work none (inr (cause, does)) = absurd (done_not_refused s event fault new of_work does)
