-- What the rings of a build's side-files were sent, one call after another.
use Rattle.std.proofs.Common.{◌≡◌, ℕ, ◌+◌, ◌<◌, List, [], ◌++◌, length, map, take, drop, set, get_or, Option, None, Some, Result, Ok, Err, IfOk, OnOk, refl, sym, ap, ap₂, ◌∙◌, subst, arith, inl, inr}
use Rattle.std.proofs.Common.{append-nil, append_assoc, drop-drop, take-take, take-append-drop, get_or-set_same, get_or-set_other}
use Rattle.std.specs.Prelude.{MatchOption}
use Rattle.std.specs.List.{AllZip, slice_get}
use Rattle.std.proofs.lemmas.List.{drop-take, map-append}
use Rattle.std.proofs.lemmas.Option.{same_Some}
use Rattle.keybytes.specs.Keys.{KeySpecValue}
use Rattle.keybytes.specs.declared.fault.Fault.{Fault}
use Rattle.heap_log.specs.declared.record.LogRec.{LogRec}
use Rattle.side_file.specs.Ends.{PutEnd}
use Rattle.side_file.specs.Entries.{entry_of}
use Rattle.side_file.specs.declared.entry.Entry.{Entry}
use Rattle.visibility.specs.SideEntries.{SideEntry}
use Rattle.side_file.specs.Ends.{PutEndLooked}
use Rattle.build_events.specs.BuildSteps.{after_feed}
use Rattle.build_events.specs.CoreState.{BuildState, LiveState, scanning_of}
use Rattle.build_events.specs.SideEntries.{side_entries}
use Rattle.build_events.specs.Workers.{fed_to}
use Rattle.table_scan.specs.SideFiles.{side_refusal}
use Rattle.table_scan.specs.TableBuilds.{BuildFollows, IsBuildOf}
use Rattle.table_scan.proofs.LookedEnds.{all_looked_twice, looked_on, unlooked}
use Rattle.page_workers.proofs.Places.{once_set, there_is}
use Rattle.table_scan.proofs.SideEnds.{index_below}
use Rattle.building.specs.BuildingValue.{BuildingValue}
use Rattle.live_lemmas.specs.Builds.{HasFed, LiveValue, SideIsLooked, next_entries}
use Rattle.live_lemmas.specs.Putting.{AreSentNext, IsSentNext, SendsNext, SendsOn, next_of}

-- the first of a list, and then the next
one_then_more : {X : Type 0} (a b : ℕ) (xs : List X) → take a xs ++ take b (drop a xs) ≡ take (a + b) xs
one_then_more a b xs =
    ap₂ (λ (front back : List _). front ++ back) (sym (take-take a (a + b) xs (omega arith))) (sym (drop-take a b xs))
    ∙ take-append-drop a (take (a + b) xs)

-- what comes next, and then what comes next after that
next_twice :
    (b after : BuildState) (log : List LogRec) (index first then : ℕ) (o : Option KeySpecValue) → after ≡ record b { fed = after.fed }
    → fed_to after index ≡ fed_to b index + first
    → next_of b log index o first ++ next_of after log index o then ≡ next_of b log index o (first + then)
next_twice b after log index first then None same fed = refl
next_twice b after log index first then (Some spec) same fed =
    let all : List SideEntry = side_entries (scanning_of b spec) log in
    let entry : SideEntry → Entry = entry_of b.number in
    let later : next_entries after log index spec then ≡ map entry (take then (drop first (drop (fed_to b index) all))) =
    ap (λ (x : BuildState). map (entry_of x.number) (take then (drop (fed_to after index) (side_entries (scanning_of x spec) log)))) same
    ∙ ap (λ n. map entry (take then (drop n all))) fed
    ∙ ap (λ (es : List SideEntry). map entry (take then es)) (sym (drop-drop first (fed_to b index) all)) in
    ap (λ (es : List Entry). next_entries b log index spec first ++ es) later
    ∙ sym (map-append entry (take first (drop (fed_to b index) all)) (take then (drop first (drop (fed_to b index) all))))
    ∙ ap (map entry) (one_then_more first then (drop (fed_to b index) all))

-- an end that was sent nothing
nothing_next : (b : BuildState) (log : List LogRec) (index : ℕ) (o : Option KeySpecValue) → next_of b log index o 0 ≡ []
nothing_next b log index None = refl
nothing_next b log index (Some spec) = refl

only_looked : (b : BuildState) (log : List LogRec) (index : ℕ) (old new : PutEnd Entry) → PutEndLooked old new → IsSentNext b log index 0 old new
only_looked b log index old new looked = record {
  ring = looked.ring;
  capacity = looked.capacity;
  sent = looked.sent ∙ sym (append-nil old.sent) ∙ ap (λ (es : List Entry). old.sent ++ es) (sym (nothing_next b log index (slice_get b.specs index)));
}

-- one that was looked at before it was sent something
pub after_look :
    (b : BuildState) (log : List LogRec) (index count : ℕ) (old mid new : PutEnd Entry) → PutEndLooked old mid → IsSentNext b log index count mid new
    → IsSentNext b log index count old new
after_look b log index count old mid new looked more = record {
  ring = more.ring ∙ looked.ring;
  capacity = more.capacity ∙ looked.capacity;
  sent = more.sent ∙ ap (λ (es : List Entry). es ++ next_of b log index (slice_get b.specs index) count) looked.sent;
}

-- and one that was sent something twice
sent_twice :
    (b after : BuildState) (log : List LogRec) (index first then : ℕ) (old mid new : PutEnd Entry) → after ≡ record b { fed = after.fed }
    → fed_to after index ≡ fed_to b index + first → IsSentNext b log index first old mid → IsSentNext after log index then mid new
    → IsSentNext b log index (first + then) old new
sent_twice b after log index first then old mid new same fed one more =
    let specs : slice_get after.specs index ≡ slice_get b.specs index = ap (λ (x : BuildState). slice_get x.specs index) same in
    record {
      ring = more.ring ∙ one.ring;
      capacity = more.capacity ∙ one.capacity;
      sent = more.sent
          ∙ ap₂ (λ (es next : List Entry). es ++ next) one.sent (ap (λ (o : Option KeySpecValue). next_of after log index o then) specs)
          ∙ append_assoc old.sent (next_of b log index (slice_get b.specs index) first) (next_of after log index (slice_get b.specs index) then)
          ∙ ap (λ (es : List Entry). old.sent ++ es) (next_twice b after log index first then (slice_get b.specs index) same fed);
    }

-- the rings of a build that goes on, of which one was looked at
pub looked_on_side :
    (index : ℕ) (live new_live : LiveValue) (building new : BuildingValue) (b : BuildState) → SideIsLooked index live building new_live new
    → new_live.state.build ≡ Some b → SendsOn live new_live
looked_on_side index live new_live building new b looked runs =
    let state : new_live.state ≡ live.state = ap (λ (l : LiveValue). l.state) looked.puts in
    record {
      build = b;
      runs = ap (λ (s : LiveState). s.build) (sym state) ∙ runs;
      after = b;
      goes_on = runs;
      same = refl;
      log = ap (λ (s : LiveState). s.heap.log) state;
      each = λ k end at.
          let it = place k end at in
          (it.0, ap (λ (l : LiveValue). slice_get l.sides k) looked.puts ∙ it.1, 0, omega arith, only_looked b live.state.heap.log k end it.0 it.2);
    }
  where
    place : (k : ℕ) (end : PutEnd Entry) → slice_get live.sides k ≡ Some end
        → (it : PutEnd Entry) × (slice_get (set live.sides index looked.put) k ≡ Some it) × PutEndLooked end it
    place k end at = elim (once_set live.sides index looked.put k end at) [
      | inl here ↦
          let same : looked.old_put ≡ end = same_Some looked.old_put end (sym looked.put_there ∙ ap (slice_get live.sides) (sym here.0) ∙ at) in
          (looked.put, here.1, subst (λ (e : PutEnd Entry). PutEndLooked e looked.put) same looked.looked.put_end)
      | inr other ↦ (end, other.1, unlooked end)
    ]

-- a feed of one of them
pub sent_by_feed :
    (index most count : ℕ) (live new : LiveValue) → HasFed index most live count new → BuildFollows live.state.heap.schema live.state.heap.log live.state.build
    → side_refusal live.state.build index ≡ None → SendsOn live new
sent_by_feed index most count live new fed follows free =
    let b : BuildState = fed.build in
    let build_of : IsBuildOf live.state.heap.schema live.state.heap.log b = subst (BuildFollows live.state.heap.schema live.state.heap.log) fed.runs follows in
    let less : index < length b.specs = index_below b index (ap (λ (o : Option BuildState). side_refusal o index) (sym fed.runs) ∙ free) in
    let spec = there_is b.specs index less in
    let counted : index < length b.fed = omega (arith, less, build_of.fed_many) in
    record {
      build = b;
      runs = fed.runs;
      after = after_feed b index count;
      goes_on = ap (λ (s : LiveState). s.build) fed.left;
      same = refl;
      log = ap (λ (s : LiveState). s.heap.log) fed.left;
      each = λ k end at.
          elim (once_set live.sides index fed.after k end at) [
            | inl here ↦
                let same : fed.put ≡ end = same_Some fed.put end (sym fed.there ∙ ap (slice_get live.sides) (sym here.0) ∙ at) in
                let place = ap (λ (l : List (PutEnd Entry)). slice_get l k) fed.others ∙ here.1 in
                let its : IsSentNext b live.state.heap.log index count fed.put fed.after = record {
                  ring = fed.ring;
                  capacity = fed.capacity;
                  sent = fed.sent spec.0 spec.1 ∙ ap (λ (o : Option KeySpecValue). fed.put.sent ++ next_of b live.state.heap.log index o count) (sym spec.1);
                } in (
                  fed.after,
                  place,
                  count,
                  ap (λ n. get_or (set b.fed index (fed_to b index + count)) n 0) here.0
                      ∙ get_or-set_same b.fed index (fed_to b index + count) 0 counted
                      ∙ ap (λ n. fed_to b n + count) (sym here.0),
                  subst (λ n. IsSentNext b live.state.heap.log n count end fed.after) (sym here.0)
                      (subst (λ (e : PutEnd Entry). IsSentNext b live.state.heap.log index count e fed.after) same its),
                )
            | inr other ↦ (
              end,
              ap (λ (l : List (PutEnd Entry)). slice_get l k) fed.others ∙ other.1,
              0,
              get_or-set_other b.fed index k (fed_to b index + count) 0 other.0 ∙ omega arith,
              only_looked b live.state.heap.log k end end (unlooked end),
            )
          ];
    }

-- one after the other
pub sends_twice : (live mid new : LiveValue) → SendsOn live mid → SendsOn mid new → SendsOn live new
sends_twice live mid new first then =
    let between : first.after ≡ then.build = same_Some first.after then.build (sym first.goes_on ∙ then.runs) in
    let same : then.after ≡ record first.build { fed = then.after.fed } =
    then.same ∙ ap (λ (x : BuildState). record x { fed = then.after.fed }) (sym between ∙ first.same) in
    record {
      build = first.build;
      runs = first.runs;
      after = then.after;
      goes_on = then.goes_on;
      same = same;
      log = then.log ∙ first.log;
      each = λ k end at.
          let one = first.each k end at in
          let more = then.each k one.0 one.1 in
          let fed : fed_to then.build k ≡ fed_to first.build k + one.2 = ap (λ (x : BuildState). fed_to x k) (sym between) ∙ one.3 in
          let its : IsSentNext then.build live.state.heap.log k more.2 one.0 more.0 =
          subst (λ (log : List LogRec). IsSentNext then.build log k more.2 one.0 more.0) first.log more.4 in (
            more.0,
            more.1,
            one.2 + more.2,
            omega (arith, more.3, fed),
            sent_twice first.build then.build live.state.heap.log k one.2 more.2 end one.0 more.0 (sym between ∙ first.same ∙ ap (λ (x : BuildState). record first.build { fed = x.fed }) between)
                fed one.4 its,
          );
    }

-- a feed of a ring that was looked at first
pub sent_beside :
    (index most : ℕ) (live mid : LiveValue) (building beside : BuildingValue) → SideIsLooked index live building mid beside
    → BuildFollows mid.state.heap.schema mid.state.heap.log mid.state.build → (new : LiveValue) (answer : Result ℕ Fault)
    → OnOk answer (side_refusal mid.state.build index ≡ None) → IfOk answer (λ count. HasFed index most mid count new) → OnOk answer (SendsOn live new)
sent_beside index most live mid building beside looked follows new (Err fault) free fed = tt
sent_beside index most live mid building beside looked follows new (Ok count) free fed =
    sends_twice live mid new (looked_on_side index live mid building beside fed.build looked fed.runs)
    (sent_by_feed index most count mid new fed follows free)

-- nothing is sent
pub sends_nothing : (live : LiveValue) (b : BuildState) → live.state.build ≡ Some b → SendsOn live live
sends_nothing live b runs = record {
  build = b;
  runs = runs;
  after = b;
  goes_on = runs;
  same = refl;
  log = refl;
  each = λ k end at. (end, at, 0, omega arith, only_looked b live.state.heap.log k end end (unlooked end));
}

-- whatever becomes of the build then
pub sends_next : (live new : LiveValue) → SendsOn live new → SendsNext live new.sides
sends_next live new sends =
    subst (λ (o : Option BuildState). MatchOption o (AllZip PutEndLooked live.sides new.sides) (λ b. AreSentNext b live.state.heap.log live.sides new.sides)) (sym sends.runs)
    (λ k end at. let it = sends.each k end at in (it.0, it.1, it.2, it.4))

-- ends that were looked at were sent nothing
pub looked_next : (live : LiveValue) (sides : List (PutEnd Entry)) → AllZip PutEndLooked live.sides sides → SendsNext live sides
looked_next live sides looked = by_build live.state.build where
  by_build : (o : Option BuildState) → MatchOption o (AllZip PutEndLooked live.sides sides) (λ b. AreSentNext b live.state.heap.log live.sides sides)
  by_build None = looked
  by_build (Some b) = λ k end at.
      let it = looked_on live.sides sides k end looked at in
      (it.0, it.1, 0, only_looked b live.state.heap.log k end it.0 it.2)

-- nor does a look before it change what is sent
pub next_after_look :
    (live mid : LiveValue) (news : List (PutEnd Entry)) → mid.state ≡ live.state → AllZip PutEndLooked live.sides mid.sides → SendsNext mid news
    → SendsNext live news
next_after_look live mid news same looked sends = by_build live.state.build refl where
  by_build :
      (o : Option BuildState) → live.state.build ≡ o
      → MatchOption o (AllZip PutEndLooked live.sides news) (λ b. AreSentNext b live.state.heap.log live.sides news)
  by_build None is =
      all_looked_twice live.sides mid.sides news looked
      (subst (λ (o : Option BuildState). MatchOption o (AllZip PutEndLooked mid.sides news) (λ b. AreSentNext b mid.state.heap.log mid.sides news))
      (ap (λ (s : LiveState). s.build) same ∙ is) sends)
  by_build (Some b) is = λ k end at.
      let one = looked_on live.sides mid.sides k end looked at in
      let now : AreSentNext b mid.state.heap.log mid.sides news =
      subst (λ (o : Option BuildState). MatchOption o (AllZip PutEndLooked mid.sides news) (λ b. AreSentNext b mid.state.heap.log mid.sides news))
      (ap (λ (s : LiveState). s.build) same ∙ is) sends in
      let more = now k one.0 one.1 in
      let its : IsSentNext b live.state.heap.log k more.2 one.0 more.0 =
      subst (λ (s : LiveState). IsSentNext b s.heap.log k more.2 one.0 more.0) same more.3 in
      (more.0, more.1, more.2, after_look b live.state.heap.log k more.2 end one.0 more.0 one.2 its)
