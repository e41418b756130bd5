use Rattle.std.proofs.Common.{◌≡◌, ◌∙◌, ◌<◌, ◌++◌, ◌∷◌, [], ℕ, List, length, set, set-set, Option, Some, None, inl, inr, ap, sym, subst, arith}
use Rattle.std.specs.Prelude.{slice_get}
use Rattle.std.specs.List.{AllZip}
use Rattle.std.proofs.lemmas.Bool.{cases_lt, false≢true}
use Rattle.std.proofs.lemmas.Option.{get_or_from_slice_get, slice_get-get_or}
use Rattle.keybytes.specs.declared.fault.Fault.TheVariants.{RingFull}
use Rattle.heap_table.specs.HeapState.{HeapState}
use Rattle.heap_table.specs.Pages.{pages_written}
use Rattle.side_file.specs.Ends.{PutEnd}
use Rattle.side_file.specs.Ends.{PutEndLooked}
use Rattle.page_workers.specs.declared.copied.Copied.{Copied}
use Rattle.live_lemmas.specs.Builds.{LiveValue, StandsBeside, full_refusal, put_refusal}
use Rattle.building.specs.WorkOn.{WorkMatches, WorkersFollow}
use Rattle.table_scan.specs.TableBuilds.{BuildFollows, IsBuildOf}
use Rattle.build_events.specs.CoreState.{BuildState, LiveState}
use Rattle.building.specs.Rings.{all_sent, AreOfBuilds}
use Rattle.live_lemmas.specs.Rings.{HasPut, PagesFollow}
use Rattle.build_events.specs.Ranges.{next_page}
use Rattle.table_scan.specs.SideFiles.{HaveEntries, SidesFollow, put_ends}
use Rattle.build_events.specs.BuildSteps.{OnBuild}
use Rattle.table_scan.proofs.LookedEnds.{all_unlooked, one_looked}
use Rattle.page_workers.proofs.Places.{here_set, map_at}
use Rattle.table_scan.proofs.SideKept.{sides_next}
use Rattle.table_scan.proofs.TableBuilds.{scanned_next}
use Rattle.live_lemmas.proofs.TableBuilds.{work_of_next}
use Rattle.live_lemmas.proofs.OneRing.{put_ends_set, sent_looked, sent_put, workers_looked, workers_put, builds_put, put_next, written_twice, full_at}
use Rattle.live_lemmas.proofs.OneRing.{put_full, next_below, worker_below}
use Rattle.ready_indexes.specs.Following.{AllFollow}
use Rattle.build_events.proofs.NextPages.{no_page}
use Rattle.live_table.proofs.live.Live.scan_step.Goals as goal

pub invariant_of-self : goal.invariant_of-self
invariant_of-self g c =
    let inside = c.self.inside in
    let heap = inside.heap.state in
    let old : PutEnd Copied = c.index_mut.result.now in
    let new : PutEnd Copied = c.has_room.new.self in
    let same = sent_looked inside.pages.items c.args.worker new old c.index_mut.ensures.value c.has_room.ensures.looked.sent in (
      c.self.invariant.0,
      c.self.invariant.1,
      c.self.invariant.2,
      subst (PagesFollow heap.schema heap.log inside.builds inside.build) (sym same) c.self.invariant.3,
      subst (AreOfBuilds inside.builds) (sym same) c.self.invariant.4,
      put_ends_set g.T.TableRings.pages g.T.TableRings.sides inside.pages.items (put_ends inside.sides.items) c.args.worker new old c.self.invariant.5 c.index_mut.ensures.value
          c.has_room.ensures.looked.ring,
      c.self.invariant.6,
    )

pub returns-then-not-has_room-clause-works : goal.returns-then-not-has_room-clause-works
returns-then-not-has_room-clause-works g c = λ building works.
    let inside = c.self.inside in
    let before = subst (λ (l : LiveValue). StandsBeside l building) (sym c.self.view_is) works in
    let same = sent_looked inside.pages.items c.args.worker c.has_room.new.self c.index_mut.result.now c.index_mut.ensures.value c.has_room.ensures.looked.sent in
    record {
      work = before.work;
      workers = workers_looked inside.heap.state.schema inside.pages.items (set inside.pages.items c.args.worker c.has_room.new.self) (put_ends inside.sides.items) building inside.build building.work same
          before.workers;
    }

none_free : (free : ℕ) → (0 < free → ⊥) → free ≡ 0
none_free free none = elim (cases_lt 0 free) [
  | inl some ↦ absurd (none some)
  | inr all ↦ omega (arith, all)
]

pub returns-then-not-has_room-clause-succeeds : goal.returns-then-not-has_room-clause-succeeds
returns-then-not-has_room-clause-succeeds g c = λ free.
    let live : LiveValue = c.args.self.now in
    let pages : List (PutEnd Copied) = c.self.inside.pages.items in
    let old : PutEnd Copied = c.index_mut.result.now in
    let follows : BuildFollows live.state.heap.schema live.state.heap.log live.state.build =
    subst (λ (l : LiveValue). BuildFollows l.state.heap.schema l.state.heap.log l.state.build) c.self.view_is c.self.invariant.1 in
    let below = worker_below live.state live.state.build c.args.range c.args.worker c.in-Ok.page c.in-Ok.ensures.page follows in
    let less : c.args.worker < length pages = omega (arith, below, c.self.invariant.5.sixteen) in
    let there = slice_get-get_or pages c.args.worker old less ∙ ap (λ (end : PutEnd Copied). Some end) (sym c.index_mut.ensures.value) in
    let none : old.free ≡ 0 = let new = none_free c.has_room.new.self.free (λ some. false≢true (c.if-not-has_room.ensures.value.1 some)) in omega (arith, new, c.has_room.ensures.looked.free) in
    let full : full_refusal live.pages c.args.worker ≡ Some RingFull =
    ap (λ (l : LiveValue). full_refusal l.pages c.args.worker) (sym c.self.view_is) ∙ full_at pages c.args.worker old there none in
    absurd (let bad : Some RingFull ≡ None = sym (put_full live c.args.range c.args.worker c.in-Ok.ensures.accepted full) ∙ free in cc)

pub returns-then-not-has_room-clause-refused : goal.returns-then-not-has_room-clause-refused
returns-then-not-has_room-clause-refused g c =
    let pages : List (PutEnd Copied) = c.self.inside.pages.items in
    let new : PutEnd Copied = c.has_room.new.self in
    let live : LiveValue = c.args.self.now in
    let follows : BuildFollows live.state.heap.schema live.state.heap.log live.state.build =
    subst (λ (l : LiveValue). BuildFollows l.state.heap.schema l.state.heap.log l.state.build) c.self.view_is c.self.invariant.1 in
    let below = worker_below live.state live.state.build c.args.range c.args.worker c.in-Ok.page c.in-Ok.ensures.page follows in
    let less : c.args.worker < length pages = omega (arith, below, c.self.invariant.5.sixteen) in
    let none : new.free ≡ 0 = none_free new.free (λ some. false≢true (c.if-not-has_room.ensures.value.1 some)) in
    let full : full_refusal (set pages c.args.worker new) c.args.worker ≡ Some RingFull =
    full_at (set pages c.args.worker new) c.args.worker new (here_set pages c.args.worker new less) none in
    subst (λ (l : LiveValue). put_refusal (record l { pages = set pages c.args.worker new }) c.args.range c.args.worker ≡ Some RingFull) (sym c.self.view_is)
    (put_full (record live { pages = set pages c.args.worker new }) c.args.range c.args.worker c.in-Ok.ensures.accepted full)

pub copy_page-requires : goal.copy_page-requires
copy_page-requires g c =
    let live : LiveState = c.args.self.now.state in
    let follows : BuildFollows live.heap.schema live.heap.log live.build =
    subst (λ (l : LiveValue). BuildFollows l.state.heap.schema l.state.heap.log l.state.build) c.self.view_is c.self.invariant.1 in
    subst (λ (l : LiveValue). c.in-Ok.page < pages_written l.state.heap.log) (sym c.self.view_is)
    (next_below live live.build c.args.range c.args.worker c.in-Ok.page c.in-Ok.ensures.page follows)

pub invariant_of-self-2 : goal.invariant_of-self-2
invariant_of-self-2 g c =
    let inside = c.self.inside in
    let heap : HeapState = inside.heap.state in
    let live : LiveValue = c.args.self.now in
    let b : BuildState = c.in-Some.scan in
    let pages : List (PutEnd Copied) = inside.pages.items in
    let old : PutEnd Copied = c.index_mut.result.now in
    let looked : PutEnd Copied = c.has_room.new.self in
    let new : PutEnd Copied = c.put.new.self in
    let at : PutEnd Copied = c.index_mut-2.result.now in
    let image = c.copy_page.new.image in
    let copied : Copied = record { build = c.number-build.result; image = image } in
    let here : live.state.build ≡ Some b = sym (ap (λ (l : LiveValue). l.state.build) c.self.view_is) ∙ c.in-Some.is in
    let next = subst (λ (o : Option BuildState). OnBuild o (λ x. (next_page x c.args.range ≡ Some c.in-Ok.page) × (c.args.worker < x.workers))) here c.in-Ok.ensures.page in
    let follows : IsBuildOf heap.schema heap.log b = subst (BuildFollows heap.schema heap.log) c.in-Some.is c.self.invariant.1 in
    let put : HasPut heap.schema heap.log inside.builds b (all_sent pages) =
    subst (λ (o : Option BuildState). PagesFollow heap.schema heap.log inside.builds o (all_sent pages)) c.in-Some.is c.self.invariant.3 in
    let has : HaveEntries heap.log b inside.sides.items = subst (λ o. SidesFollow heap.log o inside.sides.items) c.in-Some.is c.self.invariant.2 in
    let now : c.records-records.result ≡ length heap.log = c.records-records.ensures ∙ ap (λ (h : HeapState). length h.log) c.copy_page.ensures.visited in
    let more = scanned_next heap.schema heap.log b c.args.range c.args.worker c.in-Ok.page c.records-records.result follows next.0 next.1 now in
    let less : c.args.worker < length pages = omega (arith, next.1, follows.few_workers, c.self.invariant.5.sixteen) in
    let there : slice_get pages c.args.worker ≡ Some old =
    slice_get-get_or pages c.args.worker old less ∙ ap (λ (end : PutEnd Copied). Some end) (sym c.index_mut.ensures.value) in
    let sent_there = map_at (λ (end : PutEnd Copied). end.sent) pages c.args.worker old there in
    let first = sent_looked pages c.args.worker looked old c.index_mut.ensures.value c.has_room.ensures.looked.sent in
    let same : at ≡ looked = written_twice pages c.args.worker looked at less c.index_mut-2.ensures.value in
    let sent : new.sent ≡ old.sent ++ copied ∷ [] =
    c.put.ensures.sent ∙ ap (λ (end : PutEnd Copied). end.sent ++ copied ∷ []) same ∙ ap (λ (s : List Copied). s ++ copied ∷ []) c.has_room.ensures.looked.sent in
    let all : all_sent (set (set pages c.args.worker looked) c.args.worker new) ≡ set (all_sent pages) c.args.worker (old.sent ++ copied ∷ []) =
    sent_put (set pages c.args.worker looked) c.args.worker new ∙ ap (λ (ss : List (List Copied)). set ss c.args.worker new.sent) first
    ∙ ap (set (all_sent pages) c.args.worker) sent in
    let number : c.number-build.result ≡ b.number = c.number-build.ensures ∙ ap (λ (x : BuildState). x.number) c.note.ensures.noted in
    let ring : new.ring ≡ at.ring = c.put.ensures.ring in
    let copied_build : BuildState =
    record b { scans = b.scans ++ record { worker = c.args.worker; page = c.in-Ok.page; records = c.records-records.result } ∷ [] } in (
      subst (λ (h : HeapState). AllFollow h.schema h.log inside.ready.indexes) (sym c.copy_page.ensures.visited) c.self.invariant.0,
      subst (λ (h : HeapState). IsBuildOf h.schema h.log c.note.new.self) (sym c.copy_page.ensures.visited) (subst (IsBuildOf heap.schema heap.log) (sym c.note.ensures.noted) more),
      subst (λ (h : HeapState). HaveEntries h.log c.note.new.self inside.sides.items) (sym c.copy_page.ensures.visited)
          (subst (λ x. HaveEntries heap.log x inside.sides.items) (sym c.note.ensures.noted)
          (sides_next heap.log b inside.sides.items c.args.range c.args.worker c.in-Ok.page c.records-records.result next.0 now has)),
      subst (λ (h : HeapState). HasPut h.schema h.log inside.builds c.note.new.self (all_sent (set (set pages c.args.worker looked) c.args.worker new))) (sym c.copy_page.ensures.visited)
          (subst (λ (x : BuildState). HasPut heap.schema heap.log inside.builds x (all_sent (set (set pages c.args.worker looked) c.args.worker new))) (sym c.note.ensures.noted)
          (subst (λ (ss : List (List Copied)). HasPut heap.schema heap.log inside.builds copied_build ss) (sym all)
          (put_next heap.schema heap.log inside.builds b (all_sent pages) c.args.worker c.in-Ok.page c.records-records.result c.number-build.result old.sent image put sent_there now number
          c.copy_page.ensures.copy))),
      subst (AreOfBuilds inside.builds) (sym all)
          (builds_put inside.builds (all_sent pages) c.args.worker old.sent copied sent_there (omega (arith, number, put.number)) c.self.invariant.4),
      put_ends_set g.T.TableRings.pages g.T.TableRings.sides (set pages c.args.worker looked) (put_ends inside.sides.items) c.args.worker new at
          (put_ends_set g.T.TableRings.pages g.T.TableRings.sides pages (put_ends inside.sides.items) c.args.worker looked old c.self.invariant.5 c.index_mut.ensures.value c.has_room.ensures.looked.ring)
          c.index_mut-2.ensures.value ring,
      c.self.invariant.6,
    )

pub returns-clause-works : goal.returns-clause-works
returns-clause-works g c = λ building works.
    let inside = c.self.inside in
    let heap : HeapState = inside.heap.state in
    let live : LiveValue = c.args.self.now in
    let b : BuildState = c.in-Some.scan in
    let pages : List (PutEnd Copied) = inside.pages.items in
    let old : PutEnd Copied = c.index_mut.result.now in
    let looked : PutEnd Copied = c.has_room.new.self in
    let new : PutEnd Copied = c.put.new.self in
    let at : PutEnd Copied = c.index_mut-2.result.now in
    let copied : Copied = record { build = c.number-build.result; image = c.copy_page.new.image } in
    let here : live.state.build ≡ Some b = sym (ap (λ (l : LiveValue). l.state.build) c.self.view_is) ∙ c.in-Some.is in
    let next = subst (λ (o : Option BuildState). OnBuild o (λ x. (next_page x c.args.range ≡ Some c.in-Ok.page) × (c.args.worker < x.workers))) here c.in-Ok.ensures.page in
    let follows : IsBuildOf heap.schema heap.log b = subst (BuildFollows heap.schema heap.log) c.in-Some.is c.self.invariant.1 in
    let before = subst (λ (l : LiveValue). StandsBeside l building) (sym c.self.view_is) works in
    let now : c.records-records.result ≡ length heap.log = c.records-records.ensures ∙ ap (λ (h : HeapState). length h.log) c.copy_page.ensures.visited in
    let less : c.args.worker < length pages = omega (arith, next.1, follows.few_workers, c.self.invariant.5.sixteen) in
    let there : slice_get pages c.args.worker ≡ Some old =
    slice_get-get_or pages c.args.worker old less ∙ ap (λ (end : PutEnd Copied). Some end) (sym c.index_mut.ensures.value) in
    let sent_there = map_at (λ (end : PutEnd Copied). end.sent) pages c.args.worker old there in
    let first = sent_looked pages c.args.worker looked old c.index_mut.ensures.value c.has_room.ensures.looked.sent in
    let same : at ≡ looked = written_twice pages c.args.worker looked at less c.index_mut-2.ensures.value in
    let sent : new.sent ≡ old.sent ++ copied ∷ [] =
    c.put.ensures.sent ∙ ap (λ (end : PutEnd Copied). end.sent ++ copied ∷ []) same ∙ ap (λ (s : List Copied). s ++ copied ∷ []) c.has_room.ensures.looked.sent in
    let new_pages : List (PutEnd Copied) = set (set pages c.args.worker looked) c.args.worker new in
    let all : all_sent (set (set pages c.args.worker looked) c.args.worker new) ≡ set (all_sent pages) c.args.worker (old.sent ++ copied ∷ []) =
    sent_put (set pages c.args.worker looked) c.args.worker new ∙ ap (λ (ss : List (List Copied)). set ss c.args.worker new.sent) first
    ∙ ap (set (all_sent pages) c.args.worker) sent in
    let number : c.number-build.result ≡ b.number = c.number-build.ensures ∙ ap (λ (x : BuildState). x.number) c.note.ensures.noted in
    record {
      work = subst (λ (h : HeapState). WorkMatches h.schema h.log (Some c.note.new.self) building.work) (sym c.copy_page.ensures.visited)
          (subst (λ (x : BuildState). WorkMatches heap.schema heap.log (Some x) building.work) (sym c.note.ensures.noted)
          (work_of_next heap.schema heap.log b building.work c.args.range c.args.worker c.in-Ok.page c.records-records.result
          (subst (λ (o : Option BuildState). WorkMatches heap.schema heap.log o building.work) c.in-Some.is before.work) next.0 now));
      workers = subst (λ (h : HeapState). WorkersFollow h.schema new_pages (put_ends inside.sides.items) building (Some c.note.new.self) building.work) (sym c.copy_page.ensures.visited)
          (workers_put heap.schema pages (put_ends inside.sides.items) building b c.note.new.self building.work c.args.worker old.sent copied
          new_pages
          (subst (λ (o : Option BuildState). WorkersFollow heap.schema pages (put_ends inside.sides.items) building o building.work) c.in-Some.is before.workers) sent_there all (record { number = number; columns = c.copy_page.ensures.copy.schema })
          (ap (λ (x : BuildState). x.number) c.note.ensures.noted) (ap (λ (x : BuildState). x.workers) c.note.ensures.noted)
          (ap (λ (x : BuildState). x.fed) c.note.ensures.noted) (λ none. no_page b none c.args.range c.in-Ok.page next.0));
    }

pub returns-in-Err-clause-looked : goal.returns-in-Err-clause-looked
returns-in-Err-clause-looked g c = all_unlooked c.args.self.now.pages

pub returns-then-not-has_room-clause-looked : goal.returns-then-not-has_room-clause-looked
returns-then-not-has_room-clause-looked g c =
    let pages : List (PutEnd Copied) = c.self.inside.pages.items in
    let new : PutEnd Copied = c.has_room.new.self in
    subst (λ (l : LiveValue). AllZip PutEndLooked l.pages (set pages c.args.worker new)) c.self.view_is
    (one_looked pages pages c.args.worker c.index_mut.result.now new (all_unlooked pages) c.index_mut.ensures.value c.has_room.ensures.looked)

pub returns-then-not-has_room-clause-first : goal.returns-then-not-has_room-clause-first
returns-then-not-has_room-clause-first g c = λ end at few free.
    let pages : List (PutEnd Copied) = c.self.inside.pages.items in
    let old : PutEnd Copied = c.index_mut.result.now in
    let here : slice_get pages c.args.worker ≡ Some end = ap (λ (l : LiveValue). slice_get l.pages c.args.worker) c.self.view_is ∙ at in
    let same : old ≡ end = c.index_mut.ensures.value ∙ get_or_from_slice_get pages c.args.worker end old here in
    c.if-not-has_room.ensures.first (subst (λ (e : PutEnd Copied). length e.sent < 4) (sym same) few)

pub returns-clause-put : goal.returns-clause-put
returns-clause-put g c =
    let live : LiveValue = c.args.self.now in
    let pages : List (PutEnd Copied) = c.self.inside.pages.items in
    let old : PutEnd Copied = c.index_mut.result.now in
    let looked : PutEnd Copied = c.has_room.new.self in
    let new : PutEnd Copied = c.put.new.self in
    let at : PutEnd Copied = c.index_mut-2.result.now in
    let copied : Copied = record { build = c.number-build.result; image = c.copy_page.new.image } in
    let follows : BuildFollows live.state.heap.schema live.state.heap.log live.state.build =
    subst (λ (l : LiveValue). BuildFollows l.state.heap.schema l.state.heap.log l.state.build) c.self.view_is c.self.invariant.1 in
    let below = worker_below live.state live.state.build c.args.range c.args.worker c.in-Ok.page c.in-Ok.ensures.page follows in
    let less : c.args.worker < length pages = omega (arith, below, c.self.invariant.5.sixteen) in
    let there : slice_get pages c.args.worker ≡ Some old =
    slice_get-get_or pages c.args.worker old less ∙ ap (λ (end : PutEnd Copied). Some end) (sym c.index_mut.ensures.value) in
    let same : at ≡ looked = written_twice pages c.args.worker looked at less c.index_mut-2.ensures.value in
    let seen = c.has_room.ensures.looked in
    let is_free : at.free ≡ looked.free = ap (λ (end : PutEnd Copied). end.free) same in
    record {
      put = old;
      there = ap (λ (l : LiveValue). slice_get l.pages c.args.worker) (sym c.self.view_is) ∙ there;
      after = new;
      others = set-set pages c.args.worker looked new ∙ ap (λ (l : LiveValue). set l.pages c.args.worker new) c.self.view_is;
      copied = copied;
      sent = c.put.ensures.sent ∙ ap (λ (end : PutEnd Copied). end.sent ++ copied ∷ []) same ∙ ap (λ (s : List Copied). s ++ copied ∷ []) seen.sent;
      ring = c.put.ensures.ring ∙ ap (λ (end : PutEnd Copied). end.ring) same ∙ seen.ring;
      capacity = c.put.ensures.capacity ∙ ap (λ (end : PutEnd Copied). end.capacity) same ∙ seen.capacity;
      free = omega (arith, is_free, c.put.ensures.free, seen.free);
    }
