use Rattle.std.proofs.Common.{◌≡◌, ◌∙◌, length, subst}
use Rattle.std.proofs.lemmas.List.{length-map}
use Rattle.side_file.specs.Ends.{PutEnd}
use Rattle.page_workers.specs.declared.copied.Copied.{Copied}
use Rattle.std.specs.Prelude.{IfSome}
use Rattle.live_lemmas.specs.Builds.{LiveValue}
use Rattle.live_lemmas.specs.Invariant.{EachPageOnce}
use Rattle.build_events.specs.Soundness.{BuildIsSound}
use Rattle.building.specs.Rings.{all_sent}
use Rattle.table_scan.specs.SideFiles.{EachEntryOnce}
use Rattle.table_scan.proofs.Feeding.{each_entry_once}
use Rattle.table_scan.proofs.Sound.{runs_sound}
use Rattle.live_lemmas.proofs.Sound.{runs_once}
use Rattle.ready_indexes.specs.KeyCauses.{KeysAreGuarded}
use Rattle.heap_table.specs.Sound.{HoldsFollowLog}
use Rattle.ready_indexes.proofs.Each.{table_follows}
use Rattle.build_events.specs.CoreState.{ReadyFollowTable}
use Rattle.live_table.proofs.live.Live.laws.Goals as goal

pub returns-clause-build : goal.returns-clause-build
returns-clause-build g c =
    let inside = c.self.inside in
    subst (λ (l : LiveValue). IfSome l.state.build (λ b. BuildIsSound b l.state.heap.log)) c.self.view_is
    (runs_sound inside.heap.state.schema inside.heap.state.log inside.build c.self.invariant.1)

pub returns-clause-pages : goal.returns-clause-pages
returns-clause-pages g c =
    let inside = c.self.inside in
    let all = all_sent inside.pages.items in
    let sixteen : length all ≡ 16 = length-map inside.pages.items (λ (end : PutEnd Copied). end.sent) ∙ c.self.invariant.5.sixteen in
    subst (λ (l : LiveValue). IfSome l.state.build (λ b. EachPageOnce l.state.heap.schema l.state.heap.log b (all_sent l.pages))) c.self.view_is
    (runs_once inside.heap.state.schema inside.heap.state.log inside.builds inside.build all c.self.invariant.1 c.self.invariant.3 sixteen)

pub returns-clause-entries : goal.returns-clause-entries
returns-clause-entries g c =
    let inside = c.self.inside in
    subst (λ (l : LiveValue). IfSome l.state.build (λ b. EachEntryOnce l.state.heap.log b l.sides)) c.self.view_is
    (each_entry_once inside.heap.state.log inside.build inside.sides.items c.self.invariant.2)

pub returns-clause-keys : goal.returns-clause-keys
returns-clause-keys g c =
    subst (λ (l : LiveValue). KeysAreGuarded l.state.heap.log l.state.ready) c.self.view_is
    (c.laws-2.ensures.keys c.self.inside.heap.state c.laws.ensures.holds c.self.invariant.0)

pub returns-clause-holds : goal.returns-clause-holds
returns-clause-holds g c = subst (λ (l : LiveValue). HoldsFollowLog l.state.heap) c.self.view_is c.laws.ensures.holds

pub returns-clause-ready : goal.returns-clause-ready
returns-clause-ready g c =
    let inside = c.self.inside in
    subst (λ (l : LiveValue). ReadyFollowTable l.state) c.self.view_is
    (table_follows inside.heap.state.schema inside.heap.state.log inside.ready.indexes c.self.invariant.0)
