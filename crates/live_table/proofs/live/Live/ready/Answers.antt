use Rattle.std.proofs.Common.{◌≡◌, List, All, subst}
use Rattle.std.proofs.lemmas.List.Elements.{All-map, All-weaker}
use Rattle.keybytes.specs.declared.kind.Kind.{Kind}
use Rattle.heap_log.specs.declared.record.LogRec.{LogRec}
use Rattle.ready_indexes.specs.Following.{AllFollow, Follows, GuardedIndex, indexes_of}
use Rattle.ready_indexes.specs.Indexes.{ReadyValue}
use Rattle.ready_indexes.proofs.Each.{table_follows}
use Rattle.live_lemmas.specs.Builds.{LiveValue}
use Rattle.build_events.specs.CoreState.{ReadyFollowTable}
use Rattle.live_table.proofs.live.Live.ready.Goals as goal

-- indexes that follow a table are of its columns
of_columns : (kinds : List Kind) (log : List LogRec) (indexes : List GuardedIndex) → AllFollow kinds log indexes
    → All (λ index. index.spec.kinds ≡ kinds) (indexes_of indexes)
of_columns kinds log indexes all =
    All-map (λ (index : ReadyValue). index.spec.kinds ≡ kinds) (λ (it : GuardedIndex). it.index) indexes
    (All-weaker (Follows kinds log) (λ (it : GuardedIndex). it.index.spec.kinds ≡ kinds) (λ it follows. follows.columns) indexes all)

pub returns-clause-columns : goal.returns-clause-columns
returns-clause-columns g c =
    let inside = c.self.inside in
    subst (λ (l : LiveValue). All (λ index. index.spec.kinds ≡ l.state.heap.schema) l.state.ready) c.self.view_is
    (of_columns inside.heap.state.schema inside.heap.state.log inside.ready.indexes c.self.invariant.0)

pub returns-clause-follow : goal.returns-clause-follow
returns-clause-follow g c =
    let inside = c.self.inside in
    subst (λ (l : LiveValue). ReadyFollowTable l.state) c.self.view_is
    (table_follows inside.heap.state.schema inside.heap.state.log inside.ready.indexes c.self.invariant.0)
