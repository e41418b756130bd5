use Rattle.std.proofs.Common.{◌≡◌, None, Some, ap, refl, subst, ◌∙◌}
use Rattle.heap_table.specs.HeapState.{begin_refusal}
use Rattle.build_events.specs.CoreState.{CoreState, LiveState}
use Rattle.replay.proofs.Begins.{refused_begin}
use Rattle.replay.specs.Sessions.{state_of}
use Rattle.replay.proofs.session.Session.begin_named.Goals as goal

pub begin_free-requires : goal.begin_free-requires
begin_free-requires g c =
    subst (λ (live : LiveState). begin_refusal live.heap ≡ None) (c.live.ensures ∙ ap (λ (s : CoreState). s.live) c.core.ensures) c.in-Ok.ensures

pub returns-in-Err : goal.returns-in-Err
returns-in-Err g c =
    let cause = subst (λ (live : LiveState). begin_refusal live.heap ≡ Some c.in-Err.fault) (c.live.ensures ∙ ap (λ (s : CoreState). s.live) c.core.ensures) c.in-Err.ensures in
    refused_begin (state_of c.args.leased.now c.args.self.now) (state_of c.args.leased.now (record c.args.self.now { labels = c.unname.new.self }))
    c.args.label.now c.in-Err.fault cause refl c.unname.ensures refl refl
