use Rattle.std.proofs.Common.{◌<◌, ◌∙◌, arith, ap, length, set}
use Rattle.std.proofs.lemmas.List.{get_or_read}
use Rattle.run_merge.specs.Leading.{HeadsValue}
use Rattle.run_merge.proofs.Replays.{replay_starts_at}
use Rattle.run_merge.proofs.heads.Heads.put.Goals as goal

pub replay-compares-requires-clause-replay : goal.replay-compares-requires-clause-replay
replay-compares-requires-clause-replay c =
    let heads = c.self.inside.heads.items in
    let nodes = c.self.inside.nodes.items in
    let first = c.index-first.result.now in
    let after = c.deref.ensures.value ∙ ap (λ head. set heads first head) c.replace-given.ensures.after
    ∙ ap (λ head. set heads first head) c.new-next.ensures in
    let some : 0 < length heads = omega (arith, c.requires, ap length (ap (λ (v : HeadsValue). v.heads) c.self.view_is)) in
    let inside : 0 < length nodes = omega (arith, some, c.self.invariant.long) in
    let root = get_or_read nodes 0 first inside c.index-first.ensures 0 in
    replay_starts_at heads c.deref.result.now nodes c.deref_mut.result.now first c.args.head after c.deref_mut.ensures.value c.self.invariant some root
