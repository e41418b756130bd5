use Rattle.chunk_list.specs.Left.{queue_items_left}
use Rattle.replay.proofs.KeyedPairs.{entry_keys}
use Rattle.picture.proofs.sides.mark_added.Goals as goal

pub mark_behind-requires : goal.mark_behind-requires
mark_behind-requires g c =
    entry_keys c.live-live.result.now.state.build c.args.index c.in_ok-spec.spec.now (queue_items_left c.in_ok-entries.entries) c.in_ok-entries.ensures.keys
    c.in_ok-spec.ensures.spec
