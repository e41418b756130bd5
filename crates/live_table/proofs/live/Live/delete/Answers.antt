use Rattle.std.proofs.Common.{ap, ◌∙◌}
use Rattle.ready_indexes.proofs.Each.{let_in_from, no_row_is_let_in}
use Rattle.ready_indexes.specs.KeyCauses.{keys_refusal}
use Rattle.ready_indexes.specs.Following.{indexes_of}
use Rattle.live_table.proofs.live.Live.delete.Goals as goal

pub write-requires-clause-keys : goal.write-requires-clause-keys
write-requires-clause-keys g c =
    let ready = c.in_ok-ready.ready in
    let log = c.ready_delete.new.self.state.log in
    let items = indexes_of c.self.inside.ready.indexes in
    let_in_from 0 log items ready (ap (keys_refusal 0 items log ready.txn ready.old) c.in_ok-ready.ensures.writes.new ∙ no_row_is_let_in 0 items log ready.txn ready.old)
