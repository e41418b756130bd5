use Rattle.std.proofs.Common.{rules, ◌≡◌, ◌+◌, length, drop, None, ap, ◌∙◌}
use Rattle.rtrb.specs.Ring.{sent}
use Rattle.run_merge.specs.Merging.{all_runs}
use Rattle.bulk_load.specs.Each.{in_order}
use Rattle.bulk_load.specs.Streams.{BatchValue, first_mark, stream_at}
use Rattle.bulk_load.proofs.Parts.{next_left, is_part, begins_more, all_put, mark_more}
use Rattle.bulk_load.proofs.sender.Sender.step.Goals as goal

pub new-requires-clause-part : goal.new-requires-clause-part
new-requires-clause-part g c =
    is_part (stream_at g.T.Loading.streams c.self.inside.number) c.self.inside.count c.len.result (in_order (all_runs c.self.inside.once.runs))
    c.fill_counted-told.new.pairs.items (in_order (all_runs c.fill_counted-told.new.source.runs)) c.self.invariant.0 c.fill_counted-told.ensures.all (search rules)

pub invariant_of-self-2 : goal.invariant_of-self-2
invariant_of-self-2 g c =
    let s = stream_at g.T.Loading.streams c.self.inside.number in
    let count = c.self.inside.count in
    let pairs = c.fill_counted-told.new.pairs.items in
    let old = in_order (all_runs c.self.inside.once.runs) in
    let new = in_order (all_runs c.fill_counted-told.new.source.runs) in
    let long : c.len.result ≡ length pairs = search rules in
    let same : sent c.is_full.new.self ≡ sent c.self.inside.filled = search rules in
    let none : c.self.inside.fault ≡ None = c.self.invariant.4 c.if-self.false in
    let put = c.push_reserved.ensures.sent.0 in
    let is : c.new.result.pairs ≡ pairs = ap (λ (b : BatchValue). b.pairs) c.new.ensures in
    let mark : c.new.result.fault ≡ c.mark-last.result.2 = ap (λ (b : BatchValue). b.fault) c.new.ensures in
    let left = next_left s count c.len.result old pairs new c.self.invariant.0 c.fill_counted-told.ensures.all long in (
      left,
      begins_more s count (count + c.len.result) (sent c.self.inside.filled) (sent c.is_full.new.self) (sent c.push_reserved.new.self) c.new.result pairs c.self.invariant.1 same put
          is (is_part s count c.len.result old pairs new c.self.invariant.0 c.fill_counted-told.ensures.all long),
      all_put c.fill_counted-told.result c.mark-last.result.0 c.mark-last.result.1 c.mark-last.result.2 new (drop (count + c.len.result) s) c.mark-last.ensures.last
          c.mark-last.ensures.done c.fill_counted-told.ensures.last left,
      ap first_mark put ∙ mark_more (sent c.is_full.new.self) c.new.result (ap first_mark same ∙ c.self.invariant.3 ∙ none) ∙ mark,
      c.mark-last.ensures.broken,
    )
