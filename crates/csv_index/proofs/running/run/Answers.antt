use Rattle.std.proofs.Common.{map}
use Rattle.csv_index.proofs.Ran.{runs_on}
use Rattle.csv_index.proofs.running.run.Goals as goal

pub returns : goal.returns
returns g c =
    runs_on (map (λ word. word.unique) c.args.words.now.indexes.items) (g.R.Read.remaining c.args.reader.now) c.in_ok-asked.asked c.in_ok-heap.field-0
    c.planned-work.result c.run_planned.result c.in_ok-asked.ensures.schema c.in_ok-asked.ensures.unique c.in_ok-heap.ensures c.planned-work.ensures
    c.run_planned.ensures
