use Rattle.std.proofs.Common.{◌∙◌, ap}
use Rattle.std.proofs.lemmas.List.{length-map}
use Rattle.page_workers.specs.SpoolValue.{spool_value}
use Rattle.building.specs.IndexLoads.{first_fault_of}
use Rattle.building.proofs.LoadsDone.{same_faults}
use Rattle.building.proofs.loads.take_home.Goals as goal

pub returns-clause-home : goal.returns-clause-home
returns-clause-home g c = record {
  left = c.put_spools_back.ensures.loads;
  first = c.first_fault.ensures ∙ ap first_fault_of c.put_spools_back.ensures.loads ∙ same_faults c.args.loads.now;
  back = c.put_spools_back.ensures.columns;
  many = length-map c.put_spools_back.new.spools.items (spool_value g.S.Spool.runs g.S.Spool.open_run g.S.Spool.stake) ∙ c.put_spools_back.ensures.many;
}
