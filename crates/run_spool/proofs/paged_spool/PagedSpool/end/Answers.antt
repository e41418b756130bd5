use Rattle.std.proofs.Common.{length, arith, vec_capacity}
use Rattle.run_spool.proofs.RunSteps.{given_more}
use Rattle.run_spool.proofs.SpoolSteps.{run_ended, open_ended, ended_spool}
use Rattle.run_spool.proofs.paged_spool.PagedSpool.end.Goals as goal

pub loop-run-preserved : goal.loop-run-preserved
loop-run-preserved g c =
    let i = c.loop-run.invariant in
    let e = c.in-Some.ensures in
    let f = c.free_front.ensures in (
      run_ended c.free_front.new.account (length c.free_front.new.spare) c.pop.new.self.items c.in-Some.run' c.free_front.new.self
          (vec_capacity c.pop.new.self) c.len-len.result i.0 e.items e.capacity c.len-len.ensures f.run f.given f.account f.frames,
      given_more c.args.self.now.account c.loop-run.self-inside.account c.free_front.new.account c.free_front.new.account.free f.account i.1,
    )

pub invariant_of-self : goal.invariant_of-self
invariant_of-self g c =
    let i = c.loop-run.invariant in
    let d = c.in_default.ensures in
    let f = c.free_first.ensures in
    let none = d.cases.0 in
    let e =
    open_ended c.args.self.now.account c.free_first.new.account (length c.free_first.new.spare) c.free_first.new.chain c.pop.new.self.items
    (vec_capacity c.pop.new.self) i.0 (omega arith) d.items d.capacity i.1 f.chain f.given f.account f.frames in
    e.spool

pub returns : goal.returns
returns g c =
    let i = c.loop-run.invariant in
    let d = c.in_default.ensures in
    let f = c.free_first.ensures in
    let none = d.cases.0 in
    let e =
    open_ended c.args.self.now.account c.free_first.new.account (length c.free_first.new.spare) c.free_first.new.chain c.pop.new.self.items
    (vec_capacity c.pop.new.self) i.0 (omega arith) d.items d.capacity i.1 f.chain f.given f.account f.frames in
    ended_spool c.args.self.now c.pop.new.self.items c.free_first.new.chain c.free_first.new.account e.none e.chain_is e.whole
