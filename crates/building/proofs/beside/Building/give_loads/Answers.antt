use Rattle.std.proofs.Common.{◌≡◌, ◌∙◌, ◌++◌, List, [], length, map, ap, arith}
use Rattle.keybytes.specs.declared.fault.Fault.TheVariants.{Memory}
use Rattle.page_workers.specs.SpoolValue.{SpoolValue, spool_value, stakes_of}
use Rattle.building.proofs.LoadedAll.{can_load_all, loads_stopped}
use Rattle.building.proofs.LoadsLent.{left_seen, none_with}
use Rattle.building.proofs.beside.Building.give_loads.Goals as goal

pub invariant_of-self : goal.invariant_of-self
invariant_of-self g c =
    let value = spool_value g.S.Spool.runs g.S.Spool.open_run g.S.Spool.stake in
    let can = can_load_all c.args.self.now _ c.in-Some.work _ c.self.view_is c.in-Some.is c.work.view_is c.self.invariant.6 c.requires in
    let left : c.replace.new.dest.items ≡ [] = ap (λ v. v.items) c.replace.ensures.after ∙ c.new.ensures.items in
    let none = none_with c.in-Some.work.specs c.self.inside.workers.items (can.kept.handed can.loads) in
    let empty = ap (λ (lent : List SpoolValue). length (map value c.replace.new.dest.items ++ lent)) none ∙ ap (λ l. length (map value l ++ [])) left in (
      c.self.invariant.0,
      c.self.invariant.1,
      omega (arith, empty),
      λ nothing. absurd (cc),
      λ given. let nothing = c.self.invariant.4 given in let some = c.in-Some.is in absurd (cc),
      λ given nothing. absurd (cc),
      λ fine. absurd (cc),
      c.self.invariant.7,
    )

pub returns-in-Err-clause-spoiled : goal.returns-in-Err-clause-spoiled
returns-in-Err-clause-spoiled g c =
    let value = spool_value g.S.Spool.runs g.S.Spool.open_run g.S.Spool.stake in
    let after = c.take_loads-loads.new.spools.items in
    let same = ap (λ v. stakes_of (map value v.items)) c.in-Err.ensures.unchanged in
    rw c.in-Err.ensures.memory (loads_stopped c.args.self.now _ c.in-Some.work _ c.self.view_is c.in-Some.is c.work.view_is Memory (map value after) same)

pub returns-in-Ok-clause-left : goal.returns-in-Ok-clause-left
returns-in-Ok-clause-left g c =
    let value = spool_value g.S.Spool.runs g.S.Spool.open_run g.S.Spool.stake in
    let none : map value c.replace.new.dest.items ≡ [] = ap (map value) (ap (λ v. v.items) c.replace.ensures.after ∙ c.new.ensures.items) in
    left_seen c.args.self.now _ c.in-Some.work _ c.self.view_is c.in-Some.is c.work.view_is (map value c.replace.new.dest.items) none
