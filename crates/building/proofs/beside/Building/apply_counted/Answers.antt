use Rattle.catch_up.specs.Applying.{NextMayWant}
use Rattle.catch_up.specs.Built.{BuiltValue}
use Rattle.std.proofs.Common.{rules, ◌≡◌, ◌∙◌, ap, Option, [], refl, OnOk, OnErr, ◌+◌, ◌<◌, ◌≤◌, ◌^◌, length, map, sym, subst, arith}
use Rattle.side_file.specs.Ends.{TakeEnd}
use Rattle.side_file.specs.declared.entry.Entry.{Entry}
use Rattle.page_workers.specs.SpoolValue.{spool_value}
use Rattle.building.proofs.Applying.{applied_is, applied_next, end_is, kept_next, needed_next, one_taken, on_err}
use Rattle.building.proofs.SideEnds.{take_ends_stay}
use Rattle.building.proofs.TakingEntries.{its_own}
use Rattle.building.proofs.beside.Building.apply_counted.Goals as goal

pub returns-in_err-taken-clause-unchanged : goal.returns-in_err-taken-clause-unchanged
returns-in_err-taken-clause-unchanged g c =
    let done = c.apply-taken.ensures in
    let short : length done.entries < 1 = subst (λ r. OnErr r (length done.entries < 1)) c.in_err-taken.was done.short in
    on_err c.from_residual.result _
    (applied_next c.args.index c.args.self.now _ c.in-Some.work _ c.index_mut-it.result.now c.in-Some-built.built c.it.inside.applied c.self.inside.side_ends.items
    c.index_mut.result.now c.self.view_is c.in-Some.is c.work.view_is c.index_mut-it.ensures.value (ap (λ (o : Option BuiltValue). record { built = o; applied = c.it.inside.applied }) (sym c.in-Some-built.is) ∙ c.it.view_is) refl c.index_mut.ensures.value c.requires.can.taking
    (its_own c.args.index c.args.self.now _ c.self.view_is c.self.invariant.6 c.requires.can.taking c.requires.can.fine) c.apply-taken.new.end done.entries 0 c.it.inside.applied c.apply-taken.new.built done.taken done.applied c.laws.ensures (omega (arith, short)) (omega arith) (omega arith))

pub returns-in_err-taken-clause-needed : goal.returns-in_err-taken-clause-needed
returns-in_err-taken-clause-needed g c =
    let done = c.apply-taken.ensures in
    let short : length done.entries < 1 = subst (λ r. OnErr r (length done.entries < 1)) c.in_err-taken.was done.short in
    let wants : NextMayWant c.apply-taken.new.built c.apply-taken.new.end =
    subst (λ r. OnErr r (NextMayWant c.apply-taken.new.built c.apply-taken.new.end)) c.in_err-taken.was done.needed in
    on_err c.from_residual.result _
    (needed_next c.args.index c.args.self.now _ c.in-Some.work _ c.index_mut-it.result.now c.in-Some-built.built c.it.inside.applied c.self.inside.side_ends.items
    c.index_mut.result.now c.self.view_is c.in-Some.is c.work.view_is c.index_mut-it.ensures.value (ap (λ (o : Option BuiltValue). record { built = o; applied = c.it.inside.applied }) (sym c.in-Some-built.is) ∙ c.it.view_is) refl c.index_mut.ensures.value c.requires.can.taking
    c.apply-taken.new.end done.entries c.apply-taken.new.built done.taken done.applied short c.requires.can.seen wants)

pub returns-clause-applied : goal.returns-clause-applied
returns-clause-applied g c =
    let done = c.apply-taken.ensures in
    let ends = end_is c.args.index c.args.self.now _ c.in-Some.work _ c.index_mut-it.result.now c.in-Some-built.built c.it.inside.applied c.self.inside.side_ends.items
    c.index_mut.result.now c.self.view_is c.in-Some.is c.work.view_is c.index_mut-it.ensures.value (ap (λ (o : Option BuiltValue). record { built = o; applied = c.it.inside.applied }) (sym c.in-Some-built.is) ∙ c.it.view_is) refl c.index_mut.ensures.value c.requires.can.taking in
    let seen : 1 ≤ length c.index_mut.result.now.known = subst (λ (e : TakeEnd Entry). 1 ≤ length e.known) ends c.requires.can.seen in
    let all : length done.entries < 1 → c.apply-taken.new.end.known ≡ [] =
    subst (λ r. OnOk r (length done.entries < 1 → c.apply-taken.new.end.known ≡ [])) c.in_ok-taken.was done.all in
    let one = one_taken done.entries c.index_mut.result.now.known c.apply-taken.new.end.known done.taken.known.0 done.taken.known.1 done.most seen all in
    applied_next c.args.index c.args.self.now _ c.in-Some.work _ c.index_mut-it.result.now c.in-Some-built.built c.it.inside.applied c.self.inside.side_ends.items
    c.index_mut.result.now c.self.view_is c.in-Some.is c.work.view_is c.index_mut-it.ensures.value (ap (λ (o : Option BuiltValue). record { built = o; applied = c.it.inside.applied }) (sym c.in-Some-built.is) ∙ c.it.view_is) refl c.index_mut.ensures.value c.requires.can.taking
    (its_own c.args.index c.args.self.now _ c.self.view_is c.self.invariant.6 c.requires.can.taking c.requires.can.fine) c.apply-taken.new.end done.entries 1 (c.it.inside.applied + 1) c.apply-taken.new.built done.taken done.applied c.laws.ensures one seen refl

pub invariant_of-self-in-Break-1 : goal.invariant_of-self-in-Break-1
invariant_of-self-in-Break-1 g c = (
  take_ends_stay _ _ _ c.self.inside.side_ends.items c.args.index c.index_mut.result.now c.apply-taken.new.end c.self.invariant.0 c.index_mut.ensures.value
      c.apply-taken.ensures.taken.ring,
  c.self.invariant.1,
  c.self.invariant.2,
  λ none. absurd (cc),
  λ given. let none = c.self.invariant.4 given in let some = c.in-Some.is in absurd (cc),
  λ given none. absurd (cc),
  kept_next c.args.index c.args.self.now _ c.in-Some.work _ c.index_mut-it.result.now c.in-Some-built.built c.it.inside.applied c.self.inside.side_ends.items
      c.index_mut.result.now c.self.view_is c.in-Some.is c.work.view_is c.index_mut-it.ensures.value
      (ap (λ (o : Option BuiltValue). record { built = o; applied = c.it.inside.applied }) (sym c.in-Some-built.is) ∙ c.it.view_is) refl c.index_mut.ensures.value
      c.requires.can.taking c.self.inside.workers.items (map (spool_value g.S.Spool.runs g.S.Spool.open_run g.S.Spool.stake) c.self.inside.spools.items)
      c.apply-taken.new.end c.apply-taken.ensures.entries _ c.apply-taken.new.built c.apply-taken.ensures.taken c.apply-taken.ensures.applied c.laws.ensures
      c.self.invariant.6,
  c.self.invariant.7,
)

pub overflow_add-it : goal.overflow_add-it
overflow_add-it g c =
    let applied = applied_is c.args.index c.args.self.now _ c.in-Some.work _ c.index_mut-it.result.now c.in-Some-built.built c.it.inside.applied c.self.inside.side_ends.items
    c.index_mut.result.now c.self.view_is c.in-Some.is c.work.view_is c.index_mut-it.ensures.value
    (ap (λ (o : Option BuiltValue). record { built = o; applied = c.it.inside.applied }) (sym c.in-Some-built.is) ∙ c.it.view_is) refl c.index_mut.ensures.value c.requires.can.taking in
    let fits : c.it.inside.applied + 1 < 2 ^ 64 = omega (arith, applied, c.requires.countable c.requires.can.taking) in
    search (fits, rules)

pub invariant_of-self-2 : goal.invariant_of-self-2
invariant_of-self-2 g c = (
  take_ends_stay _ _ _ c.self.inside.side_ends.items c.args.index c.index_mut.result.now c.apply-taken.new.end c.self.invariant.0 c.index_mut.ensures.value
      c.apply-taken.ensures.taken.ring,
  c.self.invariant.1,
  c.self.invariant.2,
  λ none. absurd (cc),
  λ given. let none = c.self.invariant.4 given in let some = c.in-Some.is in absurd (cc),
  λ given none. absurd (cc),
  kept_next c.args.index c.args.self.now _ c.in-Some.work _ c.index_mut-it.result.now c.in-Some-built.built c.it.inside.applied c.self.inside.side_ends.items
      c.index_mut.result.now c.self.view_is c.in-Some.is c.work.view_is c.index_mut-it.ensures.value
      (ap (λ (o : Option BuiltValue). record { built = o; applied = c.it.inside.applied }) (sym c.in-Some-built.is) ∙ c.it.view_is) refl c.index_mut.ensures.value
      c.requires.can.taking c.self.inside.workers.items (map (spool_value g.S.Spool.runs g.S.Spool.open_run g.S.Spool.stake) c.self.inside.spools.items)
      c.apply-taken.new.end c.apply-taken.ensures.entries _ c.apply-taken.new.built c.apply-taken.ensures.taken c.apply-taken.ensures.applied c.laws.ensures
      c.self.invariant.6,
  c.self.invariant.7,
)
