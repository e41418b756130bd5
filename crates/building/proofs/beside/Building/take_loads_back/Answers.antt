use Rattle.std.proofs.Common.{◌≡◌, ◌≤◌, ◌∙◌, ◌++◌, ℕ, List, [], All, Some, length, map, take, drop, sym, ap, subst, arith, vec_capacity}
use Rattle.std.proofs.lemmas.List.{length-map}
use Rattle.keybytes.specs.declared.fault.Fault.TheVariants.{Memory}
use Rattle.page_workers.specs.SpoolValue.{SpoolValue, spool_value}
use Rattle.index_load.specs.IndexLoad.{IndexLoadValue, without_spools}
use Rattle.building.specs.BuildingValue.{BuildingValue, IndexValue}
use Rattle.building.specs.Holding.{all_spools}
use Rattle.building.specs.IndexLoads.{AreHome, HasLoadedAll, LoadsStopped, index_from}
use Rattle.building.specs.Keeping.{KeepsWork}
use Rattle.building.proofs.LoadsApart.{lent_whole}
use Rattle.building.proofs.LoadsLent.{after_many, left_there, loaded, others_there, own_back, same_indexes, same_room, spools_fit, stopped, wants, work_kept}
use Rattle.building.proofs.beside.Building.take_loads_back.Given as given
use Rattle.building.proofs.beside.Building.take_loads_back.Goals as goal
use Rattle.building.proofs.beside.Building.take_loads_back.Goals.{After-take_home-work-inside}

pub take_home-work-inside-requires-clause-own : goal.take_home-work-inside-requires-clause-own
take_home-work-inside-requires-clause-own g c =
    let same = c.len.ensures ∙ c.self.inside.workers.ok.0 ∙ ap (λ (b : BuildingValue). length b.workers) (c.self.view_is ∙ c.requires.left) in
    subst (λ (n : ℕ). All (λ (load : IndexLoadValue). length load.spools ≡ n) c.deref_mut.result.now) (sym same)
    (subst (All (λ (load : IndexLoadValue). length load.spools ≡ length c.args.was.value.workers)) (sym c.deref_mut.ensures.value)
    (own_back c.args.was.value c.args.lent.value.items c.args.loads.items c.requires.lent c.requires.ran))

pub take_home-work-inside-requires-clause-room : goal.take_home-work-inside-requires-clause-room
take_home-work-inside-requires-clause-room g c =
    let same = c.len.ensures ∙ c.self.inside.workers.ok.0 ∙ ap (λ (b : BuildingValue). length b.workers) (c.self.view_is ∙ c.requires.left) in
    let room = same_room c.args.was.value c.args.lent.value.items c.args.loads.items c.requires.lent c.requires.ran in
    rw (same, c.deref_mut.ensures.value) (omega (arith, room, c.requires.room.room))

-- what is there once the spools are back
module _ (g : given.Over) (c : After-take_home-work-inside g) where
  abbrev seen : BuildingValue
  seen = record {
    workers = c.self.inside.workers.items;
    idle = c.self.inside.idle.items;
    sides = c.self.inside.side_ends.items;
    spools = map (spool_value g.S.Spool.runs g.S.Spool.open_run g.S.Spool.stake) c.self.inside.spools.items;
    given = c.self.inside.given;
    work = c.self.inside.work;
  }

  lent : seen ≡ record c.args.was.value { spools = []; work = Some (record c.requires.lent.work { spoiled = Some Memory }) }
  lent = c.self.view_is ∙ c.requires.left ∙ left_there c.args.was.value c.requires.lent.work c.requires.lent.runs

  same_workers : c.len.result ≡ length c.args.was.value.workers
  same_workers = c.len.ensures ∙ c.self.inside.workers.ok.0 ∙ ap (λ (b : BuildingValue). length b.workers) lent

  abbrev back : List SpoolValue
  back = map (spool_value g.S.Spool.runs g.S.Spool.open_run g.S.Spool.stake) c.take_home-work-inside.new.spools.items

  abbrev its : BuildingValue
  its = c.args.was.value

  abbrev after : List IndexLoadValue
  after = c.take_home-work-inside.new.loads

  home : AreHome (length its.workers) c.args.loads.items after c.take_home-work-inside.result back
  home =
      subst (λ (n : ℕ). AreHome n c.args.loads.items after c.take_home-work-inside.result back) same_workers
      (subst (λ (l : List IndexLoadValue). AreHome c.len.result l after c.take_home-work-inside.result back) c.deref_mut.ensures.value
      c.take_home-work-inside.ensures.home)

  fit : length (all_spools c.self.inside.workers.items back) ≤ vec_capacity c.take_home-work-inside.new.spools
  fit =
      let many = spools_fit its c.args.lent.value.items c.args.loads.items c.requires.lent c.requires.ran after c.take_home-work-inside.result back home in
      let same : length (all_spools c.self.inside.workers.items back) ≡ length (all_spools its.workers back) =
      ap (λ (b : BuildingValue). length (all_spools b.workers back)) lent in
      omega (arith, many, same, c.requires.room.room, c.take_home-work-inside.ensures.capacity)

  -- the loads as they are installed
  now : take c.args.loads.len (after ++ drop (length after) c.args.loads.items) ≡ after
  now = lent_whole after c.args.loads.items c.args.loads.len (ap length home.left ∙ length-map c.args.loads.items without_spools) c.args.loads.ok.0

pub invariant_of-self : goal.invariant_of-self
invariant_of-self g c =
    let at = (goal.at.invariant_of-self g c).After-take_home-work-inside in (
      c.self.invariant.0,
      c.self.invariant.1,
      fit g at,
      λ nothing. absurd (cc),
      λ given. let nothing = c.self.invariant.4 given in let some = c.in-Some.is in absurd (cc),
      λ given nothing. absurd (cc),
      λ fine. let some = c.in-Some-spoiled.is in absurd (cc),
      c.self.invariant.7,
    )

pub returns-in-Some-spoiled-clause-memory : goal.returns-in-Some-spoiled-clause-memory
returns-in-Some-spoiled-clause-memory g c =
    let at = (goal.at.returns-in-Some-spoiled-clause-memory g c).After-take_home-work-inside in
    wants c.args.was.value c.args.lent.value.items c.args.loads.items c.requires.lent c.requires.ran (after g at) c.take_home-work-inside.result (back g at) (home g at) c.in-Some-spoiled.fault
    c.in-Some-spoiled.is

pub returns-in-Some-spoiled-clause-spoiled : goal.returns-in-Some-spoiled-clause-spoiled
returns-in-Some-spoiled-clause-spoiled g c =
    let at = (goal.at.returns-in-Some-spoiled-clause-spoiled g c).After-take_home-work-inside in
    let was = c.args.was.value in
    let w = c.requires.lent.work in
    let there = others_there was (seen g at) w c.in-Some.work _ (lent g at) c.in-Some.is c.work.view_is (back g at) c.work.inside.indexes.items
    c.take_home-work-inside.result in
    let same = same_indexes was (seen g at) w c.in-Some.work _ (lent g at) c.in-Some.is c.work.view_is in
    subst (LoadsStopped was c.in-Some-spoiled.fault) (sym (there ∙ ap (λ (l : List IndexValue). record was { spools = back g at; work = Some (record w { indexes = l; spoiled = c.take_home-work-inside.result }) }) same))
    (stopped was c.args.lent.value.items c.args.loads.items c.requires.lent c.requires.ran (after g at) c.take_home-work-inside.result (back g at) (home g at) c.in-Some-spoiled.fault
    c.in-Some-spoiled.is)

pub returns-in-Some-spoiled-clause-first : goal.returns-in-Some-spoiled-clause-first
returns-in-Some-spoiled-clause-first g c =
    let at = (goal.at.returns-in-Some-spoiled-clause-first g c).After-take_home-work-inside in
    sym (home g at).first ∙ c.in-Some-spoiled.is

pub install-requires : goal.install-requires
install-requires g c =
    let at = (goal.at.install-requires g c).After-take_home-work-inside in
    let was = c.args.was.value in
    let w = c.requires.lent.work in
    let same = same_indexes was (seen g at) w c.in-Some.work _ (lent g at) c.in-Some.is c.work.view_is in
    ap length (now g at) ∙ after_many was c.args.lent.value.items c.args.loads.items c.requires.lent c.requires.ran (after g at) c.take_home-work-inside.result (back g at) (home g at)
    ∙ ap length (sym same)

pub invariant_of-self-2 : goal.invariant_of-self-2
invariant_of-self-2 g c =
    let at = (goal.at.invariant_of-self-2 g c).After-take_home-work-inside in
    let was = c.args.was.value in
    let w = c.requires.lent.work in
    let lost = lent g at in
    let there = others_there was (seen g at) w c.in-Some.work _ lost c.in-Some.is c.work.view_is (back g at) c.install.new.indexes.items
    c.take_home-work-inside.result in
    let Kept : BuildingValue → Type 0 = λ b. KeepsWork b.workers b.sides b.spools b.work in
    let kept = work_kept was c.args.lent.value.items c.args.loads.items c.requires.lent c.requires.ran (after g at) c.take_home-work-inside.result (back g at) (home g at)
    c.in_default-spoiled.is c.install.new.indexes.items (c.install.ensures ∙ ap (map index_from) (now g at)) in (
      c.self.invariant.0,
      c.self.invariant.1,
      fit g at,
      λ nothing. absurd (cc),
      λ given. let nothing = c.self.invariant.4 given in let some = c.in-Some.is in absurd (cc),
      λ given nothing. absurd (cc),
      subst Kept (sym there) kept,
      c.self.invariant.7,
    )

pub returns-clause-loaded : goal.returns-clause-loaded
returns-clause-loaded g c =
    let at = (goal.at.returns-clause-loaded g c).After-take_home-work-inside in
    let was = c.args.was.value in
    let w = c.requires.lent.work in
    let there = others_there was (seen g at) w c.in-Some.work _ (lent g at) c.in-Some.is c.work.view_is (back g at) c.install.new.indexes.items
    c.take_home-work-inside.result in
    subst (HasLoadedAll was) (sym there)
    (loaded was c.args.lent.value.items c.args.loads.items c.requires.lent c.requires.ran (after g at) c.take_home-work-inside.result (back g at) (home g at) c.in_default-spoiled.is
    c.install.new.indexes.items (c.install.ensures ∙ ap (map index_from) (now g at)))
