use Rattle.std.proofs.Common.{ℕ, ◌<◌, ◌∙◌, refl, ap, sym, arith, length, get_or, set, drop, subst, List, [], map}
use Rattle.std.specs.Prelude.{Option, None, slice_get}
use Rattle.std.proofs.lemmas.List.{get_or_read}
use Rattle.keybytes.specs.declared.pair.Pair.{Pair}
use Rattle.run_merge.specs.Merging.{LanesValue, all_runs, Gives, IsMerge, AreSeconds}
use Rattle.run_merge.proofs.Steps.{none_left, first_has, step_gives, step_leaves, seconds_leave}
use Rattle.run_merge.specs.Places.{IsPlace, ArePlaces}
use Rattle.run_merge.specs.declared.place.Place.{Place}
use Rattle.run_merge.proofs.Places.{all_stay}
use Rattle.run_merge.proofs.lanes.Lanes.step.Goals as goal

pub returns-in_default-clause-given : goal.returns-in_default-clause-given
returns-in_default-clause-given g c =
    let runs = all_runs (map g.S.Spool.runs c.args.spools.now) in
    let merge : IsMerge runs c.self.inside.runs.items c.self.inside.heads.heads =
    subst (λ (v : LanesValue). IsMerge runs v.runs v.heads) (sym c.self.view_is) c.requires.merge in
    (none_left runs c.self.inside.runs.items c.self.inside.heads.heads merge c.in_default.ensures, refl)

pub advance-requires-clause-pair : goal.advance-requires-clause-pair
advance-requires-clause-pair g c =
    let runs = all_runs (map g.S.Spool.runs c.args.spools.now) in
    let lanes = c.self.inside.runs.items in
    let heads = c.self.inside.heads in
    let first = c.in-Some.ensures in
    let merge : IsMerge runs lanes heads.heads = subst (λ (v : LanesValue). IsMerge runs v.runs v.heads) (sym c.self.view_is) c.requires.merge in
    let inside : c.in-Some.lane < length lanes = omega (arith, first.inside, merge.long) in
    let at = get_or_read lanes c.in-Some.lane c.index.result.now inside c.index.ensures 0 in
    subst (λ (n : ℕ). 0 < length (get_or runs n [])) (sym at) (first_has runs lanes heads.heads merge heads refl c.in-Some.lane first)

pub returns-in_err-second-clause-merge : goal.returns-in_err-second-clause-merge
returns-in_err-second-clause-merge g c =
    subst (λ (rs : List (List (List Pair))). IsMerge (all_runs rs) c.args.self.now.runs c.args.self.now.heads) (sym c.in_err-second.ensures.refused) c.requires.merge

pub returns-clause-merge : goal.returns-clause-merge
returns-clause-merge g c =
    let runs = all_runs (map g.S.Spool.runs c.args.spools.now) in
    let lanes = c.self.inside.runs.items in
    let heads = c.self.inside.heads.heads in
    let run = c.index.result.now in
    let first = c.in-Some.ensures in
    let merge : IsMerge runs lanes heads = subst (λ (v : LanesValue). IsMerge runs v.runs v.heads) (sym c.self.view_is) c.requires.merge in
    let inside : c.in-Some.lane < length lanes = omega (arith, first.inside, merge.long) in
    let at = get_or_read lanes c.in-Some.lane run inside c.index.ensures 0 in
    let seconds = c.self.inside.seconds.items in
    let are : AreSeconds runs lanes seconds = subst (λ (v : LanesValue). AreSeconds runs v.runs v.seconds) (sym c.self.view_is) c.requires.seconds in
    let second = get_or_read seconds c.in-Some.lane c.index_mut.result.now (omega (arith, inside, are.long)) c.index_mut.ensures.value None in
    let next = c.replace-next.ensures.value
    ∙ (second ∙ (are.at c.in-Some.lane inside ∙ ap (λ (n : ℕ). slice_get (get_or runs n []) 1) (sym at))) in
    let put = c.put.ensures.heads ∙ ap (λ (i : ℕ). set heads i c.replace-next.result) (sym first.is) in
    let M : List (List Pair) → Type 0 = λ rs. IsMerge rs lanes c.put.new.self.heads in
    let N : List (Option Pair) → Type 0 = λ hs. IsMerge (set runs run (drop 1 (get_or runs run []))) lanes hs in
    subst M (sym c.in_ok-second.ensures.freed)
    (subst N (sym put) (step_leaves runs lanes heads merge c.in-Some.lane run inside at c.replace-next.result next))

pub returns-clause-given : goal.returns-clause-given
returns-clause-given g c =
    let runs = all_runs (map g.S.Spool.runs c.args.spools.now) in
    let lanes = c.self.inside.runs.items in
    let heads = c.self.inside.heads in
    let run = c.index.result.now in
    let first = c.in-Some.ensures in
    let merge : IsMerge runs lanes heads.heads = subst (λ (v : LanesValue). IsMerge runs v.runs v.heads) (sym c.self.view_is) c.requires.merge in
    let inside : c.in-Some.lane < length lanes = omega (arith, first.inside, merge.long) in
    let at = get_or_read lanes c.in-Some.lane run inside c.index.ensures 0 in
    let some = subst (λ (n : ℕ). 0 < length (get_or runs n [])) (sym at) (first_has runs lanes heads.heads merge heads refl c.in-Some.lane first) in
    let given = c.put.ensures.given ∙ ap (λ (i : ℕ). get_or heads.heads i None) (sym first.is) in
    let G : List (List Pair) → Type 0 = λ rs. Gives runs c.put.result rs in
    subst G (sym c.in_ok-second.ensures.freed) (step_gives runs lanes heads.heads merge c.in-Some.lane run inside at first.leads some c.put.result given)

pub advance-requires-clause-place : goal.advance-requires-clause-place
advance-requires-clause-place g c =
    let spools = map g.S.Spool.runs c.args.spools.now in
    let runs = c.self.inside.runs.items in
    let places = c.self.inside.places.items in
    let lane = c.in-Some.lane in
    let run = c.index.result.now in
    let place = c.index-2.result.now in
    let first = c.in-Some.ensures in
    let merge : IsMerge (all_runs spools) runs c.self.inside.heads.heads =
    subst (λ (v : LanesValue). IsMerge (all_runs spools) v.runs v.heads) (sym c.self.view_is) c.requires.merge in
    let are : ArePlaces spools runs places = subst (λ (v : LanesValue). ArePlaces spools v.runs v.places) (sym c.self.view_is) c.requires.places in
    let inside : lane < length runs = omega (arith, first.inside, merge.long) in
    let at = get_or_read runs lane run inside c.index.ensures 0 in
    let is : IsPlace spools (get_or runs lane 0) place = subst (λ (p : Place). IsPlace spools (get_or runs lane 0) p) (sym c.index-2.ensures) (are.each lane place inside) in
    subst (λ (n : ℕ). IsPlace spools n place) (sym at) is

pub returns-in_err-second-clause-places : goal.returns-in_err-second-clause-places
returns-in_err-second-clause-places g c =
    all_stay (map g.S.Spool.runs c.args.spools.now) (map g.S.Spool.runs c.advance.new.spools) c.args.self.now.runs c.args.self.now.places
    c.advance.ensures.places c.requires.places

pub returns-clause-places : goal.returns-clause-places
returns-clause-places g c =
    let old = map g.S.Spool.runs c.args.spools.now in
    let are = subst (λ (v : LanesValue). ArePlaces old v.runs v.places) (sym c.self.view_is) c.requires.places in
    all_stay old (map g.S.Spool.runs c.advance.new.spools) c.self.inside.runs.items c.self.inside.places.items c.advance.ensures.places are

pub returns-in_err-second-clause-seconds : goal.returns-in_err-second-clause-seconds
returns-in_err-second-clause-seconds g c =
    subst (λ (rs : List (List (List Pair))). AreSeconds (all_runs rs) c.args.self.now.runs c.args.self.now.seconds) (sym c.in_err-second.ensures.refused)
    c.requires.seconds

pub returns-clause-seconds : goal.returns-clause-seconds
returns-clause-seconds g c =
    let runs = all_runs (map g.S.Spool.runs c.args.spools.now) in
    let lanes = c.self.inside.runs.items in
    let seconds = c.self.inside.seconds.items in
    let heads = c.self.inside.heads.heads in
    let run = c.index.result.now in
    let first = c.in-Some.ensures in
    let merge : IsMerge runs lanes heads = subst (λ (v : LanesValue). IsMerge runs v.runs v.heads) (sym c.self.view_is) c.requires.merge in
    let are : AreSeconds runs lanes seconds = subst (λ (v : LanesValue). AreSeconds runs v.runs v.seconds) (sym c.self.view_is) c.requires.seconds in
    let inside : c.in-Some.lane < length lanes = omega (arith, first.inside, merge.long) in
    let at = get_or_read lanes c.in-Some.lane run inside c.index.ensures 0 in
    let M : List (List Pair) → Type 0 = λ rs. AreSeconds rs lanes (set seconds c.in-Some.lane c.replace-next.new.dest) in
    subst M (sym c.in_ok-second.ensures.freed)
    (seconds_leave runs lanes heads seconds merge are c.in-Some.lane run inside at c.replace-next.new.dest (c.replace-next.ensures.after ∙ c.in_ok-second.ensures.second))
