use Rattle.std.proofs.Common.{◌≡◌, ◌<◌, ℕ, List, [], ◌∷◌, length, map, get_or, set, Option, None, refl, sym, ap, ap₂, ◌∙◌, subst, arith}
use Rattle.std.specs.Prelude.{MatchOption, Result, Ok, Err, OnErr}
use Rattle.std.proofs.lemmas.List.{get_or-map, length-map, map-set, set-get_or}
use Rattle.keybytes.specs.declared.pair.Pair.{Pair}
use Rattle.run_merge.proofs.Steps.{none_left}
use Rattle.bulk_load.specs.Each.{in_order}
use Rattle.bulk_load.specs.Headed.{AreHeadsOf, numbers_from, with_heads}
use Rattle.bulk_load.proofs.Heads.{step_given, step_left}
use Rattle.bulk_load.proofs.InOrder.{first_given}
use Rattle.bulk_load.proofs.merged_sources.MergedSourcesSource.next.Given as given
use Rattle.bulk_load.proofs.merged_sources.MergedSourcesSource.next.Goals as goal

on_err : {X E : Type 0} {P : Type 0} (result : Result X E) → P → OnErr result P
on_err (Ok x) p = tt
on_err (Err e) p = p

-- what a call gives, as a source has it
abbrev Gave : List (List Pair) → Option Pair → List (List Pair) → Type 0
Gave old given new = MatchOption given ((in_order old ≡ []) × (in_order new ≡ [])) (λ pair. in_order old ≡ pair ∷ in_order new)

pub returns-in_default-clause-first : goal.returns-in_default-clause-first
returns-in_default-clause-first g c =
    let heads = c.self.inside.heads.heads in
    let lefts = map g.X.Source.left c.self.inside.sources.items in
    let runs = with_heads heads lefts in
    let none = none_left runs (numbers_from 0 (length lefts)) heads c.self.invariant.merge c.in_default.ensures in
    subst (λ (rs : List (List Pair)). (in_order rs ≡ []) × (in_order rs ≡ [])) c.self.view_is (first_given runs None runs c.self.invariant.once (none, refl))

-- a refused call leaves what is left of each source
module _ (g : given.Over) (c : goal.After-from_residual g) where
  lefts_stay :
      map g.X.Source.left (set c.self.inside.sources.items c.in-Some.place c.next.new.self) ≡ map g.X.Source.left c.self.inside.sources.items
  lefts_stay =
      let sources = c.self.inside.sources.items in
      let lefts = map g.X.Source.left sources in
      let place : ℕ = c.in-Some.place in
      let now = c.index_mut.result.now in
      let many = length-map sources g.X.Source.left in
      let inside : place < length sources = omega (arith, c.in-Some.ensures.inside, c.self.invariant.long, many) in
      let at : get_or lefts place [] ≡ g.X.Source.left now =
      get_or-map g.X.Source.left sources place now [] inside ∙ ap g.X.Source.left (sym c.index_mut.ensures.value) in
      map-set g.X.Source.left sources place c.next.new.self ∙ ap (set lefts place) (c.in_err-next.ensures.refused ∙ sym at) ∙ set-get_or lefts place []

pub invariant_of-self : goal.invariant_of-self
invariant_of-self g c = subst (AreHeadsOf c.self.inside.heads.heads) (sym (lefts_stay g c)) c.self.invariant

pub returns-in_err-next-clause-refused : goal.returns-in_err-next-clause-refused
returns-in_err-next-clause-refused g c =
    on_err c.from_residual.result
    (ap (λ (ls : List (List Pair)). in_order (with_heads c.self.inside.heads.heads ls)) (lefts_stay g c) ∙ ap in_order c.self.view_is)

-- what a step leaves
module _ (g : given.Over) (c : goal.After-put g) where
  heads : List (Option Pair)
  heads = c.self.inside.heads.heads

  lefts : List (List Pair)
  lefts = map g.X.Source.left c.self.inside.sources.items

  place : ℕ
  place = c.in-Some.place

  left : List Pair
  left = g.X.Source.left c.next.new.self

  inside : place < length c.self.inside.sources.items
  unfolding place
  inside = let many = length-map c.self.inside.sources.items g.X.Source.left in omega (arith, c.in-Some.ensures.inside, c.self.invariant.long, many)

  left_at : get_or lefts place [] ≡ g.X.Source.left c.index_mut.result.now
  unfolding lefts place
  left_at =
      get_or-map g.X.Source.left c.self.inside.sources.items c.in-Some.place c.index_mut.result.now [] inside ∙ ap g.X.Source.left (sym c.index_mut.ensures.value)

  gave : MatchOption c.in_ok-next.next ((get_or lefts place [] ≡ []) × (left ≡ [])) (λ q. get_or lefts place [] ≡ q ∷ left)
  unfolding left
  gave = subst (λ (old : List Pair). MatchOption c.in_ok-next.next ((old ≡ []) × (g.X.Source.left c.next.new.self ≡ [])) (λ q. old ≡ q ∷ g.X.Source.left c.next.new.self))
      (sym left_at) c.in_ok-next.ensures.first

  put_is : c.put.new.self.heads ≡ set heads place c.in_ok-next.next
  unfolding heads place
  put_is = c.put.ensures.heads ∙ ap (λ (i : ℕ). set c.self.inside.heads.heads i c.in_ok-next.next) (sym c.in-Some.ensures.is)

  lefts_are : map g.X.Source.left (set c.self.inside.sources.items c.in-Some.place c.next.new.self) ≡ set lefts place left
  unfolding lefts place left
  lefts_are = map-set g.X.Source.left c.self.inside.sources.items c.in-Some.place c.next.new.self

  pub still_heads : AreHeadsOf c.put.new.self.heads (map g.X.Source.left (set c.self.inside.sources.items c.in-Some.place c.next.new.self))
  unfolding heads lefts place left
  still_heads = subst (AreHeadsOf c.put.new.self.heads) (sym lefts_are) (subst (λ (hs : List (Option Pair)). AreHeadsOf hs (set lefts place left)) (sym put_is)
      (step_left heads lefts c.self.invariant c.self.inside.heads refl place c.in-Some.ensures c.in_ok-next.next left gave))

  pub gave_first : Gave c.args.self.now c.put.result
      (with_heads c.put.new.self.heads (map g.X.Source.left (set c.self.inside.sources.items c.in-Some.place c.next.new.self)))
  unfolding heads lefts place left
  gave_first =
      let old : List (List Pair) = with_heads heads lefts in
      let new : List (List Pair) = with_heads (set heads place c.in_ok-next.next) (set lefts place left) in
      let given : c.put.result ≡ get_or heads place None =
      c.put.ensures.given ∙ ap (λ (i : ℕ). get_or c.self.inside.heads.heads i None) (sym c.in-Some.ensures.is) in
      let step = step_given heads lefts c.self.invariant c.self.inside.heads refl place c.in-Some.ensures c.in_ok-next.next left gave in
      let first : Gave old (get_or heads place None) new = first_given old (get_or heads place None) new c.self.invariant.once step in
      subst (λ (o : List (List Pair)). Gave o c.put.result (with_heads c.put.new.self.heads (map g.X.Source.left (set c.self.inside.sources.items c.in-Some.place c.next.new.self))))
      c.self.view_is
      (subst (λ (n : List (List Pair)). Gave old c.put.result n) (sym (ap₂ with_heads put_is lefts_are)) (subst (λ (o : Option Pair). Gave old o new) (sym given) first))

pub invariant_of-self-2 : goal.invariant_of-self-2
invariant_of-self-2 g c = still_heads g c

pub returns-clause-first : goal.returns-clause-first
returns-clause-first g c = gave_first g c
