use Rattle.std.proofs.Common.{◌≡◌, ◌<◌, ◌++◌, ℕ, List, [], ◌∷◌, length, map, get_or, Option, None, sym, ap, ap₂, ◌∙◌, subst, inl, inr, arith, length-append}
use Rattle.std.proofs.lemmas.Bool.{cases_eq}
use Rattle.std.proofs.lemmas.List.{get_or-map, get_or-set_other, get_or_append_left, get_or_push, length-map, length-set, map-set}
use Rattle.std.proofs.lemmas.Result.{IfOk-weaker}
use Rattle.keybytes.specs.declared.pair.Pair.{Pair}
use Rattle.run_spool.specs.Spools.{all_pairs}
use Rattle.run_merge.specs.Leading.{HeadsValue}
use Rattle.run_merge.specs.Merging.{IsMerge, head_of}
use Rattle.bulk_load.specs.Each.{AreEachOnce}
use Rattle.bulk_load.specs.Headed.{AreHeadsOf, numbers_from, with_heads}
use Rattle.bulk_load.proofs.Heads.{all_sorted_of, more_heads, next_is, starts_merge}
use Rattle.bulk_load.proofs.merged_sources.take_heads.Goals as goal

pub loop-place-preserved : goal.loop-place-preserved
loop-place-preserved g c =
    let inv = c.loop-place.invariant in
    let sources = c.loop-place.sources.items in
    let heads = c.loop-place.heads.items in
    let place : ℕ = c.loop-place.place in
    let now = c.index_mut.result.now in
    let new = c.next.new.self in
    let next = c.in_ok-next.field-0 in
    let lefts = map g.X.Source.left sources in
    let many = length-map sources g.X.Source.left in
    let inside : place < length sources = omega (arith, c.loop-place-test.true, inv.many) in
    let at : get_or lefts place [] ≡ g.X.Source.left now = get_or-map g.X.Source.left sources place now [] inside ∙ ap g.X.Source.left (sym c.index_mut.ensures.value) in
    let its = next_is next (g.X.Source.left now) (g.X.Source.left new) c.in_ok-next.ensures.first in
    let pushed : c.push_reserved.new.self.items ≡ heads ++ next ∷ [] = c.push_reserved.ensures.items ∙ ap (λ (h : Option Pair). heads ++ h ∷ []) c.new.ensures in
    let long = length-append heads (next ∷ []) in
    let moved = map-set g.X.Source.left sources place new in
    record {
      taken = omega (arith, ap length pushed, long, inv.taken);
      room = omega (arith, c.push_reserved.ensures.capacity, inv.room);
      many = length-set sources place new ∙ inv.many;
      all = ap₂ with_heads pushed moved ∙ more_heads heads lefts next (g.X.Source.left new) place inv.taken (omega (arith, inside, many)) (its.1 ∙ sym at) ∙ inv.all;
      at = λ k less. ap (λ (hs : List (Option Pair)). get_or hs k None) pushed ∙ elim (cases_eq k place) [
        | inl e ↦
            get_or_push heads next None k (inv.taken ∙ sym e) ∙ its.0 ∙ ap head_of (sym at ∙ inv.same place (omega arith))
            ∙ ap (λ (n : ℕ). head_of (get_or (map g.X.Source.left c.args.sources.now.items) n [])) (sym e)
        | inr ne ↦
            let below : k < place = omega (arith, less, ne) in
            get_or_append_left heads (next ∷ []) None k (omega (arith, below, inv.taken)) ∙ inv.at k below
      ];
      same = λ k more. ap (λ (ls : List (List Pair)). get_or ls k []) moved
          ∙ get_or-set_other lefts place k (g.X.Source.left new) [] (λ e. omega (arith, more, e)) ∙ inv.same k (omega (arith, more));
    }

pub returns-clause-heads : goal.returns-clause-heads
returns-clause-heads g c =
    let inv = c.loop-place.invariant in
    let heads = c.loop-place.heads.items in
    let sources = c.loop-place.sources.items in
    let lefts = map g.X.Source.left sources in
    let runs = map g.X.Source.left c.args.sources.now.items in
    let many = length-map sources g.X.Source.left in
    let first = length-map c.args.sources.now.items g.X.Source.left in
    let all : c.loop-place.place ≡ length sources = omega (arith, c.loop-place-test.false, c.loop-place.auto.place-end, inv.many) in
    let whole : length lefts ≡ length runs = omega (arith, many, first, inv.many, c.len-place-end.ensures) in
    let merge : IsMerge runs (numbers_from 0 (length runs)) heads =
    starts_merge heads runs (omega (arith, inv.taken, all, many, whole)) (all_sorted_of runs c.requires.sorted) (λ k less. inv.at k (omega (arith, less, all, many, whole))) in
    let are : AreHeadsOf heads lefts = record {
      long = omega (arith, inv.taken, all, many);
      merge =
          subst (λ (rs : List (List Pair)). IsMerge rs (numbers_from 0 (length lefts)) heads) (sym inv.all)
          (subst (λ (n : ℕ). IsMerge runs (numbers_from 0 n) heads) (sym whole) merge);
      once = subst (λ (rs : List (List Pair)). AreEachOnce (all_pairs rs)) (sym inv.all) c.requires.once;
    } in
    IfOk-weaker c.new-2.result (λ (h : HeadsValue). h.heads ≡ heads) (λ (h : HeadsValue). AreHeadsOf h.heads lefts)
    (λ h is. subst (λ (hs : List (Option Pair)). AreHeadsOf hs lefts) (sym is) are) c.new-2.ensures.heads
