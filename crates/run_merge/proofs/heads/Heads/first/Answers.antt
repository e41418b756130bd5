use Rattle.std.proofs.Common.{rules, refl, ◌≡◌, ℕ, ◌<◌, ◌∙◌, sym, ap, subst, arith, length, get_or, true, false}
use Rattle.std.specs.Option.{is_some}
use Rattle.std.proofs.lemmas.List.{get_or_read}
use Rattle.run_merge.specs.Leading.{HeadsValue, AllDone, IsFirst}
use Rattle.run_merge.proofs.Replays.{all_done, root_is_first}
use Rattle.run_merge.proofs.heads.Heads.first.Goals as goal

pub returns-then-is_none : goal.returns-then-is_none
returns-then-is_none c =
    let heads = c.self.inside.heads.items in
    let nodes = c.self.inside.nodes.items in
    let x = c.index.result.now in
    let some : 0 < length heads = search rules in
    let inside : 0 < length nodes = omega (arith, some, c.self.invariant.long) in
    let root = get_or_read nodes 0 c.index-first.result.now inside c.index-first.ensures 0 in
    let none : is_some x ≡ false = ap is_some (sym c.pair.ensures) ∙ c.if-is_none.ensures in
    let at = c.index.ensures ∙ ap (λ (i : ℕ). get_or heads i x) root in
    subst AllDone (ap (λ (v : HeadsValue). v.heads) c.self.view_is) (all_done heads nodes c.self.invariant some x at none)

pub returns : goal.returns
returns c =
    let heads = c.self.inside.heads.items in
    let nodes = c.self.inside.nodes.items in
    let x = c.index.result.now in
    let some : 0 < length heads = search rules in
    let inside : 0 < length nodes = omega (arith, some, c.self.invariant.long) in
    let root = get_or_read nodes 0 c.index-first.result.now inside c.index-first.ensures 0 in
    let there : is_some x ≡ true = ap is_some (sym c.pair.ensures) ∙ c.if-is_none.ensures in
    let value : HeadsValue = record { heads = heads; first = get_or nodes 0 0; compares = c.self.inside.compares } in
    let at = c.index.ensures ∙ ap (λ (i : ℕ). get_or heads i x) root in
    let first : IsFirst value value.first = root_is_first value nodes c.self.invariant some refl x at there in
    subst (λ (v : HeadsValue). IsFirst v c.index-first.result.now) c.self.view_is (subst (λ (i : ℕ). IsFirst value i) (sym root) first)
