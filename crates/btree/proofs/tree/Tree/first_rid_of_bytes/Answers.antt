use Rattle.std.proofs.Common.{◌≡◌, true, List, ℕ, take, drop, min, length, ap, ◌∙◌, subst}
use Rattle.std.proofs.lemmas.List.{take-append-drop}
use Rattle.std.specs.Cmp.Lexicographic.{slice_cmp}
use Rattle.std.specs.Ordering.{nat_cmp}
use Rattle.btree.specs.From.{from}
use Rattle.btree.specs.TreeValue.{is_less}
use Rattle.btree.proofs.Keys.{first_of, met, met_end, met_equal, met_from, met_greater, less_longer}
use Rattle.btree.proofs.tree.Tree.first_rid_of_bytes.Goals as goal

pub loop-pair-init : goal.loop-pair-init
loop-pair-init c =
    let bytes = c.args.bytes.now in
    let ps = c.args.self.now.pairs in
    let n = min (length bytes) 24 in
    ap (met bytes) (c.from-pairs.ensures.pairs ∙ ap (λ (k : List ℕ). from (first_of k) ps) c.front_key-front.ensures)
    ∙ met_from bytes (take n bytes) ps
    (λ xs less. subst (λ (ys : List ℕ). is_less xs ys ≡ true) (take-append-drop n bytes) (less_longer xs (take n bytes) (drop n bytes) less))

pub returns-in-Equal : goal.returns-in-Equal
returns-in-Equal c =
    met_equal c.args.bytes.now c.in-Some.pair.now c.args.self.now.pairs _ _ c.cmp.result c.from-pairs.ensures.rise.rising c.loop-pair.invariant
    c.in-Some.ensures.steps (c.cmp.ensures ∙ ap (λ (key : List ℕ). slice_cmp nat_cmp key c.args.bytes.now) c.bytes.ensures.bytes) c.in-Equal.is

pub returns-in-Greater : goal.returns-in-Greater
returns-in-Greater c =
    met_greater c.args.bytes.now c.in-Some.pair.now c.args.self.now.pairs _ _ c.cmp.result c.from-pairs.ensures.rise.rising c.loop-pair.invariant
    c.in-Some.ensures.steps (c.cmp.ensures ∙ ap (λ (key : List ℕ). slice_cmp nat_cmp key c.args.bytes.now) c.bytes.ensures.bytes) c.in-Greater.is

pub returns : goal.returns
returns c =
    met_end c.args.bytes.now c.args.self.now.pairs _ c.from-pairs.ensures.rise.rising c.loop-pair.invariant c.in_default.ensures.steps.0
