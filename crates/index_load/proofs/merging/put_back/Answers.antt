use Rattle.std.proofs.Common.{◌≡◌, ◌<◌, ◌∙◌, ◌+◌, ◌*◌, ◌-◌, ◌++◌, ◌∷◌, [], length, List, ℕ, ap, subst, arith, append-nil, length-append}
use Rattle.std.specs.List.{insert}
use Rattle.index_load.specs.Columns.{every, all_but}
use Rattle.index_load.proofs.TakenOut.{own_back, others_back, none_left, all_left}
use Rattle.index_load.proofs.merging.put_back.Goals as goal

pub loop-spool-init : goal.loop-spool-init
loop-spool-init g c =
    let a = c.args in
    let many = c.requires.many in
    let place : ℕ → ℕ = λ n. n * (a.indexes - 1) + a.index in
    record {
      own = ap (λ n. a.own.items ++ every (a.indexes - 1) (place n) a.spools.now.items) many
          ∙ ap (λ l. a.own.items ++ l) (none_left a.workers a.indexes a.index c.requires.there [] [] a.spools.now.items c.requires.all)
          ∙ append-nil a.own.items;
      others = ap (λ n. all_but (a.indexes - 1) (place n) a.spools.now.items) many
          ∙ all_left a.workers a.indexes a.index c.requires.there [] [] a.spools.now.items c.requires.all;
      few = omega (arith, many);
      left = omega (arith, many, c.requires.all);
      room = c.requires.room;
      grown = omega arith;
    }

pub loop-spool-preserved : goal.loop-spool-preserved
loop-spool-preserved g c =
    let a = c.args in
    let before = c.loop-spool in
    let kept = before.invariant in
    let own : List _ = c.pop.new.self.items in
    let x = c.in-Some.spool in
    let popped : before.own.items ≡ own ++ x ∷ [] = c.in-Some.ensures.items in
    let many : length before.own.items ≡ length own + 1 = ap length popped ∙ length-append own (x ∷ []) in
    let len : c.len.result ≡ length own = omega (arith, c.len.ensures, c.pop.new.self.ok) in
    let put : c.insert.new.self.items ≡ insert before.spools.items (length own * (a.indexes - 1) + a.index) x =
    c.in-Ok.ensures.items ∙ ap (λ n. insert before.spools.items (n * (a.indexes - 1) + a.index) x) len in
    let few : length own < a.workers = omega (arith, kept.few, many) in
    let left : length before.spools.items + (length own + 1) ≡ a.workers * a.indexes = omega (arith, kept.left, many) in
    record {
      own = rw put (own_back a.workers a.indexes a.index c.requires.there _ [] (length own) own before.spools.items x few left
          (subst (λ (l : List _). l ++ every (a.indexes - 1) ((length own + 1) * (a.indexes - 1) + a.index) before.spools.items ≡ a.own.items) popped
          (subst (λ (n : ℕ). before.own.items ++ every (a.indexes - 1) (n * (a.indexes - 1) + a.index) before.spools.items ≡ a.own.items) many kept.own)));
      others = rw put (others_back a.workers a.indexes a.index c.requires.there [] _ (length own) own before.spools.items x few left
          (subst (λ (n : ℕ). all_but (a.indexes - 1) (n * (a.indexes - 1) + a.index) before.spools.items ≡ a.spools.now.items) many kept.others));
      few = omega (arith, kept.few, many);
      left = omega (arith, c.in-Ok.ensures.len, kept.left, many, c.insert.new.self.ok, before.spools.ok);
      room = omega (arith, c.in-Ok.ensures.capacity, kept.room);
      grown = omega (arith, c.in-Ok.ensures.capacity, kept.grown);
    }
