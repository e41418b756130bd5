use Rattle.std.proofs.Common.{◌≡◌, ◌+◌, [], ℕ, List, drop, get_or, subst, sym, suc, arith}
use Rattle.keybytes.specs.declared.pair.Pair.{Pair}
use Rattle.prefix_spool.specs.PrefixBytes.{first_more, first_key, read_behind, StandsBehind}
use Rattle.prefix_spool.proofs.Stands.{Step, length_read, step_at}
use Rattle.prefix_spool.proofs.area.skip.Goals as goal
use Rattle.prefix_spool.proofs.area.skip.Goals.{In-loop}

no_pair : Pair
no_pair = record { key = []; rid = record { page = 0; slot = 0 } }

abbrev pairs : In-loop → List Pair
pairs c = read_behind c.args.count c.args.before.now (drop c.args.start c.args.bytes.now)

-- the walk over the pair that it has come to
found :
    (c : In-loop)
    → Step c.args.bytes.now c.loop.at c.args.end c.loop.before (get_or (pairs c) c.loop.counter no_pair) (drop (suc c.loop.counter) (pairs c))
found c =
    let count = length_read c.args.count c.args.before.now (drop c.args.start c.args.bytes.now) in
    let le = c.requires.there in
    let lt = c.loop-test.true in
    step_at c.args.bytes.now c.loop.at c.args.end c.loop.before (pairs c) c.loop.counter no_pair (omega arith) c.loop.invariant

pub pass_pair-requires-clause-within : goal.pass_pair-requires-clause-within
pass_pair-requires-clause-within c = (found (goal.at.pass_pair-requires-clause-within c).In-loop).within

pub pass_pair-requires-clause-short : goal.pass_pair-requires-clause-short
pass_pair-requires-clause-short c = (found (goal.at.pass_pair-requires-clause-short c).In-loop).short

pub pass_pair-requires-clause-there : goal.pass_pair-requires-clause-there
pass_pair-requires-clause-there c = (found (goal.at.pass_pair-requires-clause-there c).In-loop).there

pub overflow_add-at : goal.overflow_add-at
overflow_add-at c = omega (arith, (found (goal.at.overflow_add-at c).In-loop).within, c.in_ok-at.ensures.size)

pub loop-preserved : goal.loop-preserved
loop-preserved c =
    let b = c.args.bytes.now in
    let ps = read_behind c.args.count c.args.before.now (drop c.args.start b) in
    let e : suc c.loop.counter ≡ c.loop.counter + 1 = omega arith in
    subst (λ (n : ℕ). StandsBehind b (c.loop.at + n) c.args.end c.pass_pair.new.before (drop (c.loop.counter + 1) ps)) (sym c.in_ok-at.ensures.size)
    (subst (λ (k : List ℕ). StandsBehind b (c.loop.at + (10 + first_more (drop c.loop.at b))) c.args.end k (drop (c.loop.counter + 1) ps))
    (sym c.in_ok-at.ensures.key)
    (subst (λ (n : ℕ). StandsBehind b (c.loop.at + (10 + first_more (drop c.loop.at b))) c.args.end (first_key c.loop.before (drop c.loop.at b)) (drop n ps)) e
    (found (goal.at.loop-preserved c).In-loop).next))
