use Rattle.std.proofs.Common.{◌≡◌, ◌+◌, List, [], ℕ, drop, get_or, subst, sym, suc, arith}
use Rattle.keybytes.specs.declared.pair.Pair.{Pair}
use Rattle.run_spool.specs.Bytes.{first_length, read_pairs, Stored}
use Rattle.run_spool.proofs.Stores.{Step, length_read, step_at}
use Rattle.run_spool.proofs.area.skip.Goals as goal
use Rattle.run_spool.proofs.area.skip.Goals.{In-loop}

no_pair : Pair
no_pair = record { key = []; rid = record { page = 0; slot = 0 } }

abbrev pairs : In-loop → List Pair
pairs c = read_pairs c.args.count (drop c.args.start c.args.bytes.now)

-- the walk over the pair that it has come to
found :
    (c : In-loop)
    → Step c.args.bytes.now c.loop.at c.args.end (get_or (pairs c) c.loop.counter no_pair) (drop (suc c.loop.counter) (pairs c))
found c =
    let count = length_read c.args.count (drop c.args.start c.args.bytes.now) in
    let le = c.requires.there in
    let lt = c.loop-test.true in
    step_at c.args.bytes.now c.loop.at c.args.end (pairs c) c.loop.counter no_pair (omega arith) c.loop.invariant

pub key_length-requires : goal.key_length-requires
key_length-requires c = omega (arith, (found c).within)

pub overflow_add-at : goal.overflow_add-at
overflow_add-at c = omega (arith, (found (goal.at.overflow_add-at c).In-loop).within, c.key_length.ensures)

pub overflow_add-at-in-loop : goal.overflow_add-at-in-loop
overflow_add-at-in-loop c = omega (arith, (found (goal.at.overflow_add-at-in-loop c).In-loop).within, c.key_length.ensures)

pub loop-preserved : goal.loop-preserved
loop-preserved c =
    let b = c.args.bytes.now in
    let ps = read_pairs c.args.count (drop c.args.start b) in
    let e : suc c.loop.counter ≡ c.loop.counter + 1 = omega arith in
    subst (λ (n : ℕ). Stored b (c.loop.at + (8 + n)) c.args.end (drop (c.loop.counter + 1) ps)) (sym c.key_length.ensures)
    (subst (λ (n : ℕ). Stored b (c.loop.at + (8 + first_length (drop c.loop.at b))) c.args.end (drop n ps)) e
    (found (goal.at.loop-preserved c).In-loop).next)
