use Rattle.std.proofs.Common.{◌≡◌, ◌≤◌, ◌-◌, length, refl, ap, ◌∙◌, arith}
use Rattle.std.proofs.lemmas.List.{length-drop}
use Rattle.chunk_list.proofs.QueueLemmas.{taken-items, taken-length, taken-length_all, taken-last, left-full, left-last, length-chunks}
use Rattle.chunk_list.proofs.chunks.Chunks.move_first.Goals as goal
use Rattle.chunk_list.proofs.chunks.Chunks.move_first.Goals.{then-len-gt0-via-then-len-gt0, then-len-gt0-via-else-len-gt0+then-last-most}

pub returns-then-len-gt0-clause-items : goal.returns-then-len-gt0-clause-items
returns-then-len-gt0-clause-items g c =
    taken-items c.args.self.now c.args.taken.now _ _ c.move_full-full.new.self c.move_full-full.new.taken c.move_full-full.result c.requires.kept
    c.requires.taken_kept c.requires.empty
    c.swap.ensures.x_after refl refl c.swap.ensures.y_after refl refl c.move_full-full.ensures.moves

pub returns-then-len-gt0-clause-count : goal.returns-then-len-gt0-clause-count
returns-then-len-gt0-clause-count g c =
    let full = c.args.self.now.full in
    let first = c.args.self.now.first in
    let most : c.move_full-full.result ≤ length full.items = omega (arith, c.move_full-full.ensures.count, full.ok.0) in
    let all = taken-length c.args.self.now c.args.taken.now _ _ c.move_full-full.new.self c.move_full-full.new.taken c.move_full-full.result
    c.requires.kept c.requires.taken_kept c.requires.empty
    c.swap.ensures.x_after refl refl c.swap.ensures.y_after refl refl c.move_full-full.ensures.moves most in
    omega (arith, all, c.len-first.ensures, first.ok.0)

pub returns-then-len-gt0-clause-all : goal.returns-then-len-gt0-clause-all
returns-then-len-gt0-clause-all g c = λ few.
    let self = c.args.self.now in
    let left = left-full c.args.self.now c.args.taken.now _ _ c.move_full-full.new.self c.move_full-full.new.taken c.move_full-full.result c.requires.kept
    c.requires.taken_kept c.requires.empty
    c.swap.ensures.x_after refl refl c.swap.ensures.y_after refl refl c.move_full-full.ensures.moves in
    let behind = left-last c.args.self.now c.args.taken.now _ _ c.move_full-full.new.self c.move_full-full.new.taken c.move_full-full.result
    c.requires.kept c.requires.taken_kept c.requires.empty
    c.swap.ensures.x_after refl refl c.swap.ensures.y_after refl refl c.move_full-full.ensures.moves in
    let all = length-chunks self self.first.items self.last.items self.full.items refl refl refl c.requires.kept.full in
    let cut : length c.move_full-full.new.self.full.items ≡ length self.full.items - c.move_full-full.result = ap length left
    ∙ length-drop c.move_full-full.result self.full.items in
    let end : length c.move_full-full.new.self.last.items ≡ length self.last.items = ap length behind in
    elim c.then-len-gt0.branch [
      | then-len-gt0-via-then-len-gt0 w ↦ absurd (omega (
        arith,
        few,
        all,
        cut,
        c.len.ensures,
        c.move_full-full.ensures.count,
        c.len-first.ensures,
        c.move_full-full.new.self.full.ok.0,
        self.full.ok.0,
        self.first.ok.0,
        w.if-len-gt0.true,
      ))
      | then-len-gt0-via-else-len-gt0+then-last-most w ↦ absurd (omega (
        arith,
        few,
        all,
        cut,
        end,
        c.len.ensures,
        c.len-last.ensures,
        c.move_full-full.ensures.count,
        c.len-first.ensures,
        c.move_full-full.new.self.full.ok.0,
        c.move_full-full.new.self.last.ok.0,
        self.full.ok.0,
        self.first.ok.0,
        w.if-len-gt0.false,
        w.if-last-most.true,
      ))
    ]

pub move_last-requires-clause-empty : goal.move_last-requires-clause-empty
move_last-requires-clause-empty g c =
    taken-last c.args.self.now c.args.taken.now _ _ c.move_full-full.new.self c.move_full-full.new.taken c.move_full-full.result c.requires.kept
    c.requires.taken_kept c.requires.empty
    c.swap.ensures.x_after refl refl c.swap.ensures.y_after refl refl c.move_full-full.ensures.moves

pub returns-clause-count : goal.returns-clause-count
returns-clause-count g c =
    let self = c.args.self.now in
    let most : c.move_full-full.result ≤ length self.full.items = omega (arith, c.move_full-full.ensures.count, self.full.ok.0) in
    let behind = left-last c.args.self.now c.args.taken.now _ _ c.move_full-full.new.self c.move_full-full.new.taken c.move_full-full.result
    c.requires.kept c.requires.taken_kept c.requires.empty
    c.swap.ensures.x_after refl refl c.swap.ensures.y_after refl refl c.move_full-full.ensures.moves in
    let all = taken-length_all c.args.self.now c.args.taken.now _ _ c.move_full-full.new.self c.move_full-full.new.taken c.move_full-full.result
    c.requires.kept c.requires.taken_kept c.requires.empty
    c.swap.ensures.x_after refl refl c.swap.ensures.y_after refl refl c.move_full-full.ensures.moves _ _ c.move_last.ensures.moves most in
    let end : length c.move_full-full.new.self.last.items ≡ length self.last.items = ap length behind in
    omega (arith, all, end, c.len-first.ensures, c.len-last.ensures, self.first.ok.0, c.move_full-full.new.self.last.ok.0)
