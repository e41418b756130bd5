use Rattle.tree_nodes.specs.Fans.{children_of, separators_of}
use Rattle.std.proofs.Common.{◌∷◌, ◌++◌, ◌≡◌, ℕ, ◌+◌, ◌-◌, List, length, ap, ◌∙◌, arith, suc, refl}
use Rattle.std.specs.List.{insert}
use Rattle.std.proofs.lemmas.List.Edits.{insert_end}
use Rattle.keybytes.specs.declared.pair.Pair.{Pair}
use Rattle.tree_nodes.specs.declared.fan.Fan.{Fan}
use Rattle.btree.specs.Marks.{Mark, Between}
use Rattle.btree.specs.Seen.{Seen}
use Rattle.btree.specs.Weave.{weave}
use Rattle.btree.specs.Levels.{levels_over}
use Rattle.btree.proofs.FanFacts.{AllAt-insert}
use Rattle.btree.proofs.FanGrown.{made, Halves, halves_lower, halves_upper, halves_end, blank_last}
use Rattle.btree.proofs.growing.insert_into_fan.Goals as goal
use Rattle.btree.proofs.growing.insert_into_fan.Goals.{then-place-lt-FAN_KEPT, else-place-lt-FAN_KEPT, Joined-place-lt-FAN_KEPT, After-start}

pub split-between-requires-clause-blank : goal.split-between-requires-clause-blank
split-between-requires-clause-blank c = (blank_last _ _ _ c.requires.blank c.in-Some.ensures.items).0

pub returns-then-len-lt-FAN_MAX-clause-fanned : goal.returns-then-len-lt-FAN_MAX-clause-fanned
returns-then-len-lt-FAN_MAX-clause-fanned c =
    (made _ _ _ c.args.split.node.height c.insert.ensures.fan c.insert.ensures.children c.insert.ensures.separators c.requires.rising
    (AllAt-insert _ _ _ _ c.requires.level refl)).kept

pub returns-then-len-lt-FAN_MAX-clause-height : goal.returns-then-len-lt-FAN_MAX-clause-height
returns-then-len-lt-FAN_MAX-clause-height c =
    (made _ _ _ c.args.split.node.height c.insert.ensures.fan c.insert.ensures.children c.insert.ensures.separators c.requires.rising
    (AllAt-insert _ _ _ _ c.requires.level refl)).height

halves :
    (c : Joined-place-lt-FAN_KEPT)
    → Halves (children_of c.args.fan.now) (separators_of c.args.fan.now) c.args.place c.args.split.node c.args.split.separator c.if-place-lt-FAN_KEPT.fan
    c.if-place-lt-FAN_KEPT.right c.split-between.result
halves c =
    let few = c.requires.fan.few in
    let full : length (children_of c.args.fan.now) ≡ 32 = omega arith in
    elim c.if-place-lt-FAN_KEPT.branch [
      | then-place-lt-FAN_KEPT w ↦ rw (w.fan-is, w.right-is) (halves_lower _ _ _ _ _ _ _ _ full c.requires.fan.between w.if-place-lt-FAN_KEPT.true
          c.requires.level c.requires.rising
          w.insert-then-place-lt-FAN_KEPT.ensures.fan c.split-between.ensures.into_fan c.split-between.ensures.between
          (w.insert-then-place-lt-FAN_KEPT.ensures.children
          ∙ ap (λ (v : List Seen). insert v (c.args.place + 1) c.args.split.node) c.split-between.ensures.children)
          (w.insert-then-place-lt-FAN_KEPT.ensures.separators
          ∙ ap (λ (v : List Pair). insert v c.args.place c.args.split.separator) c.split-between.ensures.separators)
          c.split-between.ensures.into_children c.split-between.ensures.into_separators)
      | else-place-lt-FAN_KEPT w ↦ rw (w.fan-is, w.right-is) (halves_upper _ _ _ _ _ _ _ _ full c.requires.fan.between w.if-place-lt-FAN_KEPT.false
          c.requires.level c.requires.rising
          c.split-between.ensures.fan w.insert-else-place-lt-FAN_KEPT.ensures.fan c.split-between.ensures.between
          c.split-between.ensures.children c.split-between.ensures.separators
          (w.insert-else-place-lt-FAN_KEPT.ensures.children
          ∙ ap (λ (v : List Seen). insert v (c.args.place - 16 + 1) c.args.split.node) c.split-between.ensures.into_children)
          (w.insert-else-place-lt-FAN_KEPT.ensures.separators
          ∙ ap (λ (v : List Pair). insert v (c.args.place - 16) c.args.split.separator) c.split-between.ensures.into_separators))
    ]

pub fan-requires-2 : goal.fan-requires-2
fan-requires-2 c = (halves c).right.kept

ends :
    (c : After-start)
    → Halves (children_of c.args.fan.now) (separators_of c.args.fan.now) c.args.place c.args.split.node c.args.split.separator c.args.fan.now
    c.start.new.self c.args.split.separator
ends c =
    let few = c.requires.fan.few in
    let full : length (children_of c.args.fan.now) ≡ 32 = omega arith in
    let place : c.args.place ≡ 31 = omega arith in
    halves_end _ _ _ _ _ _ _ full c.requires.fan.between place c.requires.level c.requires.rising c.requires.fan c.start.ensures.fan refl refl
    c.start.ensures.children c.start.ensures.separators

pub fan-requires : goal.fan-requires
fan-requires c = (ends c).right.kept

pub start-requires : goal.start-requires
start-requires c = (blank_last _ _ _ c.requires.blank c.in-Some.ensures.items).0

pub returns-then-place-clause-fanned : goal.returns-then-place-clause-fanned
returns-then-place-clause-fanned c = (ends c.before).left.kept

pub returns-then-place-clause-marks : goal.returns-then-place-clause-marks
returns-then-place-clause-marks c =
    ap (λ (ms : List Mark). weave (children_of c.args.fan.now) (separators_of c.args.fan.now) ++ Between c.args.split.separator ∷ ms) c.fan.ensures.marks
    ∙ (ends c.before).marks

pub returns-then-place-clause-height : goal.returns-then-place-clause-height
returns-then-place-clause-height c = (ends c.before).left.height

pub returns-then-place-clause-beside : goal.returns-then-place-clause-beside
returns-then-place-clause-beside c = c.fan.ensures.height ∙ ap suc (ends c.before).right.height

pub returns-then-place-clause-used : goal.returns-then-place-clause-used
returns-then-place-clause-used c = record {
  leaf = c.requires.leaf;
  blank = (blank_last _ _ _ c.requires.blank c.in-Some.ensures.items).1;
  used = omega
      (arith, c.in-Some.ensures.len);
}

pub returns-clause-fanned : goal.returns-clause-fanned
returns-clause-fanned c = (halves c.before).left.kept

pub returns-clause-marks : goal.returns-clause-marks
returns-clause-marks c =
    let kept : Fan Seen = c.if-place-lt-FAN_KEPT.fan in
    ap (λ (ms : List Mark). weave (children_of kept) (separators_of kept) ++ Between c.split-between.result ∷ ms) c.fan-2.ensures.marks
    ∙ (halves c.before).marks

pub returns-clause-height : goal.returns-clause-height
returns-clause-height c = (halves c.before).left.height

pub returns-clause-beside : goal.returns-clause-beside
returns-clause-beside c = c.fan-2.ensures.height ∙ ap suc (halves c.before).right.height

pub returns-clause-used : goal.returns-clause-used
returns-clause-used c = record {
  leaf = c.requires.leaf;
  blank = (blank_last _ _ _ c.requires.blank c.in-Some.ensures.items).1;
  used = omega
      (arith, c.in-Some.ensures.len);
}

pub returns-then-len-lt-FAN_MAX-clause-last : goal.returns-then-len-lt-FAN_MAX-clause-last
returns-then-len-lt-FAN_MAX-clause-last c = λ last. (
  omega arith,
  c.insert.ensures.children
      ∙ ap (λ (k : ℕ). insert (children_of c.args.fan.now) k c.args.split.node) last
      ∙ insert_end (children_of c.args.fan.now) c.args.split.node,
)

pub returns-then-place-clause-last : goal.returns-then-place-clause-last
returns-then-place-clause-last c = λ last. (omega arith, refl, c.fan.ensures.levels ∙ ap levels_over c.start.ensures.children)

pub returns-clause-last : goal.returns-clause-last
returns-clause-last c = λ last. absurd (omega arith)
