use Rattle.std.proofs.Common.{rules, [], ◌++◌, length, map, sym, ap, ◌∙◌, arith}
use Rattle.std.proofs.lemmas.List.{length_push, nil_from_length}
use Rattle.std.specs.Vec.Iter.{into_iter_items}
use Rattle.race.proofs.Gathering.{gathered_next, gathered_none, left_over_next, none_left_over}
use Rattle.race.proofs.threads.gather.Goals as goal

pub loop-handle-init : goal.loop-handle-init
loop-handle-init g c = (
  tt,
  tt,
  search rules,
  search rules,
  search rules,
  search rules,
  [],
  search rules,
  gathered_none g.T.Opened.opening c.args.gathered.now.receipts.items c.args.gathered.now.lines.items c.args.gathered.now.known.items c.requires.none.0
      c.requires.none.1,
)

pub loop-handle-preserved : goal.loop-handle-preserved
loop-handle-preserved g c =
    let i = c.loop-handle.invariant in
    let next = gathered_next g.T.Opened.opening c.args.gathered.now.receipts.items (λ handle. handle.promise.script.value)
    (map (λ handle. handle.promise.script.value) c.args.handles.items) (into_iter_items c.loop-handle.handle-iterator) (into_iter_items c.next.new.self)
    c.in-Some.handle c.join.result c.loop-handle.gathered.lines.items c.put.new.self.lines.items c.loop-handle.gathered.known.items
    c.put.new.self.known.items c.loop-handle.gathered.receipts.items c.put.new.self.receipts.items (i.6, i.7, i.8) c.in-Some.ensures.steps.0 c.join.ensures
    c.put.ensures.lines c.put.ensures.known c.put.ensures.receipts in
    let left = ap length c.in-Some.ensures.steps.0 in
    let lines = ap length c.put.ensures.lines ∙ length_push c.loop-handle.gathered.lines.items c.join.result.line in
    let known = ap length c.put.ensures.known ∙ length_push c.loop-handle.gathered.known.items c.join.result.left.log in (
      tt,
      tt,
      omega (arith, i.2, left, lines, c.put.new.self.lines.ok.0, c.loop-handle.gathered.lines.ok.0),
      omega (arith, i.3, lines, known, c.put.new.self.lines.ok.0, c.loop-handle.gathered.lines.ok.0, c.put.new.self.known.ok.0, c.loop-handle.gathered.known.ok.0),
      c.put.ensures.room.0 ∙ i.4,
      c.put.ensures.room.1 ∙ i.5,
      next.0,
      next.1,
      next.2,
    )

pub loop-one-preserved : goal.loop-one-preserved
loop-one-preserved g c =
    let i = c.loop-one.invariant in
    let left = ap length c.in-Some-one.ensures.steps.0 in
    let lines = ap length c.put-in-loop-one.ensures.lines ∙ length_push c.loop-one.gathered.lines.items c.in-Some-one.one.line in
    let known = ap length c.put-in-loop-one.ensures.known ∙ length_push c.loop-one.gathered.known.items c.in-Some-one.one.left.log in (
      tt,
      tt,
      omega (arith, i.2, left, lines, c.put-in-loop-one.new.self.lines.ok.0, c.loop-one.gathered.lines.ok.0, c.put-in-loop-one.ensures.room.0),
      omega (arith, i.3, left, known, c.put-in-loop-one.new.self.known.ok.0, c.loop-one.gathered.known.ok.0, c.put-in-loop-one.ensures.room.1),
      λ rest ran.
          left_over_next g.T.Opened.opening c.args.gathered.now.receipts.items (map (λ handle. handle.promise.script.value) c.args.handles.items ++ rest)
          (into_iter_items c.loop-one.one-iterator) (into_iter_items c.next-in-loop-one.new.self) c.in-Some-one.one c.loop-one.gathered.lines.items
          c.put-in-loop-one.new.self.lines.items c.loop-one.gathered.known.items c.put-in-loop-one.new.self.known.items c.loop-one.gathered.receipts.items
          c.put-in-loop-one.new.self.receipts.items (c.loop-one.invariant.4 rest ran) c.in-Some-one.ensures.steps.0 c.put-in-loop-one.ensures.lines
          c.put-in-loop-one.ensures.known c.put-in-loop-one.ensures.receipts,
    )

pub returns : goal.returns
returns g c =
    let none = nil_from_length (into_iter_items c.loop-one.one-iterator) (sym c.loop-one.one-iterator.rest.ok.0 ∙ c.in-None-one.ensures.steps.0) in
    λ rest ran.
    none_left_over g.T.Opened.opening c.args.gathered.now.receipts.items (map (λ handle. handle.promise.script.value) c.args.handles.items ++ rest)
    (into_iter_items c.loop-one.one-iterator) c.loop-one.gathered.lines.items c.loop-one.gathered.known.items c.loop-one.gathered.receipts.items
    (c.loop-one.invariant.4 rest ran) none
