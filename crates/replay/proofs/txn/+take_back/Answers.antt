use Rattle.std.proofs.Common.{◌≡◌, ℕ, zero, suc, ◌<◌, arith, rules, inl, inr, subst}
use Rattle.heap_log.specs.Standing.{standing_count}
use Rattle.build_events.specs.Steps.{Step}
use Rattle.build_events.specs.declared.event.Event.TheVariants.{Undo}
use Rattle.build_events.specs.declared.reply.Reply.TheVariants.{Undone}
use Rattle.replay.proofs.TakenBack.{fewer_left, has_ended}
use Rattle.replay.proofs.txn.+take_back.Goals as goal

pub take_back-requires : goal.take_back-requires
take_back-requires g t c =
    let step : Step c.args.leased.now (Undo c.args.txn) (Undone c.in-Ok.field-0.number c.in-Ok.left) c.undo.new.self = rw (← c.in-Ok.left-is) (inr c.in-Ok.ensures) in
    let fewer : standing_count c.undo.new.self.live.heap.log c.args.txn < standing_count c.args.leased.now.live.heap.log c.args.txn =
    fewer_left c.args.leased.now c.undo.new.self c.args.txn c.in-Ok.field-0.number c.in-Ok.left step (λ none. omega (arith, none, c.if-left-gt0.true)) in
    search rules

pub returns-then-left-gt0 : goal.returns-then-left-gt0
returns-then-left-gt0 g t c =
    let step : Step c.args.leased.now (Undo c.args.txn) (Undone c.in-Ok.field-0.number c.in-Ok.left) c.undo.new.self = rw (← c.in-Ok.left-is) (inr c.in-Ok.ensures) in
    (suc c.take_back.ensures.0, (c.in-Ok.field-0.number, c.in-Ok.left, c.undo.new.self, step, c.take_back.ensures.1))

pub returns-else-left-gt0 : goal.returns-else-left-gt0
returns-else-left-gt0 g t c =
    let step : Step c.args.leased.now (Undo c.args.txn) (Undone c.in-Ok.field-0.number c.in-Ok.left) c.undo.new.self = rw (← c.in-Ok.left-is) (inr c.in-Ok.ensures) in
    let none : c.in-Ok.left ≡ 0 = omega (arith, c.if-left-gt0.false) in
    let last : Step c.args.leased.now (Undo c.args.txn) (Undone c.in-Ok.field-0.number 0) c.undo.new.self =
    subst (λ (left : ℕ). Step c.args.leased.now (Undo c.args.txn) (Undone c.in-Ok.field-0.number left) c.undo.new.self) none step in
    (zero, inl (c.in-Ok.field-0.number, last, has_ended c.args.leased.now c.undo.new.self c.args.txn c.in-Ok.field-0.number last))
