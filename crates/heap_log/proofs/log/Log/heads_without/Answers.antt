use Rattle.std.proofs.Common.{◌≡◌, ◌∙◌, ◌+◌, ap, arith, length, Some, true, refl}
use Rattle.std.proofs.lemmas.Bool.{eq-eqb, false≢true}
use Rattle.heap_log.specs.LogValue.{LogValue}
use Rattle.heap_log.specs.declared.record.LogRec.{LogRec}
use Rattle.heap_log.specs.Links.{AreLinks}
use Rattle.heap_log.specs.Standing.{is_write_of, is_write_at, place_of, stands_of, stands_at}
use Rattle.heap_log.proofs.Headed.{heads-undo, heads-undone, heads-other, stands-read, undone-read}
use Rattle.keybytes.proofs.SameRids.{same_rid-refl}
use Rattle.heap_log.proofs.Growing.{undone-past}
use Rattle.heap_log.proofs.Records.{record_at-read}
use Rattle.heap_log.proofs.log.Log.heads_without.Goals as goal

pub returns-then-index-clause-heads : goal.returns-then-index-clause-heads
returns-then-index-clause-heads c = λ txn.
    let h : AreLinks c.args.self.now.records c.self.inside.links.items = rw (ap (λ (v : LogValue). v.records) c.self.view_is) at c.self.invariant.links in
    heads-undone c.args.self.now.records txn c.args.number (undone-past _ h.earlier (length c.args.self.now.records + 1) (omega arith))
    (c.requires.low, c.requires.high)
    (undone-read _ _ h c.args.number c.index.result.now c.requires.low c.requires.high c.index.ensures ∙ c.if-index.true)

pub txn_head_without-requires : goal.txn_head_without-requires
txn_head_without-requires c =
    let view = ap (λ (v : LogValue). v.records) c.self.view_is in
    let h : AreLinks c.args.self.now.records c.self.inside.links.items = rw view at c.self.invariant.links in
    stands-read _ _ h (is_write_of c.in-Write.txn) c.args.number c.index.result.now c.index-2.result.now c.requires.low c.requires.high
    (rw view at c.index-2.ensures) c.index.ensures c.if-index.false
    (ap (λ (r : LogRec). is_write_of c.in-Write.txn (Some r)) c.in-Write.is ∙ eq-eqb c.in-Write.txn c.in-Write.txn refl)

pub rid_head_without-requires : goal.rid_head_without-requires
rid_head_without-requires c =
    let view = ap (λ (v : LogValue). v.records) c.self.view_is in
    let h : AreLinks c.args.self.now.records c.self.inside.links.items = rw view at c.self.invariant.links in
    stands-read _ _ h (is_write_at c.in-Write.rid) c.args.number c.index.result.now c.index-2.result.now c.requires.low c.requires.high
    (rw view at c.index-2.ensures) c.index.ensures c.if-index.false
    (ap (λ (r : LogRec). is_write_at c.in-Write.rid (Some r)) c.in-Write.is ∙ same_rid-refl c.in-Write.rid)

pub returns-in-Write-clause-heads : goal.returns-in-Write-clause-heads
returns-in-Write-clause-heads c = λ txn.
    let view = ap (λ (v : LogValue). v.records) c.self.view_is in
    let h : AreLinks c.args.self.now.records c.self.inside.links.items = rw view at c.self.invariant.links in
    let of : stands_of c.args.self.now.records c.in-Write.txn c.args.number ≡ true =
    stands-read _ _ h (is_write_of c.in-Write.txn) c.args.number c.index.result.now c.index-2.result.now c.requires.low c.requires.high
    (rw view at c.index-2.ensures) c.index.ensures c.if-index.false
    (ap (λ (r : LogRec). is_write_of c.in-Write.txn (Some r)) c.in-Write.is ∙ eq-eqb c.in-Write.txn c.in-Write.txn refl) in
    let at : stands_at c.args.self.now.records c.in-Write.rid c.args.number ≡ true =
    stands-read _ _ h (is_write_at c.in-Write.rid) c.args.number c.index.result.now c.index-2.result.now c.requires.low c.requires.high
    (rw view at c.index-2.ensures) c.index.ensures c.if-index.false
    (ap (λ (r : LogRec). is_write_at c.in-Write.rid (Some r)) c.in-Write.is ∙ same_rid-refl c.in-Write.rid) in
    heads-undo c.args.self.now.records txn c.args.number _ (undone-past _ h.earlier (length c.args.self.now.records + 1) (omega arith))
    (c.requires.low, c.requires.high) of at
    c.txn_head_without.ensures.last c.txn_head_without.ensures.newest c.txn_head_without.ensures.standing c.rid_head_without.ensures.last
    c.rid_head_without.ensures.newest

pub returns-in-Undo-clause-heads : goal.returns-in-Undo-clause-heads
returns-in-Undo-clause-heads c = λ txn.
    let view = ap (λ (v : LogValue). v.records) c.self.view_is in
    heads-other c.args.self.now.records c.self.inside.links.items (rw view at c.self.invariant.links) txn c.args.number c.index-2.result.now
    c.requires.low c.requires.high (rw view at c.index-2.ensures) (λ some. false≢true (rw c.in-Undo.is at some))

pub returns-in-Commit-clause-heads : goal.returns-in-Commit-clause-heads
returns-in-Commit-clause-heads c = λ txn.
    let view = ap (λ (v : LogValue). v.records) c.self.view_is in
    heads-other c.args.self.now.records c.self.inside.links.items (rw view at c.self.invariant.links) txn c.args.number c.index-2.result.now
    c.requires.low c.requires.high (rw view at c.index-2.ensures) (λ some. false≢true (rw c.in-Commit.is at some))

pub returns-in-Switch-clause-heads : goal.returns-in-Switch-clause-heads
returns-in-Switch-clause-heads c = λ txn.
    let view = ap (λ (v : LogValue). v.records) c.self.view_is in
    heads-other c.args.self.now.records c.self.inside.links.items (rw view at c.self.invariant.links) txn c.args.number c.index-2.result.now
    c.requires.low c.requires.high (rw view at c.index-2.ensures) (λ some. false≢true (rw c.in-Switch.is at some))

pub returns-in-Write-clause-rid : goal.returns-in-Write-clause-rid
returns-in-Write-clause-rid c =
    let view = ap (λ (v : LogValue). v.records) c.self.view_is in
    ap place_of (record_at-read c.args.self.now.records c.args.number c.index-2.result.now c.requires.low c.requires.high (rw view at c.index-2.ensures))
    ∙ ap (λ (r : LogRec). place_of (Some r)) c.in-Write.is
