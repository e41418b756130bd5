use Rattle.std.proofs.Common.{◌∙◌, sym, ap, subst, vec_items, IsUtf8}
use Rattle.std.proofs.lemmas.Bool.{false≢true}
use Rattle.keybytes.proofs.KeyReads.{text_zero_more, text_other_more, text_end}
use Rattle.keybytes.proofs.key_cell.read_text.Goals as goal
use Rattle.keybytes.proofs.key_cell.read_text.Goals.{then-bytes-at-ne0, else-bytes-at-ne0+then-bytes-at, then-bytes-at-eq0, else-bytes-at-eq0}

pub loop-at-preserved : goal.loop-at-preserved
loop-at-preserved c text rest begins =
    let was = c.loop-at.invariant text rest begins in
    rw c.in_ok-push.ensures.items
    (elim c.if-bytes-at-eq0.branch [
      | then-bytes-at-eq0 w ↦
          rw w.at-is (elim c.if-bytes-at-ne0.branch [
            | then-bytes-at-ne0 v ↦ absurd (v.if-bytes-at-ne0.true w.if-bytes-at-eq0.true)
            | else-bytes-at-ne0+then-bytes-at v ↦ rw w.if-bytes-at-eq0.true (text_zero_more text rest _ _ _ was w.if-bytes-at-eq0.true v.if-bytes-at.true)
          ])
      | else-bytes-at-eq0 w ↦ rw w.at-is (text_other_more text rest _ _ _ was w.if-bytes-at-eq0.false)
    ])

pub unreachable-requires : goal.unreachable-requires
unreachable-requires c =
    let ended = text_end _ _ _ _ _ (c.loop-at.invariant c.requires.0 c.requires.1 c.requires.2) c.if-bytes-at-ne0.false c.if-bytes-at.false in
    false≢true (c.in-Err.ensures.succeeds (subst IsUtf8 ended.0 c.requires.2.utf8))

pub returns-clause-text : goal.returns-clause-text
returns-clause-text c text rest begins =
    c.new.ensures ∙ ap vec_items c.in-Ok.ensures.ok
    ∙ sym (text_end text rest _ _ _ (c.loop-at.invariant text rest begins) c.if-bytes-at-ne0.false c.if-bytes-at.false).0

pub returns-clause-len : goal.returns-clause-len
returns-clause-len c text rest begins =
    (text_end text rest _ _ _ (c.loop-at.invariant text rest begins) c.if-bytes-at-ne0.false c.if-bytes-at.false).1
