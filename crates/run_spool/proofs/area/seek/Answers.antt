use Rattle.std.proofs.Common.{◌≡◌, ◌+◌, ◌-◌, ℕ, drop, subst, sym, ap, ◌∙◌, arith}
use Rattle.std.proofs.lemmas.List.{drop-drop}
use Rattle.run_spool.specs.Bytes.{read_pairs, Stored}
use Rattle.run_spool.specs.PlainPages.{pairs_at}
use Rattle.run_spool.proofs.Marked.{from_cursor}
use Rattle.run_spool.proofs.area.seek.Goals as goal

pub skip-requires-2-clause-stored : goal.skip-requires-2-clause-stored
skip-requires-2-clause-stored c =
    subst (Stored c.args.bytes.now c.args.marks.offset c.args.marks.end) (sym (from_cursor c.requires.page)) c.requires.page.ahead

pub returns : goal.returns
returns c =
    let b = c.args.bytes.now in
    let m = c.args.marks in
    let ps = pairs_at b m in
    let le = c.if-n-marks.false in
    let n : m.cursor + (c.args.n - m.cursor) ≡ c.args.n = omega arith in
    let e : drop (c.args.n - m.cursor) (read_pairs (m.count - m.cursor) (drop m.offset b)) ≡ drop c.args.n ps =
    ap (drop (c.args.n - m.cursor)) (from_cursor c.requires.page) ∙ drop-drop (c.args.n - m.cursor) m.cursor ps ∙ ap (λ (k : ℕ). drop k ps) n in
    subst (Stored b c.skip-2.result m.end) e c.skip-2.ensures
