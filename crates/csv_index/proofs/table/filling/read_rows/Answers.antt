use Rattle.std.proofs.Common.{◌≡◌, ◌++◌, ◌∷◌, [], List, ℕ, Ok, refl, sym, ap, subst, ◌∙◌, arith, append-nil, append_assoc}
use Rattle.csv.specs.Records.{fields_of}
use Rattle.csv_index.specs.Fillings.{AreTaken, OnlyTurns}
use Rattle.csv_index.specs.Lines.{line_at}
use Rattle.csv_index.specs.declared.table.filling.Filled.{Filled}
use Rattle.csv_index.proofs.Taken.{counted_more, none_taken, open_still, take_more, taken_kept}
use Rattle.csv_index.proofs.table.filling.read_rows.Goals as goal

pub loop-number-init : goal.loop-number-init
loop-number-init g c =
    let layout = c.args.layout.now in
    let lines = c.args.lines.now in
    record {
      taken = (
        [],
        refl,
        none_taken layout.width layout.sources.items lines.text lines.passed c.args.filled.now.heap.state _ c.in_ok-txn.ensures.rows c.requires.rows
            c.requires.left_out c.requires.sizes,
      );
      counted = omega (arith, c.requires.rows, c.requires.left_out);
      skipped = λ strict. c.requires.left_out;
      alone = c.in_ok-txn.ensures.alone;
      text = refl;
    }

pub returns-then-not-branch-clause-taken : goal.returns-then-not-branch-clause-taken
returns-then-not-branch-clause-taken g c =
    let layout = c.args.layout.now in
    let sources = layout.sources.items in
    let text = c.args.lines.now.text in
    let passed : ℕ = c.loop-number.lines.passed in
    let was = c.loop-number.invariant.taken in
    let ended = c.in_ok-read.ensures.ended (ap Ok c.if-not-branch.true) in
    let all = sym (append-nil was.0) ∙ sym (ap (λ (records : List (List (List ℕ))). was.0 ++ records) ended) ∙ was.1 in
    let filled : Filled = c.loop-number.filled in
    let after : Filled = record { heap = c.end.new.heap; lines = filled.lines; sizes = filled.sizes; rows = filled.rows; left_out = filled.left_out } in
    let start = c.args.filled.now.heap.state in
    let turns : OnlyTurns filled after = record { rows = c.in_ok-end.ensures.rows; rest = refl } in
    let taken = taken_kept layout.width sources text passed was.0 start filled after was.2 turns in
    subst (λ (records : List (List (List ℕ))). AreTaken layout.width sources text passed records start after) all taken

pub returns-then-not-branch-clause-skipped : goal.returns-then-not-branch-clause-skipped
returns-then-not-branch-clause-skipped g c = λ strict. c.loop-number.invariant.skipped strict

pub take-requires : goal.take-requires
take-requires g c =
    let rows = ap (λ (x : Filled). x.rows) c.in_ok-txn-2.ensures.turns.rest in
    let left_out = ap (λ (x : Filled). x.left_out) c.in_ok-txn-2.ensures.turns.rest in
    omega (arith, rows, left_out, c.loop-number.invariant.counted)

pub loop-number-preserved : goal.loop-number-preserved
loop-number-preserved g c =
    let layout = c.args.layout.now in
    let sources = layout.sources.items in
    let text = c.args.lines.now.text in
    let start = c.args.filled.now.heap.state in
    let was = c.loop-number.invariant.taken in
    let fields = fields_of c.read.new.record in
    let found = c.in_ok-read.ensures.found (ap Ok c.if-not-branch.false) in
    let turns = c.in_ok-txn-2.ensures.turns in
    let taken = c.in_ok-take.ensures.taken in
    let f : Filled = c.turn.new.filled in
    let g : Filled = c.take.new.filled in
    let passed : ℕ = c.loop-number.lines.passed in
    let lines = c.line_from-line.new.self in
    let line : ℕ = c.line_from-line.result in
    let counts = c.line_from-line.ensures.counts in
    let same : lines.text ≡ text = counts.same ∙ c.loop-number.invariant.text in
    let is : line ≡ line_at text lines.passed = c.line_from-line.ensures.line ∙ ap (λ (t : List ℕ). line_at t lines.passed) same in
    let before = taken_kept layout.width sources text passed was.0 start c.loop-number.filled f was.2 turns in
    let after = take_more layout.width sources text passed was.0 start f g before fields line lines.passed is counts.onward taken in
    let more = counted_more layout.width sources fields line f g taken in
    let rows = ap (λ (x : Filled). x.rows) turns.rest in
    let left_out = ap (λ (x : Filled). x.left_out) turns.rest in
    record {
      taken = (
        was.0 ++ fields ∷ [],
        append_assoc was.0 (fields ∷ []) c.read.new.records ∙ sym (ap (λ (records : List (List (List ℕ))). was.0 ++ records) found) ∙ was.1,
        after,
      );
      counted = omega (arith, more, rows, left_out, c.loop-number.invariant.counted);
      skipped = λ strict. c.in_ok-take.ensures.skipped strict ∙ (left_out ∙ c.loop-number.invariant.skipped strict);
      alone = open_still layout.width sources fields line f g taken ∙ c.in_ok-txn-2.ensures.alone;
      text = same;
    }
