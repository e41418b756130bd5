use Rattle.std.proofs.Common.{◌≡◌, ◌∷◌, ◌++◌, ◌∙◌, [], List, append_assoc, arith, length, ap, sym, subst}
use Rattle.std.proofs.lemmas.List.{length_push}
use Rattle.std.proofs.lemmas.Result.{IfErr-weaker}
use Rattle.keybytes.specs.declared.pair.Pair.{Pair}
use Rattle.run_spool.specs.Spools.{NoPageOnlyIf, all_pairs}
use Rattle.run_maker.specs.FullSpools.{IsFullOf}
use Rattle.run_maker.specs.Spooling.{Adds}
use Rattle.run_maker.proofs.Spoolings.{one_begun, spooled_adds, both_ok}
use Rattle.run_maker.proofs.open_run.OpenRun.add.Goals as goal

pub returns-then-len-lt-RUN_PAIRS-clause-added : goal.returns-then-len-lt-RUN_PAIRS-clause-added
returns-then-len-lt-RUN_PAIRS-clause-added g c =
    let runs = g.S.Spool.runs c.args.spool.now in
    let is : c.push.new.self.items ≡ c.args.self.now ++ c.args.pair ∷ [] =
    c.in_ok-push.ensures.items ∙ ap (λ (ps : List Pair). ps ++ c.args.pair ∷ []) c.self.view_is in
    subst (λ (ps : List Pair). Adds (c.args.pair ∷ []) runs c.args.self.now runs ps) (sym is) (one_begun runs c.args.self.now c.args.pair)

pub returns-clause-added : goal.returns-clause-added
returns-clause-added g c =
    let begun = c.args.self.now in
    let pairs = c.push.new.self.items in
    let is : pairs ≡ begun ++ c.args.pair ∷ [] = c.in_ok-push.ensures.items ∙ ap (λ (ps : List Pair). ps ++ c.args.pair ∷ []) c.self.view_is in
    let full : length pairs ≡ 4096 =
    omega (
      arith,
      c.if-len-lt-RUN_PAIRS.false,
      c.len.ensures,
      c.push.new.self.ok.0,
      ap length c.in_ok-push.ensures.items,
      length_push
          c.self.inside.pairs.items c.args.pair,
      c.self.invariant,
    ) in
    both_ok c.spool_run.result (λ spooled left.
    subst (λ (ps : List Pair). Adds (c.args.pair ∷ []) (g.S.Spool.runs c.args.spool.now) begun (g.S.Spool.runs c.spool_run.new.spool) ps) (sym left)
    (spooled_adds (g.S.Spool.runs c.args.spool.now) (g.S.Spool.runs c.spool_run.new.spool) begun c.args.pair pairs is full spooled))
    c.spool_run.ensures.spooled c.spool_run.ensures.left

pub returns-clause-full : goal.returns-clause-full
returns-clause-full g c =
    let begun = c.args.self.now in
    let pairs = c.push.new.self.items in
    let spool = c.spool_run.new.spool in
    let held = all_pairs (g.S.Spool.runs c.args.spool.now) in
    let Full : List Pair → Type 0 = λ ps. IsFullOf g.S.Spool.is_full g.S.Spool.runs g.S.Spool.open_run ps spool in
    let is : pairs ≡ begun ++ c.args.pair ∷ [] = c.in_ok-push.ensures.items ∙ ap (λ (ps : List Pair). ps ++ c.args.pair ∷ []) c.self.view_is in
    let all : held ++ pairs ≡ (held ++ begun) ++ c.args.pair ∷ [] =
    ap (λ (ps : List Pair). held ++ ps) is ∙ sym (append_assoc held begun (c.args.pair ∷ [])) in
    IfErr-weaker c.spool_run.result (λ _. Full (held ++ pairs)) (NoPageOnlyIf (Full ((held ++ begun) ++ c.args.pair ∷ [])))
    (λ fault full _. subst Full all full) c.spool_run.ensures.full
