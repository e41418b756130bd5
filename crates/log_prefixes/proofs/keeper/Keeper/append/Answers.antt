use Rattle.std.proofs.Common.{◌+◌, ℕ, ◌∷◌, [], length, refl, sym, ap, ◌∙◌, arith, length-append}
use Rattle.log_prefixes.proofs.Moves.{appends_as, still_knows}
use Rattle.log_prefixes.proofs.keeper.Keeper.append.Goals as goal

pub compare_exchange_with-requires : goal.compare_exchange_with-requires
compare_exchange_with-requires g c =
    let board = c.self.invariant.0 in
    let i = c.self.invariant.1 in
    (i.seated ∙ sym board, omega (arith, i.one_word, ap (λ t. t.words) board), appends_as _ _ _ _ _ _ _ i.knows i.zeroth i.counted (omega arith) refl)

pub invariant_of-self : goal.invariant_of-self
invariant_of-self g c =
    let board = c.self.invariant.0 in
    let i = c.self.invariant.1 in
    let e = c.compare_exchange_with.ensures in
    let added = e.2 c.args.rec.now refl in
    let counted = c.requires ∙ ap (λ (n : ℕ). n + 1) (sym (ap length c.self.view_is)) ∙ sym (length-append _ (c.args.rec.now ∷ [])) ∙ sym (ap (λ m. length m.0.log) added) in (
      board,
      record {
        one_word = i.one_word;
        seated = e.0 ∙ i.seated;
        zeroth = e.1 ∙ i.zeroth;
        knows = still_knows _ _ _ added (ap (λ m. m.1) i.knows);
        counted = counted;
      },
    )
