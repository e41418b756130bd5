use Rattle.std.proofs.Common.{◌≡◌, ℕ, List, Option, None, ◌∙◌, sym, subst}
use Rattle.std.specs.Option.{option_map, option_to_list}
use Rattle.keybytes.specs.Keys.{indexed_key}
use Rattle.run_maker.specs.Spooling.{Adds}
use Rattle.run_maker.proofs.Spoolings.{adds_none}
use Rattle.run_maker.proofs.rows.add_key.Goals as goal

pub returns-in-None-clause-added : goal.returns-in-None-clause-added
returns-in-None-clause-added g c =
    let runs = g.S.Spool.runs c.args.spool.now in
    let begun = c.args.begun.now in
    let none : indexed_key c.args.spec.now c.args.row.now ≡ None = sym c.in_ok-key.ensures.value ∙ c.in-None.is in
    subst (λ (found : Option (List ℕ)). Adds (option_to_list (option_map (λ key. record { key = key; rid = c.args.rid }) found)) runs begun runs begun)
    (sym none) (adds_none runs begun)
