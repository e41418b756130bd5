use Rattle.std.proofs.Common.{◌≡◌, ◌++◌, ◌∙◌, ℕ, List, Option, length, ap, sym, subst, take, drop}
use Rattle.std.proofs.Math.Seq.{take-append_seam}
use Rattle.keybytes.specs.declared.cell.Cell.{Cell}
use Rattle.keybytes.specs.declared.kind.Kind.{Kind}
use Rattle.heap_table.specs.Images.{HasRows}
use Rattle.run_maker.specs.Making.{MakerValue}
use Rattle.run_maker.proofs.maker.Maker.take_with.Given as given
use Rattle.run_maker.proofs.maker.Maker.take_with.Goals as goal
use Rattle.run_maker.proofs.maker.Maker.take_with.Goals.{After-add_image}

-- what the lists are that the pairs were added to, and what is left of those in no run
its_lists :
    (g : given.Over) (c : After-add_image g)
    → (take c.self.inside.begun.len (c.add_image.new.begun ++ drop (length c.add_image.new.begun) c.self.inside.begun.items) ≡ c.add_image.new.begun)
    × (c.deref.result.now ≡ c.args.self.now.specs) × (c.deref_mut.result.now ≡ c.args.self.now.begun)
its_lists g c =
    let new = c.add_image.new.begun in
    let long : length new ≡ c.self.inside.begun.len = c.add_image.auto.begun ∙ c.deref_mut.ensures.len in (
      rw (← long) (take-append_seam new (drop (length new) c.self.inside.begun.items)),
      c.deref.ensures.value ∙ ap (λ (value : MakerValue). value.specs) c.self.view_is,
      c.deref_mut.ensures.value ∙ ap (λ (value : MakerValue). value.begun) c.self.view_is,
    )

pub add_image-requires-clause-rows : goal.add_image-requires-clause-rows
add_image-requires-clause-rows g c =
    let columns = c.requires.schema ∙ sym (ap (λ (value : MakerValue). value.schema) c.self.view_is) in
    subst (λ (kinds : List Kind). (rows : ℕ → Option (List Cell)) × HasRows kinds c.args.image rows) columns c.laws.ensures

pub returns-clause-taken : goal.returns-clause-taken
returns-clause-taken g c =
    let its = its_lists g (goal.at.returns-clause-taken g c).After-add_image in
    rw (its.0, ← its.1, ← its.2) c.add_image.ensures.taken

pub returns-clause-part : goal.returns-clause-part
returns-clause-part g c =
    let its = its_lists g (goal.at.returns-clause-part g c).After-add_image in
    rw (its.0, ← its.1, ← its.2) c.add_image.ensures.part
