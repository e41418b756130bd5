use Rattle.std.proofs.Common.{refl, subst, ◌∙◌, inl}
use Rattle.kept_table.specs.KeptTables.{KeptValue}
use Rattle.sfbuild_c.specs.Building.{Advances}
use Rattle.sfbuild_c.proofs.Answering.{advances}
use Rattle.sfbuild_c.proofs.builds.sfbuild_step.Goals as goal

pub returns-in-Ok-clause-told : goal.returns-in-Ok-clause-told
returns-in-Ok-clause-told c =
    let before = c.in-Some.table.value in
    let after = c.advance-advanced.new.self in
    let does = subst (λ (kept : KeptValue). Advances c.args.most c.in-Ok.switched kept after) c.deref_mut.ensures.value
    (advances c.args.most c.in-Ok.switched c.deref_mut.result.now after c.in-Ok.ensures.ready c.in-Ok.ensures.forgotten c.in-Ok.ensures.goes_on c.in-Ok.ensures.waits) in
    inl ((before, after, c.in-Some.ensures.table, c.put.ensures.table, (refl, does)), c.put.ensures.cause ∙ c.take.ensures.cause)
