use Rattle.std.proofs.Common.{length, IsSomeAnd, refl, ap, subst, ◌∙◌, inl}
use Rattle.kept_table.specs.Decisions.{Decides, verdicts_in}
use Rattle.kept_table.specs.KeptTables.{KeptValue}
use Rattle.sfbuild_c.proofs.Answering.{some_decides}
use Rattle.sfbuild_c.proofs.builds.sfbuild_switch.Goals as goal

pub returns-in-Ok-clause-told : goal.returns-in-Ok-clause-told
returns-in-Ok-clause-told c =
    let before = c.in-Some.table.value in
    let after = c.switch-switched.new.self in
    let decides = subst (λ (kept : KeptValue). IsSomeAnd after.decided (λ decided. Decides kept.core c.in-Ok._number decided after.core)) c.deref_mut.ensures.value
    c.in-Ok.ensures.decided in
    let count = c.decided-decided.ensures ∙ ap (λ (kept : KeptValue). length (verdicts_in kept.decided)) c.deref.ensures in
    inl (
      (
        before,
        after,
        c.in-Some.ensures.table,
        c.put.ensures.table,
        (refl, (some_decides after.decided c.in-Ok._number before.core after.core decides, count, c.in-Ok.ensures.forgotten)),
      ),
      c.put.ensures.cause ∙ c.take.ensures.cause,
    )
