-- A build starts, or doesn't, as the table says to which it was handed on.
use Rattle.std.proofs.Common.{◌≡◌, ℕ, false, List, Option, None, Some, is_some, Result, Ok, Err, IfOk, IfErr, OnOk, OnErr, refl, subst, ◌∙◌, inr}
use Rattle.keybytes.specs.declared.fault.Fault.{Fault}
use Rattle.keybytes.specs.declared.kind.Kind.{Kind}
use Rattle.build_events.specs.declared.plan.Plan.{Plan}
use Rattle.build_events.specs.declared.reply.Reply.TheVariants.{Started}
use Rattle.run_spool.specs.declared.choice.SpoolChoice.TheVariants.{Prefix}
use Rattle.leased_core.specs.Leasing.{StartsOver}
use Rattle.kept_table.specs.KeptTables.{KeptValue}
use Rattle.kept_table.specs.Starts.{RefusesStart, start_limits_refusal}
use Rattle.sfbuild_c.specs.Building.{IsAskedFor, RefusesBuild, StartsBuild}

pub none_there : {A : Type 0} → (o : Option A) → is_some o ≡ false → o ≡ None
none_there None none = refl
none_there (Some x) none = cc

pub starts :
    (bytes : List ℕ) (workers ranges quota : ℕ) (told : Result ℕ Fault) (plan : Plan) (kinds : List Kind) (mid before after : KeptValue)
    → mid ≡ before → kinds ≡ before.core.live.heap.schema → IsAskedFor kinds bytes workers ranges plan
    → IfOk told (λ pages. StartsOver Prefix quota plan mid.core (Started pages) after.core) → OnOk told (start_limits_refusal quota plan mid.core ≡ None)
    → after.decided ≡ mid.decided → OnOk told (after.waited ≡ None) → IfOk told (λ pages. StartsBuild bytes workers ranges quota pages before after)
starts bytes workers ranges quota (Ok pages) plan kinds mid before after same of asked started accepted decided waited = (
  subst (λ (kept : KeptValue). after.decided ≡ kept.decided) same decided,
  waited,
  (
    plan,
    subst (λ (columns : List Kind). IsAskedFor columns bytes workers ranges plan) of asked,
    subst (λ (kept : KeptValue). start_limits_refusal quota plan kept.core ≡ None) same accepted,
    subst (λ (kept : KeptValue). StartsOver Prefix quota plan kept.core (Started pages) after.core) same started,
  ),
)
starts bytes workers ranges quota (Err fault) plan kinds mid before after same of asked started accepted decided waited = tt

pub refuses :
    (bytes : List ℕ) (workers ranges quota : ℕ) (told : Result ℕ Fault) (plan : Plan) (kinds : List Kind) (mid before after : KeptValue)
    → mid ≡ before → kinds ≡ before.core.live.heap.schema → IsAskedFor kinds bytes workers ranges plan → before.core.live.build ≡ None
    → IfErr told (RefusesStart Prefix quota plan mid.core) → OnErr told (after ≡ mid)
    → IfErr told (λ fault. RefusesBuild bytes workers ranges quota fault before after)
refuses bytes workers ranges quota (Ok pages) plan kinds mid before after same of asked none refused unchanged = tt
refuses bytes workers ranges quota (Err fault) plan kinds mid before after same of asked none refused unchanged = (
  unchanged ∙ same,
  inr (
    none,
    inr (
      plan,
      subst (λ (columns : List Kind). IsAskedFor columns bytes workers ranges plan) of asked,
      subst (λ (kept : KeptValue). RefusesStart Prefix quota plan kept.core fault) same refused,
    ),
  ),
)
