-- The key specifications that a command names, taken one after the other.
use Rattle.std.proofs.Common.{◌≡◌, ◌≢◌, Bool, true, false, List, [], ◌∷◌, ◌++◌, map, Option, Some, None, inl, inr, refl, subst, ap, sym, ◌∙◌}
use Rattle.std.specs.Prelude.{IfSome, Vec, if◌then◌else◌}
use Rattle.std.specs.declared.alloc.Global.{Global}
use Rattle.std.proofs.lemmas.List.{append_assoc}
use Rattle.keybytes.specs.Conditions.{is_condition}
use Rattle.keybytes.specs.Faults.{first_cause, RefusedFor}
use Rattle.keybytes.specs.Keys.{KeySpecValue, are_key_columns}
use Rattle.keybytes.specs.declared.fault.Fault.{Fault}
use Rattle.keybytes.specs.declared.fault.Fault.TheVariants.{BadColumn, Memory}
use Rattle.keybytes.specs.declared.kind.Kind.{Kind}
use Rattle.keybytes.specs.declared.when.When.{When}
use Rattle.replay.specs.Listings.{key_spec_of, spec_refusal, when_refusal}
use Rattle.replay.specs.Plans.{IsOneMore, specs_refusal}
use Rattle.script.specs.declared.spec.Spec.{Spec}

-- the specifications that are made, if all are so far, are those before the rest
abbrev pub AreMade : List Kind → List Spec → List Spec → Option (Vec KeySpecValue Global) → Type 0
AreMade schema all rest made = IfSome made (λ specs. map (key_spec_of schema) all ≡ specs.items ++ map (key_spec_of schema) rest)

-- one specification more is made, or none is left
pub made_more : (schema : List Kind) (all rest : List Spec) (before after : Option (Vec KeySpecValue Global)) (spec : Spec)
    → AreMade schema all (spec ∷ rest) before → IfSome after (IsOneMore before (key_spec_of schema spec)) → AreMade schema all rest after
made_more schema all rest before None spec same more = tt
made_more schema all rest None (Some after) spec same more = absurd more
made_more schema all rest (Some before) (Some after) spec same more =
    let left : List KeySpecValue = map (key_spec_of schema) rest in
    same ∙ sym (append_assoc before.items (key_spec_of schema spec ∷ []) left) ∙ ap (λ (made : List KeySpecValue). made ++ left) (sym more)

-- the first of the rest is accepted
pub accepted_first : (schema : List Kind) (spec : Spec) (rest : List Spec) → spec_refusal schema spec ≡ None
    → specs_refusal schema (spec ∷ rest) ≡ specs_refusal schema rest
accepted_first schema spec rest accepted = rw accepted refl

-- the first of the rest is refused
pub refused_first : (schema : List Kind) (spec : Spec) (rest : List Spec) (fault : Fault)
    → spec_refusal schema spec ≡ Some fault → specs_refusal schema (spec ∷ rest) ≡ Some fault
refused_first schema spec rest fault is = subst (λ (cause : Option Fault). first_cause cause (specs_refusal schema rest) ≡ Some fault) (sym is) refl

-- no specification has want of memory for a cause
of_test : (test : Bool) → (if test then None else Some BadColumn) ≡ Some Memory → ⊥
of_test true is = cc
of_test false is = cc

of_condition : (schema : List Kind) (condition : Option When) → when_refusal schema condition ≡ Some Memory → ⊥
of_condition schema None is = cc
of_condition schema (Some condition) is = of_test (is_condition schema condition) is

of_columns : (test : Bool) (rest : Option Fault) → (rest ≡ Some Memory → ⊥) → first_cause (if test then None else Some BadColumn) rest ≡ Some Memory → ⊥
of_columns true rest other is = other is
of_columns false rest other is = cc

not_wanted : (schema : List Kind) (spec : Spec) → spec_refusal schema spec ≡ Some Memory → ⊥
not_wanted schema spec is =
    of_columns (are_key_columns schema spec.columns.items) (when_refusal schema spec.condition) (of_condition schema spec.condition) is

-- one that wants memory is accepted
pub wanted : (schema : List Kind) (spec : Spec) → RefusedFor (spec_refusal schema spec) Memory → spec_refusal schema spec ≡ None
wanted schema spec (inl is) = absurd (not_wanted schema spec is)
wanted schema spec (inr (none, memory)) = none

-- the cause of a refusal that is not want of memory
pub cause_of : (cause : Option Fault) (fault : Fault) → RefusedFor cause fault → fault ≢ Memory → cause ≡ Some fault
cause_of cause fault (inl is) other = is
cause_of cause fault (inr (none, is)) other = absurd (other is)
