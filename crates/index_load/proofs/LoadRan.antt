-- A load of an index went on.
use Rattle.std.proofs.Common.{◌≡◌, ◌⊎◌, inl, inr, true, List, [], Option, Some, None, refl, sym, subst}
use Rattle.std.specs.List.{IsDistinct}
use Rattle.std.proofs.lemmas.List.Elements.{All-nil}
use Rattle.std.specs.Prelude.{IfSome, Result, Ok, Err, is_some}
use Rattle.keybytes.specs.declared.fault.Fault.{Fault}
use Rattle.keybytes.specs.declared.fault.Fault.TheVariants.{Memory}
use Rattle.run_spool.specs.Spools.{AreSorted}
use Rattle.page_workers.specs.SpoolValue.{SpoolValue}
use Rattle.catch_up.specs.Built.{BuiltValue}
use Rattle.index_load.specs.IndexLoad.{HasRun, IndexLoadValue, IsLoadable, MakesIndex, with_made}

there_is_none : {X : Type 0} (one : Option X) → one ≡ None → is_some one ≡ true → ⊥
there_is_none None none some = absurd (cc)
there_is_none (Some x) none some = absurd (cc)

-- one that wasn't done or refused went on
pub has_run :
    (old : IndexLoadValue) (result : Result BuiltValue Fault) (spools : List SpoolValue) → old.built ≡ None → old.fault ≡ None
    → MakesIndex old.build old.unique old.spools result spools → HasRun old (with_made old result spools)
has_run old (Ok built) spools none fine makes = record {
  stakes = makes.stakes;
  again = λ before. elim before [
    | inl there ↦ absurd (there_is_none old.built none there)
    | inr told ↦ absurd (there_is_none old.fault fine told)
  ];
  done = λ _ _ _. (
    built,
    refl,
    record { build = makes.made.0; unique = makes.made.1; moved = makes.made.2; ordered = makes.made.3 },
    makes.made.4,
  );
  memory = λ _. subst (λ (o : Option Fault). IfSome o (λ fault. fault ≡ Memory)) (sym fine) tt;
  refused = λ _. subst (λ (o : Option Fault). IfSome o (λ fault. Some built ≡ None)) (sym fine) tt;
}
has_run old (Err fault) spools none fine makes = record {
  stakes = makes.stakes;
  again = λ before. elim before [
    | inl there ↦ absurd (there_is_none old.built none there)
    | inr told ↦ absurd (there_is_none old.fault fine told)
  ];
  done = λ _ _ none. absurd (cc);
  memory = λ _. makes.memory;
  refused = λ is. is;
}

still_none : (built : Option BuiltValue) (fault : Option Fault) → built ≡ None → IfSome fault (λ f. built ≡ None)
still_none built None none = tt
still_none built (Some fault) none = none

-- one that is done or refused stays as it is
pub stays_over : (load : IndexLoadValue) → (is_some load.built ≡ true) ⊎ (is_some load.fault ≡ true) → HasRun load load
stays_over load over = record {
  stakes = refl;
  again = λ _. refl;
  done = λ none fine. elim over [
    | inl there ↦ absurd (there_is_none load.built none there)
    | inr told ↦ absurd (there_is_none load.fault fine told)
  ];
  memory = λ fine. subst (λ (o : Option Fault). IfSome o (λ fault. fault ≡ Memory)) (sym fine) tt;
  refused = λ none. still_none load.built load.fault none;
}

-- spools of which there are none
pub none_loadable : IsLoadable []
unfolding IsDistinct
none_loadable = record { sorted = All-nil AreSorted; once = tt }
