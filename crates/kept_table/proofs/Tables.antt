-- A call works on the table that it took out of its place.
use Rattle.std.proofs.Common.{◌≡◌, ℕ, Bool, List, Option, Some, None, Result, Ok, Err, OnOk, OnErr, ap, subst, sym, ◌∙◌}
use Rattle.std.specs.Prelude.{if◌then◌else◌}
use Rattle.std.specs.Result.{is_ok}
use Rattle.std.proofs.lemmas.Bool.{cond-false, cond-true}
use Rattle.keybytes.specs.declared.fault.Fault.{Fault}
use Rattle.build_events.specs.CoreState.{CoreState}
use Rattle.live_lemmas.specs.Builds.{UnnamedValue}
use Rattle.kept_table.specs.KeptTables.{DecidedValue, KeptValue, table_in}

abbrev pub kept_with : Option UnnamedValue → Option DecidedValue → Option (List ℕ) → KeptValue
kept_with table decided waited = record { core = table_in table; decided = decided; waited = waited }

-- what holds of the table, of what was decided and of what waited holds of what is kept
pub on_kept :
    (P : KeptValue → Type 0) (kept : KeptValue) (place : Option UnnamedValue) (decided : Option DecidedValue) (waited : Option (List ℕ))
    (table : UnnamedValue) → kept_with place decided waited ≡ kept → place ≡ Some table
    → P (record { core = table.core; decided = decided; waited = waited }) → P kept
on_kept P kept place decided waited table view is holds =
    subst P view (subst (λ (o : Option UnnamedValue). P (kept_with o decided waited)) (sym is) holds)

-- what holds of the table holds of what is kept
pub on_table :
    (P : CoreState → Type 0) (kept : KeptValue) (place : Option UnnamedValue) (decided : Option DecidedValue) (waited : Option (List ℕ))
    (table : UnnamedValue) → kept_with place decided waited ≡ kept → place ≡ Some table → P table.core → P kept.core
on_table P kept place decided waited table view is holds =
    subst (λ (k : KeptValue). P k.core) view (subst (λ (o : Option UnnamedValue). P (table_in o)) (sym is) holds)

-- a table that is as it was leaves what is kept as it was
pub same_table :
    (kept : KeptValue) (place : Option UnnamedValue) (decided : Option DecidedValue) (waited : Option (List ℕ)) (table after : UnnamedValue)
    → kept_with place decided waited ≡ kept → place ≡ Some table → after.core ≡ table.core → kept_with (Some after) decided waited ≡ kept
same_table kept place decided waited table after view is same =
    ap (λ (core : CoreState). record { core = core; decided = decided; waited = waited }) (same ∙ sym (ap table_in is)) ∙ view

-- What waited is forgotten where a call is done.

pub forgotten :
    {A : Type 0} (told : Result A Fault) (over : Bool) (waited now : Option (List ℕ)) → over ≡ is_ok told → now ≡ (if over then None else waited)
    → OnOk told (now ≡ None)
forgotten (Ok x) over waited now is told = told ∙ cond-true over None waited is
forgotten (Err fault) over waited now is told = tt

pub not_forgotten :
    {A : Type 0} (told : Result A Fault) (over : Bool) (waited now : Option (List ℕ)) → over ≡ is_ok told → now ≡ (if over then None else waited)
    → OnErr told (now ≡ waited)
not_forgotten (Ok x) over waited now is told = tt
not_forgotten (Err fault) over waited now is told = told ∙ cond-false over None waited is

-- so a call that isn't done leaves all as it was
pub unchanged_kept :
    {A : Type 0} (told : Result A Fault) (kept : KeptValue) (place : Option UnnamedValue) (decided : Option DecidedValue) (waited now : Option (List ℕ))
    (table after : UnnamedValue) → kept_with place decided waited ≡ kept → place ≡ Some table → OnErr told (now ≡ waited)
    → OnErr told (after.core ≡ table.core) → OnErr told (kept_with (Some after) decided now ≡ kept)
unchanged_kept (Ok x) kept place decided waited now table after view is stays same = tt
unchanged_kept (Err fault) kept place decided waited now table after view is stays same =
    ap (λ (w : Option (List ℕ)). kept_with (Some after) decided w) stays ∙ same_table kept place decided waited table after view is same
