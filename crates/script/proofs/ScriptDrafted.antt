-- A draft of a script that is replayed, and the lines that were read.
use Rattle.std.proofs.Common.{◌≡◌, ℕ, ◌+◌, suc, List, [], ◌∷◌, ◌++◌, length, Option, Some}
use Rattle.std.proofs.Common.{None, is_some, true, false, add-zero, arith, inl, inr, refl, sym, ap, ◌∙◌}
use Rattle.std.proofs.lemmas.List.{append-nil}
use Rattle.script.specs.Drafts.{DraftValue, IsDraft, listed}
use Rattle.script.specs.Explanations.{IsLacking}
use Rattle.script.specs.Grammars.{MayStand, names}
use Rattle.script.specs.Scripts.{HasTable, commands_from, script_grammar, tables_from}
use Rattle.script.specs.Stops.{MayNotStand}
use Rattle.script.specs.declared.command.Command.{Command}
use Rattle.script.specs.declared.explanation.Explanation.TheVariants.{NoTable}
use Rattle.script.specs.declared.line.Line.{Line}
use Rattle.script.specs.declared.line.Line.TheVariants.{PassedOver, Table as TableLine, Command as CommandLine}
use Rattle.script.specs.declared.numbered_command.NumberedCommand.{NumberedCommand}
use Rattle.script.specs.declared.race.name.RaceName.TheVariants as race_name
use Rattle.script.specs.declared.table.Table.{Table}
use Rattle.script.proofs.Shaped.{not_table}

-- the number behind one line more
next_number : (number : ℕ) (lines : List Line) → number + 1 + length lines ≡ number + suc (length lines)
next_number number lines = omega arith

tables_from-append : (number : ℕ) (lines more : List Line)
    → tables_from number (lines ++ more) ≡ tables_from number lines ++ tables_from (number + length lines) more
tables_from-append number [] more = rw add-zero refl
tables_from-append number (PassedOver ∷ lines) more =
    tables_from-append (number + 1) lines more ∙ ap (λ n. tables_from (number + 1) lines ++ tables_from n more) (next_number number lines)
tables_from-append number (TableLine table ∷ lines) more =
    ap (λ (rest : List (ℕ × Table)). (number, table) ∷ rest)
    (tables_from-append (number + 1) lines more ∙ ap (λ n. tables_from (number + 1) lines ++ tables_from n more) (next_number number lines))
tables_from-append number (CommandLine command ∷ lines) more =
    tables_from-append (number + 1) lines more ∙ ap (λ n. tables_from (number + 1) lines ++ tables_from n more) (next_number number lines)

commands_from-append : (number : ℕ) (lines more : List Line)
    → commands_from number (lines ++ more) ≡ commands_from number lines ++ commands_from (number + length lines) more
commands_from-append number [] more = rw add-zero refl
commands_from-append number (PassedOver ∷ lines) more =
    commands_from-append (number + 1) lines more ∙ ap (λ n. commands_from (number + 1) lines ++ commands_from n more) (next_number number lines)
commands_from-append number (TableLine table ∷ lines) more =
    commands_from-append (number + 1) lines more ∙ ap (λ n. commands_from (number + 1) lines ++ commands_from n more) (next_number number lines)
commands_from-append number (CommandLine command ∷ lines) more =
    ap (λ (rest : List NumberedCommand). record { number = number; command = command } ∷ rest)
    (commands_from-append (number + 1) lines more ∙ ap (λ n. commands_from (number + 1) lines ++ commands_from n more) (next_number number lines))

-- no line has a name where none gives anything
nothing_given : (number : ℕ) (lines : List Line) → names script_grammar lines ≡ []
    → (tables_from number lines ≡ []) × (commands_from number lines ≡ [])
nothing_given number [] none = (refl, refl)
nothing_given number (PassedOver ∷ lines) none = nothing_given (number + 1) lines none
nothing_given number (TableLine table ∷ lines) none = absurd (let both = none in cc)
nothing_given number (CommandLine command ∷ lines) none = absurd (let both = none in cc)

no_names : (number : ℕ) (lines : List Line) → tables_from number lines ≡ [] → commands_from number lines ≡ [] → names script_grammar lines ≡ []
no_names number [] tables commands = refl
no_names number (PassedOver ∷ lines) tables commands = no_names (number + 1) lines tables commands
no_names number (TableLine table ∷ lines) tables commands = absurd (let both = tables in cc)
no_names number (CommandLine command ∷ lines) tables commands = absurd (let both = commands in cc)

-- a table among the lines
named_table : (number : ℕ) (lines : List Line) → HasTable (names script_grammar lines) → tables_from number lines ≡ [] → ⊥
named_table number [] has none = has
named_table number (PassedOver ∷ lines) has none = named_table (number + 1) lines has none
named_table number (TableLine table ∷ lines) has none = let both = none in cc
named_table number (CommandLine command ∷ lines) (inl is) none = not_table command (sym is)
named_table number (CommandLine command ∷ lines) (inr has) none = named_table (number + 1) lines has none

table_named : (number : ℕ) (lines : List Line) (found : ℕ × Table) → tables_from number lines ≡ found ∷ [] → HasTable (names script_grammar lines)
table_named number [] found is = absurd (let both = is in cc)
table_named number (PassedOver ∷ lines) found is = table_named (number + 1) lines found is
table_named number (TableLine table ∷ lines) found is = inl refl
table_named number (CommandLine command ∷ lines) found is = inr (table_named (number + 1) lines found is)

-- the table of a draft, as a list
none_listed : (table : Option (ℕ × Table)) → is_some table ≡ false → listed table ≡ []
none_listed None none = refl
none_listed (Some table) none = absurd (let both = none in cc)

some_listed : (table : Option (ℕ × Table)) → is_some table ≡ true → (found : ℕ × Table) × (listed table ≡ found ∷ [])
some_listed None some = absurd (let both = some in cc)
some_listed (Some found) some = (found, refl)

listed_none : (table : Option (ℕ × Table)) → listed table ≡ [] → table ≡ None
listed_none None none = refl
listed_none (Some table) none = absurd (let both = none in cc)

-- the draft with one line more
module _ (draft : DraftValue) (lines : List Line) (drafted : IsDraft draft lines) where
  pub passed_over : MayStand script_grammar lines PassedOver × IsDraft draft (lines ++ PassedOver ∷ [])
  passed_over = (
    tt,
    (
      tables_from-append 1 lines (PassedOver ∷ []) ∙ append-nil _ ∙ drafted.0,
      drafted.1 ∙ sym (commands_from-append 1 lines (PassedOver ∷ []) ∙ append-nil _),
    ),
  )

  pub tabled : (number : ℕ) (table : Table) → number ≡ length lines + 1 → draft.table ≡ None → draft.commands ≡ []
      → MayStand script_grammar lines (TableLine table)
      × IsDraft (record { table = Some (number, table); commands = draft.commands }) (lines ++ TableLine table ∷ [])
  tabled number table is no_table no_commands =
      let here : 1 + length lines ≡ number = omega arith in
      let tables = drafted.0 ∙ ap listed no_table in
      let commands = sym drafted.1 ∙ no_commands in (
        λ _. no_names 1 lines tables commands,
        (
          tables_from-append 1 lines (TableLine table ∷ []) ∙ rw (tables, here) refl,
          drafted.1 ∙ sym (commands_from-append 1 lines (TableLine table ∷ []) ∙ append-nil _),
        ),
      )

  pub commanded : (number : ℕ) (command : Command) → number ≡ length lines + 1
      → MayStand script_grammar lines (CommandLine command)
      × IsDraft (record { table = draft.table; commands = draft.commands ++ record { number = number; command = command } ∷ [] })
      (lines ++ CommandLine command ∷ [])
  commanded number command is =
      let here : 1 + length lines ≡ number = omega arith in (
        λ named. absurd (not_table command (sym named)),
        (
          tables_from-append 1 lines (CommandLine command ∷ []) ∙ append-nil _ ∙ drafted.0,
          rw drafted.1 (sym (commands_from-append 1 lines (CommandLine command ∷ []) ∙ rw here refl)),
        ),
      )

  -- a table behind records that count
  pub late : (table : Table) → ((draft.table ≡ None) → (draft.commands ≡ []) → ⊥) → MayNotStand script_grammar lines (TableLine table) race_name.Table
  late table bad = (
    refl,
    λ may.
        let none = nothing_given 1 lines (may refl) in
        bad (listed_none draft.table (sym drafted.0 ∙ none.0)) (drafted.1 ∙ none.1),
  )

  -- whether a table is missing
  pub no_table : is_some draft.table ≡ false → IsLacking script_grammar lines NoTable
  no_table none =
      let missing : HasTable (names script_grammar lines) → ⊥ = λ has. named_table 1 lines has (drafted.0 ∙ none_listed draft.table none) in
      (missing, missing)

  pub a_table : is_some draft.table ≡ true → HasTable (names script_grammar lines)
  a_table some = let found = some_listed draft.table some in table_named 1 lines found.0 (drafted.0 ∙ found.1)
