-- Records that are answered one behind the other, until the conversation is over.
use Rattle.std.proofs.Common.{◌≡◌, ℕ, suc, ◌+◌, List, [], ◌∷◌, ◌++◌, length, length-append, add-zero, Option, Some}
use Rattle.std.proofs.Common.{None, IfSome, Result, Ok, Err, IfOk, inl, inr, arith, refl, ap, sym, subst, ◌∙◌}
use Rattle.std.proofs.lemmas.List.{append_assoc}
use Rattle.std.proofs.lemmas.List.Elements.{All-nil, All-cons, All-append}
use Rattle.std.specs.List.{All, AllZip}
use Rattle.heap_table.specs.HeapState.{HeapState}
use Rattle.script.specs.InputLines.{IsTold}
use Rattle.script.specs.declared.input_record.InputRecord.{InputRecord}
use Rattle.script.specs.declared.input_record.InputRecord.TheVariants.{Good, Word, Bad}
use Rattle.script.specs.declared.line.Line.TheVariants.{PassedOver, Table as TableLine, Command as CommandLine}
use Rattle.script.specs.declared.numbered_command.NumberedCommand.{NumberedCommand}
use Rattle.script.specs.declared.table.Table.{Table}
use Rattle.replay.specs.Sessions.{RunsAll, RunsOn, ScriptState, empty_heap_of}
use Rattle.replay.specs.declared.answer.Answer.{Answer}
use Rattle.replay.specs.declared.status.Status.{Status}
use Rattle.replay.specs.declared.status.Status.TheVariants.{Done}
use Rattle.shell.specs.Conversations.{AnswersTable, AreAnswered, ComesBehind, EndsFrom, Finishes, GoesOn, IsQuit, Leaves, MakesNone, MakesTable, EndsBefore, EndsOn, commands_told}
use Rattle.shell.specs.declared.before_table.BeforeTable.{BeforeTable}
use Rattle.shell.specs.declared.before_table.BeforeTable.TheVariants.{Made, NoTable, Quits}
use Rattle.shell.specs.declared.failed.Failed.{Failed}
use Rattle.shell.specs.Inputs.{AreFirstOf, Gives, GivesNext, HasEnded, HasGiven, InputValue, records_by_line}
use Rattle.shell.specs.declared.numbered_record.NumberedRecord.{NumberedRecord}
use Rattle.shell.proofs.Given.{gives_both}

-- the record doesn't end the conversation
abbrev IsNoQuit : InputRecord → Type 0
IsNoQuit one = IsQuit one → ⊥

-- commands that are run one list behind the other
pub runs_both : (a b c : ScriptState) (xs ys : List NumberedCommand) → RunsAll a xs b → RunsAll b ys c → RunsAll a (xs ++ ys) c
runs_both a b c [] ys first second = rw (← first) second
runs_both a b c (x ∷ xs) ys first second = (first.0, first.1, runs_both first.0 b c xs ys first.2 second)

-- one record further
one_on : (number : ℕ) (xs : List InputRecord) → number + 1 + length xs ≡ number + suc (length xs)
one_on number xs = omega arith

-- the commands behind one record more
told_behind : (number : ℕ) (xs ys : List InputRecord) (here : List NumberedCommand)
    → here ≡ commands_told (number + 1) xs ++ commands_told (number + 1 + length xs) ys
    → here ≡ commands_told (number + 1) xs ++ commands_told (number + suc (length xs)) ys
told_behind number xs ys here is = is ∙ ap (λ (n : ℕ). commands_told (number + 1) xs ++ commands_told n ys) (one_on number xs)

-- the commands of records that come one list behind the other
pub told_both : (number : ℕ) (xs ys : List InputRecord)
    → commands_told number (xs ++ ys) ≡ commands_told number xs ++ commands_told (number + length xs) ys
told_both number [] ys = rw add-zero refl
told_both number (Good PassedOver ∷ xs) ys = told_behind number xs ys _ (told_both (number + 1) xs ys)
told_both number (Good (TableLine table) ∷ xs) ys = told_behind number xs ys _ (told_both (number + 1) xs ys)
told_both number (Good (CommandLine command) ∷ xs) ys =
    ap (λ (more : List NumberedCommand). record { number = number; command = command } ∷ more)
    (told_behind number xs ys _ (told_both (number + 1) xs ys))
told_both number (Word text ∷ xs) ys = told_behind number xs ys _ (told_both (number + 1) xs ys)
told_both number (Bad explanation ∷ xs) ys = told_behind number xs ys _ (told_both (number + 1) xs ys)

-- the first part of what two lists share place by place
zip_front : {A B : Type 0} (R : A → B → Type 0) (xs : List A) (ys more : List B) → AllZip R xs (ys ++ more)
    → (front : List A) × (rest : List A) × (xs ≡ front ++ rest) × AllZip R front ys
zip_front R xs [] more all = ([], xs, refl, tt)
zip_front R [] (y ∷ ys) more all = absurd all
zip_front {A} {B} R (x ∷ xs) (y ∷ ys) more all =
    let rest = zip_front R xs ys more all.1 in
    (x ∷ rest.0, rest.1, ap (λ (others : List A). x ∷ others) rest.2, (all.0, rest.3))

-- what an input gave are first records of its text
first_given : (text : List ℕ) (told : List InputRecord) (input : InputValue) → HasGiven text told input → AreFirstOf text told
first_given text told input given =
    let front = zip_front IsTold given.read told input.waiting given.each in
    let behind = records_by_line given.left in (
      front.0,
      front.1 ++ behind,
      given.split ∙ ap (λ (read : List (List (List ℕ))). read ++ behind) front.2 ∙ append_assoc front.0 front.1 behind,
      front.3,
    )

-- the input ends behind records that go on
pub finishes_end : (old new : InputValue) (told : List InputRecord) → Gives old told new → GoesOn told → HasEnded new → Finishes old told
finishes_end old new told gives goes ended = λ text before given on.
    inl (ended text (before ++ told) (gives.behind text before given), All-append IsNoQuit before told on goes)

-- a quit comes behind records that go on
pub finishes_quit : (old new : InputValue) (told : List InputRecord) (quit : InputRecord) → Gives old (told ++ quit ∷ []) new → GoesOn told → IsQuit quit
    → Finishes old (told ++ quit ∷ [])
finishes_quit old new told quit gives goes is = λ text before given on.
    inr (
      before ++ told,
      quit,
      sym (append_assoc before told (quit ∷ [])),
      All-append IsNoQuit before told on goes,
      is,
      first_given text (before ++ (told ++ quit ∷ [])) new (gives.behind text before given),
    )

-- the conversation goes on from a later moment
pub finishes_behind : (old mid : InputValue) (told more : List InputRecord) → Gives old told mid → GoesOn told → Finishes mid more
    → Finishes old (told ++ more)
finishes_behind old mid told more gives goes finishes = λ text before given on.
    subst (λ (all : List InputRecord). AreAnswered text all) (append_assoc before told more)
    (finishes text (before ++ told) (gives.behind text before given) (All-append IsNoQuit before told on goes))

-- nothing was given of a text
pub none_given : (text : List ℕ) (input : InputValue) → input.bytes ≡ Some text → input.waiting ≡ [] → HasGiven text [] input
none_given text input known none = record { read = []; left = text; known = known; split = refl; each = rw none tt }

-- the conversation was over before there was a table
pub ends_before : (input : InputValue) → EndsBefore input → EndsFrom input Done
ends_before input ends = (ends.0, ends.1, inl (ends.2, refl))

-- a table is made, and the records behind it are answered on it
pub ends_on : (old new : InputValue) (slot_limit : ℕ) (heap : HeapState) (status : Status) → old.given ≡ 0 → MakesTable old new slot_limit heap
    → EndsOn new heap status → EndsFrom old status
ends_on old new slot_limit heap status zero made ends =
    let table = Good (TableLine made.table) in
    let goes : GoesOn (made.before ++ table ∷ []) =
    All-append IsNoQuit made.before (table ∷ []) made.goes (All-cons IsNoQuit table [] (λ is. is) (All-nil IsNoQuit)) in
    let number : new.given + 1 ≡ length made.before + 2 =
    (let counted = made.gives.counted in let long = length-append made.before (table ∷ []) in omega arith) in
    let ran : RunsOn (empty_heap_of made.table) (commands_told (length made.before + 2) ends.0) status =
    subst (λ (n : ℕ). RunsOn (empty_heap_of made.table) (commands_told n ends.0) status) number
    (subst (λ (h : HeapState). RunsOn h (commands_told (new.given + 1) ends.0) status) made.empty ends.2) in (
      (made.before ++ table ∷ []) ++ ends.0,
      finishes_behind old new (made.before ++ table ∷ []) ends.0 made.gives goes ends.1,
      inr (made.before, made.table, ends.0, append_assoc made.before (table ∷ []) ends.0, made.none, made.accepted, ran),
    )

pub ends_all : (old new : InputValue) (slot_limit : ℕ) (heap : HeapState) (result : Result Status Failed) → old.given ≡ 0
    → MakesTable old new slot_limit heap → IfOk result (EndsOn new heap) → IfOk result (EndsFrom old)
ends_all old new slot_limit heap (Ok status) zero made ends = ends_on old new slot_limit heap status zero made ends
ends_all old new slot_limit heap (Err failed) zero made ends = tt

-- of a text that is known the records are its own
leaves_known : (known : Option (List ℕ)) (input : InputValue) (status : Status) → input.bytes ≡ known → input.waiting ≡ [] → EndsFrom input status
    → IfSome known (λ text. Leaves text status)
leaves_known None input status same none ends = tt
leaves_known (Some text) input status same none ends =
    (ends.0, ends.1 text [] (none_given text input same none) (All-nil IsNoQuit), ends.2)

pub leaves : (known : Option (List ℕ)) (input : InputValue) (result : Result Status Failed) → input.bytes ≡ known → input.waiting ≡ []
    → IfOk result (EndsFrom input) → IfOk result (λ status. IfSome known (λ text. Leaves text status))
leaves known input (Ok status) same none ends = leaves_known known input status same none ends
leaves known input (Err failed) same none ends = tt

-- one record more was given
pub gives_more : (start now later : InputValue) (told : List InputRecord) (next : NumberedRecord) → Gives start told now → GivesNext now later next
    → Gives start (told ++ next.record ∷ []) later
gives_more start now later told next gives more = gives_both start now later told (next.record ∷ []) gives more.1

-- and it goes on
pub goes_more : (told : List InputRecord) (one : InputRecord) → GoesOn told → (IsQuit one → ⊥) → GoesOn (told ++ one ∷ [])
goes_more told one goes on = All-append IsNoQuit told (one ∷ []) goes (All-cons IsNoQuit one [] on (All-nil IsNoQuit))

-- it made no table
pub none_more : (told : List InputRecord) (one : InputRecord) → All MakesNone told → MakesNone one → All MakesNone (told ++ one ∷ [])
none_more told one none also = All-append MakesNone told (one ∷ []) none (All-cons MakesNone one [] also (All-nil MakesNone))

-- what a table is answered says what comes behind it
pub table_behind : (table : Table) (given : Answer) (behind : BeforeTable) → AnswersTable table given behind
    → ComesBehind (Good (TableLine table)) behind
table_behind table given NoTable told = ((told.0, told.2), (λ is. is))
table_behind table given (Made slot_limit parts) told = (table, refl, told.1, told.2, told.3)
table_behind table given Quits told = absurd told

-- a record that ends the conversation is no table
pub quit_makes_none : (one : InputRecord) → IsQuit one → MakesNone one
quit_makes_none (Good line) is = absurd is
quit_makes_none (Word text) is = tt
quit_makes_none (Bad explanation) is = absurd is

-- and was answered on the table
pub runs_more : (start now later : InputValue) (told : List InputRecord) (next : NumberedRecord) (a b c : ScriptState) → Gives start told now
    → GivesNext now later next → RunsAll a (commands_told (start.given + 1) told) b → RunsAll b (commands_told next.number (next.record ∷ [])) c
    → RunsAll a (commands_told (start.given + 1) (told ++ next.record ∷ [])) c
runs_more start now later told next a b c gives more runs one =
    let number : next.number ≡ start.given + 1 + length told = (let counted = gives.counted in let here = more.0 in omega arith) in
    rw (told_both (start.given + 1) told (next.record ∷ []))
    (runs_both a b c _ _ runs (subst (λ (n : ℕ). RunsAll b (commands_told n (next.record ∷ [])) c) number one))
