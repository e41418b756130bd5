-- What a session of a race does for its commands.
use Rattle.std.specs.Prelude.{◌≡◌, ◌⊎◌, ℕ, zero, suc, ◌+◌, ◌==◌, not, filter, List, [], ◌∷◌, ◌++◌, Some, None, if◌then◌else◌}
use mathlib.Core.List.{IsPrefix}
use Rattle.keybytes.specs.declared.rid.Rid.{Rid}
use Rattle.heap_log.specs.Standing.{newest_standing, standing_count}
use Rattle.heap_log.specs.declared.record.LogRec.{LogRec}
use Rattle.heap_log.specs.declared.record.LogRec.TheVariants.{Write, Commit as Committed}
use Rattle.crew.specs.Receipts.{Undid, Wrote}
use Rattle.replay.specs.Labels.{NamesNone, Renames, named}
use Rattle.replay.specs.declared.labels.Labels.{Labels}
use Rattle.script.specs.declared.race.session_command.SessionCommand.{SessionCommand}
use Rattle.script.specs.declared.race.session_command.SessionCommand.TheVariants.{Begin, Insert, Update, Delete, Undo, Commit}

-- what a session knows of the log, and its receipts, each as the beginning of the log that it stands for
pub record Left : Type 0 where
  pub log : List LogRec
  pub receipts : List (List LogRec)

-- which transactions the labels of a session name, those that it began and that haven't ended, and what it leaves if it ends now
pub record SessionState : Type 0 where
  pub labels : Labels
  pub active : List ℕ
  pub left : Left

abbrev pub state_of : Labels → List ℕ → List LogRec → List (List LogRec) → SessionState
state_of labels active log receipts = record { labels = labels; active = active; left = record { log = log; receipts = receipts } }

-- a record was written, and its receipt kept
abbrev pub Records : LogRec → Left → Left → Type 0
Records rec old new = (receipt : List LogRec) × (new.receipts ≡ old.receipts ++ receipt ∷ []) × Wrote old.log rec receipt new.log

-- a write of the transaction was undone, and the receipt for that kept
abbrev pub Undoes : ℕ → Left → Left → Type 0
Undoes txn old new = (receipt : List LogRec) × (new.receipts ≡ old.receipts ++ receipt ∷ []) × Undid old.log txn receipt new.log

-- no receipt was kept, and what the session knows of the log only grew
abbrev pub OnlySees : Left → Left → Type 0
OnlySees old new = (new.receipts ≡ old.receipts) × IsPrefix old.log new.log

-- an undo step of the transaction, of which a write stood or none did
abbrev pub StepsBack : ℕ → Left → Left → Type 0
StepsBack txn old new = Undoes txn old new ⊎ (OnlySees old new × (newest_standing new.log txn ≡ None))

-- the transactions without that one
abbrev pub without : ℕ → List ℕ → List ℕ
without txn active = filter (λ other. not (other == txn)) active

-- those that are open once so many writes of that one are left
abbrev pub still_active : ℕ → ℕ → List ℕ → List ℕ
still_active txn left active = if left == 0 then without txn active else active

-- a transaction began, which the label names from then on
abbrev pub Begins : List ℕ → SessionState → SessionState → Type 0
Begins label old new =
    OnlySees old.left new.left × ((txn : ℕ) × Renames old.labels label (Some txn) new.labels × (new.active ≡ old.active ++ txn ∷ []))

-- the transaction that the label names does something, and labels name what they named
abbrev pub ByNamed : List ℕ → (ℕ → SessionState → SessionState → Type 0) → SessionState → SessionState → Type 0
ByNamed label Does old new = (new.labels ≡ old.labels) × ((txn : ℕ) × (named old.labels label ≡ Some txn) × Does txn old new)

-- a record was written, and each transaction that was open still is
abbrev pub Writes : LogRec → SessionState → SessionState → Type 0
Writes rec old new = Records rec old.left new.left × (new.active ≡ old.active)

-- a transaction wrote its last record
abbrev pub Commits : ℕ → SessionState → SessionState → Type 0
Commits txn old new = Records (Committed txn) old.left new.left × (new.active ≡ without txn old.active)

-- an undo step of a transaction, which ends once none of its writes is left
abbrev pub UndoesOne : ℕ → SessionState → SessionState → Type 0
UndoesOne txn old new = StepsBack txn old.left new.left × (new.active ≡ still_active txn (standing_count new.left.log txn) old.active)

-- the command was accepted
abbrev pub Obeys : SessionCommand → SessionState → SessionState → Type 0
Obeys (Begin label) old new = Begins label old new
Obeys (Insert label cells) old new = ByNamed label (λ txn before after. (rid : Rid) × Writes (Write txn rid (Some cells.items)) before after) old new
Obeys (Update label rid cells) old new = ByNamed label (λ txn. Writes (Write txn rid (Some cells.items))) old new
Obeys (Delete label rid) old new = ByNamed label (λ txn. Writes (Write txn rid None)) old new
Obeys (Undo label) old new = ByNamed label UndoesOne old new
Obeys (Commit label) old new = ByNamed label Commits old new

-- what a refused command leaves of the labels: that of a begin names none
abbrev pub Forgets : SessionCommand → Labels → Labels → Type 0
Forgets (Begin label) old new = Renames old label None new
Forgets (Insert label cells) old new = new ≡ old
Forgets (Update label rid cells) old new = new ≡ old
Forgets (Delete label rid) old new = new ≡ old
Forgets (Undo label) old new = new ≡ old
Forgets (Commit label) old new = new ≡ old

-- the command was refused
abbrev pub Refuses : SessionCommand → SessionState → SessionState → Type 0
Refuses command old new = OnlySees old.left new.left × (new.active ≡ old.active) × Forgets command old.labels new.labels

-- what the session knows of the log only grew, and it lost no receipt
abbrev pub LosesNothing : Left → Left → Type 0
LosesNothing old new = IsPrefix old.log new.log × IsPrefix old.receipts new.receipts

-- so many undo steps of the transaction, each of which may have been refused
abbrev pub StepsBackOften : ℕ → ℕ → Left → Left → Type 0
StepsBackOften zero txn old new = new ≡ old
StepsBackOften (suc n) txn old new = (mid : Left) × StepsBackOften n txn old mid × (StepsBack txn mid new ⊎ OnlySees mid new)

-- nothing was done but undo steps of the transaction
abbrev pub RollsBack : ℕ → Left → Left → Type 0
RollsBack txn old new = (n : ℕ) × StepsBackOften n txn old new

-- the same of each of these, one after the other
abbrev pub RollsBackAll : List ℕ → Left → Left → Type 0
RollsBackAll [] old new = new ≡ old
RollsBackAll (txn ∷ txns) old new = (mid : Left) × RollsBack txn old mid × RollsBackAll txns mid new

-- the command was accepted or refused; with it so many commands were accepted
abbrev pub Takes : SessionCommand → ℕ → SessionState → ℕ → SessionState → Type 0
Takes command before old after new = ((after ≡ before + 1) × Obeys command old new) ⊎ ((after ≡ before) × Refuses command old new)

-- so the commands were taken one after the other
abbrev pub TakesAll : List SessionCommand → ℕ → SessionState → ℕ → SessionState → Type 0
TakesAll [] before old after new = (after ≡ before) × (new ≡ old)
TakesAll (command ∷ commands) before old after new =
    (count : ℕ) × (next : SessionState) × Takes command before old count next × TakesAll commands count next after new

-- a session that knew that log, and whose labels named nothing, took the commands and accepted so many; from then on it lost no receipt, and wrote no
-- record but undos of the transactions that it had left open: so it ended
pub record HasEnded (commands : List SessionCommand) (log : List LogRec) (accepted : ℕ) (ended : Left) : Type 0 where
  pub first : Labels
  pub unnamed : NamesNone first
  pub taken : SessionState
  pub takes : TakesAll commands 0 (state_of first [] log []) accepted taken
  pub undoes : LosesNothing taken.left ended
  pub rolls_back : RollsBackAll taken.active taken.left ended
