use Rattle.std.proofs.Common.{ℕ, List, [], ◌≡◌, subst, sym}
use Rattle.heap_log.specs.declared.record.LogRec.{LogRec}
use Rattle.script.specs.declared.race.session_command.SessionCommand.{SessionCommand}
use Rattle.replay.specs.declared.labels.Labels.{Labels}
use Rattle.race.specs.Commands.{Left, LosesNothing, RollsBackAll, SessionState, TakesAll, state_of}
use Rattle.race.proofs.session.run.run_session.Goals as goal

-- nothing is open yet, and no receipt kept
from_nothing :
    (commands : List SessionCommand) (labels : Labels) (log : List LogRec) (active : List ℕ) (receipts : List (List LogRec))
    (accepted : ℕ) (taken : SessionState)
    → active ≡ [] → receipts ≡ [] → TakesAll commands 0 (state_of labels active log receipts) accepted taken
    → TakesAll commands 0 (state_of labels [] log []) accepted taken
from_nothing commands labels log active receipts accepted taken none_open none takes =
    subst (λ (kept : List (List LogRec)). TakesAll commands 0 (state_of labels [] log kept) accepted taken) none
    (subst (λ (open_txns : List ℕ). TakesAll commands 0 (state_of labels open_txns log receipts) accepted taken) none_open takes)

pub returns-clause-ended : goal.returns-clause-ended
returns-clause-ended g c =
    let told = c.obey_all-accepted in
    let taken : SessionState = state_of told.new.running.labels told.new.running.open_txns.items told.new.session told.new.running.receipts.items in
    let ended : List LogRec → Left = λ log. record { log = log; receipts = c.roll_back_all.new.self.receipts.items } in
    record {
      first = c.new-running.result.labels;
      unnamed = c.new-running.ensures.labels;
      taken = taken;
      takes = from_nothing c.args.commands.items c.new-running.result.labels c.args.session c.new-running.result.open_txns.items
          c.new-running.result.receipts.items told.result taken c.new-running.ensures.active c.new-running.ensures.receipts told.ensures.takes;
      undoes = subst (λ (log : List LogRec). LosesNothing taken.left (ended log)) (sym c.into_known.ensures) c.roll_back_all.ensures.kept;
      rolls_back = subst (λ (log : List LogRec). RollsBackAll taken.active taken.left (ended log)) (sym c.into_known.ensures)
          c.roll_back_all.ensures.rolls_back;
    }
