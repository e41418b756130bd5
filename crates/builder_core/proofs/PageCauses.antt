-- No event has want of a page for a cause, unless the build was spoiled for it: it is answered where a spool is full.
use Rattle.std.proofs.Common.{◌≡◌, ℕ, ◌+◌, Bool, true, false, List, [], ◌∷◌, Option, Some, None, Result, Ok, Err, refl, sym, ◌∙◌, subst, inl, inr}
use Rattle.std.specs.Prelude.{if◌then◌else◌, MatchResult, IfErr}
use Rattle.std.specs.Option.{option_map}
use Rattle.spool_ledger.specs.Accounts.{Stake}
use Rattle.keybytes.specs.Faults.{first_cause}
use Rattle.keybytes.specs.declared.cell.Cell.{Cell}
use Rattle.keybytes.specs.declared.fault.Fault.{Fault}
use Rattle.keybytes.specs.declared.fault.Fault.TheVariants.{BuildRunning, BadCount, BadColumn, BadRanges, RangeDone, RingFull, NotScanned, NotSealed, NotLoaded, Behind, Busy, SpoolNotEmpty, NoPage, Fenced, TooManyTxns, TxnEnding, NoSuchTxn, RowShape, RowHeld, PageFull}
use Rattle.keybytes.specs.declared.pair.Pair.{Pair}
use Rattle.keybytes.specs.declared.rid.Rid.{Rid}
use Rattle.keybytes.specs.Keys.{KeySpecValue, key_there}
use Rattle.heap_log.specs.declared.record.LogRec.{LogRec}
use Rattle.heap_table.specs.HeapState.{HeapState, txn_refusal, new_row_refusal, insert_refusal, update_refusal, place_refusal, held_refusal, row_missing}
use Rattle.key_guards.specs.KeyRefusals.{key_refusal, next_key_refusal, duplicate_refusal, guarded_refusal}
use Rattle.build_events.specs.CoreState.{CoreState, BuildState}
use Rattle.ready_indexes.specs.Indexes.{ReadyValue}
use Rattle.page_workers.specs.declared.turn.Turn.TheVariants.{Digest as TurnDigest, Seal as TurnSeal}
use Rattle.live_lemmas.specs.FullSpools.{IfSpooling, NoPageOnlyIfFull, WantedPage}
use Rattle.ready_indexes.specs.KeyCauses.{keys_refusal}
use Rattle.scan_range.specs.Dealings.{dealing_refusal}
use Rattle.build_events.specs.BuildSteps.{cause_if, build_cause}
use Rattle.build_events.specs.Steps.{Answers, Does, IsRefused, refusal}
use Rattle.scan_range.specs.declared.dealing.Dealing.{Dealing}
use Rattle.scan_range.specs.declared.dealing.Dealing.TheVariants.{Ends, Even}
use Rattle.build_events.specs.declared.event.Event.{Event}
use Rattle.build_events.specs.declared.event.Event.TheVariants.{Begin, Insert, Update, Delete, Undo, Commit, Start, Scan, Digest, Seal, Load, Feed, Apply, Fence, Switch, Abandon}
use Rattle.build_events.specs.declared.reply.Reply.{Reply}
use Rattle.build_events.specs.declared.reply.Reply.TheVariants.{Refused}

-- a cause, if there is one, that isn't want of a page
abbrev IsOther : Option Fault → Type 0
IsOther cause = cause ≡ Some NoPage → ⊥

none : IsOther None
none is = cc

if_so : (test : Bool) (a b : Option Fault) → IsOther a → IsOther b → IsOther (if test then a else b)
if_so true a b p q = p
if_so false a b p q = q

-- a cause that stands where the test holds, and another one where it doesn't
some_if : (test : Bool) (fault : Fault) (b : Option Fault) → IsOther (Some fault) → IsOther b → IsOther (if test then Some fault else b)
some_if test fault b other p = if_so test (Some fault) b other p

-- and one that stands where it doesn't hold
some_else : (test : Bool) (fault : Fault) → IsOther (Some fault) → IsOther (if test then None else Some fault)
some_else test fault other = if_so test None (Some fault) none other

first : (a b : Option Fault) → IsOther a → IsOther b → IsOther (first_cause a b)
first None b p q = q
first (Some fault) b p q = p

of_build : (o : Option BuildState) (cause : BuildState → Option Fault) → ((b : BuildState) → IsOther (cause b)) → IsOther (build_cause o cause)
of_build None cause other = λ is. cc
of_build (Some b) cause other = other b

of_number : (o : Option ℕ) (fault : ℕ → Fault) → ((n : ℕ) → IsOther (Some (fault n))) → IsOther (option_map fault o)
of_number None fault other = none
of_number (Some n) fault other = other n

txn_other : (s : HeapState) (txn : ℕ) → IsOther (txn_refusal s txn)
txn_other s txn = if_so _ _ (Some NoSuchTxn) (some_if _ TxnEnding None (λ is. cc) none) (λ is. cc)

new_row_other : (s : HeapState) (txn : ℕ) (cells : List Cell) → IsOther (new_row_refusal s txn cells)
new_row_other s txn cells = first _ _ (txn_other s txn) (some_else _ RowShape (λ is. cc))

place_other : (o : Option Rid) → IsOther (place_refusal o)
place_other None = λ is. cc
place_other (Some rid) = none

held_other : (txn : ℕ) (o : Option ℕ) → IsOther (held_refusal txn o)
held_other txn None = none
held_other txn (Some other) = some_else _ (RowHeld other) (λ is. cc)

row_other : (o : Option (List Cell)) → IsOther (row_missing o)
row_other None = λ is. cc
row_other (Some cells) = none

insert_other : (s : HeapState) (txn : ℕ) (cells : List Cell) → IsOther (insert_refusal s txn cells)
insert_other s txn cells = first _ _ (new_row_other s txn cells) (place_other _)

update_other : (s : HeapState) (txn : ℕ) (rid : Rid) (cells : List Cell) → IsOther (update_refusal s txn rid cells)
update_other s txn rid cells =
    first _ _ (new_row_other s txn cells) (first _ _ (held_other txn _) (first _ _ (row_other _) (some_else _ PageFull (λ is. cc))))

duplicate_other : (index : ℕ) (o : Option Rid) → IsOther (duplicate_refusal index o)
duplicate_other index None = none
duplicate_other index (Some rid) = λ is. cc

guarded_other : (index : ℕ) (o : Option ℕ) → IsOther (guarded_refusal index o)
guarded_other index None = none
guarded_other index (Some txn) = λ is. cc

next_key_other : (index : ℕ) (spec : KeySpecValue) (log : List LogRec) (txn : ℕ) (old new : Option (List ℕ)) → IsOther (next_key_refusal index spec log txn old new)
next_key_other index spec log txn old None = none
next_key_other index spec log txn old (Some key) = if_so _ _ _ none (first _ _ (duplicate_other index _) (guarded_other index _))

key_other : (index : ℕ) (spec : KeySpecValue) (log : List LogRec) (txn : ℕ) (old new : Option (List Cell)) → IsOther (key_refusal index spec log txn old new)
key_other index spec log txn old new = next_key_other index spec log txn (key_there spec old) (key_there spec new)

keys_other : (number : ℕ) (ready : List ReadyValue) (log : List LogRec) (txn : ℕ) (old new : Option (List Cell)) → IsOther (keys_refusal number ready log txn old new)
keys_other number [] log txn old new = none
keys_other number (index ∷ ready) log txn old new =
    first _ _ (if_so _ _ _ (key_other number index.spec log txn old new) none) (keys_other (number + 1) ready log txn old new)

dealing_other : (pages : ℕ) (dealing : Dealing) → IsOther (dealing_refusal pages dealing)
dealing_other pages (Ends ends) = some_else _ BadRanges (λ is. cc)
dealing_other pages (Even ranges) = some_else _ BadRanges (λ is. cc)

-- a cause that stands where the test holds
if_test : (test : Bool) (fault : Fault) → IsOther (Some fault) → IsOther (cause_if test fault)
if_test test fault other = some_if test fault None other none

behind_other : (n : ℕ) → IsOther (Some (Behind n))
behind_other n is = cc

busy_other : (n : ℕ) → IsOther (Some (Busy n))
busy_other n is = cc

module _ (s : CoreState) (fine : s.work.spoiled ≡ None) where
  unspoiled : IsOther s.work.spoiled
  unspoiled is = let both : None ≡ Some NoPage = sym fine ∙ is in cc

  pub other_cause : (event : Event) → IsOther (refusal s event)
  other_cause Begin = some_if _ Fenced _ (λ is. cc) (some_if _ TooManyTxns None (λ is. cc) none)
  other_cause (Insert txn row) = first _ _ (insert_other s.live.heap txn row) (keys_other 0 s.live.ready s.live.heap.log txn None (Some row))
  other_cause (Update txn rid row) = first _ _ (update_other s.live.heap txn rid row) (keys_other 0 s.live.ready s.live.heap.log txn _ (Some row))
  other_cause (Delete txn rid) = first _ _ (txn_other s.live.heap txn) (first _ _ (held_other txn _) (row_other _))
  other_cause (Undo txn) = some_else _ NoSuchTxn (λ is. cc)
  other_cause (Commit txn) = txn_other s.live.heap txn
  other_cause (Start plan) =
      first _ _ (if_test _ BuildRunning (λ is. cc)) (first _ _ (if_test _ BadCount (λ is. cc)) (first _ _ (if_test _ BadColumn (λ is. cc))
      (first _ _ (dealing_other _ plan.dealing) (if_test _ SpoolNotEmpty (λ is. cc)))))
  other_cause (Scan range worker) =
      of_build s.live.build _ (λ b.
      first _ _ (if_test _ BadCount (λ is. cc)) (first _ _ unspoiled (first _ _ (some_if _ RangeDone None (λ is. cc) none) (if_test _ RingFull (λ is. cc)))))
  other_cause (Digest worker) = of_build s.live.build _ (λ b. first _ _ (if_test _ BadCount (λ is. cc)) unspoiled)
  other_cause (Seal worker) = of_build s.live.build _ (λ b. first _ _ (if_test _ BadCount (λ is. cc)) unspoiled)
  other_cause (Load index) =
      of_build s.live.build _ (λ b.
      first _ _ (if_test _ BadCount (λ is. cc))
      (first _ _ unspoiled (first _ _ (of_number _ NotScanned (λ n is. cc)) (of_number _ NotSealed (λ n is. cc)))))
  other_cause (Feed index most) = of_build s.live.build _ (λ b. if_test _ BadCount (λ is. cc))
  other_cause (Apply index most) =
      of_build s.live.build _ (λ b. first _ _ (if_test _ BadCount (λ is. cc)) (first _ _ unspoiled (if_test _ (NotLoaded index) (λ is. cc))))
  other_cause Switch =
      of_build s.live.build _ (λ b.
      first _ _ unspoiled (first _ _ (of_number _ NotScanned (λ n is. cc)) (first _ _ (of_number _ NotLoaded (λ n is. cc))
      (first _ _ (if_test _ (Behind _) (behind_other _)) (if_test _ (Busy _) (busy_other _))))))
  other_cause Fence = of_build s.live.build _ (λ b. none)
  other_cause Abandon = of_build s.live.build _ (λ b. none)

-- what is done is not answered by a refusal
done_not_refused : (s : CoreState) (event : Event) (fault : Fault) (new : CoreState) → Does s event (Refused fault) new → ⊥
done_not_refused s Begin fault new does = let is = does.1 in cc
done_not_refused s (Insert txn row) fault new does = let is = does.1 in cc
done_not_refused s (Update txn rid row) fault new does = let is = does.1 in cc
done_not_refused s (Delete txn rid) fault new does = let is = does.1 in cc
done_not_refused s (Undo txn) fault new does = let is = does.1 in cc
done_not_refused s (Commit txn) fault new does = let is = does.1 in cc
done_not_refused s (Start plan) fault new does = let is = does.1 in cc
done_not_refused s (Scan range worker) fault new does = let is = does.1 in cc
done_not_refused s (Digest worker) fault new does = let is = does.1 in cc
done_not_refused s (Seal worker) fault new does = let is = does.1 in cc
done_not_refused s (Load index) fault new does = let is = does.1 in cc
done_not_refused s (Feed index most) fault new does = let is = does.1 in cc
done_not_refused s (Apply index most) fault new does = let is = does.1 in cc
done_not_refused s Switch fault new does = let is = does.1 in cc
done_not_refused s Fence fault new does = let is = does.0 in cc
done_not_refused s Abandon fault new does = let is = does.0 in cc

module _ {S : Type 0} (is_full : S → Pair → Type 0) (runs : S → List (List Pair)) (open_run : S → List Pair) (stake : S → Option Stake) where
  -- a want of a page is one of a digest or a seal whose spool was full
  wanted :
      (s : CoreState) (event : Event) (new : CoreState) → s.work.spoiled ≡ None → IsRefused s event NoPage new
      → IfSpooling event (λ turn worker. NoPageOnlyIfFull is_full runs open_run stake turn s worker NoPage) → WantedPage is_full runs open_run stake s event
  wanted s event new fine (inl cause) full = absurd (other_cause s fine event cause.0)
  wanted s Begin new fine (inr wants) full = absurd (let is = wants.1 in cc)
  wanted s (Insert txn row) new fine (inr wants) full = absurd (let is = wants.1 in cc)
  wanted s (Update txn rid row) new fine (inr wants) full = absurd (let is = wants.1 in cc)
  wanted s (Delete txn rid) new fine (inr wants) full = absurd (let is = wants.1 in cc)
  wanted s (Undo txn) new fine (inr wants) full = absurd (let is = wants.1 in cc)
  wanted s (Commit txn) new fine (inr wants) full = absurd (let is = wants.1 in cc)
  wanted s (Start plan) new fine (inr wants) full = absurd (let is = wants.1 in cc)
  wanted s (Scan range worker) new fine (inr wants) full = absurd (let is = wants.1 in cc)
  wanted s (Digest worker) new fine (inr wants) full = record { turn = TurnDigest; worker = worker; spools = refl; full = full refl fine }
  wanted s (Seal worker) new fine (inr wants) full = record { turn = TurnSeal; worker = worker; spools = refl; full = full refl fine }
  wanted s (Load index) new fine (inr wants) full = absurd (let is = wants.1 in cc)
  wanted s (Feed index most) new fine (inr wants) full = absurd wants.1
  wanted s (Apply index most) new fine (inr wants) full = absurd (let is = wants.1 in cc)
  wanted s Switch new fine (inr wants) full = absurd (let is = wants.1 in cc)
  wanted s Fence new fine (inr wants) full = absurd wants.1
  wanted s Abandon new fine (inr wants) full = absurd wants.1

  pub wanted_page :
      (s : CoreState) (event : Event) (answer : Result Reply Fault) (reply : Reply) (new : CoreState) → Answers s event answer new
      → MatchResult answer (λ r. reply ≡ r) (λ fault. reply ≡ Refused fault)
      → IfSpooling event (λ turn worker. IfErr answer (NoPageOnlyIfFull is_full runs open_run stake turn s worker))
      → reply ≡ Refused NoPage → s.work.spoiled ≡ None → WantedPage is_full runs open_run stake s event
  wanted_page s event (Ok told) reply new done same full is fine =
      absurd (done_not_refused s event NoPage new (subst (λ (r : Reply). Does s event r new) (sym same ∙ is) done.1))
  wanted_page s event (Err fault) reply new refused same full is fine =
      let of_page : fault ≡ NoPage = let both : Refused fault ≡ Refused NoPage = sym same ∙ is in cc in
      wanted s event new fine (subst (λ (f : Fault). IsRefused s event f new) of_page refused)
      (subst (λ (f : Fault). IfSpooling event (λ turn worker. NoPageOnlyIfFull is_full runs open_run stake turn s worker f)) of_page full)
