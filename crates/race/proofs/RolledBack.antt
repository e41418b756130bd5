-- Sessions that undo what transactions wrote.
use Rattle.std.proofs.Common.{◌≡◌, ℕ, zero, suc, List, [], ◌∷◌, ◌++◌, Option, Some, None, Result, Ok, Err}
use Rattle.std.proofs.Common.{refl, sym, ap, subst, ◌∙◌, inl, inr, append_assoc}
use Rattle.std.proofs.lemmas.List.{append-nil}
use Rattle.std.specs.Prelude.{IfSome, OnOk, OnErr}
use mathlib.Core.List.{IsPrefix}
use Rattle.keybytes.specs.declared.fault.Fault.{Fault}
use Rattle.heap_log.specs.Standing.{newest_standing, standing_count}
use Rattle.heap_log.specs.declared.record.LogRec.{LogRec}
use Rattle.heap_log.specs.declared.record.LogRec.TheVariants.{Undo}
use Rattle.heap_table.proofs.Holding.{none_standing}
use Rattle.crew.specs.Receipts.{Undid}
use Rattle.race.specs.Commands.{Left, LosesNothing, OnlySees, RollsBack, StepsBack, StepsBackOften}

prefix_trans : {X : Type 0} (a b c : List X) → IsPrefix a b → IsPrefix b c → IsPrefix a c
prefix_trans {X} a b c first then =
    (first.0 ++ then.0, sym (append_assoc a first.0 then.0) ∙ ap (λ (l : List X). l ++ then.0) first.1 ∙ then.1)

-- what was lost by neither is lost by none
pub loses_both : (old mid new : Left) → LosesNothing old mid → LosesNothing mid new → LosesNothing old new
loses_both old mid new first then =
    (prefix_trans old.log mid.log new.log first.0 then.0, prefix_trans old.receipts mid.receipts new.receipts first.1 then.1)

module _ (txn : ℕ) where
  step_loses : (old new : Left) → StepsBack txn old new → LosesNothing old new
  step_loses old new (inl undone) =
      let undid = undone.2 in
      let wrote = undid.3 in (
        prefix_trans old.log undid.0 new.log wrote.0 (Undo txn undid.1 ∷ [], sym wrote.1 ∙ sym wrote.2),
        (undone.0 ∷ [], sym undone.1),
      )
  step_loses old new (inr saw) = (saw.0.1, ([], append-nil old.receipts ∙ sym saw.0.0))

  -- a step loses nothing, whether it was refused or not
  pub told_loses : (old new : Left) (told : Result ℕ Fault) → OnOk told (StepsBack txn old new) → OnErr told (OnlySees old new) → LosesNothing old new
  told_loses old new (Ok left) ok refused = step_loses old new ok
  told_loses old new (Err fault) ok refused = (refused.1, ([], append-nil old.receipts ∙ sym refused.0))

  -- one step more, which was refused or not
  pub rolled_more :
      (old mid new : Left) (told : Result ℕ Fault) → RollsBack txn old mid → OnOk told (StepsBack txn mid new) → OnErr told (OnlySees mid new)
      → RollsBack txn old new
  rolled_more old mid new (Ok left) so_far ok refused = (suc so_far.0, (mid, so_far.1, inl ok))
  rolled_more old mid new (Err fault) so_far ok refused = (suc so_far.0, (mid, so_far.1, inr refused))

  -- some steps, and then others
  pub rolled_both : (old mid new : Left) → RollsBack txn old mid → RollsBack txn mid new → RollsBack txn old new
  rolled_both old mid new first then = joined then.0 new then.1
    where
      joined : (n : ℕ) (end : Left) → StepsBackOften n txn mid end → RollsBack txn old end
      joined zero end same = subst (RollsBack txn old) (sym same) first
      joined (suc n) end steps =
          let before : RollsBack txn old steps.0 = joined n steps.0 steps.1 in
          (suc before.0, (steps.0, before.1, steps.2))

  -- how many of its writes stand once an undo step has told how many are left
  pub left_standing :
      (left : ℕ) (old new : List LogRec) (receipt : Option (List LogRec)) → IfSome receipt (λ r. Undid old txn r new)
      → IfSome receipt (λ r. left ≡ standing_count r txn) → (receipt ≡ None → (left ≡ 0) × (newest_standing new txn ≡ None) × IsPrefix old new)
      → left ≡ standing_count new txn
  left_standing left old new (Some receipt) undid count none = count ∙ ap (λ (log : List LogRec). standing_count log txn) (sym undid.3.2)
  left_standing left old new None undid count none =
      let it = none refl in
      it.0 ∙ sym (none_standing new txn it.1)
