-- Spools whose pairs are put in order, and that are then ended.
use Rattle.std.proofs.Common.{◌≡◌, ℕ, ◌-◌, List, [], map, Option, sym, ap, subst, ◌∙◌}
use Rattle.std.specs.Prelude.{Bool, IfOk, IfErr, IsPermutation, Result, Ok, Err}
use Rattle.keybytes.specs.Pairs.{AreOrdered}
use Rattle.keybytes.specs.declared.fault.Fault.{Fault}
use Rattle.keybytes.specs.declared.fault.Fault.TheVariants.{Memory}
use Rattle.keybytes.specs.declared.pair.Pair.{Pair}
use Rattle.spool_ledger.specs.Accounts.{Stake}
use Rattle.page_workers.specs.SpoolValue.{SpoolValue, ended_spool, pairs_in, spool_value, stakes_of}
use Rattle.page_workers.proofs.Places.{mapped}
use Rattle.btree.specs.TreeValue.{TreeValue}
use Rattle.catch_up.specs.Built.{BuiltValue}
use Rattle.index_load.specs.Columns.{column, other_columns}
use Rattle.index_load.specs.IndexLoad.{MakesIndex}
use Rattle.index_load.proofs.Columns.{every_map, all_but_map, same_parts}

-- of a spool that was ended callers see its stake alone
bare : Option Stake → SpoolValue
bare stake = record { runs = []; open_run = []; stake = stake }

-- so spools with the same stakes look the same once they are ended
module _ {S : Type 0} (runs : S → List (List Pair)) (open_run : S → List Pair) (stake : S → Option Stake) where
  ended_bare : (spools : List S) → map ended_spool (map (spool_value runs open_run stake) spools) ≡ map bare (map stake spools)
  unfolding bare
  ended_bare spools = mapped (spool_value runs open_run stake) ended_spool spools ∙ sym (mapped stake bare spools)

  pub ended_same :
      (a b : List S) → map stake a ≡ map stake b
      → map ended_spool (map (spool_value runs open_run stake) a) ≡ map ended_spool (map (spool_value runs open_run stake) b)
  ended_same a b same = ended_bare a ∙ ap (map bare) same ∙ sym (ended_bare b)

-- a list is told by what its elements of an index are, and those of the others
pub put_together :
    {X Y : Type 0} (f : X → Y) (index indexes : ℕ) (old new own : List X) → column index indexes new ≡ own
    → other_columns index indexes new ≡ other_columns index indexes old → (all : List Y) → column index indexes all ≡ map f own
    → other_columns index indexes all ≡ other_columns index indexes (map f old) → map f new ≡ all
put_together f index indexes old new own is others all all_own all_others =
    let between : ℕ = indexes - 1 in
    same_parts between index (map f new) all (every_map f between index new ∙ ap (map f) is ∙ sym all_own)
    (all_but_map f between index new ∙ ap (map f) others ∙ sym (all_but_map f between index old) ∙ sym all_others)

-- an index is made of the tree of some spools' pairs, or it isn't
module _
    {S : Type 0} (runs : S → List (List Pair)) (open_run : S → List Pair) (stake : S → Option Stake) (build : ℕ) (unique : Bool) (spools back : List S)
    (old : List SpoolValue) (stakes : stakes_of old ≡ map stake spools) (same : map stake back ≡ map stake spools) where
  their_stakes : stakes_of (map (spool_value runs open_run stake) back) ≡ stakes_of old
  their_stakes = mapped (spool_value runs open_run stake) (λ (s : SpoolValue). s.stake) back ∙ same ∙ sym stakes

  all_ended : map (spool_value runs open_run stake) back ≡ map ended_spool (map (spool_value runs open_run stake) spools)
      → map (spool_value runs open_run stake) back ≡ map ended_spool old
  unfolding bare
  all_ended ended =
      ended ∙ ended_bare runs open_run stake spools ∙ ap (map bare) (sym stakes) ∙ mapped (λ (s : SpoolValue). s.stake) bare old

  pub index_made :
      (tree : TreeValue) (result : Result BuiltValue Fault) → IsPermutation (pairs_in old) tree.pairs
      → map (spool_value runs open_run stake) back ≡ map ended_spool (map (spool_value runs open_run stake) spools)
      → IfOk result (λ built. built.pairs ≡ tree.pairs) → IfOk result (λ built. AreOrdered built.pairs) → IfOk result (λ built. built.build ≡ build)
      → IfOk result (λ built. built.unique ≡ unique) → IfErr result (λ fault. fault ≡ Memory)
      → MakesIndex build unique old result (map (spool_value runs open_run stake) back)
  index_made tree (Ok built) moved ended pairs order number tallied memory = record {
    stakes = their_stakes;
    made = (number, tallied, subst (IsPermutation (pairs_in old)) (sym pairs) moved, order, all_ended ended);
    memory = tt;
  }
  index_made tree (Err fault) moved ended pairs order number tallied memory = record { stakes = their_stakes; made = tt; memory = memory }

  pub none_made : (fault : Fault) → fault ≡ Memory → MakesIndex build unique old (Err fault) (map (spool_value runs open_run stake) back)
  none_made fault memory = record { stakes = their_stakes; made = tt; memory = memory }
