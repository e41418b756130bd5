-- Spools of any kind, as callers of all see them.
use Rattle.std.proofs.Common.{◌≡◌, ◌-◌, ℕ, List, [], ◌∷◌, All, map, Option, refl, sym, ap, ap₂, ◌∙◌}
use Rattle.std.proofs.lemmas.List.Elements.{All-head, All-tail}
use Rattle.spool_ledger.specs.Accounts.{Stake}
use Rattle.keybytes.specs.declared.pair.Pair.{Pair}
use Rattle.page_workers.specs.SpoolValue.{SpoolValue, runs_of, spool_value, ended_spool}
use Rattle.page_workers.proofs.Places.{mapped}
use Rattle.index_load.specs.Columns.{column, other_columns}
use Rattle.index_load.proofs.Columns.{all_but_map, every_map}

module _ {S : Type 0} (runs : S → List (List Pair)) (open_run : S → List Pair) (stake : S → Option Stake) where
  pub stakes_seen : (spools : List S) → map stake spools ≡ map (λ (s : SpoolValue). s.stake) (map (spool_value runs open_run stake) spools)
  stakes_seen spools = sym (mapped (spool_value runs open_run stake) (λ (s : SpoolValue). s.stake) spools)

  pub runs_seen : (spools : List S) → map runs spools ≡ map (λ (s : SpoolValue). s.runs) (map (spool_value runs open_run stake) spools)
  runs_seen spools = sym (mapped (spool_value runs open_run stake) (λ (s : SpoolValue). s.runs) spools)

  -- spools of which only those of an index may be other
  pub others_seen :
      (index indexes : ℕ) (a b : List S) → other_columns index indexes a ≡ other_columns index indexes b
      → other_columns index indexes (map (spool_value runs open_run stake) a) ≡ other_columns index indexes (map (spool_value runs open_run stake) b)
  others_seen index indexes a b same =
      let value = spool_value runs open_run stake in
      all_but_map value (indexes - 1) index a ∙ ap (map value) same ∙ sym (all_but_map value (indexes - 1) index b)

  -- the runs of the spools of an index
  pub column_seen : (index indexes : ℕ) (spools : List S) → runs_of (column index indexes (map (spool_value runs open_run stake) spools)) ≡ map runs (column index indexes spools)
  column_seen index indexes spools =
      ap runs_of (every_map (spool_value runs open_run stake) (indexes - 1) index spools) ∙ sym (runs_seen (column index indexes spools))

  pub same_seen :
      (a b : List S) → map stake a ≡ map stake b
      → map (λ (s : SpoolValue). s.stake) (map (spool_value runs open_run stake) a)
      ≡ map (λ (s : SpoolValue). s.stake) (map (spool_value runs open_run stake) b)
  same_seen a b same = sym (stakes_seen a) ∙ same ∙ stakes_seen b

-- spools of any kind that were ended
pub ended_values :
    {S : Type 0} (runs : S → List (List Pair)) (open_run : S → List Pair) (stake : S → Option Stake) (old new : List S) → All (λ s. runs s ≡ []) new
    → All (λ s. open_run s ≡ []) new → map stake new ≡ map stake old
    → map (spool_value runs open_run stake) new ≡ map ended_spool (map (spool_value runs open_run stake) old)
ended_values runs open_run stake [] [] none shut same = refl
ended_values runs open_run stake [] (t ∷ ts) none shut same = absurd (cc)
ended_values runs open_run stake (s ∷ ss) [] none shut same = absurd (cc)
ended_values runs open_run stake (s ∷ ss) (t ∷ ts) none shut same =
    let first : stake t ≡ stake s = cc in
    let rest : map stake ts ≡ map stake ss = cc in
    let here : spool_value runs open_run stake t ≡ ended_spool (spool_value runs open_run stake s) =
    rw (All-head (λ s. runs s ≡ []) t ts none, All-head (λ s. open_run s ≡ []) t ts shut, first) refl in
    ap₂ ◌∷◌ here
    (ended_values runs open_run stake ss ts (All-tail (λ s. runs s ≡ []) t ts none) (All-tail (λ s. open_run s ≡ []) t ts shut) rest)
