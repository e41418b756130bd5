use Rattle.std.proofs.Common.{◌≡◌, ◌++◌, List, map, sym, ap, ◌∙◌, subst, IfErr}
use Rattle.std.proofs.lemmas.List.{take_at}
use Rattle.keybytes.specs.declared.fault.Fault.TheVariants.{Memory}
use Rattle.std.specs.Prelude.{IsSome}
use Rattle.std.specs.List.{All, AllZip}
use Rattle.page_workers.proofs.Places.{all_mapped}
use Rattle.table_scan.specs.SideFiles.{taken_rings}
use Rattle.building.specs.BuildingValue.{IndexValue}
use Rattle.building.specs.BatchTurns.{HasTurned}
use Rattle.building.specs.declared.batch_turns.IndexTurn.{IndexTurn}
use Rattle.building.proofs.BatchTurns.{all_applied, along_long, if_ok, memory_alone, rings_stay}
use Rattle.building.proofs.batch_turns.apply_reserved.Goals as goal

pub run_all-requires-after_bounds : goal.run_all-requires-after_bounds
run_all-requires-after_bounds g c κs within =
    let All_loaded : List IndexValue → Type 0 = λ its. All (λ it. IsSome it.built) its in
    let Loaded : List IndexTurn → Type 0 = λ ts. All (λ turn. IsSome turn.work.built) ts in
    subst Loaded (sym c.as_mut_slice.ensures.value)
    (all_mapped (λ it. IsSome it.built) (λ turn. turn.work) c.take_out.new.turns.items (subst All_loaded (sym c.take_out.ensures.indexes) c.requires.loaded))

pub total-told-requires : goal.total-told-requires
total-told-requires g c =
    let us : List IndexTurn = c.run_all.new.turns in
    let us_are : c.deref.result.now ≡ us =
    c.deref.ensures.value ∙ take_at us _ c.take_out.new.turns.len (along_long HasTurned _ us c.run_all.ensures ∙ c.as_mut_slice.ensures.len) in
    subst (λ (ts : List IndexTurn). All (λ turn. IfErr turn.told (λ fault. fault ≡ Memory)) ts) (sym us_are) (memory_alone _ us c.run_all.ensures)

pub returns-clause-applied : goal.returns-clause-applied
returns-clause-applied g c =
    let ts : List IndexTurn = c.take_out.new.turns.items in
    let us : List IndexTurn = c.run_all.new.turns in
    let us_are : c.deref.result.now ≡ us =
    c.deref.ensures.value ∙ take_at us _ c.take_out.new.turns.len (along_long HasTurned _ us c.run_all.ensures ∙ c.as_mut_slice.ensures.len) in
    let z : AllZip HasTurned ts c.deref.result.now =
    subst (λ (xs : List IndexTurn). AllZip HasTurned ts xs) (sym us_are) (subst (λ (xs : List IndexTurn). AllZip HasTurned xs us) c.as_mut_slice.ensures.value c.run_all.ensures) in
    if_ok c.total-told.result _ _ (λ count total.
    all_applied ts c.deref.result.now count _ _ _ _ c.take_out.new.ends.items z total c.take_out.ensures.indexes c.take_out.ensures.ends
    (c.put_back.ensures.indexes ∙ ap (map (λ (turn : IndexTurn). turn.work)) (sym c.deref.ensures.value))
    (c.put_back.ensures.ends ∙ ap (λ (xs : List IndexTurn). map (λ turn. turn.end) xs ++ c.take_out.new.ends.items) (sym c.deref.ensures.value))) c.total-told.ensures.total

pub returns-clause-rings : goal.returns-clause-rings
returns-clause-rings g c =
    let ts : List IndexTurn = c.take_out.new.turns.items in
    let us : List IndexTurn = c.run_all.new.turns in
    let us_are : c.deref.result.now ≡ us =
    c.deref.ensures.value ∙ take_at us _ c.take_out.new.turns.len (along_long HasTurned _ us c.run_all.ensures ∙ c.as_mut_slice.ensures.len) in
    let z : AllZip HasTurned ts us = subst (λ (xs : List IndexTurn). AllZip HasTurned xs us) c.as_mut_slice.ensures.value c.run_all.ensures in
    let now : c.put_back.new.ends.items ≡ map (λ turn. turn.end) us ++ c.take_out.new.ends.items =
    c.put_back.ensures.ends ∙ ap (λ (xs : List IndexTurn). map (λ turn. turn.end) xs ++ c.take_out.new.ends.items) (sym c.deref.ensures.value ∙ us_are) in
    ap taken_rings now ∙ rings_stay ts us c.take_out.new.ends.items z ∙ ap taken_rings c.take_out.ensures.ends
