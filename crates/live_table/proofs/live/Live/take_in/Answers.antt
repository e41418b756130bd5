use Rattle.std.proofs.lemmas.Result.{err_from_is_err_and}
use Rattle.live_lemmas.proofs.TakenIn.{all_only, first_none, kept_early, kept_foreign, kept_left, now_taken, same_state, sides_only, state_taken, was_taken, works_same, works_taken}
use Rattle.live_table.proofs.live.Live.take_in.Goals as goal

pub returns-then-not-is_part-clause-state : goal.returns-then-not-is_part-clause-state
returns-then-not-is_part-clause-state g c = same_state c.args.in_order _ _ _ _ c.is_part.ensures.looked

pub returns-then-not-is_part-clause-kept : goal.returns-then-not-is_part-clause-kept
returns-then-not-is_part-clause-kept g c = works_same c.args.in_order _ _ _ _ c.is_part.ensures.looked

pub returns-then-not-is_part-clause-out : goal.returns-then-not-is_part-clause-out
returns-then-not-is_part-clause-out g c = (kept_foreign c.args.in_order _ _ _ _ c.is_part.ensures.looked (c.is_part.ensures.foreign c.if-not-is_part.true)).cause

pub returns-then-not-is_part-clause-looked : goal.returns-then-not-is_part-clause-looked
returns-then-not-is_part-clause-looked g c = sides_only c.args.in_order _ _ _ _ c.is_part.ensures.looked

pub returns-in_err-check_early-clause-state : goal.returns-in_err-check_early-clause-state
returns-in_err-check_early-clause-state g c = same_state c.args.in_order _ _ _ _ c.is_part.ensures.looked

pub returns-in_err-check_early-clause-kept : goal.returns-in_err-check_early-clause-kept
returns-in_err-check_early-clause-kept g c = works_same c.args.in_order _ _ _ _ c.is_part.ensures.looked

pub returns-in_err-check_early-clause-out : goal.returns-in_err-check_early-clause-out
returns-in_err-check_early-clause-out g c =
    let it = kept_early c.args.in_order _ _ _ _ c.is_part.ensures.looked _ (c.is_part.ensures.part c.if-not-is_part.false) c.in_err-check_early.ensures.cause in
    let told = err_from_is_err_and c.from_residual.result c.from_residual.ensures.1 in
    rw (told.1, told.2) it.cause

pub returns-in_err-check_early-clause-looked : goal.returns-in_err-check_early-clause-looked
returns-in_err-check_early-clause-looked g c = sides_only c.args.in_order _ _ _ _ c.is_part.ensures.looked

pub returns-in-Some-clause-state : goal.returns-in-Some-clause-state
returns-in-Some-clause-state g c = state_taken c.args.in_order _ _ _ _ c.is_part.ensures.looked _ _ c.unsealed.ensures.looked

pub returns-in-Some-clause-kept : goal.returns-in-Some-clause-kept
returns-in-Some-clause-kept g c = works_taken c.args.in_order _ _ _ _ c.is_part.ensures.looked _ _ c.unsealed.ensures.looked

pub returns-in-Some-clause-out : goal.returns-in-Some-clause-out
returns-in-Some-clause-out g c =
    (kept_left c.args.in_order _ _ _ _ c.is_part.ensures.looked _ _ c.unsealed.ensures.looked c.in-Some.worker (c.is_part.ensures.part c.if-not-is_part.false)
    c.in_ok-check_early.ensures.cause c.in-Some.ensures.unsealed.there c.in-Some.ensures.unsealed.lower c.in-Some.ensures.unsealed.unsealed).cause

pub returns-in-Some-clause-looked : goal.returns-in-Some-clause-looked
returns-in-Some-clause-looked g c = all_only c.args.in_order _ _ _ _ c.is_part.ensures.looked _ _ c.unsealed.ensures.looked

pub reunite-requires : goal.reunite-requires
reunite-requires g c =
    now_taken _ _ _ _ c.unsealed.ensures.looked (c.is_part.ensures.part c.if-not-is_part.false) c.in_ok-check_early.ensures.fine c.in_ok-check_early.ensures.scanned
    c.in_default.ensures.unsealed

pub returns-clause-taken : goal.returns-clause-taken
returns-clause-taken g c =
    now_taken _ _ _ _ c.unsealed.ensures.looked (c.is_part.ensures.part c.if-not-is_part.false) c.in_ok-check_early.ensures.fine c.in_ok-check_early.ensures.scanned
    c.in_default.ensures.unsealed

pub returns-clause-all : goal.returns-clause-all
returns-clause-all g c =
    was_taken c.args.in_order _ _ _ _ c.is_part.ensures.looked _ _ c.unsealed.ensures.looked (c.is_part.ensures.part c.if-not-is_part.false)
    c.in_default.ensures.unsealed

pub returns-clause-first : goal.returns-clause-first
returns-clause-first g c = first_none c.args.in_order _ _ _ _ c.is_part.ensures.looked _ _ c.unsealed.ensures.looked c.in_ok-check_early.ensures.cause

pub returns-clause-state : goal.returns-clause-state
returns-clause-state g c = state_taken c.args.in_order _ _ _ _ c.is_part.ensures.looked _ _ c.unsealed.ensures.looked

pub returns-clause-looked : goal.returns-clause-looked
returns-clause-looked g c = all_only c.args.in_order _ _ _ _ c.is_part.ensures.looked _ _ c.unsealed.ensures.looked
