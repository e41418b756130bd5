-- `into_box` puts the box together.
use Rattle.std.proofs.Common.{◌≡◌, List, [], ◌∷◌, ◌++◌, refl}
use mir.Syntax.{a_type, dcons, dnil}
use mir.MapTy.{inst_fn}
use mir.Val.{Val}
use base.Logic.{SProp, id⊢}
use base.Fml.{ftrue, flft}
use prog.Wp.{WpFn}
use types.Kit.{‵, raw, prop, ◌⊛◌, some, later, ◌$◌, ◌∵◌, !, qed, by, move, keep, drop, split, split3, join, fsplit, fjoin, pick, regoal, use1, await, feq_i}
use types.Run.{stop, fld, of_opd, no_more, and_then, first, blocks, exec, returns, enter}
use types.ByLocal.{alloc_all, pass_all, free_all, look_at, get, get_in, sets, lands_last, env}
use types.Part.{sub, whole}
use types.Kit.{at_ret}
use contract.Monad.{fact}
use contract.BorrowLft.{◌⊑◌}
use contract.Running.{tables}
use denote.Exit.{no}
use denote.RattleType.{RattleType, owns}
use denote.RawPtr.{Ptr, ptr_val}
use denote.Param.{bounded, param}
use denote.Param.Laws.{param_laws}
use denote.Signature.{types_at, plain}
use denote.Laws.{shows}
use denote.Steps.{nothing, peeks}
use denote.Triple.Clauses.{Lasts, lasts}
use denote.Triple.Spec.{triple_of}
use denote.Triple.Call.{calls_at_last}
use denote.Triple.Table.{framed}
use denote.Triple.Walked.{Stays, stay_dropped, walk_of}
use Rattle.std.proofs.alloc.Calls.{Goes-blank}
use Rattle.std.proofs.alloc.Shapes.{after}
use Rattle.std.proofs.raw_atomic.Walks.{proved_at, leaves}
use Rattle.std.specs.contracts.boxed.Box as box
use Rattle.std.proofs.boxed.Box.TheLaws as box_laws
use Rattle.std.specs.contracts.boxed.Box.from_raw as callee
use Rattle.std.proofs.boxed.Box.from_raw.Met.{met}
use Rattle.sfbuild_c.proofs.Apart.{ptr_fits, word, word_fits, pair_out}
use Rattle.sfbuild_c.specs.contracts.bare.Bare as bare
use Rattle.sfbuild_c.specs.contracts.bare.Bare.into_box as f
use Rattle.sfbuild_c.specs.contracts.bare.Bare.into_box.Key.{name as key}
use Rattle.sfbuild_c.proofs.bare.Bare.into_box.Statement.{statement}
use Rattle.sfbuild_c.proofs.bare.Bare.into_box.Code as code

pub into_box_spec : {M : Type 1} → statement M
into_box_spec 𝓤 𝓛 𝓜 𝓡 wired X A LX LA g d dx dd allocator dropped dropped_too =
    let 𝓣 = tables 𝓤 𝓛.H 𝓜 𝓡 𝓡.env in let inst = bounded (a_type ∷ a_type ∷ []) (X, (A, tt)) (dcons d (dcons dx (dcons dd dnil))) in
    let fn = inst_fn inst code.function in let E = f.ended X A g d dx dd in let c = f.clauses X A g d dx dd 𝓛 𝓜.mem 𝓡.returns in
    let R : RattleType = param 0 X in let Z : RattleType = param 1 A in let LZ = param_laws 1 A LA in let Box : RattleType = box.the_row R Z g in
    let Bare : RattleType = bare.the_row R Z g in let boxes = box_laws.the_row_laws R Z g (param_laws 0 X LX) LZ in
    let stays : Stays E.signature.params E.kept = (stay_dropped (plain (λ _. Bare)) no, tt) in
    proved_at 𝓛 E stays c 𝓜 𝓡 (Goes-blank 𝓛 2 (plain (λ _. Bare)) no (λ κs x w. tt), tt) (key inst) fn (code.unfolded 𝓤 𝓛.H 𝓜 𝓡 wired (X, (A, tt)) d dx dd) (λ y are.
    let κs = y.0.0 in let qs = y.0.1 in let v = y.0.3.0 in let a = v.alloc in let p : Ptr = v.at in let post : Val → SProp 𝓤 = (walk_of 𝓛 E stays c).post y in
    let tokens = ‵ (flft κs.0 qs.0) ⊛ ‵ (flft κs.1.0 qs.1.0) ⊛ ‵ ftrue in
    qed 𝓛 ((tokens ⊛ ‵ (owns (types_at E.signature.params κs) y.0.3 y.0.4)) ∷ raw ((c κs y.0.3).requires y.1) ∷ []) ∵
    split ! $ move ! (1 ∷ []) $ fsplit ! $ fsplit ! $ pair_out Z LZ ! p a y.0.4.0 (λ h bare_is fits.
    -- [the allocator; the value and the right to free it; nothing; the tokens; the `requires`]
    let T = triple_of 𝓛 (callee.signature X A g d dd) (callee.spec X A g d dd 𝓛 𝓜.mem 𝓡.returns) in
    let z : T.Ghost = ((κs, qs, tt, (a, (p, tt)), (h ∷ [], (ptr_val p ∷ [], tt))), v.value) in
    move ! (4 ∷ []) $ use1 𝓛 (raw (fact 𝓤 (κs.0 ⊑ X.lives)) ⊛ raw (fact 𝓤 (κs.1.0 ⊑ A.lives)) ⊛ ‵ ftrue) (id⊢ 𝓤 _) $ split3 ! $
    -- [two facts; nothing; the allocator; the value and the right to free it; nothing; the tokens]
    move ! (2 ∷ []) $ drop ! $ move ! (1 ∷ 3 ∷ []) $ join ! $ move ! (1 ∷ 0 ∷ []) $ join ! $
    move ! (2 ∷ []) $ feq_i ! (List Val) (ptr_val p ∷ []) (ptr_val p ∷ []) refl $ fjoin ! $ move ! (2 ∷ 0 ∷ []) $ fjoin ! $
    move ! (2 ∷ 0 ∷ []) $ join ! $ join ! $ use1 𝓛 (raw (T.pre z)) (id⊢ 𝓤 _) $
    regoal ! (λ (us : List Val). prop (WpFn 𝓤 𝓛.H 𝓣.C 𝓣.Λ fn us post)) (λ i. bare_is i ++ []) refl $
    enter ! 𝓣.C 𝓣.Λ fn (word p h ∷ []) post $ alloc_all ! (λ l. pass_all ! refl (word_fits Z LZ p h fits, tt) $
    sets ! (of_opd ! (get_in ! (fld ! refl (stop !)) (sub ! 0 refl (whole !)))) refl (ptr_fits p) $
    sets ! (of_opd ! (get_in ! (fld ! refl (stop !)) (sub ! 1 refl (whole !)))) refl fits $
    first ! $ blocks ! $ sets ! (of_opd ! (get ! refl)) refl fits $
    calls_at_last ! (framed 𝓤 𝓛.H 𝓜 𝓣) T (met 𝓤 𝓛 𝓜 𝓡 (code.calls-std_alloc::boxed::Box::from_raw 𝓡.env wired) X A LX LA g d dd allocator dropped_too) z
    (and_then ! (get ! refl) (and_then ! (get ! refl) (no_more !))) (λ u.
    use1 𝓛 (later (some (λ (r : Box.Denot). (tokens ⊛ ‵ (Box.own_val r (u ∷ [])))
    ⊛ some (λ (ws : Lasts (callee.ended X A g d dd) κs z.0.3). ‵ (lasts (callee.ended X A g d dd) κs z.0.3 ws) ⊛ (raw (fact 𝓤 (r.value ≡ v.value)) ⊛ raw (fact 𝓤 (r.alloc ≡ a))))))) (id⊢ 𝓤 _) $
    await ! tt $ pick ! (λ r. split ! $ move ! (1 ∷ []) $ pick ! (λ _. split3 ! $ drop ! $ move ! (2 ∷ []) $ split ! $ move ! (1 ∷ []) $
    -- [the box; the tokens; two facts; ..]
    peeks ! Box _ (shows 𝓛 Box) r (u ∷ []) (λ is. let good = ((boxes.lawful 𝓛).typed r (u ∷ []) is).0 in
    lands_last ! refl good $ exec ! 𝓣.C 𝓣.Λ (env fn.locals l) (after 3 fn.body) (at_ret _ post) $ sets ! (of_opd ! (get ! refl)) refl good $
    nothing ! $ nothing ! $ fjoin ! $
    -- [nothing of the parameter; the result; the tokens; the `ensures`; ..]
    returns ! (look_at ! 0 refl) $ free_all ! refl $ keep ! (2 ∷ 0 ∷ 1 ∷ 3 ∷ []) $
    by ! (leaves 𝓛 E stays c y u r ((tt, (tt, tt)), tt) (tt, tt)))))))))
