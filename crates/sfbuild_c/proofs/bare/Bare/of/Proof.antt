-- `of` takes the box apart.
use Rattle.std.proofs.Common.{◌≡◌, List, [], ◌∷◌, ◌++◌, refl, ap}
use mir.Syntax.{a_type, dcons, dnil}
use mir.MapTy.{inst_fn}
use mir.Val.{Val}
use base.Logic.{SProp, emp, id⊢}
use base.Fml.{ftrue, fsep, flft}
use prog.Wp.{WpFn}
use types.Kit.{‵, raw, prop, ◌⊛◌, some, later, ◌$◌, ◌∵◌, !, qed, by, move, keep, drop, split, split3, join, fsplit, fjoin, pick, regoal, use0, use1, await, rewrite}
use types.Run.{stop, fld, of_opd, no_more, and_then, returns, enter}
use types.ByLocal.{alloc_all, pass_all, free_all, look_at, get, get_in, sets, lands_as}
use types.Part.{agg, sub, whole}
use contract.Monad.{fact, fact_i}
use contract.Running.{tables}
use denote.Exit.{no}
use denote.RattleType.{RattleType, owns}
use denote.Builtin.{RawPtr}
use denote.RawPtr.{Ptr}
use denote.Param.{bounded, param}
use denote.Param.Laws.{param_laws}
use denote.Signature.{types_at, plain}
use denote.Steps.{nothing, only, heard}
use denote.Struct.Tuple.{Tuple}
use denote.Triple.Spec.{triple_of}
use denote.Triple.Call.{calls_at}
use denote.Triple.Table.{framed}
use denote.Triple.Walked.{Stays, stay_dropped, walk_of}
use Rattle.std.proofs.alloc.Calls.{Goes-blank, handle_tells}
use Rattle.std.proofs.raw_atomic.Walks.{proved_at, leaves}
use Rattle.std.specs.Box.Ownership.{box_owns}
use Rattle.std.specs.contracts.boxed.Box as box
use Rattle.std.proofs.boxed.Box.TheLaws as box_laws
use Rattle.std.specs.contracts.boxed.Box.into_raw_with_allocator as callee
use Rattle.std.proofs.boxed.Box.into_raw_with_allocator.Met.{met}
use Rattle.sfbuild_c.proofs.Apart.{of_type, ptr_fits, word, word_fits, pair_out, pair_in}
use Rattle.sfbuild_c.specs.contracts.bare.Bare.of as f
use Rattle.sfbuild_c.specs.contracts.bare.Bare.of.Key.{name as key}
use Rattle.sfbuild_c.proofs.bare.Bare.of.Statement.{statement}
use Rattle.sfbuild_c.proofs.bare.Bare.of.Code as code

pub of_spec : {M : Type 1} → statement M
of_spec 𝓤 𝓛 𝓜 𝓡 wired X A LX LA g d dx dd allocator dropped dropped_too =
    let 𝓣 = tables 𝓤 𝓛.H 𝓜 𝓡 𝓡.env in let inst = bounded (a_type ∷ a_type ∷ []) (X, (A, tt)) (dcons d (dcons dx (dcons dd dnil))) in
    let fn = inst_fn inst code.function in let E = f.ended X A g d dx dd in let c = f.clauses X A g d dx dd 𝓛 𝓜.mem 𝓡.returns in
    let R : RattleType = param 0 X in let Z : RattleType = param 1 A in let LZ = param_laws 1 A LA in let Box : RattleType = box.the_row R Z g in
    let stays : Stays E.signature.params E.kept = (stay_dropped (plain (λ _. Box)) no, tt) in
    proved_at 𝓛 E stays c 𝓜 𝓡 (Goes-blank 𝓛 2 (plain (λ _. Box)) no (λ κs x w. tt), tt) (key inst) fn (code.unfolded 𝓤 𝓛.H 𝓜 𝓡 wired (X, (A, tt)) d dx dd) (λ y are.
    let κs = y.0.0 in let qs = y.0.1 in let v = y.0.3.0 in let post : Val → SProp 𝓤 = (walk_of 𝓛 E stays c).post y in
    let tokens = ‵ (flft κs.0 qs.0) ⊛ ‵ (flft κs.1.0 qs.1.0) ⊛ ‵ ftrue in
    qed 𝓛 ((tokens ⊛ ‵ (owns (types_at E.signature.params κs) y.0.3 y.0.4)) ∷ raw ((c κs y.0.3).requires y.1) ∷ []) ∵
    split ! $ move ! (1 ∷ []) $ fsplit ! $ handle_tells (of_type Box (box_laws.the_row_laws R Z g (param_laws 0 X LX) LZ)) ! v y.0.4.0 (λ w box_is fits.
    -- [the box; nothing; the tokens; the `requires`]
    let T = triple_of 𝓛 (callee.signature X A g d dd dx) (callee.spec X A g d dd dx 𝓛 𝓜.mem 𝓡.returns) in
    let z : T.Ghost = ((κs, qs, tt, (v, tt), (w ∷ [], tt)), tt) in let Two : RattleType = Tuple (RawPtr ∷ Z ∷ []) in
    fjoin ! $ move ! (1 ∷ 0 ∷ []) $ join ! $ join ! $ use1 𝓛 (raw (T.pre z)) (id⊢ 𝓤 _) $
    regoal ! (λ (us : List Val). prop (WpFn 𝓤 𝓛.H 𝓣.C 𝓣.Λ fn us post)) (λ i. box_is i ++ []) refl $
    enter ! 𝓣.C 𝓣.Λ fn (w ∷ []) post $ alloc_all ! (λ l. pass_all ! refl (fits, tt) $ sets ! (of_opd ! (get ! refl)) refl fits $
    calls_at ! (framed 𝓤 𝓛.H 𝓜 𝓣) T (met 𝓤 𝓛 𝓜 𝓡 (code.calls-std_alloc::boxed::Box::into_raw_with_allocator 𝓡.env wired) X A LX LA g d dd dx allocator dropped_too dropped) z
    (and_then ! (get ! refl) (no_more !)) (λ u.
    use1 𝓛 (later (some (λ (r : Ptr × A.Denot). (tokens ⊛ ‵ (Two.own_val r (u ∷ [])))
    ⊛ some (λ (_ : (Unit {0} × (Unit {0} × Unit {0})) × Unit {0}). ‵ (fsep (fsep ftrue (fsep ftrue ftrue)) ftrue) ⊛ (raw (fact 𝓤 (r.1 ≡ v.alloc)) ⊛ ‵ (box_owns (g.dealloc_token v.alloc) R r.0 v.value)))))) (id⊢ 𝓤 _) $
    await ! tt $ pick ! (λ r. split ! $ move ! (1 ∷ []) $ pick ! (λ _. split3 ! $ drop ! $ heard ! (r.1 ≡ v.alloc) (λ same.
    -- [the value and the right to free it; the tokens and the two parts; ..]
    move ! (1 ∷ []) $ split ! $ move ! (1 ∷ []) $ rewrite ! 0 (λ (s : A.Denot). ‵ (Two.own_val (r.0, s) (u ∷ []))) same refl $
    pair_out Z LZ ! r.0 v.alloc (u ∷ []) (λ h two_are fine.
    -- [the allocator; the tokens; the value and the right to free it; ..]
    let good = word_fits Z LZ r.0 h fine in
    lands_as ! (ap only two_are) refl good $ sets ! (of_opd ! (get_in ! (fld ! refl (stop !)) (sub ! 0 refl (whole !)))) refl (ptr_fits r.0) $
    sets ! (of_opd ! (get_in ! (fld ! refl (stop !)) (sub ! 1 refl (whole !)))) refl fine $
    sets ! (of_opd ! (get ! refl)) refl fine $ sets ! (agg ! (and_then ! (get ! refl) (and_then ! (get ! refl) (no_more !)))) refl good $
    pair_in Z LZ ! r.0 v.alloc h $ move ! (0 ∷ 2 ∷ []) $ fjoin ! $
    use0 𝓛 (raw (fact 𝓤 (v.value ≡ v.value))) (fact_i 𝓤 (v.value ≡ v.value) (emp 𝓤) refl) $ nothing ! $ nothing ! $ fjoin ! $
    -- [nothing of the parameter; the `ensures`; the result; the tokens; ..]
    returns ! (look_at ! 0 refl) $ free_all ! refl $ keep ! (3 ∷ 0 ∷ 2 ∷ 1 ∷ []) $
    by ! (leaves 𝓛 E stays c y (word r.0 h) (record { at = r.0; alloc = v.alloc; value = v.value }) ((tt, (tt, tt)), tt) (tt, tt))))))))))
