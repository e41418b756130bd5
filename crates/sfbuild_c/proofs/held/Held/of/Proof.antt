-- `of` hides what the pointer is to.
use Rattle.std.proofs.Common.{◌≡◌, List, [], ◌∷◌, ◌++◌, refl}
use mir.Val.{Val}
use base.Logic.{SProp, emp}
use base.Fml.{ftrue}
use prog.Wp.{WpFn}
use types.Kit.{‵, raw, prop, ◌⊛◌, ◌$◌, ◌∵◌, !, qed, by, move, keep, split, fsplit, fjoin, regoal, use0}
use types.Run.{stop, fld, of_opd, no_more, and_then, returns, enter}
use types.ByLocal.{alloc_all, pass_all, free_all, look_at, get, get_in, sets}
use types.Part.{agg, sub, whole}
use contract.Monad.{fact, fact_i}
use contract.Running.{tables}
use denote.Exit.{yes}
use denote.RattleType.{RattleType, owns}
use denote.RawPtr.{Ptr}
use denote.Signature.{types_at, plain}
use denote.Steps.{nothing}
use denote.Triple.Walked.{Stays, stay_dropped, walk_of}
use Rattle.std.proofs.alloc.Calls.{Goes-blank}
use Rattle.std.proofs.raw_atomic.Walks.{proved_at, leaves}
use Rattle.std.proofs.alloc.Global.TheLaws.{the_row_laws as heap_laws}
use Rattle.std.specs.Prelude.{Some}
use Rattle.std.specs.contracts.alloc.Global.{the_row as Heap}
use Rattle.std.specs.contracts.impls.GlobalAllocator.TheImpl.{ghosts}
use Rattle.kept_table.specs.contracts.kept.Kept.{the_row as Kept}
use Rattle.sfbuild_c.specs.Owned.{table_owns}
use Rattle.sfbuild_c.proofs.Apart.{ptr_fits, word, word_fits, pair_out, pair_in}
use Rattle.sfbuild_c.specs.contracts.bare.Bare as bare
use Rattle.sfbuild_c.specs.contracts.held.Held.of as f
use Rattle.sfbuild_c.specs.contracts.held.Held.of.Key.{name as key}
use Rattle.sfbuild_c.proofs.held.Held.of.Statement.{statement}
use Rattle.sfbuild_c.proofs.held.Held.of.Code as code

abbrev Bare : RattleType
Bare = bare.the_row Kept Heap ghosts

abbrev stays : Stays f.ended.signature.params f.ended.kept
stays = (stay_dropped (plain (λ _. Bare)) yes, tt)

pub of_spec : {M : Type 1} → statement M
unfolding table_owns
of_spec 𝓤 𝓛 𝓜 𝓡 wired =
    let 𝓣 = tables 𝓤 𝓛.H 𝓜 𝓡 𝓡.env in let c = f.clauses 𝓛 𝓜.mem 𝓡.returns in
    proved_at 𝓛 f.ended stays c 𝓜 𝓡 (Goes-blank 𝓛 0 (plain (λ _. Bare)) yes (λ κs x w. tt), tt) key code.function (code.unfolded 𝓤 𝓛.H 𝓜 𝓡 wired) (λ y are.
    let b = y.0.3.0 in let p : Ptr = b.at in let post : Val → SProp 𝓤 = (walk_of 𝓛 f.ended stays c).post y in
    qed 𝓛 ((‵ ftrue ⊛ ‵ (owns (types_at f.ended.signature.params y.0.0) y.0.3 y.0.4)) ∷ raw ((c y.0.0 y.0.3).requires y.1) ∷ []) ∵
    split ! $ move ! (1 ∷ []) $ fsplit ! $ fsplit ! $ pair_out Heap heap_laws ! p b.alloc y.0.4.0 (λ h bare_is fits.
    -- [the allocator; the box; ..]
    let good = word_fits Heap heap_laws p h fits in
    regoal ! (λ (us : List Val). prop (WpFn 𝓤 𝓛.H 𝓣.C 𝓣.Λ code.function us post)) (λ i. bare_is i ++ []) refl $
    enter ! 𝓣.C 𝓣.Λ code.function (word p h ∷ []) post $ alloc_all ! (λ l. pass_all ! refl (good, tt) $
    sets ! (of_opd ! (get_in ! (fld ! refl (stop !)) (sub ! 0 refl (whole !)))) refl (ptr_fits p) $
    sets ! (of_opd ! (get_in ! (fld ! refl (stop !)) (sub ! 1 refl (whole !)))) refl fits $
    sets ! (of_opd ! (get ! refl)) refl (ptr_fits p) $ sets ! (agg ! (and_then ! (get ! refl) (and_then ! (get ! refl) (no_more !)))) refl good $
    pair_in Heap heap_laws ! p b.alloc h $ fjoin ! $
    use0 𝓛 (raw (fact 𝓤 (Some b.value ≡ Some b.value))) (fact_i 𝓤 (Some b.value ≡ Some b.value) (emp 𝓤) refl) $ nothing ! $ nothing ! $ fjoin ! $ nothing ! $
    -- [no token; nothing of the parameter; the `ensures`; the result]
    returns ! (look_at ! 0 refl) $ free_all ! refl $ keep ! (0 ∷ 1 ∷ 3 ∷ 2 ∷ []) $
    by ! (leaves 𝓛 f.ended stays c y (word p h) (record { at = p; alloc = b.alloc; table = Some b.value }) (tt, tt) (tt, tt)))))
