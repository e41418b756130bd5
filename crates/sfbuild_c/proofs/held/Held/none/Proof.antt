-- `none` owns nothing beside the allocator.
use Rattle.std.proofs.Common.{◌≡◌, List, [], ◌∷◌, ◌++◌, refl}
use mir.Val.{Val}
use base.Logic.{SProp, emp}
use base.Fml.{ftrue}
use prog.Wp.{WpFn}
use types.Kit.{‵, raw, prop, ◌⊛◌, ◌$◌, ◌∵◌, !, qed, by, move, keep, split, fsplit, fjoin, regoal, use0}
use types.Run.{lit, no_more, and_then, returns, enter}
use types.ByLocal.{alloc_all, pass_all, free_all, look_at, get, sets}
use types.Part.{agg}
use contract.Monad.{fact, fact_i}
use contract.Running.{tables}
use denote.Exit.{yes}
use denote.RattleType.{owns}
use denote.RawPtr.{null_ptr}
use denote.Signature.{types_at, plain}
use denote.Steps.{nothing}
use denote.Triple.Walked.{Stays, stay_dropped, Goes-dropped, walk_of}
use Rattle.std.proofs.alloc.Calls.{handle_tells}
use Rattle.std.proofs.raw_atomic.Walks.{proved_at, leaves}
use Rattle.std.proofs.alloc.Global.TheLaws.{the_row_laws as heap_laws}
use Rattle.std.specs.Prelude.{None}
use Rattle.std.specs.contracts.alloc.Global.{the_row as Heap}
use Rattle.sfbuild_c.specs.Owned.{table_owns}
use Rattle.sfbuild_c.proofs.Apart.{of_type, word, word_fits, pair_in}
use Rattle.sfbuild_c.specs.contracts.held.Held.none as f
use Rattle.sfbuild_c.specs.contracts.held.Held.none.Key.{name as key}
use Rattle.sfbuild_c.proofs.held.Held.none.Statement.{statement}
use Rattle.sfbuild_c.proofs.held.Held.none.Code as code

abbrev stays : Stays f.ended.signature.params f.ended.kept
stays = (stay_dropped (plain (λ _. Heap)) yes, tt)

pub none_spec : {M : Type 1} → statement M
unfolding table_owns
none_spec 𝓤 𝓛 𝓜 𝓡 wired =
    let 𝓣 = tables 𝓤 𝓛.H 𝓜 𝓡 𝓡.env in let c = f.clauses 𝓛 𝓜.mem 𝓡.returns in
    proved_at 𝓛 f.ended stays c 𝓜 𝓡 (Goes-dropped 𝓛 0 (plain (λ _. Heap)) yes (λ κs x w. refl), tt) key code.function (code.unfolded 𝓤 𝓛.H 𝓜 𝓡 wired) (λ y are.
    let a = y.0.3.0 in let post : Val → SProp 𝓤 = (walk_of 𝓛 f.ended stays c).post y in
    qed 𝓛 ((‵ ftrue ⊛ ‵ (owns (types_at f.ended.signature.params y.0.0) y.0.3 y.0.4)) ∷ raw ((c y.0.0 y.0.3).requires y.1) ∷ []) ∵
    split ! $ move ! (1 ∷ []) $ fsplit ! $ handle_tells (of_type Heap heap_laws) ! a y.0.4.0 (λ h handle_is fits.
    -- [the allocator; nothing; nothing; the `requires`]
    regoal ! (λ (us : List Val). prop (WpFn 𝓤 𝓛.H 𝓣.C 𝓣.Λ code.function us post)) (λ i. handle_is i ++ []) refl $
    enter ! 𝓣.C 𝓣.Λ code.function (h ∷ []) post $ alloc_all ! (λ l. pass_all ! refl (fits, tt) $
    sets ! (agg ! (and_then ! (lit ! tt) (and_then ! (get ! refl) (no_more !)))) refl (word_fits Heap heap_laws null_ptr h fits) $
    pair_in Heap heap_laws ! null_ptr a h $ nothing ! $ move ! (1 ∷ 0 ∷ []) $ fjoin ! $
    use0 𝓛 (raw (fact 𝓤 (None ≡ None))) (fact_i 𝓤 (None ≡ None) (emp 𝓤) refl) $ nothing ! $ nothing ! $ fjoin ! $ nothing ! $
    -- [no token; nothing of the parameter; the `ensures`; the result]
    returns ! (look_at ! 0 refl) $ free_all ! refl $ keep ! (0 ∷ 1 ∷ 3 ∷ 2 ∷ []) $
    by ! (leaves 𝓛 f.ended stays c y (word null_ptr h) (record { at = null_ptr; alloc = a; table = None }) (tt, tt) (tt, tt)))))
