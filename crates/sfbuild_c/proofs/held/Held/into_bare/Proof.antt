-- `into_bare` finds again what the pointer is to.
use Rattle.std.proofs.Common.{◌≡◌, List, [], ◌∷◌, ◌++◌, refl}
use mathlib.Core.Bool.{false≢true}
use mir.Val.{Val}
use seplogic.Ra.Ura.{Ura}
use base.Logic.{SProp, emp}
use base.Fml.{ftrue}
use prog.Wp.{WpFn}
use types.Logic.{Logic}
use types.Kit.{Item, Goal, Seq, ‵, raw, prop, ◌⊛◌, ◌$◌, ◌∵◌, !, qed, by, move, keep, split, fsplit, fjoin, regoal, use0}
use types.Run.{stop, fld, of_opd, no_more, and_then, returns, enter}
use types.ByLocal.{alloc_all, pass_all, free_all, look_at, get, get_in, sets}
use types.Part.{agg, sub, whole}
use contract.Monad.{fact, fact_i}
use contract.Running.{tables}
use denote.Exit.{yes}
use denote.RattleType.{owns}
use denote.RawPtr.{Ptr}
use denote.Signature.{types_at, plain}
use denote.Steps.{nothing, heard}
use denote.Triple.Walked.{Stays, stay_dropped, walk_of}
use Rattle.std.proofs.alloc.Calls.{Goes-blank}
use Rattle.std.proofs.raw_atomic.Walks.{proved_at, leaves}
use Rattle.std.proofs.alloc.Global.TheLaws.{the_row_laws as heap_laws}
use Rattle.std.specs.Box.Ownership.{box_owns}
use Rattle.std.specs.Prelude.{Option, Some, None, is_some, true}
use Rattle.std.specs.contracts.alloc.Global.{the_row as Heap}
use Rattle.std.specs.contracts.impls.GlobalAllocator.TheImpl.{ghosts}
use Rattle.kept_table.specs.contracts.kept.Kept.{the_row as Kept}
use Rattle.sfbuild_c.specs.Owned.{table_owns}
use Rattle.sfbuild_c.proofs.Apart.{ptr_fits, word, word_fits, pair_out, pair_in}
use Rattle.sfbuild_c.specs.contracts.held.Held as held
use Rattle.sfbuild_c.specs.contracts.held.Held.into_bare as f
use Rattle.sfbuild_c.specs.contracts.held.Held.into_bare.Key.{name as key}
use Rattle.sfbuild_c.proofs.held.Held.into_bare.Statement.{statement}
use Rattle.sfbuild_c.proofs.held.Held.into_bare.Code as code

abbrev stays : Stays f.ended.signature.params f.ended.kept
stays = (stay_dropped (plain (λ _. held.the_row)) yes, tt)

-- where there is a table, its box is owned
module _ {M : Type 1} {𝓤 : Ura M} {𝓛 : Logic 𝓤} {K : Type 0} {Γ : List (Item 𝓤)} {G : Goal 𝓤 𝓛.H} where
  owns_box : K → (a : Heap.Denot) (p : Ptr) (table : Option Kept.Denot) → is_some table ≡ true
      → ((x : Kept.Denot) → table ≡ Some x → Seq K 𝓛 (‵ (box_owns (ghosts.dealloc_token a) Kept p x) ∷ Γ) G) → Seq K 𝓛 (‵ (table_owns a p table) ∷ Γ) G
  unfolding table_owns
  owns_box t a p (Some x) some next = next x refl
  owns_box t a p None some next = absurd (false≢true some)

pub into_bare_spec : {M : Type 1} → statement M
into_bare_spec 𝓤 𝓛 𝓜 𝓡 wired =
    let 𝓣 = tables 𝓤 𝓛.H 𝓜 𝓡 𝓡.env in let c = f.clauses 𝓛 𝓜.mem 𝓡.returns in
    proved_at 𝓛 f.ended stays c 𝓜 𝓡 (Goes-blank 𝓛 0 (plain (λ _. held.the_row)) yes (λ κs x w. tt), tt) key code.function (code.unfolded 𝓤 𝓛.H 𝓜 𝓡 wired) (λ y are.
    let b = y.0.3.0 in let p : Ptr = b.at in let post : Val → SProp 𝓤 = (walk_of 𝓛 f.ended stays c).post y in
    qed 𝓛 ((‵ ftrue ⊛ ‵ (owns (types_at f.ended.signature.params y.0.0) y.0.3 y.0.4)) ∷ raw (fact 𝓤 (is_some b.table ≡ true)) ∷ []) ∵
    move ! (1 ∷ []) $ heard ! (is_some b.table ≡ true) (λ some.
    split ! $ move ! (1 ∷ []) $ fsplit ! $ fsplit ! $ pair_out Heap heap_laws ! p b.alloc y.0.4.0 (λ h held_is fits.
    move ! (1 ∷ []) $ owns_box ! b.alloc p b.table some (λ x is. move ! (1 ∷ []) $
    -- [the allocator; the box; ..]
    let good = word_fits Heap heap_laws p h fits in
    regoal ! (λ (us : List Val). prop (WpFn 𝓤 𝓛.H 𝓣.C 𝓣.Λ code.function us post)) (λ i. held_is i ++ []) refl $
    enter ! 𝓣.C 𝓣.Λ code.function (word p h ∷ []) post $ alloc_all ! (λ l. pass_all ! refl (good, tt) $
    sets ! (of_opd ! (get_in ! (fld ! refl (stop !)) (sub ! 0 refl (whole !)))) refl (ptr_fits p) $
    sets ! (of_opd ! (get_in ! (fld ! refl (stop !)) (sub ! 1 refl (whole !)))) refl fits $
    sets ! (of_opd ! (get ! refl)) refl (ptr_fits p) $ sets ! (agg ! (and_then ! (get ! refl) (and_then ! (get ! refl) (no_more !)))) refl good $
    pair_in Heap heap_laws ! p b.alloc h $ fjoin ! $
    use0 𝓛 (raw (fact 𝓤 (b.table ≡ Some x))) (fact_i 𝓤 (b.table ≡ Some x) (emp 𝓤) is) $ nothing ! $ nothing ! $ fjoin ! $ nothing ! $
    -- [no token; nothing of the parameter; the `ensures`; the result]
    returns ! (look_at ! 0 refl) $ free_all ! refl $ keep ! (0 ∷ 1 ∷ 3 ∷ 2 ∷ []) $
    by ! (leaves 𝓛 f.ended stays c y (word p h) (record { at = p; alloc = b.alloc; value = x }) (tt, tt) (tt, tt)))))))
