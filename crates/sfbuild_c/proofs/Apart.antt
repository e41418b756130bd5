-- A struct of a pointer and an allocator by value, as a box, a `Bare` and a `Held` are. Assumes `Logic`.
--     word, word_fits     its machine value
--     pair_out, pair_in   what its fields own is what the allocator owns
use Rattle.std.proofs.Common.{◌≡◌, List, [], ◌∷◌, ◌++◌, refl, ◌∙◌}
use mathlib.Core.Bool.{Bool, true, false, ◌&&◌}
use lib.Dec.{T, lit<}
use seplogic.Ra.Ura.{Ura}
use base.Fml.{ftrue}
use mir.Syntax.{impl, tnil, dnil, ty_ptr}
use mir.Val.{Val, vstruct, vcons, vnil, of_list, has_ty, WT}
use types.Logic.{Logic}
use types.Kit.{Item, Goal, Seq, Step, step, ‵, ◌$◌, move, drop, fsplit, fjoin, fpick, fpack, feq_i, feq_l}
use denote.RattleType.{RattleType, Valss}
use denote.Builtin.{RawPtr}
use denote.RawPtr.{Ptr, block_ptr, null_ptr, ptr_val}
use denote.Steps.{nothing}
use denote.Param.{layout}
use denote.Param.Laws.{Laws}
use denote.Struct.Struct.{Shape, Struct, within}
use Rattle.std.proofs.alloc.Calls.{Al, Fits, handle_tells}

-- a type, for `handle_tells`
abbrev pub of_type : (X : RattleType) → Laws X → Al
of_type X laws = record { row = X; laws = laws; g = record { dealloc_token = λ a σ p. ftrue }; d = impl [] tnil dnil; drops = impl [] tnil dnil }

abbrev pub word : Ptr → Val → Val
word p h = vstruct (vcons (ptr_val p) (vcons h vnil))

both : (x y : Bool) → T x → T y → T (x && (y && true))
both true true p q = tt
both true false p q = absurd q
both false y p q = absurd p

pub ptr_fits : (p : Ptr) → T (has_ty ty_ptr (ptr_val p)) × WT (ptr_val p)
ptr_fits (block_ptr b o) = (tt, tt)
ptr_fits null_ptr = (tt, record { fits = lit< tt })

module _ (Z : RattleType) (laws : Laws Z) where
  pub word_fits : (p : Ptr) (h : Val) → Fits (of_type Z laws) h → T (has_ty ty_ptr (ptr_val p) && (has_ty (layout Z) h && true)) × WT (word p h)
  word_fits p h fits = (both (has_ty ty_ptr (ptr_val p)) (has_ty (layout Z) h) (ptr_fits p).0 fits.0, ((ptr_fits p).1, (fits.1, tt)))

  -- what is owned is the same whatever the struct's name
  abbrev pair : Shape
  pair = record { name = []; args = []; types = []; fields = RawPtr ∷ Z ∷ [] }

  module _ {M : Type 1} {𝓤 : Ura M} {𝓛 : Logic 𝓤} {K : Type 0} {Γ : List (Item 𝓤)} {G : Goal 𝓤 𝓛.H} where
    pub pair_out : K → (p : Ptr) (a : Z.Denot) (vs : List Val)
        → ((h : Val) → vs ≡ word p h ∷ [] → Fits (of_type Z laws) h → Seq K 𝓛 (‵ (Z.own_val a (h ∷ [])) ∷ Γ) G)
        → Seq K 𝓛 (‵ ((Struct pair).own_val (p, (a, tt)) vs) ∷ Γ) G
    pair_out t p a vs next =
        fpick t (λ parts. fsplit t $ feq_l t (λ vs_are. fsplit t $ feq_l t (λ at_is. fsplit t $ handle_tells (of_type Z laws) t a parts.1.0 (λ h handle_is fits.
        move t (1 ∷ []) $ drop t $ next h (vs_are ∙ (λ i. vstruct (of_list (at_is i ++ (handle_is i ++ []))) ∷ [])) fits))))

    pub pair_in : K → (p : Ptr) (a : Z.Denot) (h : Val)
        → Step K 𝓛 (‵ ((Struct pair).own_val (p, (a, tt)) (word p h ∷ [])) ∷ Γ) G (‵ (Z.own_val a (h ∷ [])) ∷ Γ) G
    pair_in t p a h = step (λ s.
        nothing t $ move t (1 ∷ 0 ∷ []) $ fjoin t $ feq_i t (List Val) (ptr_val p ∷ []) (ptr_val p ∷ []) refl $ fjoin t $
        feq_i t (List Val) (word p h ∷ []) (word p h ∷ []) refl $ fjoin t $
        fpack t (Valss (RawPtr ∷ Z ∷ [])) (within pair (p, (a, tt)) (word p h ∷ [])) (ptr_val p ∷ [], (h ∷ [], tt)) $ s)
