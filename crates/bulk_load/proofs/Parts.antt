-- Parts of a stream.
use Rattle.std.proofs.Common.{◌≡◌, ℕ, ◌+◌, List, [], ◌∷◌, ◌++◌, length, drop, sym, ◌∙◌, ap, append_assoc, subst, refl}
use Rattle.std.proofs.lemmas.List.{drop-drop, drop_at, flat_map_more}
use Rattle.std.specs.Prelude.{Bool, true, false, is_some, Option, None, Some, Result, Ok, IfOk}
use Rattle.keybytes.specs.declared.fault.Fault.{Fault}
use Rattle.keybytes.specs.declared.pair.Pair.{Pair}
use Rattle.keybytes.specs.Faults.{first_cause}
use Rattle.bulk_load.specs.Streams.{BatchValue, pairs_of, first_mark, IsPart, IsBeginning}

-- what is left of a source that has given some pairs more
pub next_left : (s : List Pair) (count len : ℕ) (old pairs new : List Pair) → old ≡ drop count s → old ≡ pairs ++ new → len ≡ length pairs → new ≡ drop (count + len) s
next_left s count len old pairs new at gave long = sym (drop_at pairs new len (sym long)) ∙ ap (drop len) (sym gave ∙ at) ∙ drop-drop len count s

pub is_part : (s : List Pair) (count len : ℕ) (old pairs new : List Pair) → old ≡ drop count s → old ≡ pairs ++ new → len ≡ length pairs → IsPart s count (count + len) pairs
is_part s count len old pairs new at gave long = sym at ∙ gave ∙ ap (λ z. pairs ++ z) (next_left s count len old pairs new at gave long)

-- one batch more was put
pub begins_more :
    (s : List Pair) (count end : ℕ) (was sent now : List BatchValue) (batch : BatchValue) (pairs : List Pair) → IsBeginning s was count → sent ≡ was
    → now ≡ sent ++ batch ∷ [] → batch.pairs ≡ pairs → IsPart s count end pairs → IsBeginning s now end
begins_more s count end was sent now batch pairs begins same put is part =
    let f : BatchValue → List Pair = λ b. b.pairs in
    begins
    ∙ ap (λ z. pairs_of was ++ z) part
    ∙ sym (append_assoc (pairs_of was) pairs (drop end s))
    ∙ ap (λ z. (pairs_of was ++ z) ++ drop end s) (sym is)
    ∙ ap (λ z. z ++ drop end s) (flat_map_more f [] was batch)
    ∙ ap (λ z. pairs_of (z ++ batch ∷ []) ++ drop end s) (sym same)
    ∙ ap (λ z. pairs_of z ++ drop end s) (sym put)

-- a sender that is done, and didn't break off, has put all
pub all_put :
    (told : Result Bool Fault) (last done : Bool) (fault : Option Fault) (left rest : List Pair) → (last ≡ true → told ≡ Ok true)
    → (done ≡ true → fault ≡ None → last ≡ true) → IfOk told (λ l. l ≡ true → left ≡ []) → left ≡ rest → done ≡ true → fault ≡ None → rest ≡ []
all_put told last done fault left rest is means none same d f =
    let P : Result Bool Fault → Type 0 = λ t. IfOk t (λ l. l ≡ true → left ≡ []) in
    let told_so : true ≡ true → left ≡ [] = subst P (is (means d f)) none in
    sym same ∙ told_so refl

marked_alone : (fault : Option Fault) → first_cause fault None ≡ fault
marked_alone None = refl
marked_alone (Some fault) = refl

-- a batch that is marked hides what is behind it
not_marked : (fault rest : Option Fault) → first_cause fault rest ≡ None → (fault ≡ None) × (rest ≡ None)
not_marked None rest is = (refl, is)
not_marked (Some fault) rest is = absurd (cc)

-- the first mark of batches of which only the last may have one
pub mark_more : (sent : List BatchValue) (batch : BatchValue) → first_mark sent ≡ None → first_mark (sent ++ batch ∷ []) ≡ batch.fault
mark_more [] batch none = marked_alone batch.fault
mark_more (b ∷ bs) batch none =
    let both = not_marked b.fault (first_mark bs) none in
    ap (λ (o : Option Fault). first_cause o (first_mark (bs ++ batch ∷ []))) both.0 ∙ mark_more bs batch both.1

pub is_none : {X : Type 0} (one : Option X) → is_some one ≡ false → one ≡ None
is_none None none = refl
is_none (Some x) none = absurd (cc)
