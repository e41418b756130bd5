-- A list whose end is moved to another one, the last value first.
use Rattle.std.proofs.Common.{◌≡◌, List, [], ◌∷◌, ◌++◌, reverse, ap, sym, ◌∙◌}
use Rattle.std.proofs.lemmas.List.{append_assoc, reverse-append}

-- one more is moved
pub moved_one : {X : Type 0} (whole from left into more : List X) (x : X) → from ≡ left ++ x ∷ [] → more ≡ into ++ x ∷ [] → from ++ reverse into ≡ whole → left ++ reverse more ≡ whole
moved_one whole from left into more x last next joined =
    let turned : reverse more ≡ x ∷ reverse into = ap reverse next ∙ reverse-append into (x ∷ []) in
    ap (λ xs. left ++ xs) turned ∙ (sym (append_assoc left (x ∷ []) (reverse into)) ∙ (ap (λ xs. xs ++ reverse into) (sym last) ∙ joined))
