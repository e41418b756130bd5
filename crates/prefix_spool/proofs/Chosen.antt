-- Spools made one after the other.
use Rattle.std.proofs.Common.{◌≡◌, ℕ, suc, List, [], ◌∷◌, ◌++◌, length, map, sym, ap, ◌∙◌, arith, append_assoc, length-append}
use Rattle.std.proofs.lemmas.List.{map-append}
use Rattle.spool_ledger.specs.Accounts.{AccountValue}
use Rattle.run_spool.specs.PagedSpools.{PagedSpoolValue, new_spool}
use Rattle.run_spool.specs.Choices.{kind_at, kinds_from}
use Rattle.run_spool.specs.declared.choice.SpoolChoice.{SpoolChoice}
use Rattle.spool_ledger.specs.declared.kind.SpoolKind.{SpoolKind}
use Rattle.prefix_spool.specs.declared.either.SpoolOfKind.{SpoolOfKind}
use Rattle.prefix_spool.specs.Kinds.{inside, kind_of}

-- one spool more is made over the next account
pub made_more : (spools now : List SpoolOfKind) (all : List PagedSpoolValue) (left rest : List AccountValue) (account : AccountValue) (spool : SpoolOfKind)
    → map inside spools ++ map new_spool left ≡ all → left ≡ account ∷ rest → inside spool ≡ new_spool account → now ≡ spools ++ spool ∷ []
    → map inside now ++ map new_spool rest ≡ all
made_more spools now all left rest account spool before first made added =
    ap (λ (xs : List SpoolOfKind). map inside xs ++ map new_spool rest) added
    ∙ ap (λ (xs : List PagedSpoolValue). xs ++ map new_spool rest) (map-append inside spools (spool ∷ []))
    ∙ append_assoc (map inside spools) (inside spool ∷ []) (map new_spool rest)
    ∙ ap (λ (one : PagedSpoolValue). map inside spools ++ one ∷ map new_spool rest) made
    ∙ ap (λ (xs : List AccountValue). map inside spools ++ map new_spool xs) (sym first)
    ∙ before

-- and is of the next kind
pub kind_more : (choice : SpoolChoice) (spools now : List SpoolOfKind) (all : List SpoolKind) (left rest : List AccountValue) (account : AccountValue)
    (spool : SpoolOfKind) (at : ℕ) → map kind_of spools ++ kinds_from choice (length spools) (length left) ≡ all → left ≡ account ∷ rest → at ≡ length spools
    → kind_of spool ≡ kind_at choice at → now ≡ spools ++ spool ∷ [] → map kind_of now ++ kinds_from choice (length now) (length rest) ≡ all
kind_more choice spools now all left rest account spool at before first number is added =
    let longer : length now ≡ suc (length spools) = ap length added ∙ length-append spools (spool ∷ []) ∙ omega arith in
    ap (λ (n : ℕ). map kind_of now ++ kinds_from choice n (length rest)) longer
    ∙ ap (λ (xs : List SpoolOfKind). map kind_of xs ++ kinds_from choice (suc (length spools)) (length rest)) added
    ∙ ap (λ (xs : List SpoolKind). xs ++ kinds_from choice (suc (length spools)) (length rest)) (map-append kind_of spools (spool ∷ []))
    ∙ append_assoc (map kind_of spools) (kind_of spool ∷ []) (kinds_from choice (suc (length spools)) (length rest))
    ∙ ap (λ (one : SpoolKind). map kind_of spools ++ one ∷ kinds_from choice (suc (length spools)) (length rest))
    (is ∙ ap (kind_at choice) number)
    ∙ ap (λ (xs : List AccountValue). map kind_of spools ++ kinds_from choice (length spools) (length xs)) (sym first)
    ∙ before
