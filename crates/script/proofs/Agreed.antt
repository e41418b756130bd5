-- A text spells one script or has one first bad record, and not both.
use Rattle.std.proofs.Common.{◌≡◌, ℕ, ◌<◌, List, [], ◌∷◌, ◌++◌, length, arith, refl, subst, sym, ◌∙◌}
use Rattle.std.specs.List.{AllZip}
use Rattle.std.proofs.lemmas.List.{append-nil, append_assoc}
use Rattle.std.proofs.lemmas.Slice.Zip.{AllZip-long}
use Rattle.script.specs.Grammars.{AreInOrder, Grammar, IsBadBehind, IsClear, IsFirstBadIn, MayFollow, MayStand, RecordSpells, SpellLines, SpellsAll, names}
use Rattle.script.proofs.Zips.{zip_split}

-- of two ways to part one list, the longer first part has what stands first behind the shorter one
parted : (some more others rest : List (List (List ℕ))) → some ++ more ≡ others ++ rest → length some < length others
    → (fields : List (List ℕ)) × (left : List (List (List ℕ))) × (others ≡ some ++ fields ∷ left) × (more ≡ fields ∷ (left ++ rest))
parted some more [] rest same shorter = absurd (omega arith)
parted [] more (f ∷ fs) rest same shorter = (f, fs, refl, same)
parted (r ∷ rs) more (f ∷ fs) rest same shorter =
    let first : r ≡ f = cc in
    let tail : rs ++ more ≡ fs ++ rest = cc in
    let found = parted rs more fs rest tail (omega arith) in
    let whole : f ∷ fs ≡ r ∷ (rs ++ found.0 ∷ found.1) = cc (first, found.2) in
    (found.0, found.1, whole, found.3)

module _ {Name Line : Type 0} (grammar : Grammar Name Line) where
  -- a line among lines in order may stand where it does
  stands_there : (before lines more : List Line) (line : Line) → AreInOrder grammar before (lines ++ line ∷ more) → MayStand grammar (before ++ lines) line
  stands_there before [] more line ordered = rw append-nil ordered.0
  stands_there before (first ∷ lines) more line ordered =
      let there = stands_there (before ++ first ∷ []) lines more line ordered.1 in
      rw append_assoc at there

  module _ (clear : IsClear grammar) where
    -- lines that the same records spell have the same names
    names_alike : (records : List (List (List ℕ))) (some others : List Line) → AllZip (RecordSpells grammar) records some
        → AllZip (RecordSpells grammar) records others → names grammar some ≡ names grammar others
    names_alike [] [] [] spelled also = refl
    names_alike [] [] (y ∷ ys) spelled also = absurd also
    names_alike [] (x ∷ xs) others spelled also = absurd spelled
    names_alike (r ∷ rs) [] others spelled also = absurd spelled
    names_alike (r ∷ rs) (x ∷ xs) [] spelled also = absurd also
    names_alike (r ∷ rs) (x ∷ xs) (y ∷ ys) spelled also =
        let first = clear.one_name r x y spelled.0.1 also.0.1 in
        rw (first, names_alike rs xs ys spelled.1 also.1) refl

    -- a record among good ones is good behind any lines that those before it spell
    behind_first : (before : List (List (List ℕ))) (fields : List (List ℕ)) (rest : List (List (List ℕ))) (lines some others : List Line)
        → AllZip (RecordSpells grammar) before lines → AllZip (RecordSpells grammar) before some
        → AllZip (RecordSpells grammar) (fields ∷ rest) others → AreInOrder grammar [] (some ++ others)
        → (line : Line) × RecordSpells grammar fields line × MayStand grammar lines line
    behind_first before fields rest lines some [] spelled first more ordered = absurd more
    behind_first before fields rest lines some (x ∷ xs) spelled first more ordered =
        let there = stands_there [] some xs x ordered in
        let same = names_alike before some lines first spelled in
        (x, more.0, subst (λ (named : List Name). MayFollow grammar named (grammar.name_of x)) same there)

    good_behind : (before : List (List (List ℕ))) (fields : List (List ℕ)) (rest : List (List (List ℕ))) (lines all : List Line)
        → AllZip (RecordSpells grammar) before lines → SpellLines grammar (before ++ fields ∷ rest) all
        → (line : Line) × RecordSpells grammar fields line × MayStand grammar lines line
    good_behind before fields rest lines all spelled each =
        let parts = zip_split (RecordSpells grammar) before (fields ∷ rest) all each.0 in
        behind_first before fields rest lines parts.0 parts.1 spelled parts.3 parts.4 (subst (AreInOrder grammar []) parts.2 each.1)

    -- a text that spells a script has no bad record
    not_bad : (lines : List Line) (before behind : List (List (List ℕ))) (all : List Line) → AllZip (RecordSpells grammar) before lines
        → SpellLines grammar (before ++ behind) all → grammar.are_whole (names grammar all) → IsBadBehind grammar lines behind → ⊥
    not_bad lines before [] all spelled each whole bad =
        let same = subst (λ (records : List (List (List ℕ))). AllZip (RecordSpells grammar) records all) (append-nil before) each.0 in
        bad (subst grammar.are_whole (names_alike before all lines same spelled) whole)
    not_bad lines before (fields ∷ rest) all spelled each whole bad =
        let good = good_behind before fields rest lines all spelled each in
        bad good.0 good.1 good.2

    pub script_or_bad : {Script : Type 0} (Gives : List Line → Script → Type 0) (text : List ℕ) (script : Script) (number : ℕ)
        → SpellsAll grammar Gives text script → IsFirstBadIn grammar text number → ⊥
    script_or_bad Gives text script number spells bad =
        not_bad bad.0 bad.2.before bad.1 spells.0 bad.2.spelled.0 (rw bad.2.split at spells.1) spells.2 bad.3

    -- no record before the first bad one is bad
    not_before : (text : List ℕ) (one other : ℕ) (first : IsFirstBadIn grammar text one) (also : IsFirstBadIn grammar text other)
        → length first.2.before < length also.2.before → ⊥
    not_before text one other first also shorter =
        let part = parted first.2.before first.1 also.2.before also.1 (sym first.2.split ∙ also.2.split) shorter in
        let good = good_behind first.2.before part.0 part.1 first.0 also.0 first.2.spelled.0 (rw part.2 at also.2.spelled) in
        (rw part.3 at first.3) good.0 good.1 good.2

    pub one_first : (text : List ℕ) (one other : ℕ) → IsFirstBadIn grammar text one → IsFirstBadIn grammar text other → other ≡ one
    one_first text one other first also =
        let shorter = not_before text one other first also in
        let longer = not_before text other one also first in
        let one_long = AllZip-long (RecordSpells grammar) first.2.before first.0 first.2.spelled.0 in
        let other_long = AllZip-long (RecordSpells grammar) also.2.before also.0 also.2.spelled.0 in
        let one_is = first.2.numbered in
        let other_is = also.2.numbered in
        omega (arith, shorter, longer)
