-- A fan that is inserted into.
use Rattle.std.proofs.Common.{◌≡◌, ℕ, suc, ◌+◌, ◌-◌, ◌<◌, ◌≤◌, List, [], ◌∷◌, ◌++◌, length, get_or, take, drop, refl, sym, ap, ◌∙◌, subst, arith, drop-cons}
use Rattle.std.specs.List.{insert}
use Rattle.std.proofs.lemmas.List.{take-append-drop, length-take}
use Rattle.std.proofs.lemmas.List.Edits.{insert_end}
use Rattle.keybytes.specs.declared.pair.Pair.{Pair}
use Rattle.tree_nodes.specs.declared.fan.Fan.{Fan}
use Rattle.tree_nodes.specs.Lists.{IsRising}
use Rattle.btree.specs.Marks.{Mark, Between, mark_before}
use Rattle.btree.specs.Seen.{Seen}
use Rattle.tree_nodes.specs.Fans.{children_of, separators_of, IsFan, IsBlankFan}
use Rattle.btree.specs.Weave.{weave, height_of, AllAt}
use Rattle.btree.specs.Nodes.{IsFanned}
use Rattle.btree.specs.Splits.{AllBlank}
use Rattle.tree_nodes.proofs.Rising.{rising_parts}
use Rattle.btree.proofs.Weaves.{weave-append, weave-lower, weave-upper}
use Rattle.btree.proofs.FanFacts.{AllAt-insert, AllAt-take, AllAt-drop, height_of-all}

-- a sound fan of these children, which rise
pub record Made (fan : Fan Seen) (h : ℕ) : Type 0 where
  pub kept : IsFanned fan
  pub height : height_of (children_of fan) ≡ h

pub made :
    (fan : Fan Seen) (cs : List Seen) (ss : List Pair) (h : ℕ) → IsFan fan → (children_of fan) ≡ cs → (separators_of fan) ≡ ss
    → IsRising mark_before (weave cs ss) → AllAt h cs → Made fan h
made fan cs ss h sound a b rise all =
    let P : List Seen → Type 0 = λ v. AllAt h v in
    let level : AllAt h (children_of fan) = subst P (sym a) all in
    let top : height_of (children_of fan) ≡ h = height_of-all h (children_of fan) level sound.some in
    let Q : ℕ → Type 0 = λ n. AllAt n (children_of fan) in
    let R : List Mark → Type 0 = λ ms. IsRising mark_before ms in
    let e : weave (children_of fan) (separators_of fan) ≡ weave cs ss = ap (λ (v : List Seen). weave v (separators_of fan)) a
    ∙ ap (λ (v : List Pair). weave cs v) b in
    record {
      kept = record { sound = sound; rising = subst R (sym e) rise; level = subst Q (sym top) level };
      height = top;
    }

-- what the halves of a full fan hold, with one more child in one of them
pub record Halves (cs : List Seen) (ss : List Pair) (i : ℕ) (n : Seen) (s : Pair) (fan other : Fan Seen) (between : Pair) : Type 0 where
  pub left : Made fan n.height
  pub right : Made other n.height
  pub marks : weave (children_of fan) (separators_of fan) ++ Between between ∷ weave (children_of other) (separators_of other)
      ≡ weave (insert cs (i + 1) n) (insert ss i s)

-- the parts of the separators around the one at k
parted : (k : ℕ) (ss : List Pair) (m : Pair) → k < length ss → m ≡ get_or ss k m → ss ≡ take k ss ++ m ∷ drop (suc k) ss
parted k ss m h e = sym (take-append-drop k ss) ∙ ap (λ (v : List Pair). take k ss ++ v) (drop-cons ss k m h ∙ ap (λ (t : Pair). t ∷ drop (suc k) ss) (sym e))

pub halves_lower : (cs : List Seen) (ss : List Pair) (i : ℕ) (n : Seen) (s : Pair) (fan right : Fan Seen) (between : Pair)
    → length cs ≡ 32 → length ss + 1 ≡ length cs → i < 16 → AllAt n.height cs → IsRising mark_before (weave (insert cs (i + 1) n) (insert ss i s))
    → IsFan fan → IsFan right → between ≡ get_or ss 15 between
    → (children_of fan) ≡ insert (take 16 cs) (i + 1) n → (separators_of fan) ≡ insert (take 15 ss) i s
    → (children_of right) ≡ drop 16 cs → (separators_of right) ≡ drop 16 ss
    → Halves cs ss i n s fan right between
halves_lower cs ss i n s fan right between full e h all rise sound1 sound2 at a b c d =
    let lo = take 16 cs in
    let hi = drop 16 cs in
    let sl = take 15 ss in
    let sh = drop 16 ss in
    let len_lo : length lo ≡ 16 = omega (arith, length-take 16 cs, full) in
    let len_sl : length sl ≡ 15 = omega (arith, length-take 15 ss, full, e) in
    let one : i + 1 ≡ suc i = omega arith in
    let cs_is : cs ≡ lo ++ hi = sym (take-append-drop 16 cs) in
    let ss_is : ss ≡ sl ++ between ∷ sh = parted 15 ss between (omega (arith, full, e)) at in
    let whole : weave (insert cs (i + 1) n) (insert ss i s) ≡ weave (insert lo (i + 1) n) (insert sl i s) ++ Between between ∷ weave hi sh =
    ap (λ (u : List Seen). weave (insert u (i + 1) n) (insert ss i s)) cs_is
    ∙ ap (λ (v : List Pair). weave (insert (lo ++ hi) (i + 1) n) (insert v i s)) ss_is
    ∙ ap (λ (k : ℕ). weave (insert (lo ++ hi) k n) (insert (sl ++ between ∷ sh) i s)) one
    ∙ weave-lower lo hi sl between sh i n s (omega (arith, len_lo, len_sl)) (omega (arith, len_lo))
    ∙ ap (λ (k : ℕ). weave (insert lo k n) (insert sl i s) ++ Between between ∷ weave hi sh) (sym one) in
    let R : List Mark → Type 0 = λ ms. IsRising mark_before ms in
    let j = rising_parts mark_before (weave (insert lo (i + 1) n) (insert sl i s)) (Between between ∷ weave hi sh) (subst R whole rise) in
    let left = made fan (insert lo (i + 1) n) (insert sl i s) n.height sound1 a b j.left
    (AllAt-insert n.height (i + 1) lo n (AllAt-take n.height 16 cs all) refl) in
    record {
      left = left;
      right = made right hi sh n.height sound2 c d j.right.1 (AllAt-drop n.height 16 cs all);
      marks =
          ap (λ (u : List Seen). weave u (separators_of fan) ++ Between between ∷ weave (children_of right) (separators_of right)) a
          ∙ ap (λ (v : List Pair). weave (insert lo (i + 1) n) v ++ Between between ∷ weave (children_of right) (separators_of right)) b
          ∙ ap (λ (u : List Seen). weave (insert lo (i + 1) n) (insert sl i s) ++ Between between ∷ weave u (separators_of right)) c
          ∙ ap (λ (v : List Pair). weave (insert lo (i + 1) n) (insert sl i s) ++ Between between ∷ weave hi v) d
          ∙ sym whole;
    }

pub halves_upper : (cs : List Seen) (ss : List Pair) (i : ℕ) (n : Seen) (s : Pair) (fan right : Fan Seen) (between : Pair)
    → length cs ≡ 32 → length ss + 1 ≡ length cs → 16 ≤ i → AllAt n.height cs → IsRising mark_before (weave (insert cs (i + 1) n) (insert ss i s))
    → IsFan fan → IsFan right → between ≡ get_or ss 15 between
    → (children_of fan) ≡ take 16 cs → (separators_of fan) ≡ take 15 ss
    → (children_of right) ≡ insert (drop 16 cs) (i - 16 + 1) n → (separators_of right) ≡ insert (drop 16 ss) (i - 16) s
    → Halves cs ss i n s fan right between
halves_upper cs ss i n s fan right between full e h all rise sound1 sound2 at a b c d =
    let lo = take 16 cs in
    let hi = drop 16 cs in
    let sl = take 15 ss in
    let sh = drop 16 ss in
    let k = i - 16 in
    let len_lo : length lo ≡ 16 = omega (arith, length-take 16 cs, full) in
    let len_sl : length sl ≡ 15 = omega (arith, length-take 15 ss, full, e) in
    let one : k + 1 ≡ suc k = omega arith in
    let from_lo : i ≡ length lo + k = omega (arith, len_lo) in
    let from_lo1 : i + 1 ≡ length lo + suc k = omega (arith, len_lo) in
    let cs_is : cs ≡ lo ++ hi = sym (take-append-drop 16 cs) in
    let ss_is : ss ≡ sl ++ between ∷ sh = parted 15 ss between (omega (arith, full, e)) at in
    let whole : weave (insert cs (i + 1) n) (insert ss i s) ≡ weave lo sl ++ Between between ∷ weave (insert hi (k + 1) n) (insert sh k s) =
    ap (λ (u : List Seen). weave (insert u (i + 1) n) (insert ss i s)) cs_is
    ∙ ap (λ (v : List Pair). weave (insert (lo ++ hi) (i + 1) n) (insert v i s)) ss_is
    ∙ ap (λ (m : ℕ). weave (insert (lo ++ hi) m n) (insert (sl ++ between ∷ sh) i s)) from_lo1
    ∙ ap (λ (m : ℕ). weave (insert (lo ++ hi) (length lo + suc k) n) (insert (sl ++ between ∷ sh) m s)) from_lo
    ∙ weave-upper lo hi sl between sh k n s (omega (arith, len_lo, len_sl))
    ∙ ap (λ (m : ℕ). weave lo sl ++ Between between ∷ weave (insert hi m n) (insert sh k s)) (sym one) in
    let R : List Mark → Type 0 = λ ms. IsRising mark_before ms in
    let j = rising_parts mark_before (weave lo sl) (Between between ∷ weave (insert hi (k + 1) n) (insert sh k s)) (subst R whole rise) in
    record {
      left = made fan lo sl n.height sound1 a b j.left (AllAt-take n.height 16 cs all);
      right = made right (insert hi (k + 1) n) (insert sh k s) n.height sound2 c d j.right.1
          (AllAt-insert n.height (k + 1) hi n (AllAt-drop n.height 16 cs all) refl);
      marks =
          ap (λ (u : List Seen). weave u (separators_of fan) ++ Between between ∷ weave (children_of right) (separators_of right)) a
          ∙ ap (λ (v : List Pair). weave lo v ++ Between between ∷ weave (children_of right) (separators_of right)) b
          ∙ ap (λ (u : List Seen). weave lo sl ++ Between between ∷ weave u (separators_of right)) c
          ∙ ap (λ (v : List Pair). weave lo sl ++ Between between ∷ weave (insert hi (k + 1) n) v) d
          ∙ sym whole;
    }

-- the child belongs behind all others, and starts a fan of its own
pub halves_end : (cs : List Seen) (ss : List Pair) (i : ℕ) (n : Seen) (s : Pair) (fan right : Fan Seen)
    → length cs ≡ 32 → length ss + 1 ≡ length cs → i ≡ 31 → AllAt n.height cs → IsRising mark_before (weave (insert cs (i + 1) n) (insert ss i s))
    → IsFan fan → IsFan right → (children_of fan) ≡ cs → (separators_of fan) ≡ ss → (children_of right) ≡ n ∷ [] → (separators_of right) ≡ []
    → Halves cs ss i n s fan right s
halves_end cs ss i n s fan right full e place all rise sound1 sound2 a b c d =
    let last : i + 1 ≡ length cs = omega (arith, full, place) in
    let last_s : i ≡ length ss = omega (arith, full, e, place) in
    let whole : weave (insert cs (i + 1) n) (insert ss i s) ≡ weave cs ss ++ Between s ∷ weave (n ∷ []) [] =
    ap (λ (k : ℕ). weave (insert cs k n) (insert ss i s)) last
    ∙ ap (λ (u : List Seen). weave u (insert ss i s)) (insert_end cs n)
    ∙ ap (λ (k : ℕ). weave (cs ++ n ∷ []) (insert ss k s)) last_s
    ∙ ap (λ (v : List Pair). weave (cs ++ n ∷ []) v) (insert_end ss s)
    ∙ weave-append cs (n ∷ []) ss s [] e in
    let R : List Mark → Type 0 = λ ms. IsRising mark_before ms in
    let j = rising_parts mark_before (weave cs ss) (Between s ∷ weave (n ∷ []) []) (subst R whole rise) in
    record {
      left = made fan cs ss n.height sound1 a b j.left all;
      right = made right (n ∷ []) [] n.height sound2 c d j.right.1 (refl, tt);
      marks =
          ap (λ (u : List Seen). weave u (separators_of fan) ++ Between s ∷ weave (children_of right) (separators_of right)) a
          ∙ ap (λ (v : List Pair). weave cs v ++ Between s ∷ weave (children_of right) (separators_of right)) b
          ∙ ap (λ (u : List Seen). weave cs ss ++ Between s ∷ weave u (separators_of right)) c
          ∙ ap (λ (v : List Pair). weave cs ss ++ Between s ∷ weave (n ∷ []) v) d
          ∙ sym whole;
    }

go : (new : List (Fan Seen)) (last : Fan Seen) → AllBlank (new ++ last ∷ []) → IsBlankFan last × AllBlank new
go [] last all = (all.0, tt)
go (fan ∷ new) last all = let rest = go new last all.1 in (rest.0, (all.0, rest.1))

-- the last of the blank fans
pub blank_last : (fans new : List (Fan Seen)) (last : Fan Seen) → AllBlank fans → fans ≡ new ++ last ∷ [] → IsBlankFan last × AllBlank new
blank_last fans new last all e =
    let P : List (Fan Seen) → Type 0 = λ v. AllBlank v in
    go new last (subst P e all)
