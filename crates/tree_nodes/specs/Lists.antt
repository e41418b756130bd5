-- Lists that rise by an order, and what is put into them and taken out.
use Rattle.std.specs.Prelude.{◌≡◌, ℕ, suc, ◌⊎◌, Bool, true, false, cond, not, ◌&&◌, ◌||◌, List, [], ◌∷◌}

-- x is one of the list's
abbrev pub In : {X : Type 0} → X → List X → Type 0
In x [] = ⊥
In x (y ∷ ys) = (x ≡ y) ⊎ In x ys

-- each is below all later ones
abbrev pub IsRising : {X : Type 0} → (X → X → Bool) → List X → Type 0
IsRising lt [] = Unit {0}
IsRising {X} lt (x ∷ xs) = ((y : X) → In y xs → lt x y ≡ true) × IsRising lt xs

-- neither is below the other
abbrev pub same_by : {X : Type 0} → (X → X → Bool) → X → X → Bool
same_by lt x y = not (lt x y) && not (lt y x)

-- whether x is one of the list's
abbrev pub has : {X : Type 0} → (X → X → Bool) → X → List X → Bool
has lt x [] = false
has lt x (y ∷ ys) = same_by lt x y || has lt x ys

-- the list with x in its place, unless it is there
abbrev pub put : {X : Type 0} → (X → X → Bool) → X → List X → List X
put lt x [] = x ∷ []
put lt x (y ∷ ys) = cond (lt x y) (x ∷ y ∷ ys) (y ∷ cond (lt y x) (put lt x ys) ys)

-- the list without x
abbrev pub without : {X : Type 0} → (X → X → Bool) → X → List X → List X
without lt x [] = []
without lt x (y ∷ ys) = cond (same_by lt x y) ys (y ∷ without lt x ys)

-- how many at the front_count pass
abbrev pub front_count : {X : Type 0} → (X → Bool) → List X → ℕ
front_count test [] = 0
front_count test (x ∷ xs) = cond (test x) (suc (front_count test xs)) 0

-- an order in which only equal values tie
pub record IsStrict {X : Type 0} (lt : X → X → Bool) : Type 0 where
  pub not_itself : (a : X) → lt a a ≡ false
  pub onward : (a b c : X) → lt a b ≡ true → lt b c ≡ true → lt a c ≡ true
  pub tied : (a b : X) → lt a b ≡ false → lt b a ≡ false → a ≡ b
