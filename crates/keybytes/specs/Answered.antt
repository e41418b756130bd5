-- What a call that may be refused answers and leaves.
use Rattle.std.specs.Prelude.{◌≡◌, ◌⊎◌, Option, Some, None, Result, Ok, Err}
use Rattle.keybytes.specs.declared.fault.Fault.{Fault}
use Rattle.keybytes.specs.declared.fault.Fault.TheVariants.{Memory}

-- a refusal: its cause, and nothing changes; or want of memory, where it has no cause
abbrev pub Refused : {S : Type 0} → Option Fault → (S → S → Type 0) → S → Fault → S → Type 0
Refused cause InWant old fault new = ((cause ≡ Some fault) × (new ≡ old)) ⊎ ((cause ≡ None) × (fault ≡ Memory) × InWant old new)

-- a call with that first cause of refusal, if any: it does what it is for, or is refused; want of memory then leaves that
abbrev pub AnsweredInWant : {S R : Type 0} → Option Fault → (S → S → Type 0) → (S → R → S → Type 0) → S → Result R Fault → S → Type 0
AnsweredInWant cause InWant Does old (Ok reply) new = (cause ≡ None) × Does old reply new
AnsweredInWant cause InWant Does old (Err fault) new = Refused cause InWant old fault new

-- the same of a call that want of memory leaves as it was
abbrev pub Answered : {S R : Type 0} → Option Fault → (S → R → S → Type 0) → S → Result R Fault → S → Type 0
Answered cause Does old answer new = AnsweredInWant cause (λ before after. after ≡ before) Does old answer new
