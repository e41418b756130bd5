-- A list and a queue as their callers see them.
use Rattle.std.specs.Prelude.{ℕ, List, refl}
use Rattle.std.specs.Coded.{Coded, code_by, coded×, coded_ℕ, coded_list}

-- the items in order, and how many more can be put in without memory
pub record ChunkValue (T : Type 0) : Type 0 where
  pub items : List T
  pub room : ℕ

-- such a value is stored as the pair of its fields
abbrev pub chunk_code : {T : Type 0} → Coded T → Coded (ChunkValue T)
chunk_code {T} code =
    code_by (List T × ℕ) (coded× (coded_list code) coded_ℕ) (λ v. (v.items, v.room)) (λ p. record { items = p.0; room = p.1 }) (λ _. refl)
