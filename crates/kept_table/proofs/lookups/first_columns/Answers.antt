use Rattle.std.proofs.Common.{◌≡◌, ◌&&◌, Bool, true, length, take, nat_le, ℕ, refl, sym, subst, ◌∙◌, List}
use Rattle.std.proofs.lemmas.Bool.{false≢true}
use Rattle.keybytes.specs.Keys.{are_key_columns}
use Rattle.keybytes.specs.declared.key_col.KeyCol.{KeyCol}
use Rattle.kept_table.proofs.FirstColumns.{AreSoMany, other_table, no_refusal, first_make_key}
use Rattle.kept_table.proofs.lookups.first_columns.Goals as goal

-- what the test of all columns told holds of the specification's
so_many :
    (count : ℕ) (all columns : List KeyCol) (told : Bool)
    → all ≡ columns → told ≡ (nat_le 1 count && nat_le count (length all)) → told ≡ true → AreSoMany count columns
so_many count all columns told same test passed = subst (AreSoMany count) same (sym test ∙ passed)

pub returns-then-not-is_of-clause-refused : goal.returns-then-not-is_of-clause-refused
returns-then-not-is_of-clause-refused c =
    let front = so_many c.args.count _ _ _ c.columns-all.ensures.columns c.has_so_many.ensures c.if-not-has_so_many.false in
    other_table c.args.schema.now c.args.count c.args.spec.now front (λ same. false≢true (c.if-not-is_of.ensures.1 same))

pub returns-clause-key : goal.returns-clause-key
returns-clause-key c =
    let front = so_many c.args.count _ _ _ c.columns-all.ensures.columns c.has_so_many.ensures c.if-not-has_so_many.false in
    subst (λ (columns : List KeyCol). are_key_columns c.args.schema.now (take c.args.count columns) ≡ true) (sym c.columns-all.ensures.columns)
    (first_make_key c.args.schema.now c.args.count c.args.spec.now front (c.if-not-is_of.ensures.0 refl) c.columns-all.ensures.key)

pub returns-clause-accepted : goal.returns-clause-accepted
returns-clause-accepted c =
    let front = so_many c.args.count _ _ _ c.columns-all.ensures.columns c.has_so_many.ensures c.if-not-has_so_many.false in
    no_refusal c.args.schema.now c.args.count c.args.spec.now front (c.if-not-is_of.ensures.0 refl)
