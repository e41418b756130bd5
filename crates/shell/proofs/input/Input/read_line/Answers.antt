use Rattle.std.proofs.Common.{◌≡◌, arith, ap, sym, subst, Option, List, ℕ, ◌∙◌}
use Rattle.std.specs.Prelude.{IsSome}
use Rattle.shell.specs.Inputs.{InputValue}
use Rattle.shell.proofs.Given.{gives_line, read_out, stay_known}
use Rattle.shell.proofs.input.Input.read_line.Goals as goal

pub returns-clause-read : goal.returns-clause-read
returns-clause-read g c = λ _.
    let same = c.self.view_is ∙ c.show_prompt.ensures in
    gives_line c.args.self.now _ c.read_until.new.buf.items c.requires
    (ap (λ (v : InputValue). v.given) same)
    (λ none.
    let long = c.in_ok-read_until.ensures.ok in
    let cleared = c.clear.ensures.len in
    let whole = c.read_until.new.buf.ok.0 in
    let zero : c.in_ok-read_until.field-0 ≡ 0 = omega arith in
    c.if-branch-eq0.false zero)
    (λ left is.
    let known = ap (λ (v : InputValue). v.bytes) same ∙ is in
    (rw (known, c.clear.ensures.items) at c.in_ok-read_until.ensures.bytes, rw known at c.in_ok-read_until.ensures.rest))
    (rw (c.from.ensures.0, ← c.as_slice.ensures.value) c.in_ok-told.ensures.told)

pub returns-clause-known : goal.returns-clause-known
returns-clause-known g c = λ some.
    let here = ap (λ (v : InputValue). v.bytes) (c.self.view_is ∙ c.show_prompt.ensures) in
    stay_known _ _ c.in_ok-read_until.ensures.rest (subst (λ (bytes : Option (List ℕ)). IsSome bytes) (sym here) some)

pub returns-then-branch-eq0-clause-known : goal.returns-then-branch-eq0-clause-known
returns-then-branch-eq0-clause-known g c = λ some.
    let here = ap (λ (v : InputValue). v.bytes) (c.self.view_is ∙ c.show_prompt.ensures) in
    stay_known _ _ c.in_ok-read_until.ensures.rest (subst (λ (bytes : Option (List ℕ)). IsSome bytes) (sym here) some)

pub returns-then-branch-eq0-clause-end : goal.returns-then-branch-eq0-clause-end
returns-then-branch-eq0-clause-end g c = λ _ some.
    let here = ap (λ (v : InputValue). v.bytes) (c.self.view_is ∙ c.show_prompt.ensures) in
    read_out _ _ (c.in_ok-read_until.ensures.end c.if-branch-eq0.true) c.in_ok-read_until.ensures.rest
    (subst (λ (bytes : Option (List ℕ)). IsSome bytes) (sym here) some)
