use Rattle.std.proofs.Common.{rules, ◌≡◌, ◌++◌, ◌∷◌, ◌+◌, [], drop, length, None, List, ℕ, sym, ap, ap₂, ◌∙◌, inl, inr, length-append}
use Rattle.std.proofs.lemmas.List.{nil_from_length}
use Rattle.rtrb.specs.Ring.{received, sent}
use Rattle.keybytes.specs.declared.pair.Pair.{Pair}
use Rattle.bulk_load.specs.Streams.{StreamValue, first_mark, stream_at}
use Rattle.bulk_load.proofs.Parts.{is_none, mark_more}
use Rattle.bulk_load.proofs.stream.Stream.fetch.Goals as goal

pub invariant_of-self-then-is_some-2 : goal.invariant_of-self-then-is_some-2
invariant_of-self-then-is_some-2 g c =
    let same : received c.slots.new.self ≡ received c.self.inside.filled = search rules in
    let none : c.self.inside.fault ≡ None = is_none c.self.inside.fault (search rules) in (
      c.self.invariant.0,
      ap first_mark c.pop_known-batch.ensures.received.0 ∙ mark_more (received c.slots.new.self) c.pop_known-batch.result (ap first_mark same ∙ c.self.invariant.1 ∙ none)
          ∙ sym c.fault-self-inside.ensures,
    )

pub invariant_of-self-2 : goal.invariant_of-self-2
invariant_of-self-2 g c =
    let same : received c.slots.new.self ≡ received c.self.inside.filled = search rules in
    let none : c.self.inside.fault ≡ None = is_none c.self.inside.fault (search rules) in
    let number : c.pop_known-batch.result.number ≡ c.self.inside.number = search rules in
    let last : c.into_parts-pairs.result.2 ≡ c.pop_known-batch.result.last = c.into_parts-pairs.ensures.mark in
    let end : c.into_parts-pairs.result.1 ≡ c.pop_known-batch.result.end = c.into_parts-pairs.ensures.end in (
      (λ is. ap₂ (λ (n k : ℕ). drop n (stream_at g.T.Loading.streams k)) end (sym number) ∙ c.into_parts-pairs.ensures.last (sym last ∙ is)),
      ap first_mark c.pop_known-batch.ensures.received.0 ∙ mark_more (received c.slots.new.self) c.pop_known-batch.result (ap first_mark same ∙ c.self.invariant.1 ∙ none)
          ∙ sym c.fault-self-inside.ensures,
    )

pub returns-clause-pairs : goal.returns-clause-pairs
returns-clause-pairs g c =
    let streams = g.T.Loading.streams in
    let batch = c.pop_known-batch.result in
    let number : batch.number ≡ c.self.inside.number = search rules in
    let start : batch.start ≡ c.self.inside.end = search rules in
    let none : c.self.inside.pairs.items ≡ [] = nil_from_length c.self.inside.pairs.items (search rules) in
    let own : c.replace-used.new.dest.items ≡ batch.pairs = search rules in
    let end : c.into_parts-pairs.result.1 ≡ batch.end = c.into_parts-pairs.ensures.end in
    ap₂ (λ (ps : List Pair) (n : ℕ). ps ++ drop n (stream_at streams c.self.inside.number)) own end
    ∙ ap (λ (n : ℕ). batch.pairs ++ drop batch.end (stream_at streams n)) (sym number) ∙ sym c.into_parts-pairs.ensures.part
    ∙ ap₂ (λ (n k : ℕ). drop n (stream_at streams k)) start number
    ∙ ap (λ (ps : List Pair). ps ++ drop c.self.inside.end (stream_at streams c.self.inside.number)) (sym none)
    ∙ ap (λ (v : StreamValue). v.pairs) c.self.view_is

pub returns-clause-back : goal.returns-clause-back
returns-clause-back g c = elim c.hand_back.ensures [
  | inl given ↦ inr (inl (ap length given ∙ length-append (sent c.self.inside.spare) (c.replace-used.result ∷ []) ∙ ap (λ (v : StreamValue). v.returned + 1) c.self.view_is))
  | inr full ↦ inr (inr full)
]
