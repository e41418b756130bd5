use Rattle.std.proofs.Common.{rules, true, ◌≡◌, ◌∙◌, ◌++◌, ◌∷◌, [], List, Option, length, append_assoc, refl, sym, ap, subst, arith}
use Rattle.std.specs.Prelude.{IfSome, IsSome}
use Rattle.std.specs.List.{All}
use Rattle.std.proofs.lemmas.List.{append-nil, nil_from_length}
use Rattle.std.proofs.lemmas.List.Elements.{All-cons, All-head, All-nil, All-tail}
use Rattle.catch_up.specs.Built.{BuiltValue}
use Rattle.keybytes.specs.Keys.{KeySpecValue, are_key_columns}
use Rattle.keybytes.specs.declared.pair.Pair.{Pair}
use Rattle.ready_indexes.specs.Following.{MayFollow, indexes_of}
use Rattle.ready_indexes.specs.Indexes.{IsIndex, ReadyValue}
use Rattle.building.specs.BuildingValue.{IndexValue}
use Rattle.live_lemmas.specs.CatchingUp.{ready_of, built_pairs}
use Rattle.live_lemmas.proofs.MadeReady.{ready_more, ready_same}
use Rattle.live_lemmas.proofs.SwitchIn.{first_done, none_done}
use Rattle.live_table.proofs.live.switch.make_ready.Goals as goal

-- its columns make a key
abbrev HasKey : KeySpecValue → Type 0
HasKey spec = are_key_columns spec.kinds spec.columns ≡ true

pub loop-spec-init : goal.loop-spec-init
loop-spec-init c = search rules

pub unreachable-requires : goal.unreachable-requires
unreachable-requires c =
    let none : c.loop-spec.indexes.rest.items ≡ [] = search rules in
    none_done c.loop-spec.spec-iterator.rest.items c.next.new.self.rest.items c.loop-spec.indexes.rest.items [] c.in-Some.spec c.in-Some.ensures.steps.0
    c.loop-spec.invariant.done none

pub into_tree-requires : goal.into_tree-requires
into_tree-requires c =
    let done = first_done c.loop-spec.spec-iterator.rest.items c.next.new.self.rest.items c.loop-spec.indexes.rest.items c.next-in-loop-spec.new.self.rest.items
    c.in-Some.spec c.in-Some.ensures.steps.0 c.loop-spec.invariant.done c.in-Some-next.index c.in-Some-next.ensures.items in
    subst (λ (o : Option BuiltValue). IsSome o) (sym done.0.there) refl

pub push-requires : goal.push-requires
push-requires c =
    let done = first_done c.loop-spec.spec-iterator.rest.items c.next.new.self.rest.items c.loop-spec.indexes.rest.items c.next-in-loop-spec.new.self.rest.items
    c.in-Some.spec c.in-Some.ensures.steps.0 c.loop-spec.invariant.done c.in-Some-next.index c.in-Some-next.ensures.items in
    let tree : List Pair = c.into_tree.result.pairs in
    let pairs : tree ≡ done.0.built.pairs = subst (λ (o : Option BuiltValue). IfSome o (λ built. tree ≡ built.pairs)) done.0.there c.into_tree.ensures in
    let one = ap length c.in-Some.ensures.steps.0 in
    record {
      room = omega (arith, one, c.loop-spec.invariant.room);
      index = subst (IsIndex c.in-Some.spec) (sym pairs) (done.0.index_is c.columns-columns.ensures.key);
    }

pub loop-spec-preserved-then-is_accepted : goal.loop-spec-preserved-then-is_accepted
loop-spec-preserved-then-is_accepted c =
    let specs : List KeySpecValue = c.next.new.self.rest.items in
    let indexes : List IndexValue = c.next-in-loop-spec.new.self.rest.items in
    let ready : List ReadyValue = indexes_of c.loop-spec.ready.indexes in
    let done = first_done c.loop-spec.spec-iterator.rest.items specs c.loop-spec.indexes.rest.items indexes
    c.in-Some.spec c.in-Some.ensures.steps.0 c.loop-spec.invariant.done c.in-Some-next.index c.in-Some-next.ensures.items in
    let tree : List Pair = c.into_tree.result.pairs in
    let pairs : tree ≡ done.0.built.pairs = subst (λ (o : Option BuiltValue). IfSome o (λ built. tree ≡ built.pairs)) done.0.there c.into_tree.ensures in
    let it : ReadyValue = record { spec = c.in-Some.spec; pairs = built_pairs c.in-Some-next.index.built } in
    let same : tree ≡ built_pairs c.in-Some-next.index.built = pairs ∙ sym (ap built_pairs done.0.there) in
    let more = ready_more c.loop-spec.spec-iterator.rest.items specs c.loop-spec.indexes.rest.items indexes c.in-Some.spec c.in-Some-next.index
    c.in-Some.ensures.steps.0 c.in-Some-next.ensures.items (sym c.if-is_accepted.ensures) in
    let pushed = c.push.ensures.pushed ∙ ap (λ (ps : List Pair). ready ++ record { spec = c.in-Some.spec; pairs = ps } ∷ []) same in
    let one = ap length c.in-Some.ensures.steps.0 in
    record {
      ready = ap (λ xs. xs ++ ready_of specs indexes) pushed ∙ append_assoc ready (it ∷ []) (ready_of specs indexes)
          ∙ sym (ap (λ (xs : List ReadyValue). ready ++ xs) more) ∙ c.loop-spec.invariant.ready;
      done = done.1;
      room = omega (arith, one, c.push.ensures.room, c.loop-spec.invariant.room);
      follow = λ heap may were.
          let old = c.loop-spec.invariant.follow heap may were in
          let May : ReadyValue → Type 0 = λ x. MayFollow heap x.spec x.pairs in
          let all = subst (All May) more old.1 in
          let first : MayFollow heap c.in-Some.spec tree =
          subst (MayFollow heap c.in-Some.spec) (sym same) (All-head May it (ready_of specs indexes) all) in (
            c.push.ensures.follow heap first old.0,
            All-tail May it (ready_of specs indexes) all,
          );
      keys = λ rest. c.loop-spec.invariant.keys (subst (All HasKey) (sym c.in-Some.ensures.steps.0) (All-cons HasKey c.in-Some.spec specs c.columns-columns.ensures.key rest));
    }

pub loop-spec-preserved : goal.loop-spec-preserved
loop-spec-preserved c =
    let specs : List KeySpecValue = c.next.new.self.rest.items in
    let indexes : List IndexValue = c.next-in-loop-spec.new.self.rest.items in
    let done = first_done c.loop-spec.spec-iterator.rest.items specs c.loop-spec.indexes.rest.items indexes
    c.in-Some.spec c.in-Some.ensures.steps.0 c.loop-spec.invariant.done c.in-Some-next.index c.in-Some-next.ensures.items in
    let same = ready_same c.loop-spec.spec-iterator.rest.items specs c.loop-spec.indexes.rest.items indexes c.in-Some.spec c.in-Some-next.index
    c.in-Some.ensures.steps.0 c.in-Some-next.ensures.items (sym c.if-is_accepted.ensures) in
    let one = ap length c.in-Some.ensures.steps.0 in
    record {
      ready = sym (ap (λ (xs : List ReadyValue). indexes_of c.loop-spec.ready.indexes ++ xs) same) ∙ c.loop-spec.invariant.ready;
      done = done.1;
      room = omega (arith, one, c.loop-spec.invariant.room);
      follow = λ heap may were.
          let old = c.loop-spec.invariant.follow heap may were in
          (old.0, subst (λ (xs : List ReadyValue). All (λ (it : ReadyValue). MayFollow heap it.spec it.pairs) xs) same old.1);
      keys = λ rest. c.loop-spec.invariant.keys (subst (All HasKey) (sym c.in-Some.ensures.steps.0) (All-cons HasKey c.in-Some.spec specs c.columns-columns.ensures.key rest));
    }

pub returns-clause-ready : goal.returns-clause-ready
returns-clause-ready c =
    let none : c.loop-spec.spec-iterator.rest.items ≡ [] = nil_from_length c.loop-spec.spec-iterator.rest.items (search rules) in
    sym (append-nil (indexes_of c.loop-spec.ready.indexes))
    ∙ sym (ap (λ (ss : List KeySpecValue). indexes_of c.loop-spec.ready.indexes ++ ready_of ss c.loop-spec.indexes.rest.items) none) ∙ c.loop-spec.invariant.ready

pub returns-clause-follow : goal.returns-clause-follow
returns-clause-follow c heap may were = (c.loop-spec.invariant.follow heap may were).0

pub returns-clause-keys : goal.returns-clause-keys
returns-clause-keys c =
    let none : c.loop-spec.spec-iterator.rest.items ≡ [] = nil_from_length c.loop-spec.spec-iterator.rest.items (search rules) in
    c.loop-spec.invariant.keys (subst (All HasKey) (sym none) (All-nil HasKey))
