use Rattle.std.proofs.Common.{rules, ◌≡◌, ◌<◌, ◌++◌, ◌∷◌, [], List, length, refl, sym, ap, ◌∙◌, subst, arith, inl, inr, length-append, append_assoc, append-nil}
use Rattle.std.proofs.lemmas.List.{nil_from_length}
use Rattle.side_file.specs.SideFileValue.{SideFileValue}
use Rattle.visibility.specs.declared.change.Change.{Change}
use Rattle.table_scan.specs.Noting.{HaveAppended}
use Rattle.table_scan.proofs.Noting.{none_appended, more_appended}
use Rattle.page_workers.proofs.Places.{as_long, at_index, at_set, kept}
use Rattle.table_scan.proofs.notes.append_each.Goals as goal

pub loop-change-init : goal.loop-change-init
loop-change-init c = record {
  all = search rules;
  counted = refl;
  done = none_appended c.args.build c.args.rid c.args.sides.now.items;
  ends = refl;
  room = λ k side first less at. c.requires.room k side less at;
}

pub append-requires : goal.append-requires
append-requires c =
    let rest = c.in-Some.ensures.steps.0 in
    let all = ap length c.loop-change.invariant.all in
    let sum = length-append c.loop-change.yielded c.loop-change.change-iterator.rest.items in
    let less : c.loop-change.k < length c.args.changes.items = omega (arith, ap length rest, all, sum, c.loop-change.invariant.counted) in
    let sides = as_long (λ (s : SideFileValue). s.end) (λ (s : SideFileValue). s.end) c.loop-change.sides.items c.args.sides.now.items c.loop-change.invariant.ends in
    c.loop-change.invariant.room c.loop-change.k c.index_mut.result.now (omega arith) less
    (at_index c.loop-change.sides.items c.loop-change.k c.index_mut.result.now c.index_mut.ensures.value (omega (arith, less, sides, c.requires.many)))

pub loop-change-preserved : goal.loop-change-preserved
loop-change-preserved c =
    let rest = c.in-Some.ensures.steps.0 in
    let inv = c.loop-change.invariant in
    let old : SideFileValue = c.index_mut.result.now in
    let new : SideFileValue = c.append.new.side in
    let all = ap length inv.all in
    let sum = length-append c.loop-change.yielded c.loop-change.change-iterator.rest.items in
    let less : c.loop-change.k < length c.args.changes.items = omega (arith, ap length rest, all, sum, inv.counted) in
    let sides = as_long (λ (s : SideFileValue). s.end) (λ (s : SideFileValue). s.end) c.loop-change.sides.items c.args.sides.now.items inv.ends in
    let there = at_index c.loop-change.sides.items c.loop-change.k old c.index_mut.ensures.value (omega (arith, less, sides, c.requires.many)) in
    record {
      all = append_assoc c.loop-change.yielded (c.in-Some.change ∷ []) _ ∙ ap (λ es. c.loop-change.yielded ++ es) (sym rest) ∙ inv.all;
      counted = omega (arith, inv.counted, length-append c.loop-change.yielded (c.in-Some.change ∷ []));
      done = more_appended c.args.build c.args.rid c.loop-change.yielded c.in-Some.change c.args.sides.now.items c.loop-change.sides.items c.loop-change.k old new inv.counted
          inv.done there c.append.ensures.fed c.append.ensures.left c.append.ensures.end;
      ends = kept (λ (s : SideFileValue). s.end) c.loop-change.sides.items _ c.loop-change.k new old inv.ends
          (c.append.ensures.end ∙ ap (λ (s : SideFileValue). s.end) c.index_mut.ensures.value);
      room = λ k side more below at. elim (at_set c.loop-change.sides.items c.loop-change.k new k side at) [
        | inl here ↦ absurd (omega (arith, more, here.0))
        | inr other ↦ inv.room k side (omega (arith, more)) below other.1
      ];
    }

pub returns-clause-appended : goal.returns-clause-appended
returns-clause-appended c =
    let all : c.loop-change.yielded ≡ c.args.changes.items =
    sym (append-nil c.loop-change.yielded) ∙ ap (λ es. c.loop-change.yielded ++ es) (sym (nil_from_length c.loop-change.change-iterator.rest.items (search (c.in-None.ensures.steps, rules)))) ∙ c.loop-change.invariant.all in
    subst (λ (cs : List Change). HaveAppended c.args.build c.args.rid cs c.args.sides.now.items c.loop-change.sides.items) all c.loop-change.invariant.done
